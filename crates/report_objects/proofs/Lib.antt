pub mod PassingNames
pub mod RowTexts
pub mod MarkedRoots
pub mod ReachedNames
