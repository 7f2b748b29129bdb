pub mod GrownTables
mod Assignable
mod Mangled
pub mod MangledNames
pub mod Unescaping
pub mod ClassIds
pub mod FoundClasses
