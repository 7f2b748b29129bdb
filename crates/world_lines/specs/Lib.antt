pub mod ReadingValues
pub mod LineViews
pub mod ReadingLines
pub mod LineKinds
pub mod LineContents
pub mod ClassRules
