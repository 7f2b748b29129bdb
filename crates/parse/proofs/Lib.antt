pub mod Forms
pub mod Commas
pub mod Programs
pub mod Items
pub mod Again
pub mod Ranges
pub mod Trees
pub mod Whole
