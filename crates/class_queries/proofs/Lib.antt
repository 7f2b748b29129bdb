mod ArrayClasses
mod FoundMethods
pub mod MadeLists
