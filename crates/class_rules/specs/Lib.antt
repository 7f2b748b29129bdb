pub mod Class
pub mod BuiltIns
pub mod Fields
pub mod Additions
pub mod Mangling
pub mod MangledNames
pub mod Grown
pub mod ClassIds
