-- what objects are made of, in any run
pub mod Objects
pub mod Texts
pub mod Law
