pub mod Emitting
pub mod Names
