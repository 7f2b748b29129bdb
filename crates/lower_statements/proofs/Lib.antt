pub mod BlockNames
pub mod Jumps
