pub mod Adding
pub mod Closure
