pub mod Errors
pub mod Programs
pub mod Passes
pub mod Checks
pub mod AllFaults
