pub mod Steps
pub mod Calls
pub mod Activations
pub mod Callers
pub mod Waits
pub mod AtOnce
pub mod Attempts
pub mod FieldCalls
