pub mod Tellings
pub mod Traces
