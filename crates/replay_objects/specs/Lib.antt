pub mod Names
pub mod Frames
pub mod Stores
pub mod New
pub mod Monitors
