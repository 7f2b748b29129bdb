pub mod Commands
pub mod Files
pub mod Saying
pub mod Telling
