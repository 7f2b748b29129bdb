pub mod Threads
pub mod States
pub mod Rows
