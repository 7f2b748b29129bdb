pub mod Reach
pub mod Marks
