pub mod Numbered
pub mod Titles
