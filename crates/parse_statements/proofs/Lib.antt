pub mod Steps
pub mod Forms
pub mod Sentences
pub mod Declared
pub mod Nested
pub mod Blocks
pub mod Branches
