pub mod Singles
pub mod TypeWords
pub mod Shapes
