pub mod Meaning
pub mod Order
pub mod Spelling
pub mod Faults
pub mod Results
pub mod Lexemes
pub mod Shapes
pub mod Reading
