pub mod Bytes
pub mod Words
pub mod WordTable
pub mod Spelling
pub mod Faults
pub mod Reading
pub mod Fronts
