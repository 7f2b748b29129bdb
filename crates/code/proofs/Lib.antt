pub mod Depths
pub mod Effects
pub mod Runs
pub mod Pieces
pub mod Arrays
pub mod Words
