pub mod Roots
pub mod Moving
pub mod Packing
pub mod Clearing
pub mod Gathering
pub mod Kept
pub mod Slices
