pub mod Outcomes
pub mod Tasks
pub mod Effects
pub mod Numbers
