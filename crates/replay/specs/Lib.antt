pub mod TrapAt
pub mod Loading
pub mod Replays
