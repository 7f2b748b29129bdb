pub mod Boxed
pub mod SlotsHold
pub mod InProgress
pub mod Callers
pub mod Held
pub mod Entry
pub mod ThreadAgrees
pub mod Loading
