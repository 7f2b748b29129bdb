pub mod Made
pub mod Barrier
pub mod CallState
pub mod CarriedOut
