pub mod Places
pub mod Dealing
pub mod Walks
pub mod Merging
pub mod Standing
pub mod Crosses
