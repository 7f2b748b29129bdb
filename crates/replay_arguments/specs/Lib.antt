pub mod Shares
pub mod Actuals
pub mod Sights
