pub mod Logs
pub mod Lists
