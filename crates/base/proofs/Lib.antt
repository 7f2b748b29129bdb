pub mod Truths
pub mod Numbers
pub mod Options
pub mod Results
pub mod Lists
