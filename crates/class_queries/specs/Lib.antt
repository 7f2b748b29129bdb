pub mod Kinds
pub mod Asking
