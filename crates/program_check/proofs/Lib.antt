mod Refusals
mod Acceptances
pub mod CheckLemmas
pub mod AllFaultsLemmas
