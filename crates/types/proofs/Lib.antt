pub mod JudgedLemmas
pub mod KeptLemmas
pub mod RuleLemmas
pub mod TypeLemmas
pub mod StatementLemmas
pub mod ArgumentLemmas
mod CalledLemmas
pub mod PlaceLemmas
pub mod BlockLemmas
pub mod ItemLemmas
pub mod UnitLemmas
pub mod FormedLemmas
pub mod KnownLemmas
pub mod TakenLemmas
