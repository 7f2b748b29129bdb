mod KnownCalls
pub mod RangeLemmas
mod NumberLemmas
mod PutLemmas
pub mod EffectLemmas
pub mod PassedOperands
