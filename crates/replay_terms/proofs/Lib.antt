mod TermLemmas
pub mod ByNameLemmas
pub mod VariableLemmas
pub mod SightLemmas
pub mod BufferLemmas
pub mod PassedLemmas
mod WeakStatics
pub mod NameLemmas
