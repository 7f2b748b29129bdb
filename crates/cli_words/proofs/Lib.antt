pub mod CommandLineLemmas
pub mod ExplanationLemmas
pub mod RequestLemmas
