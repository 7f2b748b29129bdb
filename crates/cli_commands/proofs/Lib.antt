mod TellingLemmas
pub mod SayingLemmas
