pub mod NamesOnce
mod ThreadLemmas
mod CallerLists
mod AddedNames
pub mod StateLemmas
mod StandingLemmas
mod BufferLemmas
pub mod RootLemmas
mod ClearingLemmas
mod AttemptedSteps
