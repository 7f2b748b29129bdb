pub mod TaskLemmas
mod CallLemmas
mod ThreadLocals
mod Invocations
mod ActivationLemmas
mod WaitLemmas
mod CallerLemmas
mod AttemptLemmas
pub mod SameLists
mod FinishedTasks
mod FieldLemmas
mod AtOnceLemmas
