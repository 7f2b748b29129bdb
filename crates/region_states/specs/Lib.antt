-- Private to the check: how it computes what the rules say. Nothing here is trusted.

-- when two states are the same
pub mod SameStates
-- states, and the changes of a variable, as they lie in memory
pub mod StatesInMemory
pub mod VariableChanges
-- names and calls of statements
pub mod NewNames
pub mod Reads
pub mod StateEffects
-- the rules and the changes, as the code takes them
pub mod Judgements
pub mod Changes
