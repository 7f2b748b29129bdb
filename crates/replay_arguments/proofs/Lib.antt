mod FieldLemmas
mod OperandLists
pub mod PassedActuals
mod CheckedCalls
