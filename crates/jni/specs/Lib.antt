pub mod Access
pub mod Prototype
pub mod JniFunction
pub mod StateEffect
pub mod Table
pub mod Subjects
