pub mod Blocks
pub mod NullTests
pub mod NodeLemmas
pub mod StatementLines
