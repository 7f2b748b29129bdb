pub mod Rows
pub mod Writing
pub mod Run
pub mod PlainSteps
-- what loading answers
pub use Rattle.machine_threads.specs.Loading
