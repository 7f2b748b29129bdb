pub mod Errors
pub mod Texts
pub mod Runs
pub mod Running
pub mod Works
pub mod Replays
pub mod ReplayLaws
pub mod Serve
pub mod ServeEach
pub mod Traces
-- What the clauses of its calls are about, passed on.

pub use Rattle.places.specs.Places
pub use Rattle.cli_commands.specs.Commands
pub use Rattle.cli_commands.specs.Files
pub use Rattle.cli_commands.specs.Saying
pub use Rattle.cli_commands.specs.Telling
pub use Rattle.program_check.specs.Programs
pub use Rattle.program_check.specs.Checks
pub use Rattle.cli_explanations.specs.Numbered
pub use Rattle.cli_explanations.specs.Titles
