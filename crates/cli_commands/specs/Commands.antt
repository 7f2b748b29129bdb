-- The files of a command, the text of each, and which command runs workers.
use Rattle.std.specs.Prelude.{ℕ, List, Bool, true, false}
use Rattle.cli_commands.specs.declared.command.Command.{Command}
use Rattle.cli_commands.specs.declared.command.Command.TheVariants.{Check, Run, Work, Replay}
use Rattle.places.specs.declared.place.Text.{Text}
use Rattle.places.specs.declared.place.Text.TheVariants as which

-- the name of the file of a text
abbrev pub name_of : Command → Text → List ℕ
name_of (Check program) text = program.now
name_of (Run program world schedule) which.Program = program.now
name_of (Run program world schedule) which.World = world.now
name_of (Run program world schedule) text = schedule.now
name_of (Work program world) which.World = world.now
name_of (Work program world) text = program.now
name_of (Replay program world journal) which.Program = program.now
name_of (Replay program world journal) which.World = world.now
name_of (Replay program world journal) text = journal.now

-- one of the texts of a command
abbrev pub text_of : (program world order : List ℕ) → Text → List ℕ
text_of program world order which.Program = program
text_of program world order which.World = world
text_of program world order which.Schedule = order
text_of program world order which.Journal = order

-- workers run the threads of the command's world
abbrev pub runs_workers : Command → Bool
runs_workers (Work program world) = true
runs_workers command = false
