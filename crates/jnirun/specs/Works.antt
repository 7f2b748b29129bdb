-- What a program writes that workers run, one for each thread of its world.
use Rattle.std.specs.Prelude.{◌≡◌, ◌<◌, ◌≤◌, ◌⊎◌, ℕ, Bool, false, List, Option, Some, None, Result, Ok, Err}
use Rattle.std.specs.Option.{option_map}
use Rattle.base.specs.Limits.{most_entries}
use Rattle.syntax.specs.Tree.{SourceUnit}
use Rattle.code_meaning.specs.Length.{IsTooLong}
use Rattle.semantics.specs.Journal.{Journal, steps_in}
use Rattle.semantics.specs.Load.{first_load_fault}
use Rattle.semantics.specs.Run.{MarkedAreFair, UnmarkedFit}
use Rattle.semantics.specs.World.{World}
use Rattle.report.specs.RunText.{Writes}
use Rattle.world_schedules.specs.declared.fault.TextFault.{TextFault}
use Rattle.world_schedules.specs.Rule.{rule_number}
use Rattle.world_values.specs.WorldRules.{IsWorldText}
use Rattle.world.specs.ReadingWorlds.{world_of_text}
use Rattle.machine.specs.Run.{is_finished}
use Rattle.replay.specs.declared.trap_at.TrapAt.{TrapAt}
use Rattle.replay.specs.TrapAt.{trap_at}
use Rattle.places.specs.declared.place.Place.{Place}
use Rattle.places.specs.declared.place.Place.TheVariants.{Line}
use Rattle.places.specs.declared.place.Text.TheVariants as which
use Rattle.program_check.specs.Programs.{IsProgram}
use Rattle.program_check.specs.Checks.{PassesCheck, FailsCheck}
use Rattle.program_check.specs.declared.fault.RunError.{RunError}
use Rattle.program_check.specs.declared.fault.RunError.TheVariants.{Memory, Fault, Writer}

-- the unit and the world of two texts, which go with each other
pub record WorkMeaning (program_text world_text : List ℕ) : Type 0 where
  pub unit : SourceUnit
  pub of_program : IsProgram program_text unit
  pub world : World
  pub of_world : world_of_text world_text ≡ Ok world
  pub loads : first_load_fault unit world ≡ None

-- The text is the report of the source run that its journal names, on a heap where objects have names and never move,
-- and then that journal. The code of no function is too long. The threads stepped in whatever order the journal has, with clearings of weak
-- references to unreachable objects between them; an allocation that it doesn't mark as refused has room beside what can be reached, and one
-- that it marks had none beside it, or something was pinned.
pub record IsWork (program world text : List ℕ) : Type 0 where
  pub meaning : WorkMeaning program world
  pub short : IsTooLong meaning.unit → ⊥
  pub of_world : IsWorldText world meaning.world
  pub journal : Journal
  pub writes : Writes meaning.unit meaning.world journal text
  pub fits : UnmarkedFit meaning.unit meaning.world journal
  pub fair : MarkedAreFair meaning.unit meaning.world journal

-- a trap has stopped the run, or each thread has ended or waits for a monitor
abbrev pub is_over : {program world text : List ℕ} → IsWork program world text → Bool
is_over work = is_finished work.meaning.world.classes work.writes.end

-- the same, and the trap that stopped the run, if one did; a run that isn't over has room for a step in its journal
pub record EndsWork (program world : List ℕ) (trap : Option TrapAt) (text : List ℕ) : Type 0 where
  pub work : IsWork program world text
  pub stopped : option_map trap_at work.writes.end.stop ≡ trap
  pub ends : is_over work ≡ false → steps_in work.journal < most_entries

-- The program is checked, the world is read, both are loaded, and the workers' run doesn't fill its journal with steps before it is over. This
-- number and place are those of the first that is refused.
pub data AreRefusedWork (program world : List ℕ) : (number : ℕ) → Place → Type 0 where
  by_check : (number : ℕ) (place : Place) → FailsCheck program number place → AreRefusedWork program world number place
  by_world : (fault : TextFault) → PassesCheck program → world_of_text world ≡ Err fault
      → AreRefusedWork program world (rule_number fault.rule) (Line which.World fault.line)
  by_load : (w : World) (line : ℕ) (passes : PassesCheck program) → world_of_text world ≡ Ok w
      → first_load_fault passes.unit w ≡ Some line → AreRefusedWork program world 82 (Line which.World line)
  by_full : (text : List ℕ) (work : IsWork program world text) → is_over work ≡ false
      → most_entries ≤ steps_in work.journal → AreRefusedWork program world 92 (Line which.Program 0)

-- Texts that go with each other are refused for want of memory alone, where a function is too long or the journal is full, or by the writer.
abbrev pub IsWorkOrFails : Result (Option TrapAt) RunError → Type 0
IsWorkOrFails (Ok _) = Unit {0}
IsWorkOrFails (Err Memory) = Unit {0}
IsWorkOrFails (Err (Fault number place)) = ((number ≡ 51) ⊎ (number ≡ 92)) × (place ≡ Line which.Program 0)
IsWorkOrFails (Err Writer) = Unit {0}
