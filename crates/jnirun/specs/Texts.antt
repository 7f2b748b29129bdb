-- What a program, a world and a schedule mean together, and which fault others earn.
use Rattle.std.specs.Prelude.{◌≡◌, ℕ, List, length, Some, None, Ok, Err}
use Rattle.syntax.specs.Tree.{SourceUnit}
use Rattle.world_schedules.specs.declared.fault.TextFault.{TextFault}
use Rattle.world_schedules.specs.ReadingSchedules.{schedule_of}
use Rattle.world.specs.ReadingWorlds.{world_of_text}
use Rattle.world_schedules.specs.Rule.{rule_number}
use Rattle.semantics.specs.World.{World}
use Rattle.semantics.specs.Schedule.{Schedule}
use Rattle.semantics.specs.Load.{first_load_fault}
use Rattle.places.specs.declared.place.Place.{Place}
use Rattle.places.specs.declared.place.Place.TheVariants.{Line}
use Rattle.places.specs.declared.place.Text.TheVariants as which
use Rattle.program_check.specs.Programs.{IsProgram}
use Rattle.program_check.specs.Checks.{PassesCheck, FailsCheck}

-- the unit, the world and the schedule of three texts, which go with each other
pub record Meaning (program_text world_text schedule_text : List ℕ) : Type 0 where
  pub unit : SourceUnit
  pub of_program : IsProgram program_text unit
  pub world : World
  pub of_world : world_of_text world_text ≡ Ok world
  pub words : Schedule
  pub of_schedule : schedule_of schedule_text (length world.threads) ≡ Ok words
  pub loads : first_load_fault unit world ≡ None

-- The program is checked, the other texts are read in their order, and all are loaded. This number and place are those of the
-- first that is refused.
pub data AreRefused (program world schedule : List ℕ) : (number : ℕ) → Place → Type 0 where
  by_check : (number : ℕ) (place : Place) → FailsCheck program number place → AreRefused program world schedule number place
  by_world : (fault : TextFault) → PassesCheck program → world_of_text world ≡ Err fault
      → AreRefused program world schedule (rule_number fault.rule) (Line which.World fault.line)
  by_schedule : (w : World) (fault : TextFault) → PassesCheck program → world_of_text world ≡ Ok w
      → schedule_of schedule (length w.threads) ≡ Err fault
      → AreRefused program world schedule (rule_number fault.rule) (Line which.Schedule fault.line)
  by_load : (w : World) (words : Schedule) (line : ℕ) (passes : PassesCheck program) → world_of_text world ≡ Ok w
      → schedule_of schedule (length w.threads) ≡ Ok words → first_load_fault passes.unit w ≡ Some line
      → AreRefused program world schedule 82 (Line which.World line)
