-- Private to a run: what is known on its way.
use Rattle.std.specs.Prelude.{◌≡◌, ◌<◌, ℕ, false, List, length, None, Ok}
use Rattle.base.specs.Limits.{most_entries}
use Rattle.syntax.specs.declared.unit.Item.{Item}
use Rattle.syntax.specs.Tree.{SourceUnit}
use Rattle.syntax.specs.Views.{unit_tree}
use Rattle.code_meaning.specs.Length.{IsTooLong}
use Rattle.world_schedules.specs.ReadingSchedules.{schedule_of}
use Rattle.world_schedules.specs.ScheduleText.{IsScheduleText}
use Rattle.world_values.specs.WorldRules.{IsWorldText}
use Rattle.world.specs.ReadingWorlds.{world_of_text}
use Rattle.semantics.specs.Journal.{steps_in}
use Rattle.semantics.specs.World.{World}
use Rattle.semantics.specs.Schedule.{Schedule}
use Rattle.semantics.specs.Load.{first_load_fault}
use Rattle.machine.specs.Run.{Run, IsUnstarted, InState, is_finished}
use Rattle.program_check.specs.Programs.{IsProgram}

-- the texts of a program and a world are not refused
pub record IsPassed (program text : List ℕ) (unit : SourceUnit) (world : World) : Type 0 where
  pub of_program : IsProgram program unit
  pub short : IsTooLong unit → ⊥
  pub of_world : world_of_text text ≡ Ok world
  pub means : IsWorldText text world

-- the texts of a program and a world are loaded
pub record IsUnderWay (program text : List ℕ) (items : List Item) (world : World) : Type 0 where
  pub passed : IsPassed program text (unit_tree items) world
  pub loads : first_load_fault (unit_tree items) world ≡ None

-- a run that can take steps has room for one in its journal
abbrev pub HasRoom : Run → Type 0
HasRoom r = InState r (λ s. is_finished r.world.classes s ≡ false → steps_in r.journal < most_entries)

-- three texts are loaded, and no step is taken
pub record IsLoaded (program text order : List ℕ) (begun : Run) (words : Schedule) : Type 0 where
  pub items : List Item
  pub world : World
  pub passed : IsPassed program text (unit_tree items) world
  pub of_schedule : schedule_of order (length world.threads) ≡ Ok words
  pub means : IsScheduleText (length world.threads) order words
  pub loads : first_load_fault (unit_tree items) world ≡ None
  pub unstarted : IsUnstarted items world begun
