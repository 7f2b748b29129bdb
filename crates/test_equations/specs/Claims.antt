-- What the worked examples claim of a program's tree and of texts.
use Rattle.std.specs.Prelude.{◌≡◌, ℕ, ◌+◌, List, ◌∷◌, ◌++◌, length, Some, None}
use Rattle.syntax.specs.Limits.{IsTree}
use Rattle.syntax.specs.Tree.{SourceUnit}
use Rattle.type_rules.specs.declared.rule.TypeRule.{TypeRule}
use Rattle.type_rules.specs.TypeRules.{type_rule_number, IsWellTyped, first_broken}
use Rattle.semantics.specs.Journal.{Entry, Journal}
use Rattle.world_schedules.specs.JournalMeaning.{IsJournalText}
use Rattle.semantics.specs.Schedule.{Schedule}
use Rattle.world_schedules.specs.ScheduleText.{IsScheduleText}
use Rattle.semantics.specs.World.{World}
use Rattle.world_values.specs.WorldRules.{IsWorldText}
use Rattle.region_rules.specs.FirstFaults.{IsFirstRegionFault}
use Rattle.semantics.specs.Load.{first_load_fault}
use Rattle.region_rules.specs.declared.rule.RegionRule.{RegionRule}
use Rattle.region_rules.specs.RegionRules.{region_rule_number}
use Rattle.region_rules.specs.Regions.{HasRegions}
use Rattle.semantics.specs.Run.{JournalFollows, UnmarkedFit, MarkedAreFair, replay}
use Rattle.report.specs.RunText.{Writes}
use Rattle.semantics.specs.State.{State}
use Rattle.semantics.specs.Step.{world_step}

-- ---- checks

-- a tree within the limits, which keeps the rules of types and of regions
pub record IsAccepted (unit : SourceUnit) : Type 0 where
  pub tree : IsTree unit
  pub well_typed : IsWellTyped unit
  pub regions : HasRegions unit

-- a tree within the limits, whose first fault has this number and this line
pub data IsRefused (unit : SourceUnit) : (number line : ℕ) → Type 0 where
  by_types : (rule : TypeRule) (line : ℕ) → IsTree unit → first_broken unit ≡ Some (line, rule) → IsRefused unit (type_rule_number rule) line
  by_regions : (rule : RegionRule) (line : ℕ) → IsTree unit → IsWellTyped unit → IsFirstRegionFault rule line unit → IsRefused unit (region_rule_number rule) line

-- ---- runs and replays

-- the world and the schedule of these texts, with which the unit can be run
pub record Beginning (unit : SourceUnit) (world : List ℕ) : Type 0 where
  pub accepted : IsAccepted unit
  pub w : World
  pub of_world : IsWorldText world w
  pub loads : first_load_fault unit w ≡ None

-- the text is what a run by the schedule writes, with a journal in which each allocation and each refusal is lawful
pub record IsWorkedRun (unit : SourceUnit) (world schedule text : List ℕ) : Type 0 where
  pub beginning : Beginning unit world
  pub words : Schedule
  pub of_schedule : IsScheduleText (length beginning.w.threads) schedule words
  pub journal : Journal
  pub follows : JournalFollows unit beginning.w journal words
  pub fits : UnmarkedFit unit beginning.w journal
  pub fair : MarkedAreFair unit beginning.w journal
  pub writes : Writes unit beginning.w journal text

-- the text is what a replay of the journal writes
pub record IsWorkedReplay (unit : SourceUnit) (world journal text : List ℕ) : Type 0 where
  pub beginning : Beginning unit world
  pub entries : Journal
  pub of_journal : IsJournalText (length beginning.w.threads) journal entries
  pub writes : Writes unit beginning.w entries text

-- the entry of this number, counted from 1, is the first of the journal that isn't possible
pub record IsStoppedReplay (unit : SourceUnit) (world journal : List ℕ) (number : ℕ) : Type 0 where
  pub beginning : Beginning unit world
  pub done : Journal
  pub entry : Entry
  pub rest : Journal
  pub of_journal : IsJournalText (length beginning.w.threads) journal (done ++ entry ∷ rest)
  pub counted : number ≡ length done + 1
  pub before : State
  pub replays : replay unit beginning.w done ≡ Some before
  pub impossible : world_step unit beginning.w before entry ≡ None

-- this line of the world is the first that doesn't go with the unit: that of the heap, or of a call that the unit doesn't have, or not with such arguments
pub record IsUnloaded (unit : SourceUnit) (world : List ℕ) (line : ℕ) : Type 0 where
  pub w : World
  pub of_world : IsWorldText world w
  pub fault : first_load_fault unit w ≡ Some line
