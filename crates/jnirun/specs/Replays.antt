-- What a program, a world and a journal mean together, which fault others earn, and what a replay of them writes.
use Rattle.std.specs.Prelude.{◌≡◌, ℕ, List, length, Option, Some, None, IsSome, Result, Ok, Err}
use Rattle.std.specs.Option.{option_map}
use Rattle.syntax.specs.Tree.{SourceUnit}
use Rattle.world_schedules.specs.declared.fault.TextFault.{TextFault}
use Rattle.semantics.specs.Journal.{Journal}
use Rattle.world_schedules.specs.JournalMeaning.{IsJournalText}
use Rattle.world_schedules.specs.ReadingJournals.{journal_of}
use Rattle.world.specs.ReadingWorlds.{world_of_text}
use Rattle.world_schedules.specs.Rule.{rule_number}
use Rattle.semantics.specs.World.{World}
use Rattle.world_values.specs.WorldRules.{IsWorldText}
use Rattle.semantics.specs.Load.{first_load_fault}
use Rattle.semantics.specs.Run.{replay}
use Rattle.report.specs.RunText.{Writes}
use Rattle.replay.specs.declared.trap_at.TrapAt.{TrapAt}
use Rattle.replay.specs.Replays.{IsFirstImpossible}
use Rattle.replay.specs.TrapAt.{trap_at}
use Rattle.program_check.specs.Programs.{IsProgram, IsRefusedProgram}
use Rattle.places.specs.declared.place.Place.{Place}
use Rattle.places.specs.declared.place.Place.TheVariants.{Line, Entry}
use Rattle.places.specs.declared.place.Text.TheVariants as which
use Rattle.program_check.specs.declared.fault.RunError.{RunError}
use Rattle.program_check.specs.declared.fault.RunError.TheVariants.{Memory, Fault, Writer}

-- the unit, the world and the journal of three texts, which go with each other
pub record ReplayMeaning (program_text world_text journal_text : List ℕ) : Type 0 where
  pub unit : SourceUnit
  pub of_program : IsProgram program_text unit
  pub world : World
  pub of_world : world_of_text world_text ≡ Ok world
  pub entries : Journal
  pub of_journal : journal_of journal_text (length world.threads) ≡ Ok entries
  pub loads : first_load_fault unit world ≡ None

-- The text is the report of the source run that the journal names, on a heap where objects have names and never move, and
-- then that journal.
pub record IsReplay (program world journal text : List ℕ) : Type 0 where
  pub meaning : ReplayMeaning program world journal
  pub of_world : IsWorldText world meaning.world
  pub of_journal : IsJournalText (length meaning.world.threads) journal meaning.entries
  pub writes : Writes meaning.unit meaning.world meaning.entries text

-- the same, and the trap that stopped the run, if one did
pub record EndsReplay (program world journal : List ℕ) (trap : Option TrapAt) (text : List ℕ) : Type 0 where
  pub replay : IsReplay program world journal text
  pub stopped : option_map trap_at replay.writes.end.stop ≡ trap

-- The texts are read in their order and loaded, and then each entry is taken. This number and place are those of the first
-- that is refused.
pub data AreRefusedReplays (program world journal : List ℕ) : (number : ℕ) → Place → Type 0 where
  by_program : (number line : ℕ) → IsRefusedProgram program number line → AreRefusedReplays program world journal number (Line which.Program line)
  by_world : (unit : SourceUnit) (fault : TextFault) → IsProgram program unit → world_of_text world ≡ Err fault
      → AreRefusedReplays program world journal (rule_number fault.rule) (Line which.World fault.line)
  by_journal : (unit : SourceUnit) (w : World) (fault : TextFault) → IsProgram program unit → world_of_text world ≡ Ok w
      → journal_of journal (length w.threads) ≡ Err fault
      → AreRefusedReplays program world journal (rule_number fault.rule) (Line which.Journal fault.line)
  by_load : (unit : SourceUnit) (w : World) (entries : Journal) (line : ℕ) → IsProgram program unit
      → world_of_text world ≡ Ok w → journal_of journal (length w.threads) ≡ Ok entries
      → first_load_fault unit w ≡ Some line → AreRefusedReplays program world journal 82 (Line which.World line)
  -- an entry isn't possible where the entries before it have led
  by_entry : (meaning : ReplayMeaning program world journal) (entry : ℕ)
      → IsFirstImpossible meaning.unit meaning.world meaning.entries entry
      → AreRefusedReplays program world journal 91 (Entry entry)

-- each entry of the journal is possible where the entries before it have led
pub record IsPossible (program world journal : List ℕ) : Type 0 where
  pub meaning : ReplayMeaning program world journal
  pub replays : IsSome (replay meaning.unit meaning.world meaning.entries)

-- Texts whose journal is possible are refused for want of memory alone, or by the writer.
abbrev pub IsReplayOrFails : Result (Option TrapAt) RunError → Type 0
IsReplayOrFails (Ok _) = Unit {0}
IsReplayOrFails (Err Memory) = Unit {0}
IsReplayOrFails (Err (Fault number place)) = ⊥
IsReplayOrFails (Err Writer) = Unit {0}
