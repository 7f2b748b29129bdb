-- What a run of three texts writes.
use Rattle.std.specs.Prelude.{◌≡◌, ℕ, List, length, Option, Result, Ok, Err}
use Rattle.std.specs.Option.{option_map}
use Rattle.code_meaning.specs.Length.{IsTooLong}
use Rattle.semantics.specs.Journal.{Journal}
use Rattle.world_schedules.specs.ScheduleText.{IsScheduleText}
use Rattle.sinks.specs.Sink.{Written, AppendsText, StopsWithin}
use Rattle.world_values.specs.WorldRules.{IsWorldText}
use Rattle.semantics.specs.Run.{JournalFollows, MarkedAreFair, UnmarkedFit}
use Rattle.report.specs.RunText.{Writes}
use Rattle.replay.specs.declared.trap_at.TrapAt.{TrapAt}
use Rattle.replay.specs.TrapAt.{trap_at}
use Rattle.jnirun.specs.Texts.{Meaning}
use Rattle.places.specs.declared.place.Place.{Place}
use Rattle.places.specs.declared.place.Place.TheVariants.{Line}
use Rattle.places.specs.declared.place.Text.TheVariants as which
use Rattle.program_check.specs.declared.fault.RunError.{RunError}
use Rattle.program_check.specs.declared.fault.RunError.TheVariants.{Memory, Fault, Writer}

-- The text is the report of the source run that its journal names, on a heap where objects have names and never move,
-- and then that journal. The code of no function is too long. The journal has the schedule's thread steps in order, with clearings of weak
-- references to unreachable objects between them, and none left out but where the thread is blocked, ended or stopped; an allocation that it
-- doesn't mark as refused has room beside what can be reached, and one that it marks had none beside it, or something was pinned.
pub record IsRun (program world schedule text : List ℕ) : Type 0 where
  pub meaning : Meaning program world schedule
  pub short : IsTooLong meaning.unit → ⊥
  pub of_world : IsWorldText world meaning.world
  pub of_schedule : IsScheduleText (length meaning.world.threads) schedule meaning.words
  pub journal : Journal
  pub writes : Writes meaning.unit meaning.world journal text
  pub follows : JournalFollows meaning.unit meaning.world journal meaning.words
  pub fits : UnmarkedFit meaning.unit meaning.world journal
  pub fair : MarkedAreFair meaning.unit meaning.world journal

-- the same, and the trap that stopped the run, if one did
pub record EndsRun (program world schedule : List ℕ) (trap : Option TrapAt) (text : List ℕ) : Type 0 where
  pub run : IsRun program world schedule text
  pub stopped : option_map trap_at run.writes.end.stop ≡ trap

-- some text that a command writes was appended, and nothing waits in the sink
pub record AppendsRun (old new : Written) (Writes : List ℕ → Type 0) : Type 0 where
  pub text : List ℕ
  pub runs : Writes text
  pub appended : AppendsText old new text
  pub none_waits : new.waiting ≡ 0

-- a write failed within some text that a command writes
pub record StopsRun (old new : Written) (Writes : List ℕ → Type 0) : Type 0 where
  pub text : List ℕ
  pub runs : Writes text
  pub stopped : StopsWithin old new text

-- What was done to the sink, by the answer, of which the text may tell: nothing is written for any fault but the writer's, the number and the
-- place of a fault are those that the texts earn, and no file is read.
abbrev pub RunsTexts : {T : Type 0} → Written → Written → Result T RunError → (Writes : T → List ℕ → Type 0) → (Refused : ℕ → Place → Type 0) → Type 0
RunsTexts old new (Ok answer) Writes Refused = AppendsRun old new (Writes answer)
RunsTexts old new (Err Memory) Writes Refused = new ≡ old
RunsTexts old new (Err (Fault number place)) Writes Refused = (new ≡ old) × Refused number place
RunsTexts {T} old new (Err Writer) Writes Refused = StopsRun old new (λ text. (answer : T) × Writes answer text)

-- Texts that mean a run are refused for want of memory alone, or where a function is too long, or by the writer.
abbrev pub IsRunOrFails : Result (Option TrapAt) RunError → Type 0
IsRunOrFails (Ok _) = Unit {0}
IsRunOrFails (Err Memory) = Unit {0}
IsRunOrFails (Err (Fault number place)) = (number ≡ 51) × (place ≡ Line which.Program 0)
IsRunOrFails (Err Writer) = Unit {0}
