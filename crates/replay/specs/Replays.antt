-- What replaying a journal answers.
use Rattle.std.specs.Prelude.{◌≡◌, ℕ, ◌+◌, List, [], ◌∷◌, ◌++◌, length, Option, Some, None, Result, Ok, Err, IsSome}
use Rattle.std.specs.Option.{option_map}
use Rattle.syntax.specs.Tree.{SourceUnit}
use Rattle.semantics.specs.Journal.{Entry, Journal}
use Rattle.sinks.specs.Sink.{Written, AppendsText, StopsWithin}
use Rattle.semantics.specs.World.{World}
use Rattle.semantics.specs.Load.{first_load_fault}
use Rattle.semantics.specs.Run.{replay}
use Rattle.report.specs.RunText.{Writes}
use Rattle.semantics.specs.Report.{ShownRow}
use Rattle.semantics.specs.ReportOf.{report}
use Rattle.semantics.specs.State.{State}
use Rattle.semantics.specs.Step.{world_step}
use Rattle.replay.specs.declared.fault.ReplayError.{ReplayError}
use Rattle.replay.specs.declared.fault.ReplayError.TheVariants.{DoesNotFit, Impossible, Memory, Writer}
use Rattle.replay_threads.specs.declared.state.State.{State as StateInMemory}
use Rattle.semantics.specs.declared.event.Stop.{Stop as StopInMemory}
use Rattle.replay.specs.declared.trap_at.TrapAt.{TrapAt}
use Rattle.replay.specs.TrapAt.{trap_at}
use Rattle.replay_threads.specs.States.{Stands, AreInRange}
use Rattle.semantics.specs.EventViews.{stop_view}

-- entry i, counted from 1, is the first that isn't possible
pub record IsFirstImpossible (unit : SourceUnit) (w : World) (journal : Journal) (i : ℕ) : Type 0 where
  pub done : Journal
  pub entry : Entry
  pub rest : Journal
  pub whole : journal ≡ done ++ entry ∷ rest
  pub number : i ≡ length done + 1
  pub before : State
  pub replays : replay unit w done ≡ Some before
  pub impossible : world_step unit w before entry ≡ None

-- the calls fit, and the text of the journal's run was appended
pub record WritesRun (unit : SourceUnit) (w : World) (journal : Journal) (old new : Written) : Type 0 where
  pub fits : first_load_fault unit w ≡ None
  pub text : List ℕ
  pub is : Writes unit w journal text
  pub written : AppendsText old new text

-- the calls fit, the sink failed, and a beginning of that text was appended before
pub record StopsInRun (unit : SourceUnit) (w : World) (journal : Journal) (old new : Written) : Type 0 where
  pub fits : first_load_fault unit w ≡ None
  pub text : List ℕ
  pub is : Writes unit w journal text
  pub stopped : StopsWithin old new text

-- the number and the line of the trap in memory, where there is one
abbrev pub shown_stop : Option StopInMemory → Option TrapAt
shown_stop stop = option_map (λ s. trap_at (stop_view s)) stop

-- the trap that stops the journal's run, if one does
pub record EndsBy (unit : SourceUnit) (w : World) (journal : Journal) (trap : Option TrapAt) : Type 0 where
  pub end : State
  pub replays : replay unit w journal ≡ Some end
  pub stopped : option_map trap_at end.stop ≡ trap

-- why a replay wasn't written, and what was done to the sink
abbrev pub IsStoppedBy : SourceUnit → World → Journal → Written → Written → ReplayError → Type 0
IsStoppedBy unit w journal old new (DoesNotFit line) = (first_load_fault unit w ≡ Some line) × (new ≡ old)
IsStoppedBy unit w journal old new (Impossible i) = (first_load_fault unit w ≡ None) × IsFirstImpossible unit w journal i × (new ≡ old)
IsStoppedBy unit w journal old new Memory = new ≡ old
IsStoppedBy unit w journal old new Writer = StopsInRun unit w journal old new

-- memory was refused, or the writer failed
abbrev pub IsFromOutside : ReplayError → Type 0
IsFromOutside (DoesNotFit line) = ⊥
IsFromOutside (Impossible i) = ⊥
IsFromOutside Memory = Unit {0}
IsFromOutside Writer = Unit {0}

-- the calls fit, and each entry is possible
pub record IsReplayable (unit : SourceUnit) (w : World) (journal : Journal) : Type 0 where
  pub fits : first_load_fault unit w ≡ None
  pub defined : IsSome (replay unit w journal)

-- ---- before anything is written

-- the calls fit, and the state in memory is the one that the journal leads to
pub record Replayed (unit : SourceUnit) (w : World) (journal : Journal) (m : StateInMemory) : Type 0 where
  pub fits : first_load_fault unit w ≡ None
  pub end : State
  pub replays : replay unit w journal ≡ Some end
  pub stands : Stands unit w m end
  pub range : AreInRange m.threads.items

-- in each world in which this is the state before the first entry, the journal leads to that one
abbrev pub LeadsTo : SourceUnit → StateInMemory → Journal → StateInMemory → Type 0
LeadsTo unit old journal new = (w : World) → Replayed unit w [] old → Replayed unit w journal new

-- the rows of the objects that can still be reached are those of the report of each state that this one stands for
abbrev pub ShowsRows : StateInMemory → List ShownRow → Type 0
ShowsRows m rows = (unit : SourceUnit) (w : World) (s : State) → Stands unit w m s → rows ≡ (report w s).objects

-- for each unit and world whose replay leads to this state, what writing its report and the journal did
abbrev pub WritesState : StateInMemory → Journal → Written → Written → Result (Unit {0}) ReplayError → Type 0
WritesState m journal old new (Ok _) = ((unit : SourceUnit) (w : World) → Replayed unit w journal m → WritesRun unit w journal old new) × (new.waiting ≡ 0)
WritesState m journal old new (Err fault) = ((unit : SourceUnit) (w : World) → Replayed unit w journal m
    → IsStoppedBy unit w journal old new fault) × IsFromOutside fault

-- what a replay answers, and what it did to the sink
abbrev pub Answers : SourceUnit → World → Journal → Written → Written → Result (Option TrapAt) ReplayError → Type 0
Answers unit w journal old new (Ok trap) = WritesRun unit w journal old new × EndsBy unit w journal trap × (new.waiting ≡ 0)
Answers unit w journal old new (Err fault) = IsStoppedBy unit w journal old new fault × (IsReplayable unit w journal → IsFromOutside fault)

-- why a replay didn't begin
abbrev pub IsLoadFault : SourceUnit → World → ReplayError → Type 0
IsLoadFault unit w (DoesNotFit line) = first_load_fault unit w ≡ Some line
IsLoadFault unit w (Impossible i) = ⊥
IsLoadFault unit w Memory = Unit {0}
IsLoadFault unit w Writer = ⊥

-- why a journal wasn't replayed
abbrev pub IsRefused : SourceUnit → World → Journal → ReplayError → Type 0
IsRefused unit w journal (DoesNotFit line) = first_load_fault unit w ≡ Some line
IsRefused unit w journal (Impossible i) = (first_load_fault unit w ≡ None) × IsFirstImpossible unit w journal i
IsRefused unit w journal Memory = Unit {0}
IsRefused unit w journal Writer = ⊥

-- the same in each world in which this is the state before the first entry
abbrev pub IsRefusedFrom : SourceUnit → StateInMemory → Journal → ReplayError → Type 0
IsRefusedFrom unit old journal fault = (w : World) → Replayed unit w [] old → IsRefused unit w journal fault
