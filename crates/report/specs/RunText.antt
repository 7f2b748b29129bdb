-- What a run writes in all.
use Rattle.std.specs.Prelude.{◌≡◌, ℕ, List, ◌++◌, Some, Result, Ok, Err, codes, decimal, flat_map}
use Rattle.syntax.specs.Tree.{SourceUnit}
use Rattle.semantics.specs.Journal.{Entry, Journal, Step, Clearing}
use Rattle.semantics.specs.Views.{names_of}
use Rattle.report.specs.declared.entries.ShownEntry.{ShownEntry}
use Rattle.report.specs.declared.entries.ShownEntry.TheVariants as held
use Rattle.semantics.specs.ReportOf.{report}
use Rattle.semantics.specs.Run.{replay}
use Rattle.semantics.specs.State.{State}
use Rattle.semantics.specs.World.{World}
use Rattle.semantics.specs.declared.object_id.ObjectId.{ObjectId}
use Rattle.semantics.specs.JournalText.{journal_line}
use Rattle.report.specs.ReportText.{report_text}
use Rattle.sinks.specs.Sink.{Written, AppendsText, StopsWithin}

-- the report of its journal's replay, and the journal
pub record Writes (unit : SourceUnit) (w : World) (journal : Journal) (text : List ℕ) : Type 0 where
  pub end : State
  pub replays : replay unit w journal ≡ Some end
  pub same : text ≡ report_text (report w end) ++ journal_line journal

-- an entry of a journal, as it is held in memory
abbrev pub entry_shown : ShownEntry → Entry
entry_shown (held.Step thread refused) = Step thread refused
entry_shown (held.Clearing objects) = Clearing (names_of objects.now)

-- the numbers of these names, each after a comma
abbrev pub further_text : List ObjectId → List ℕ
further_text names = flat_map (λ n. codes "," ++ decimal n.number) names

-- a part of what was gathered and of a word after it was put, and the rest is gathered
pub record IsGathered (old new : Written) (before after word : List ℕ) : Type 0 where
  pub part : List ℕ
  pub put : AppendsText old new part
  pub rest : part ++ after ≡ before ++ word

-- the same of a call that may fail
abbrev pub Gathers : {T E : Type 0} → Written → Written → Result T E → (before after word : List ℕ) → Type 0
Gathers old new (Ok v) before after word = IsGathered old new before after word
Gathers old new (Err e) before after word = StopsWithin old new (before ++ word)
