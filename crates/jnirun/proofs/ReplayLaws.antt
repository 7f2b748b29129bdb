-- A replay of a run's journal is of the same unit, world and journal, and what is written of these is one text.
use Rattle.std.proofs.Common.{◌≡◌, ℕ, List, ◌++◌, None, Ok, is_some, length, sym, ap, ◌∙◌, subst}
use Rattle.syntax.specs.Tree.{SourceUnit}
use Rattle.parse.specs.Spelling.{SpellsUnit}
use Rattle.semantics.specs.Journal.{Journal}
use Rattle.semantics.specs.JournalText.{journal_line}
use Rattle.world_schedules.specs.ReadingJournals.{journal_of}
use Rattle.report.specs.ReportText.{report_text}
use Rattle.semantics.specs.World.{World}
use Rattle.semantics.specs.ReportOf.{report}
use Rattle.report.specs.RunText.{Writes}
use Rattle.semantics.specs.State.{State}
use Rattle.semantics.specs.Load.{first_load_fault}
use Rattle.world.specs.ReadingWorlds.{world_of_text}
use Rattle.program_check.specs.Programs.{IsProgram}
use Rattle.jnirun.specs.Replays.{IsReplay, IsPossible}
use Rattle.jnirun.specs.ReplayLaws.{IsReplayedAs, RunsAreReplayed, WorksAreReplayed}

-- a journal's run writes one text
one_text : (unit : SourceUnit) (w : World) (journal : Journal) (a b : List ℕ) → Writes unit w journal a → Writes unit w journal b → a ≡ b
one_text unit w journal a b x y =
    let ends : x.end ≡ y.end = cc (x.replays, y.replays) in
    x.same ∙ ap (λ (s : State). report_text (report w s) ++ journal_line journal) ends ∙ sym y.same

-- no text spells two units
abbrev pub OneUnit : Type 0
OneUnit = (text : List ℕ) (a b : SourceUnit) → SpellsUnit text a → SpellsUnit text b → a ≡ b

-- texts with their meaning, and what is written of the journal
module _ (program world journal written : List ℕ) (unit : SourceUnit) (w : World) (entries : Journal) (is : IsProgram program unit) (of_world : world_of_text world ≡ Ok w) (loads : first_load_fault unit w ≡ None)
    (writes : Writes unit w entries written) (read : journal_of journal (length w.threads) ≡ Ok entries) where
  possible : IsPossible program world journal
  possible = record { meaning = record { unit = unit; of_program = is; world = w; of_world = of_world; entries = entries; of_journal = read; loads = loads }; replays = ap is_some writes.replays }

  same_text : OneUnit → (again : List ℕ) → IsReplay program world journal again → again ≡ written
  same_text one again r =
      let unit_is : r.meaning.unit ≡ unit = one program r.meaning.unit unit r.meaning.of_program.spelled is.spelled in
      let world_is : r.meaning.world ≡ w = cc (r.meaning.of_world, of_world) in
      let read_again : journal_of journal (length w.threads) ≡ Ok r.meaning.entries = subst (λ (s : World). journal_of journal (length s.threads) ≡ Ok r.meaning.entries) world_is r.meaning.of_journal in
      let entries_are : r.meaning.entries ≡ entries = cc (read_again, read) in
      let on_unit : Writes unit r.meaning.world r.meaning.entries again = subst (λ (u : SourceUnit). Writes u r.meaning.world r.meaning.entries again) unit_is r.writes in
      let on_world : Writes unit w r.meaning.entries again = subst (λ (s : World). Writes unit s r.meaning.entries again) world_is on_unit in
      let here : Writes unit w entries again = subst (λ (j : Journal). Writes unit w j again) entries_are on_world in
      one_text unit w entries again written here writes

  replayed : OneUnit → IsReplayedAs program world journal written
  replayed one = (possible, same_text one)

pub runs_replayed : OneUnit → RunsAreReplayed
runs_replayed one program world schedule journal written run read =
    replayed program world journal written run.meaning.unit run.meaning.world run.journal run.meaning.of_program run.meaning.of_world run.meaning.loads run.writes read one

pub works_replayed : OneUnit → WorksAreReplayed
works_replayed one program world journal written work read =
    replayed program world journal written work.meaning.unit work.meaning.world work.journal work.meaning.of_program work.meaning.of_world work.meaning.loads work.writes read one
