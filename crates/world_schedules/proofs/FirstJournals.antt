-- Journals are refused with their first fault.
use Rattle.std.proofs.Common.{◌≡◌, ℕ, true, List, [], ◌∷◌, Some, Err, refl, arith}
use Rattle.std.specs.Prelude.{◌↔◌, IsOk}
use Rattle.semantics.specs.Journal.{Entry, Step, Clearing, steps_in, clearings_in}
use Rattle.semantics.specs.JournalText.{entry_text}
use Rattle.world_schedules.specs.declared.fault.TextFault.{TextFault}
use Rattle.world_schedules.specs.FirstFaults.{lines_of, journal_kind, BreakNoRule, IsFirstFault}
use Rattle.world_schedules.specs.JournalMeaning.{is_entry}
use Rattle.world_schedules.specs.ReadingJournals.{entry_of, is_up_to, step_count, clearing_count, journal_of}
use Rattle.world_schedules.proofs.FaultLaws.{IsReader, Verdict, of_text, refused_first, accepted_only}
use Rattle.world_schedules.proofs.JournalLaws.{known_is, word_read}
use Rattle.world_schedules.proofs.JournalLemmas.{word_again}
use Rattle.world_schedules.proofs.MeantJournals.{one_entry}

found : (e : Entry) → is_entry 8 e ≡ true → entry_of (entry_text e) ≡ Some e
found e h = word_again 8 e (one_entry 8 e (omega arith) h)

-- one entry is counted as it is read
one_step : (e : Entry) → step_count e ≡ steps_in (e ∷ [])
one_step (Step k refused) = refl
one_step (Clearing names) = refl

one_clearing : (e : Entry) → clearing_count e ≡ clearings_in (e ∷ [])
one_clearing (Step k refused) = refl
one_clearing (Clearing names) = refl

reader : (threads : ℕ) → IsReader journal_kind threads entry_of (is_up_to threads) step_count clearing_count
reader threads = record {
  reads = λ bytes e h. let a = word_read bytes e h in record {
    word = e;
    text = a.spelled;
    formed = a.allowed;
    known = known_is threads e a.allowed;
    counted = one_step e;
    counted_apart = one_clearing e;
  };
  finds = λ e h. (e, found e h, known_is threads e h, one_step e, one_clearing e);
}

verdict : (threads : ℕ) (text : List ℕ)
    → Verdict journal_kind threads entry_of (is_up_to threads) step_count clearing_count (reader threads) (lines_of text) (journal_of text threads)
verdict threads text = of_text journal_kind threads entry_of (is_up_to threads) step_count clearing_count (reader threads) text

pub journals_refused : (threads : ℕ) (text : List ℕ) (fault : TextFault)
    → (journal_of text threads ≡ Err fault) ↔ IsFirstFault journal_kind threads (lines_of text) fault
journals_refused threads text fault =
    refused_first journal_kind threads entry_of (is_up_to threads) step_count clearing_count (reader threads)
    (lines_of text) (journal_of text threads) (verdict threads text) fault

pub journals_accepted : (threads : ℕ) (text : List ℕ) → IsOk (journal_of text threads) ↔ BreakNoRule journal_kind threads (lines_of text)
journals_accepted threads text =
    accepted_only journal_kind threads entry_of (is_up_to threads) step_count clearing_count (reader threads)
    (lines_of text) (journal_of text threads) (verdict threads text)
