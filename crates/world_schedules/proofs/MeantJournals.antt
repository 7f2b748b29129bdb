-- The journal that a text means is the one that is read.
use Rattle.std.proofs.Common.{◌≡◌, ℕ, ◌≤◌, true, List, [], ◌∷◌, Some, Ok, sym, ap, ◌∙◌, arith}
use Rattle.std.specs.Prelude.{nat_le}
use Rattle.std.specs.List.{list_all}
use Rattle.std.proofs.lemmas.Bool.{and_parts}
use Rattle.std.proofs.lemmas.Bool.Decides.{nat_tests}
use Rattle.semantics.specs.Journal.{Entry, Step, Clearing, Journal}
use Rattle.semantics.specs.WeakReferences.{are_rising}
use Rattle.world_schedules.specs.JournalMeaning.{IsJournalText, is_name, is_entry}
use Rattle.world_schedules.specs.Split.{parts_of}
use Rattle.world_schedules.specs.ReadingJournals.{entry_of, is_up_to, step_count, clearing_count, journal_of, IsEntry, AreEntries}
use Rattle.world_schedules.specs.ReadingWords.{formed_words}
use Rattle.world_schedules.proofs.JournalLemmas.{steps_counted, clearings_counted, all_formed, all_known}
use Rattle.world_schedules.proofs.WordLaws.{words_of-parts, all_parts, words_read, formed_words-filter}

pub one_entry : (threads : ℕ) (e : Entry) → threads ≤ 8 → is_entry threads e ≡ true → IsEntry threads e
one_entry threads (Step k refused) most h =
    let t = and_parts (nat_le 1 k) (nat_le k threads) h in
    let low : 1 ≤ k = grind (arith, nat_tests, t.0) in
    let high : k ≤ threads = grind (arith, nat_tests, t.1) in
    (low, omega (arith, high), high)
one_entry threads (Clearing names) most h = and_parts (are_rising names) (list_all is_name names) h

-- steps of threads that are there, and clearings of rising names
are_entries : (threads : ℕ) (es : Journal) → threads ≤ 8 → list_all (is_entry threads) es ≡ true → AreEntries threads es
are_entries threads [] most h = tt
are_entries threads (e ∷ es) most h =
    let b = and_parts (is_entry threads e) (list_all (is_entry threads) es) h in
    (one_entry threads e most b.0, are_entries threads es most b.1)

-- what is meant is read
pub meant_journal : (threads : ℕ) (text : List ℕ) (journal : Journal) → threads ≤ 8 → IsJournalText threads text journal → journal_of text threads ≡ Ok journal
meant_journal threads text journal most h =
    let es = are_entries threads journal most h.known in
    let formed : formed_words entry_of (all_parts text) ≡ Some journal =
    formed_words-filter entry_of (all_parts text) ∙ ap (formed_words entry_of) (sym (words_of-parts text) ∙ h.spelled) ∙ all_formed threads journal es in
    words_read entry_of (is_up_to threads) step_count clearing_count 1 0 0 (parts_of 10 text) journal
    (record { formed = formed; all_known = all_known threads journal es; few = omega (arith, steps_counted journal, h.few); few_others = omega (arith, clearings_counted journal, h.few_clearings) })
