-- The texts that journals are read from.
use Rattle.std.specs.Prelude.{◌≡◌, ℕ, ◌≤◌, nat_le, ◌&&◌, List, Bool, map, IsTrue}
use Rattle.std.specs.List.{list_all}
use Rattle.base.specs.Limits.{most_entries, most_name}
use Rattle.semantics.specs.Journal.{Entry, Step, Clearing, Journal, steps_in, clearings_in}
use Rattle.semantics.specs.JournalText.{entry_text}
use Rattle.semantics.specs.WeakReferences.{are_rising}
use Rattle.world_schedules.specs.Words.{words_of, is_thread}

-- a name that a journal may have
abbrev pub is_name : ℕ → Bool
is_name n = nat_le 1 n && nat_le n most_name

-- a step is of a thread that is there, of this number of threads; the names of a clearing rise, and there are some
abbrev pub is_entry : ℕ → Entry → Bool
is_entry threads (Step k refused) = is_thread threads k
is_entry threads (Clearing names) = are_rising names && list_all is_name names

-- the journal that a text means, for a world of this number of threads
pub record IsJournalText (threads : ℕ) (text : List ℕ) (journal : Journal) : Type 0 where
  pub spelled : words_of text ≡ map entry_text journal
  pub known : IsTrue (list_all (is_entry threads) journal)
  pub few : steps_in journal ≤ most_entries
  pub few_clearings : clearings_in journal ≤ most_entries
