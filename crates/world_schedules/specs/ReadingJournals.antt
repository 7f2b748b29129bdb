-- How the words of a journal are read.
use Rattle.std.specs.Prelude.{◌≡◌, ℕ, ◌-◌, ◌≤◌, List, [], ◌∷◌, Ok, Bool, true, false, ◌&&◌, Option, Some, None, Result, nat_le, ◌==◌, if◌then◌else◌}
use Rattle.std.specs.List.{list_all}
use Rattle.std.specs.Option.{option_map}
use Rattle.base.specs.Limits.{most_entries}
use Rattle.base.specs.Options.{option_filter}
use Rattle.semantics.specs.Journal.{Entry, Step, Clearing, steps_in, clearings_in}
use Rattle.semantics.specs.JournalText.{spelled_entries}
use Rattle.semantics.specs.WeakReferences.{are_rising}
use Rattle.world_schedules.specs.declared.fault.TextFault.{TextFault}
use Rattle.world_schedules.specs.JournalMeaning.{is_name}
use Rattle.world_schedules.specs.Numbers.{natural_of}
use Rattle.world_schedules.specs.ReadingWords.{text_words, with_word}
use Rattle.world_schedules.specs.Split.{parts_of}

-- a step of the thread `1` to `8`
abbrev pub entry_named : ℕ → Bool → Option Entry
entry_named name refused =
    if nat_le 49 name && nat_le name 56 then Some (Step (name - 48) refused) else None

-- the rest after the thread's digit: nothing, or `!`
abbrev pub step_named : ℕ → List ℕ → Option Entry
step_named name [] = entry_named name false
step_named name (mark ∷ []) = if mark == 33 then entry_named name true else None
step_named name (mark ∷ more ∷ bytes) = None

-- the name that a part spells
abbrev pub name_spelled : List ℕ → Option ℕ
name_spelled part = option_filter is_name (natural_of part)

-- the names that the parts spell, where each spells one
abbrev pub names_spelled : List (List ℕ) → Option (List ℕ)
names_spelled [] = Some []
names_spelled (part ∷ parts) = with_word (name_spelled part) (names_spelled parts)

-- the clearing of rising names, with commas between them
abbrev pub clearing_named : List ℕ → Option Entry
clearing_named bytes = option_map Clearing (option_filter are_rising (names_spelled (parts_of 44 bytes)))

-- `1`, `1!` or `~46,47`
abbrev pub entry_of : List ℕ → Option Entry
entry_of [] = None
entry_of (first ∷ rest) = if first == 126 then clearing_named rest else step_named first rest

-- a step of a thread up to this number, or a clearing
abbrev pub is_up_to : ℕ → Entry → Bool
is_up_to threads (Step k refused) = nat_le k threads
is_up_to threads (Clearing names) = true

-- of how many steps an entry is
abbrev pub step_count : Entry → ℕ
step_count (Step k refused) = 1
step_count (Clearing names) = 0

-- and of how many clearings
abbrev pub clearing_count : Entry → ℕ
clearing_count (Step k refused) = 0
clearing_count (Clearing names) = 1

-- the entries of a journal, in order
abbrev pub journal_of : List ℕ → (threads : ℕ) → Result (List Entry) TextFault
journal_of text threads = text_words entry_of (is_up_to threads) step_count clearing_count text

-- an entry that may be written of a run with this number of threads
abbrev pub IsEntry : ℕ → Entry → Type 0
IsEntry threads (Step k refused) = (1 ≤ k) × (k ≤ 8) × (k ≤ threads)
IsEntry threads (Clearing names) = (are_rising names ≡ true) × (list_all is_name names ≡ true)

-- steps of threads that are there, and clearings of rising names
abbrev pub AreEntries : ℕ → List Entry → Type 0
AreEntries threads [] = Unit {0}
AreEntries threads (e ∷ es) = IsEntry threads e × AreEntries threads es

-- the words that are written of entries are read as these entries
abbrev pub EntriesAreReadAgain : Type 0
EntriesAreReadAgain =
    (threads : ℕ) (entries : List Entry) → AreEntries threads entries → steps_in entries ≤ most_entries → clearings_in entries ≤ most_entries
    → journal_of (spelled_entries entries) threads ≡ Ok entries
