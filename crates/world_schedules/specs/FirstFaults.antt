-- Which fault a schedule or a journal is refused with: the first line that breaks a rule, and of its rules the least.
use Rattle.std.specs.Prelude.{◌≡◌, ◌≢◌, ℕ, ◌+◌, ◌<◌, Bool, false, ◌&&◌, ◌==◌, IsTrue, List, [], ◌∷◌, ◌++◌, ◌⊎◌, length, map, flat_map, sum_by, Option}
use Rattle.std.specs.List.{list_all, Contains}
use Rattle.base.specs.Bytes.{split_at}
use Rattle.base.specs.Limits.{most_entries, most_threads}
use Rattle.semantics.specs.declared.schedule.ScheduleWord.{ScheduleWord}
use Rattle.semantics.specs.Journal.{Entry, steps_in, clearings_in}
use Rattle.semantics.specs.JournalText.{entry_text}
use Rattle.world_schedules.specs.JournalMeaning.{is_entry}
use Rattle.world_schedules.specs.Rule.{rule_number}
use Rattle.world_schedules.specs.ScheduleText.{schedule_word, words_meant, is_turn, is_count}
use Rattle.world_schedules.specs.Words.{words_of}
use Rattle.world_schedules.specs.declared.fault.Rule.{Rule}
use Rattle.world_schedules.specs.declared.fault.Rule.TheVariants.{Form, Name, Limit}
use Rattle.world_schedules.specs.declared.fault.TextFault.{TextFault}

-- the lines of a text
abbrev pub lines_of : List ℕ → List (List ℕ)
lines_of text = split_at (λ c. c == 10) text

-- ---- words

-- a kind of words: how one is written, whether it is allowed with this number of threads, how many words it counts as, and how many of
-- those that are counted apart
pub record WordKind (W : Type 0) : Type 0 where
  pub text : W → List ℕ
  pub is_allowed : (threads : ℕ) → W → Bool
  pub count : W → ℕ
  pub apart : W → ℕ

-- the words of schedules
abbrev pub schedule_kind : WordKind (ScheduleWord × Option ℕ)
schedule_kind = record {
  text = schedule_word;
  is_allowed = λ threads w. is_turn threads w.0 && is_count w.1;
  count = λ w. length (words_meant w);
  apart = λ w. 0;
}

-- the words of journals, where clearings are counted apart
abbrev pub journal_kind : WordKind Entry
journal_kind = record { text = entry_text; is_allowed = is_entry; count = λ entry. steps_in (entry ∷ []); apart = λ entry. clearings_in (entry ∷ []) }

-- ---- rules

-- 81: the bytes are no word that is allowed with the most threads
abbrev pub HasNoForm : {W : Type 0} → WordKind W → List ℕ → Type 0
HasNoForm {W} kind bytes = (w : W) → IsTrue (kind.is_allowed most_threads w) → kind.text w ≢ bytes

-- 82: the bytes are a word that is allowed with the most threads, and not with those that are there
abbrev pub IsUnknown : {W : Type 0} → WordKind W → (threads : ℕ) → List ℕ → Type 0
IsUnknown {W} kind threads bytes = (w : W) × (kind.text w ≡ bytes) × IsTrue (kind.is_allowed most_threads w) × (kind.is_allowed threads w ≡ false)

-- 83: the words of these lines are all allowed with the most threads, and count more than a text may have, or more of those that are
-- counted apart
abbrev pub PassLimit : {W : Type 0} → WordKind W → (lines : List (List ℕ)) → Type 0
PassLimit {W} kind lines =
    (ws : List W) × (flat_map words_of lines ≡ map kind.text ws) × IsTrue (list_all (kind.is_allowed most_threads) ws)
    × ((most_entries < sum_by kind.count ws) ⊎ (most_entries < sum_by kind.apart ws))

-- a line breaks the rule, after the lines before it: by one of its words, or by all words up to its end; the other rules are on worlds
abbrev pub Breaks : {W : Type 0} → WordKind W → (threads : ℕ) → Rule → (before : List (List ℕ)) (line : List ℕ) → Type 0
Breaks kind threads Form before line = (bytes : List ℕ) × Contains (words_of line) bytes × HasNoForm kind bytes
Breaks kind threads Name before line = (bytes : List ℕ) × Contains (words_of line) bytes × IsUnknown kind threads bytes
Breaks kind threads Limit before line = PassLimit kind (before ++ line ∷ [])
Breaks kind threads rule before line = ⊥

-- ---- faults

-- none of these lines breaks a rule, after those before it
abbrev pub BreakNoRule : {W : Type 0} → WordKind W → (threads : ℕ) → (lines : List (List ℕ)) → Type 0
BreakNoRule kind threads lines =
    (before after : List (List ℕ)) (line : List ℕ) (rule : Rule) → lines ≡ before ++ line ∷ after → ¬ (Breaks kind threads rule before line)

-- the fault is at the first of these lines that breaks a rule, and of the rules that this line breaks it has that of the least number
pub record IsFirstFault {W : Type 0} (kind : WordKind W) (threads : ℕ) (lines : List (List ℕ)) (fault : TextFault) : Type 0 where
  pub before : List (List ℕ)
  pub line : List ℕ
  pub after : List (List ℕ)
  pub placed : lines ≡ before ++ line ∷ after
  pub numbered : fault.line ≡ length before + 1
  pub broken : Breaks kind threads fault.rule before line
  pub none_before : BreakNoRule kind threads before
  pub least : (rule : Rule) → rule_number rule < rule_number fault.rule → ¬ (Breaks kind threads rule before line)
