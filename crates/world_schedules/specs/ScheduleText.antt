-- The texts that schedules are read from.
use Rattle.std.specs.Prelude.{◌≡◌, ℕ, ◌≤◌, Bool, true, ◌&&◌, List, [], ◌∷◌, ◌++◌, length, map, replicate, Option, Some, None, codes, decimal, nat_le, IsTrue, flat_map}
use Rattle.std.specs.List.{list_all}
use Rattle.base.specs.Limits.{most_entries}
use Rattle.semantics.specs.declared.schedule.ScheduleWord.{ScheduleWord}
use Rattle.semantics.specs.declared.schedule.ScheduleWord.TheVariants.{Turn, Collect, Slice}
use Rattle.semantics.specs.Schedule.{Schedule}
use Rattle.world_schedules.specs.Words.{words_of, is_thread}

-- a word alone
abbrev pub turn_text : ScheduleWord → List ℕ
turn_text (Turn k) = decimal k
turn_text Collect = codes "c"
turn_text Slice = codes "s"

-- a word, or a word and *N, which stands for N of them
abbrev pub schedule_word : ScheduleWord × Option ℕ → List ℕ
schedule_word (word, None) = turn_text word
schedule_word (word, Some n) = turn_text word ++ codes "*" ++ decimal n

-- the words that it stands for
abbrev pub words_meant : ScheduleWord × Option ℕ → Schedule
words_meant (word, None) = word ∷ []
words_meant (word, Some n) = replicate n word

-- a turn of a thread that the world has, a collection, or a slice
abbrev pub is_turn : (threads : ℕ) → ScheduleWord → Bool
is_turn threads (Turn k) = is_thread threads k
is_turn threads Collect = true
is_turn threads Slice = true

-- a number that may come after *
abbrev pub is_count : Option ℕ → Bool
is_count None = true
is_count (Some n) = nat_le 1 n && nat_le n most_entries

-- the schedule that a text means, for a world of this number of threads (8 at most)
pub record IsScheduleText (threads : ℕ) (text : List ℕ) (schedule : Schedule) : Type 0 where
  pub words : List (ScheduleWord × Option ℕ)
  pub spelled : words_of text ≡ map schedule_word words
  pub counted : IsTrue (list_all (λ w. is_turn threads w.0 && is_count w.1) words)
  pub meant : schedule ≡ flat_map words_meant words
  pub few : length schedule ≤ most_entries
