-- How the words of a schedule are read.
use Rattle.std.specs.Prelude.{ℕ, ◌-◌, List, [], ◌∷◌, Bool, true, ◌&&◌, Option, Some, None, option_and_then, Result, Ok, ◌==◌, nat_le, replicate, if◌then◌else◌}
use Rattle.std.specs.List.{flat_map}
use Rattle.base.specs.Limits.{most_entries}
use Rattle.semantics.specs.declared.schedule.ScheduleWord.{ScheduleWord}
use Rattle.semantics.specs.declared.schedule.ScheduleWord.TheVariants.{Turn, Collect, Slice}
use Rattle.world_schedules.specs.declared.schedule.Repetition.{Repetition}
use Rattle.world_schedules.specs.declared.fault.TextFault.{TextFault}
use Rattle.world_schedules.specs.Numbers.{natural_of}
use Rattle.world_schedules.specs.Reading.{◌>>=◌}
use Rattle.world_schedules.specs.ReadingWords.{text_words}

-- `1` to `8`
abbrev pub named_turn : ℕ → Option ScheduleWord
named_turn name = if nat_le 49 name && nat_le name 56 then Some (Turn (name - 48)) else None

-- `1` to `8`, `c` or `s`
abbrev pub named_word : ℕ → Option ScheduleWord
named_word name = if name == 99 then Some Collect else if name == 115 then Some Slice else named_turn name

-- from once to a million times
abbrev pub repetition : ℕ → ScheduleWord → Option Repetition
repetition times word =
    if nat_le 1 times && nat_le times most_entries then Some (record { word = word; times = times }) else None

-- `1`, or `1*20`
abbrev pub repetition_of : List ℕ → Option Repetition
repetition_of [] = None
repetition_of (name ∷ []) = option_and_then (repetition 1) (named_word name)
repetition_of (name ∷ star ∷ digits) =
    if star == 42 then option_and_then (λ word. option_and_then (λ times. repetition times word) (natural_of digits)) (named_word name) else None

-- a collection, a slice, or the turn of a thread that is there
abbrev pub is_known_turn : (threads : ℕ) → ScheduleWord → Bool
is_known_turn threads (Turn thread) = nat_le thread threads
is_known_turn threads Collect = true
is_known_turn threads Slice = true

-- the words that a repetition stands for
abbrev pub repeated_words : Repetition → List ScheduleWord
repeated_words r = replicate r.times r.word

-- the words of a schedule, in order
abbrev pub schedule_of : List ℕ → (threads : ℕ) → Result (List ScheduleWord) TextFault
schedule_of text threads =
    text_words repetition_of (λ r. is_known_turn threads r.word) (λ r. r.times) (λ r. 0) text >>= λ repetitions. Ok (flat_map repeated_words repetitions)
