-- Texts that have nothing but turns, each taken once, of threads that are there, with one byte after each.
use Rattle.std.specs.Prelude.{ℕ, ◌-◌, List, [], ◌∷◌, ◌++◌, ◌&&◌, ◌||◌, Option, Some, None, ◌==◌, nat_le, if◌then◌else◌}
use Rattle.std.specs.Option.{option_map}
use Rattle.semantics.specs.declared.schedule.ScheduleWord.TheVariants.{Turn}
use Rattle.world_schedules.specs.declared.schedule.Repetition.{Repetition}
use Rattle.world_schedules.specs.ReadingWords.{with_word}

-- the turn that a byte names, of a thread that is there, where a space or a line feed comes after it
abbrev pub single_turn : (threads : ℕ) → ℕ → ℕ → Option Repetition
single_turn threads name end =
    if (nat_le 49 name && nat_le name 56) && (nat_le (name - 48) threads && (end == 32 || end == 10))
    then Some (record { word = Turn (name - 48); times = 1 })
    else None

-- the turn that a text begins with, and what comes after the byte that ends it
abbrev pub first_turn : (threads : ℕ) → List ℕ → Option (Repetition × List ℕ)
first_turn threads (name ∷ end ∷ text) = option_map (λ turn. (turn, text)) (single_turn threads name end)
first_turn threads text = None

-- the turns of such a text, whose last word may be its end
abbrev pub single_turns : (threads : ℕ) → List ℕ → Option (List Repetition)
single_turns threads [] = Some []
single_turns threads (name ∷ []) = option_map (λ turn. turn ∷ []) (single_turn threads name 10)
single_turns threads (name ∷ end ∷ text) = with_word (single_turn threads name end) (single_turns threads text)

-- these turns, and then those of the text
abbrev pub with_turns : (threads : ℕ) → List Repetition → List ℕ → Option (List Repetition)
with_turns threads turns text = option_map (λ further. turns ++ further) (single_turns threads text)
