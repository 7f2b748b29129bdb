-- Texts of words. A kind of word is given by what it spells, whether it is known, and how many words it stands for; those of a second
-- kind, as a journal's clearings are, are counted apart.
use Rattle.std.specs.Prelude.{ℕ, ◌+◌, List, [], ◌∷◌, ◌++◌, Bool, ◌&&◌, Option, Some, None, Result, Ok, option_and_then, nat_le, sum_by, if◌then◌else◌}
use Rattle.std.specs.Option.{option_map}
use Rattle.std.specs.List.{list_all}
use Rattle.base.specs.Limits.{most_entries}
use Rattle.world_schedules.specs.declared.fault.TextFault.{TextFault}
use Rattle.world_schedules.specs.declared.fault.Rule.TheVariants.{Form, Name, Limit}
use Rattle.world_schedules.specs.Split.{parts_of}
use Rattle.world_schedules.specs.Reading.{◌>>=◌, refused}

-- one more word in front
abbrev pub with_word : {W : Type 0} → Option W → Option (List W) → Option (List W)
with_word word words = option_and_then (λ w. option_map (λ ws. w ∷ ws) words) word

-- the words that the parts between spaces spell, where each part that isn't empty spells one
abbrev pub formed_words : {W : Type 0} → (List ℕ → Option W) → List (List ℕ) → Option (List W)
formed_words spelled [] = Some []
formed_words spelled ([] ∷ parts) = formed_words spelled parts
formed_words spelled ((b ∷ bs) ∷ parts) = with_word (spelled (b ∷ bs)) (formed_words spelled parts)

-- these words of a line, where all are known and don't pass the limit
unfoldable pub allowed_words : {W : Type 0} → (W → Bool) → (W → ℕ) → (W → ℕ) → ℕ → ℕ → ℕ → Option (List W) → Result (List W) TextFault
allowed_words known times apart number count others None = refused Form number
allowed_words known times apart number count others (Some words) =
    if list_all known words
    then (if nat_le (count + sum_by times words) most_entries && nat_le (others + sum_by apart words) most_entries then Ok words
    else refused Limit number)
    else refused Name number

-- the words of the line of this number, after this number of words, and of others
abbrev pub line_words : {W : Type 0} → (List ℕ → Option W) → (W → Bool) → (W → ℕ) → (W → ℕ) → ℕ → ℕ → ℕ → List ℕ → Result (List W) TextFault
line_words spelled known times apart number count others line =
    allowed_words known times apart number count others (formed_words spelled (parts_of 32 line))

-- the words of the lines from this number on
unfoldable pub lines_words : {W : Type 0} → (List ℕ → Option W) → (W → Bool) → (W → ℕ) → (W → ℕ) → ℕ → ℕ → ℕ → List (List ℕ) → Result (List W) TextFault
lines_words spelled known times apart number count others [] = Ok []
lines_words spelled known times apart number count others (line ∷ lines) =
    line_words spelled known times apart number count others line
    >>= λ first. lines_words spelled known times apart (number + 1) (count + sum_by times first) (others + sum_by apart first) lines
    >>= λ further. Ok (first ++ further)

-- the words of a text
abbrev pub text_words : {W : Type 0} → (List ℕ → Option W) → (W → Bool) → (W → ℕ) → (W → ℕ) → List ℕ → Result (List W) TextFault
text_words spelled known times apart text = lines_words spelled known times apart 1 0 0 (parts_of 10 text)
