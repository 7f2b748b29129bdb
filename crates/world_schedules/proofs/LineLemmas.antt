-- Lines that are read one after the other.
use Rattle.std.proofs.Common.{◌≡◌, ℕ, ◌+◌, List, [], ◌∷◌, ◌++◌, Result, Ok, Err, Option, refl, sym, ap, ◌∙◌, append_assoc, append-nil, sum_by}
use Rattle.std.specs.Prelude.{Bool}
use Rattle.world_schedules.specs.declared.fault.TextFault.{TextFault}
use Rattle.world_schedules.specs.declared.fault.ReadError.{ReadError}
use Rattle.world_schedules.specs.declared.fault.ReadError.TheVariants as errors
use Rattle.world_schedules.specs.Reading.{◌>>=◌, Fails}
use Rattle.world_schedules.specs.ReadingWords.{line_words, lines_words}

-- what was read before, and what is still read
abbrev pub after_lines : {W : Type 0} → List W → Result (List W) TextFault → Result (List W) TextFault
after_lines front read = read >>= λ words. Ok (front ++ words)

regroup : {W : Type 0} (front first : List W) (read : Result (List W) TextFault) → after_lines front (read >>= λ further. Ok (first ++ further)) ≡ after_lines (front ++ first) read
regroup front first (Ok others) = ap Ok (sym (append_assoc front first others))
regroup front first (Err e) = refl

module _ {W : Type 0} (spelled : List ℕ → Option W) (known : W → Bool) (times apart : W → ℕ) (number count others : ℕ) (line : List ℕ) (left rest : List (List ℕ)) (words : List W) (all : Result (List W) TextFault) (first_is : left ≡ line ∷ rest)
    (so_far : after_lines words (lines_words spelled known times apart number count others left) ≡ all) where
  -- the next line has these words
  pub goes_on : (first : List W) → line_words spelled known times apart number count others line ≡ Ok first → after_lines (words ++ first) (lines_words spelled known times apart (number + 1) (count + sum_by times first) (others + sum_by apart first) rest) ≡ all
  unfolding lines_words
  goes_on first e =
      sym (regroup words first (lines_words spelled known times apart (number + 1) (count + sum_by times first) (others + sum_by apart first) rest))
      ∙ ap (λ r. after_lines words (r >>= λ f. lines_words spelled known times apart (number + 1) (count + sum_by times f) (others + sum_by apart f) rest >>= λ further. Ok (f ++ further))) (sym e)
      ∙ ap (λ ls. after_lines words (lines_words spelled known times apart number count others ls)) (sym first_is)
      ∙ so_far

  -- the next line is refused
  pub stops : (e : ReadError) → Fails e (line_words spelled known times apart number count others line) → Fails e all
  unfolding lines_words
  stops errors.Memory h = tt
  stops (errors.Fault f) h =
      sym so_far
      ∙ ap (λ ls. after_lines words (lines_words spelled known times apart number count others ls)) first_is
      ∙ ap (λ r. after_lines words (r >>= λ f. lines_words spelled known times apart (number + 1) (count + sum_by times f) (others + sum_by apart f) rest >>= λ further. Ok (f ++ further))) h

-- no line is left
pub is_all : {W : Type 0} (spelled : List ℕ → Option W) (known : W → Bool) (times apart : W → ℕ) (number count others : ℕ) (left : List (List ℕ)) (words : List W) (all : Result (List W) TextFault) → left ≡ []
    → after_lines words (lines_words spelled known times apart number count others left) ≡ all → all ≡ Ok words
unfolding lines_words
is_all spelled known times apart number count others left words all e so_far =
    sym so_far ∙ ap (λ ls. after_lines words (lines_words spelled known times apart number count others ls)) e ∙ ap Ok (append-nil words)
