-- Parameters, each with the comma before it.
use Rattle.std.proofs.Common.{◌≡◌, ℕ, zero, suc, ◌+◌, ◌-◌, ◌≤◌, true, false, List, [], ◌∷◌, ◌++◌, length, Result, Ok, Err, refl, sym, ap, ◌∙◌, arith}
use Rattle.std.proofs.lemmas.List.{append-nil, length-append}
use Rattle.scan.specs.declared.token.Mark.TheVariants as marks
use Rattle.syntax.specs.Tree.{Parameter}
use Rattle.parse_lexemes.specs.declared.fault.ParseRule.TheVariants.{TooMany}
use Rattle.parse_lexemes.specs.declared.fault.ParseError.{ParseError}
use Rattle.parse_lexemes.specs.declared.fault.ParseError.TheVariants.{Memory, Fault}
use Rattle.parse_lexemes.specs.declared.first.Fixed.TheVariants as fixed
use Rattle.parse_lexemes.specs.Results.{◌>>=◌, Fails}
use Rattle.parse_lexemes.specs.Lexemes.{Lexed, fault_at}
use Rattle.parse_lexemes.specs.Reading.{starts_with, rest_of}
use Rattle.parse.specs.Reading.{parameter_at, parameters_at}
use Rattle.parse_expressions.proofs.Commas.{with_more, given, no_more, regroup}

-- ---- parameters

abbrev pub ReadParameters : Type 0
ReadParameters = Result (List Parameter × List Lexed) ParseError

pub record FillsParameters (before : List Parameter) (ls : List Lexed) (total : ReadParameters) : Type 0 where
  pub low : length before ≤ 255
  pub same : with_more before (parameters_at (255 - length before) ls) ≡ total

pub parameters_start : (ls : List Lexed) → FillsParameters [] ls (parameters_at 255 ls)
parameters_start ls = record { low = omega arith; same = no_more (parameters_at 255 ls) }

no_comma : (free : ℕ) (ls : List Lexed) → starts_with (fixed.Mark marks.Comma) ls ≡ false → parameters_at free ls ≡ Ok ([], ls)
unfolding parameters_at
no_comma zero ls s = rw s refl
no_comma (suc free) ls s = rw s refl

none_free : (free : ℕ) (ls : List Lexed) → free ≡ 0 → starts_with (fixed.Mark marks.Comma) ls ≡ true → parameters_at free ls ≡ Err (fault_at TooMany ls)
unfolding parameters_at
none_free zero ls none s = rw s refl
none_free (suc free) ls none s = absurd (omega (arith, none))

some_free : (free left : ℕ) (ls : List Lexed) → free ≡ suc left → starts_with (fixed.Mark marks.Comma) ls ≡ true → parameters_at free ls ≡ (parameter_at (rest_of ls) >>= λ p. parameters_at left p.1 >>= λ more. Ok (p.0 ∷ more.0, more.1))
unfolding parameters_at
some_free free left ls same s = rw (same, s) refl

module _ (before : List Parameter) (ls : List Lexed) (total : ReadParameters) (f : FillsParameters before ls total) where
  pub parameters_done : starts_with (fixed.Mark marks.Comma) ls ≡ false → total ≡ Ok (before, ls)
  parameters_done s =
      let one : with_more before (parameters_at (255 - length before) ls) ≡ Ok (before, ls) = rw (no_comma (255 - length before) ls s) (ap (given ls) (append-nil before)) in
      sym f.same ∙ one

  pub parameters_many : starts_with (fixed.Mark marks.Comma) ls ≡ true → length before ≡ 255 → total ≡ Err (fault_at TooMany ls)
  parameters_many s n =
      let one : with_more before (parameters_at (255 - length before) ls) ≡ Err (fault_at TooMany ls) = rw (none_free (255 - length before) ls (omega (arith, n)) s) refl in
      sym f.same ∙ one

  next_is : (length before ≡ 255 → ⊥) → starts_with (fixed.Mark marks.Comma) ls ≡ true → parameters_at (255 - length before) ls ≡ (parameter_at (rest_of ls) >>= λ p. parameters_at (255 - (length before + 1)) p.1 >>= λ more. Ok (p.0 ∷ more.0, more.1))
  next_is n s = let low = f.low in some_free (255 - length before) (255 - (length before + 1)) ls (omega (arith, n, low)) s

  pub parameters_fail : (e : ParseError) → starts_with (fixed.Mark marks.Comma) ls ≡ true → (length before ≡ 255 → ⊥) → Fails e (parameter_at (rest_of ls)) → Fails e total
  parameters_fail Memory s n h = tt
  parameters_fail (Fault broken) s n h =
      let one : with_more before (parameters_at (255 - length before) ls) ≡ Err (Fault broken) = rw (next_is n s, h) refl in
      sym f.same ∙ one

  pub parameters_on : (p : Parameter) (after : List Lexed) → starts_with (fixed.Mark marks.Comma) ls ≡ true → (length before ≡ 255 → ⊥) → parameter_at (rest_of ls) ≡ Ok (p, after) → FillsParameters (before ++ p ∷ []) after total
  parameters_on p after s n h =
      let count : length (before ++ p ∷ []) ≡ length before + 1 = length-append before (p ∷ []) in
      let low = f.low in
      let one : with_more before (parameters_at (255 - length before) ls) ≡ with_more (before ++ p ∷ []) (parameters_at (255 - length (before ++ p ∷ [])) after) = rw (next_is n s, h, count) (sym (regroup before p (parameters_at (255 - (length before + 1)) after))) in
      record { low = omega (arith, count, n, low); same = sym one ∙ f.same }
