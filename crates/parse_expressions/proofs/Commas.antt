-- Arguments, each with the comma before it.
use Rattle.std.proofs.Common.{◌≡◌, ℕ, zero, suc, ◌+◌, ◌<◌, ◌≤◌, true, false, List, [], ◌∷◌, ◌++◌, length, Result, Ok, Err, refl, sym, ap, ◌∙◌, append_assoc, arith, add-one}
use Rattle.std.proofs.lemmas.List.{append-nil}
use Rattle.scan.specs.declared.token.Mark.TheVariants as marks
use Rattle.syntax.specs.Tree.{Argument}
use Rattle.parse_lexemes.specs.declared.fault.ParseError.{ParseError}
use Rattle.parse_lexemes.specs.declared.fault.ParseError.TheVariants.{Memory, Fault}
use Rattle.parse_lexemes.specs.declared.first.Fixed.TheVariants as fixed
use Rattle.parse_lexemes.specs.Results.{◌>>=◌, Fails}
use Rattle.parse_lexemes.specs.Lexemes.{Lexed}
use Rattle.parse_lexemes.specs.Reading.{starts_with, rest_of}
use Rattle.parse_expressions.specs.Reading.{argument_at, arguments_at}
use Rattle.parse_expressions.proofs.JniCalls.{argument_shorter}

-- what is read, after what came before
abbrev pub with_more : {A : Type 0} → List A → Result (List A × List Lexed) ParseError → Result (List A × List Lexed) ParseError
with_more before read = read >>= λ more. Ok (before ++ more.0, more.1)

abbrev pub given : {A : Type 0} → List Lexed → List A → Result (List A × List Lexed) ParseError
given ls more = Ok (more, ls)

pub no_more : {A : Type 0} (read : Result (List A × List Lexed) ParseError) → with_more [] read ≡ read
no_more (Ok x) = refl
no_more (Err f) = refl

pub regroup : {A : Type 0} (before : List A) (x : A) (read : Result (List A × List Lexed) ParseError) → with_more (before ++ x ∷ []) read ≡ with_more before (read >>= λ more. Ok (x ∷ more.0, more.1))
regroup before x (Ok more) = ap (given more.1) (append_assoc before (x ∷ []) more.0)
regroup before x (Err e) = refl

-- ---- arguments

abbrev pub ReadArguments : Type 0
ReadArguments = Result (List Argument × List Lexed) ParseError

-- What is read from here, after the arguments so far, is all that is read.
pub record FillsArguments (room : ℕ) (before : List Argument) (ls : List Lexed) (total : ReadArguments) : Type 0 where
  pub steps : ℕ
  pub enough : length ls ≤ steps
  pub same : with_more before (arguments_at room (suc steps) ls) ≡ total

pub arguments_start : (room : ℕ) (ls : List Lexed) → FillsArguments room [] ls (arguments_at room (length ls + 1) ls)
arguments_start room ls = record { steps = length ls; enough = omega arith; same = no_more (arguments_at room (suc (length ls)) ls) ∙ sym (ap (λ n. arguments_at room n ls) (add-one (length ls))) }

module _ (room : ℕ) (before : List Argument) (ls : List Lexed) (total : ReadArguments) (f : FillsArguments room before ls total) where
  pub arguments_done : starts_with (fixed.Mark marks.Comma) ls ≡ false → total ≡ Ok (before, ls)
  unfolding arguments_at
  arguments_done s =
      let one : with_more before (arguments_at room (suc f.steps) ls) ≡ Ok (before, ls) = rw s (ap (given ls) (append-nil before)) in
      sym f.same ∙ one

  pub arguments_fail : (e : ParseError) → starts_with (fixed.Mark marks.Comma) ls ≡ true → Fails e (argument_at room (rest_of ls)) → Fails e total
  unfolding arguments_at
  arguments_fail Memory s h = tt
  arguments_fail (Fault broken) s h =
      let one : with_more before (arguments_at room (suc f.steps) ls) ≡ Err (Fault broken) = rw (s, h) refl in
      sym f.same ∙ one

  pub arguments_on : (a : Argument) (after : List Lexed) → starts_with (fixed.Mark marks.Comma) ls ≡ true → argument_at room (rest_of ls) ≡ Ok (a, after) → FillsArguments room (before ++ a ∷ []) after total
  unfolding arguments_at
  arguments_on a after s h =
      go f.steps f.enough f.same
    where
      short : length after < length ls
      short = argument_shorter room ls (a, after) s h

      go : (steps : ℕ) → length ls ≤ steps → with_more before (arguments_at room (suc steps) ls) ≡ total → FillsArguments room (before ++ a ∷ []) after total
      go zero enough same = absurd (omega (arith, short))
      go (suc steps) enough same =
          let one : with_more before (arguments_at room (suc (suc steps)) ls) ≡ with_more (before ++ a ∷ []) (arguments_at room (suc steps) after) = rw (s, h) (sym (regroup before a (arguments_at room (suc steps) after))) in
          record { steps = steps; enough = omega (arith, short); same = sym one ∙ same }
