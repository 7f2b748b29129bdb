-- The arguments of a call with their parameters, as a list and one by one.
use Rattle.std.proofs.Common.{◌≡◌, ℕ, zero, suc, ◌-◌, ◌<◌, Bool, true, false, List, [], ◌∷◌, ◌++◌, length, map, refl, sym, ap, ◌∙◌, arith, if◌then◌else◌}
use Rattle.std.specs.Prelude.{zip, replicate}
use Rattle.syntax.specs.Tree.{Argument}
use Rattle.jni.specs.declared.kinds.ParameterKind.{ParameterKind}
use Rattle.jni.specs.declared.kinds.ParameterKind.TheVariants.{Passed}
use Rattle.code_meaning.specs.Arguments.{given_for}

-- what a method is given where this number of arguments is left
abbrev passed_left : (calls : Bool) (left : ℕ) → List ParameterKind
passed_left calls left = if calls then replicate left Passed else []

all_passed : (n : ℕ) (arguments : List Argument) → n ≡ length arguments → given_for true [] arguments ≡ zip (replicate n Passed) arguments
all_passed zero [] e = refl
all_passed zero (a ∷ arguments) e = absurd (omega (arith, e))
all_passed (suc n) [] e = absurd (omega (arith, e))
all_passed (suc n) (a ∷ arguments) e = ap (λ rest. (Passed, a) ∷ rest) (all_passed n arguments (omega (arith, e)))

none_passed : (arguments : List Argument) → given_for false [] arguments ≡ []
none_passed [] = refl
none_passed (a ∷ arguments) = refl

-- where no parameter is left, and no method is given anything
pub none_given : (calls : Bool) (own : List ParameterKind) (arguments : List Argument) → length own < 1 → calls ≡ false → given_for calls own arguments ≡ []
none_given calls [] arguments none e = ap (λ b. given_for b [] arguments) e ∙ none_passed arguments
none_given calls (p ∷ own) arguments none e = absurd (omega (arith, none))

pub paired_alike : (calls : Bool) (own : List ParameterKind) (arguments : List Argument) → given_for calls own arguments ≡ zip (own ++ passed_left calls (length arguments - length own)) arguments
paired_alike true [] arguments = all_passed (length arguments - 0) arguments (omega arith)
paired_alike false [] arguments = none_passed arguments
paired_alike calls (p ∷ own) [] = refl
paired_alike calls (p ∷ own) (a ∷ arguments) =
    let less : suc (length arguments) - suc (length own) ≡ length arguments - length own = omega arith in
    ap (λ rest. (p, a) ∷ rest) (paired_alike calls own arguments ∙ ap (λ n. zip (own ++ passed_left calls n) arguments) (sym less))
