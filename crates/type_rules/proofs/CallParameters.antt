-- How many arguments a call has that takes as many, and their modes.
use Rattle.std.proofs.Common.{◌≡◌, ℕ, zero, suc, ◌≤◌, ◌-◌, ◌+◌, arith, Bool, true, false, not, ◌&&◌, ◌||◌, List, [], ◌∷◌, ◌++◌, length, nat_le, refl, sym, ap, ◌∙◌, subst, if◌then◌else◌}
use Rattle.std.specs.Prelude.{◌==◌, replicate}
use Rattle.std.proofs.lemmas.Bool.Decides.{nat_tests}
use Rattle.std.proofs.lemmas.List.{append-nil, length-append, length-replicate}
use Rattle.base.specs.Limits.{most_further}
use Rattle.syntax.specs.Tree.{Argument}
use Rattle.jni.specs.declared.function.JniFunction.{JniFunction}
use Rattle.jni.specs.JniFunction.{calls_method, parameters_for, takes_count, prototype}
use Rattle.jni.specs.declared.kinds.ParameterKind.{ParameterKind}
use Rattle.jni.specs.declared.kinds.ParameterKind.TheVariants.{Passed}
use Rattle.type_rules.specs.TypeRules.{is_mode_parameter, is_mode, modes_fit}

as_many : (own : List ParameterKind) (n : ℕ) (b : Bool) → (n == length own || (b && nat_le (length own) n && nat_le n (length own + most_further))) ≡ true
    → n ≡ length (own ++ (if b then replicate (n - length own) Passed else []))
as_many own n false h = let same : n ≡ length own = grind (arith, nat_tests, h) in same ∙ sym (ap length (append-nil own))
as_many own n true h =
    let more : length own ≤ n = grind (arith, nat_tests, h) in
    let sum : n ≡ length own + (n - length own) = omega (arith, more) in
    sum ∙ sym (length-append own (replicate (n - length own) Passed) ∙ ap (λ (m : ℕ). length own + m) (length-replicate (n - length own) Passed))

-- a right number of arguments is that of the parameters
pub parameters_count : (f : JniFunction) (n : ℕ) → takes_count f n ≡ true → n ≡ length (parameters_for f n)
parameters_count f n h = as_many (prototype f).parameters n (calls_method f) h

few : (own n : ℕ) (b : Bool) → (n == own || (b && nat_le own n && nat_le n (own + most_further))) ≡ true → n ≤ own + most_further
few own n false h = grind (arith, nat_tests, h)
few own n true h = grind (arith, nat_tests, h)

-- and isn't more than a method may be given
pub count_is_few : (f : JniFunction) (n : ℕ) → takes_count f n ≡ true → n ≤ length (prototype f).parameters + most_further
count_is_few f n h = few (length (prototype f).parameters) n (calls_method f) h

-- what a method is passed is no mode
passed_modes : (n : ℕ) (arguments : List Argument) → modes_fit (replicate n Passed) arguments ≡ true
passed_modes zero arguments = refl
passed_modes (suc n) [] = refl
passed_modes (suc n) (a ∷ arguments) = passed_modes n arguments

more_modes : (own : List ParameterKind) (n : ℕ) (arguments : List Argument) → modes_fit own arguments ≡ true → modes_fit (own ++ replicate n Passed) arguments ≡ true
more_modes [] n arguments h = passed_modes n arguments
more_modes (parameter ∷ own) n [] h = refl
more_modes (parameter ∷ own) n (a ∷ arguments) h = by_test (not (is_mode_parameter parameter) || is_mode a) (more_modes own n arguments) h
  where
    by_test : (b : Bool) → (modes_fit own arguments ≡ true → modes_fit (own ++ replicate n Passed) arguments ≡ true) → (b && modes_fit own arguments) ≡ true → (b && modes_fit (own ++ replicate n Passed) arguments) ≡ true
    by_test true further g = further g
    by_test false further g = absurd (cc)

modes_by : (own : List ParameterKind) (n : ℕ) (b : Bool) (arguments : List Argument) → modes_fit own arguments ≡ true → modes_fit (own ++ (if b then replicate n Passed else [])) arguments ≡ true
modes_by own n true arguments h = more_modes own n arguments h
modes_by own n false arguments h = subst (λ (l : List ParameterKind). modes_fit l arguments ≡ true) (sym (append-nil own)) h

pub modes_of_all : (f : JniFunction) (arguments : List Argument) → modes_fit (prototype f).parameters arguments ≡ true → modes_fit (parameters_for f (length arguments)) arguments ≡ true
modes_of_all f arguments h = modes_by (prototype f).parameters (length arguments - length (prototype f).parameters) (calls_method f) arguments h
