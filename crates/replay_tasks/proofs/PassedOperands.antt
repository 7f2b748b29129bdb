-- What the operands of a call are that calls a method.
use Rattle.std.proofs.Common.{◌≡◌, Bool, true, false, List, [], ◌∷◌, ◌++◌, length, map, drop, refl, ap, ◌∙◌}
use Rattle.std.specs.Prelude.{if◌then◌else◌, zip}
use Rattle.jni.specs.declared.function.JniFunction.{JniFunction}
use Rattle.jni.specs.JniFunction.{calls_method, parameters_for, prototype}
use Rattle.jni.specs.declared.kinds.ParameterKind.{ParameterKind}
use Rattle.jni.specs.declared.kinds.ParameterKind.TheVariants.{Passed}
use Rattle.replay_terms.proofs.PassedLemmas.{of_all as parted}

-- they are after the first two
view_passed : {A B : Type 0} (view : A → B) (args : List A) → drop 2 (map view args) ≡ map view (drop 2 args)
view_passed view [] = refl
view_passed view (a ∷ []) = refl
view_passed view (a ∷ b ∷ args) = refl

-- what comes of all arguments comes of the function's own, and then of those that are passed
pub of_all : {A B C : Type 0} (view : A → B) (g : ParameterKind × B → C) (f : JniFunction) (args : List A)
    → map g (zip (parameters_for f (length (map view args))) (map view args))
    ≡ map g (zip (prototype f).parameters (map view args)) ++ (if calls_method f then map (λ a. g (Passed, a)) (map view (drop 2 args)) else [])
of_all {B = B} {C = C} view g f args =
    parted g f (map view args)
    ∙ ap (λ (l : List B). map g (zip (prototype f).parameters (map view args)) ++ (if calls_method f then map (λ a. g (Passed, a)) l else [])) (view_passed view args)
