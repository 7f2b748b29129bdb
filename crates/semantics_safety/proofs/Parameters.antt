-- The parameters of a call: the function's own, and what a method is passed beside them.
use Rattle.std.proofs.Common.{◌≡◌, ℕ, zero, suc, ◌-◌, Bool, true, false, ◌||◌, List, [], ◌∷◌, ◌++◌, length, refl, ap, ◌∙◌, if◌then◌else◌}
use Rattle.std.specs.Prelude.{replicate}
use Rattle.std.specs.List.{list_any}
use Rattle.std.proofs.lemmas.Bool.{or_parts}
use Rattle.std.proofs.lemmas.List.{append-nil}
use Rattle.jni.specs.declared.function.JniFunction.{JniFunction}
use Rattle.jni.specs.JniFunction.{calls_method, parameters_for, prototype}
use Rattle.jni.specs.declared.kinds.ParameterKind.{ParameterKind}
use Rattle.jni.specs.declared.kinds.ParameterKind.TheVariants.{Passed}

-- a function that calls no method takes its own alone
pub own_parameters : (f : JniFunction) (n : ℕ) → calls_method f ≡ false → parameters_for f n ≡ (prototype f).parameters
own_parameters f n is =
    ap (λ (b : Bool). (prototype f).parameters ++ (if b then replicate (n - length (prototype f).parameters) Passed else [])) is ∙ append-nil (prototype f).parameters

module _ (q : ParameterKind → Bool) (away : q Passed ≡ false) where
  none_replicated : (n : ℕ) → list_any q (replicate n Passed) ≡ false
  none_replicated zero = refl
  none_replicated (suc n) = ap (λ (b : Bool). b || list_any q (replicate n Passed)) away ∙ none_replicated n

  none_of_more : (own more : List ParameterKind) → list_any q own ≡ false → list_any q more ≡ false → list_any q (own ++ more) ≡ false
  none_of_more [] more h g = g
  none_of_more (parameter ∷ own) more h g =
      let both = or_parts (q parameter) (list_any q own) h in
      ap (λ (b : Bool). b || list_any q (own ++ more)) both.0 ∙ none_of_more own more both.1 g

  none_if : (n : ℕ) (b : Bool) → list_any q (if b then replicate n Passed else []) ≡ false
  none_if n true = none_replicated n
  none_if n false = refl

  pub none_among : (f : JniFunction) (n : ℕ) → list_any q (prototype f).parameters ≡ false → list_any q (parameters_for f n) ≡ false
  none_among f n h = none_of_more (prototype f).parameters (if calls_method f then replicate (n - length (prototype f).parameters) Passed else []) h (none_if (n - length (prototype f).parameters) (calls_method f))
