-- What the arguments of a call are that calls a method.
use Rattle.std.proofs.Common.{◌≡◌, ◌≤◌, ◌-◌, Bool, true, false, List, [], ◌∷◌, Option, Some, get_or, length, map, take, drop, refl, sym, ap, ◌∙◌, subst, arith}
use Rattle.std.specs.Prelude.{◌&&◌, ◌==◌}
use Rattle.std.proofs.lemmas.Simd.{map-map}
use Rattle.std.proofs.lemmas.List.{take_all}
use Rattle.base.specs.declared.element.ElementType.{ElementType}
use Rattle.class_rules.specs.Class.{Classes}
use Rattle.jni.specs.declared.function.JniFunction.{JniFunction}
use Rattle.syntax.specs.declared.unit.ResultType.{ResultType}
use Rattle.syntax.specs.Tree.{Parameter}
use Rattle.syntax.specs.Views.{parameter_tree}
use Rattle.syntax.specs.declared.unit.Parameter.{Parameter as ParameterInMemory}
use Rattle.semantics.specs.Arguments.{Actual}
use Rattle.semantics.specs.CallSight.{CallSight, argument_seen, name_of_first}
use Rattle.semantics.specs.Checks.{all_pass, calls_well, go_together, passes}
use Rattle.semantics.specs.Heap.{Heap}
use Rattle.semantics.specs.Method.{MethodId}
use Rattle.replay_arguments.specs.Actuals.{actual_view}
use Rattle.replay_arguments.specs.Sights.{is_wanted}
use Rattle.replay_arguments.specs.declared.actual.Actual.{Actual as ActualInMemory}

-- ---- what a method takes

-- a list without its first element
abbrev pub after_first : {A : Type 0} → List A → List A
after_first xs = take (length xs - 1) (drop 1 xs)

pub first_is : {A : Type 0} (xs : List A) (d : A) → 1 ≤ length xs → get_or xs 0 d ∷ after_first xs ≡ xs
first_is [] d low = absurd (omega arith)
first_is {A = A} (x ∷ xs) d low = ap (λ (l : List A). x ∷ l) (take_all (length (x ∷ xs) - 1) xs (omega arith))

module _ (heap : Heap) where
  abbrev first_passes : ParameterInMemory → ActualInMemory → Bool
  first_passes p a = passes p.kind (argument_seen heap (Some (actual_view a)))

  abbrev pass : List ParameterInMemory → List ActualInMemory → Bool
  pass ps actuals = all_pass (map parameter_tree ps) (map (λ a. argument_seen heap (Some (actual_view a))) actuals)

  pass_both : (p : ParameterInMemory) (a : ActualInMemory) (ps rest : List ParameterInMemory) (actuals others : List ActualInMemory) → p ∷ rest ≡ ps → a ∷ others ≡ actuals
      → (first_passes p a && pass rest others) ≡ pass ps actuals
  pass_both p a ps rest actuals others parameters_are actuals_are = ap (λ (l : List ParameterInMemory). pass l (a ∷ others)) parameters_are ∙ ap (pass ps) actuals_are

  -- the first fits, and the rest does or doesn't
  pub first_fits : (p : ParameterInMemory) (a : ActualInMemory) (ps : List ParameterInMemory) (actuals : List ActualInMemory) (found further : Bool) → p ∷ after_first ps ≡ ps → a ∷ after_first actuals ≡ actuals
      → found ≡ true → found ≡ first_passes p a → further ≡ pass (after_first ps) (after_first actuals) → further ≡ pass ps actuals
  first_fits p a ps actuals found further parameters_are actuals_are is first rest =
      rest
      ∙ ap (λ b. b && pass (after_first ps) (after_first actuals)) (sym is ∙ first)
      ∙ pass_both p a ps (after_first ps) actuals (after_first actuals) parameters_are actuals_are

  -- the first doesn't
  pub first_misfits : (p : ParameterInMemory) (a : ActualInMemory) (ps : List ParameterInMemory) (actuals : List ActualInMemory) (found : Bool) → p ∷ after_first ps ≡ ps → a ∷ after_first actuals ≡ actuals
      → found ≡ false → found ≡ first_passes p a → found ≡ pass ps actuals
  first_misfits p a ps actuals found parameters_are actuals_are is first =
      is
      ∙ ap (λ b. b && pass (after_first ps) (after_first actuals)) (sym is ∙ first)
      ∙ pass_both p a ps (after_first ps) actuals (after_first actuals) parameters_are actuals_are

-- a function that calls a method asks whether it is called well
module _ (classes : Classes) (element : ElementType) (sight : JniFunction → CallSight) (method : Option MethodId) where
  pub called_well : (f g : JniFunction) (fits : Bool) → f ≡ g → calls_well classes (sight g) (is_wanted g) method ≡ go_together classes (sight g) element g
      → fits ≡ calls_well classes (sight f) (is_wanted f) method → fits ≡ go_together classes (sight f) element f
  called_well f g fits same is = subst (λ (k : JniFunction). fits ≡ calls_well classes (sight k) (is_wanted k) method → fits ≡ go_together classes (sight k) element k) (sym same) (λ h. h ∙ is)

-- a method is called well where its class, its result and what it is passed fit
pub well_called : (classes : Classes) (sight : CallSight) (wants : ResultType → Bool) (o : Option MethodId) (m : MethodId) (found : Bool) → o ≡ Some m
    → (m.class == name_of_first sight) ≡ true → wants m.function.result ≡ true → found ≡ all_pass m.function.parameters (drop 2 sight.arguments)
    → found ≡ calls_well classes sight wants o
well_called classes sight wants o m found given class result fits =
    fits ∙ sym (ap (calls_well classes sight wants) given ∙ (λ i. class i && result i && all_pass m.function.parameters (drop 2 sight.arguments)))

-- what is seen of arguments after the first two is what is passed
pub all_seen_pass : (heap : Heap) (parameters : List Parameter) (passed actuals : List ActualInMemory) (found : Bool) → passed ≡ drop 2 actuals
    → found ≡ all_pass parameters (map (λ a. argument_seen heap (Some (actual_view a))) passed)
    → found ≡ all_pass parameters (drop 2 (map (λ (a : Actual). argument_seen heap (Some a)) (map actual_view actuals)))
all_seen_pass heap parameters passed actuals found are fits =
    fits ∙ ap (λ (l : List ActualInMemory). all_pass parameters (map (λ a. argument_seen heap (Some (actual_view a))) l)) are ∙ ap (all_pass parameters) (seen_after actuals)
  where
    seen_after : (l : List ActualInMemory) → map (λ a. argument_seen heap (Some (actual_view a))) (drop 2 l) ≡ drop 2 (map (λ (a : Actual). argument_seen heap (Some a)) (map actual_view l))
    seen_after [] = refl
    seen_after (a ∷ []) = refl
    seen_after (a ∷ b ∷ l) = sym (map-map _ actual_view l)
