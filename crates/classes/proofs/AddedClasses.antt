-- A table with one more class and its array class.
use Rattle.std.proofs.Common.{◌≡◌, ℕ, suc, ◌+◌, Bool, true, false, cond, [], ◌∷◌, ◌++◌, length, Option, Some, None, nat_lt, is_some, refl, sym, ap, ◌∙◌, append_assoc, length-append, arith}
use Rattle.std.specs.Prelude.{not, ◌||◌}
use Rattle.std.specs.Option.{option_map}
use Rattle.std.specs.List.{prefix_len}
use Rattle.std.specs.Str.{bytes_eq}
use Rattle.std.proofs.lemmas.Bool.Decides.{nat_tests}
use Rattle.std.proofs.lemmas.Slice.Eq.{bytes_eq-Decides}
use Rattle.base.specs.Bytes.{Identifier}
use Rattle.class_rules.specs.Class.{ArrayOfObjects, Class, Classes, class_named, array_name}
use Rattle.class_rules.specs.BuiltIns.{array_class, object_array_class}
use Rattle.class_rules.specs.declared.rule.ClassRule.{ClassRule}
use Rattle.class_rules.specs.declared.rule.ClassRule.TheVariants.{NameTaken}
use Rattle.class_rules.specs.Additions.{new_class, with_class}
use Rattle.class_rules.specs.Mangling.{is_class_name}
use Rattle.classes.specs.Tables.{ArraysHaveElements}
use Rattle.classes.proofs.ArrayNames.{is_same, element_name, no_array, cases, either-append, first_of_both, second_of_both}
use Rattle.classes.proofs.DistinctNames.{has_name, unnamed}
use Rattle.classes.proofs.Places.{named-other}

-- the class and its array class, put one by one
pub with_both : (T U V : Classes) (name : Identifier) (s : ℕ) (a b : Class) → U ≡ T ++ a ∷ [] → V ≡ U ++ b ∷ [] → a ≡ new_class name (Some s) → b ≡ array_class (array_name name) (ArrayOfObjects (length T + 1)) → V ≡ with_class T (new_class name (Some s))
with_both T U V name s a b first second is_a is_b =
    second
    ∙ ap (λ u. u ++ b ∷ []) first
    ∙ append_assoc T (a ∷ []) (b ∷ [])
    ∙ (λ i. T ++ is_a i ∷ is_b i ∷ [])

-- no class has the name of its arrays
not_its_arrays : (name : Identifier) → bytes_eq name (array_name name) ≡ false
not_its_arrays name = by_test (bytes_eq name (array_name name)) refl
  where
    by_test : (b : Bool) → bytes_eq name (array_name name) ≡ b → b ≡ false
    by_test true e =
        let longer : length name ≡ length (array_name name) = ap length ((bytes_eq-Decides name (array_name name)).0 e) in
        absurd (omega (arith, longer, length-append name (59 ∷ [])))
    by_test false e = refl

-- the array class is new after its class too
pub arrays_are_new : (T U : Classes) (name : Identifier) (s : ℕ) (a b : Class) → U ≡ T ++ a ∷ [] → a ≡ new_class name (Some s) → b.name ≡ array_name name → class_named T (array_name name) ≡ None → class_named U b.name ≡ None
arrays_are_new T U name s a b more is_a is_b none =
    (λ i. class_named (more i) (is_b i))
    ∙ named-other (array_name name) T a (ap (λ (c : Class). bytes_eq c.name (array_name name)) is_a ∙ not_its_arrays name)
    ∙ none

module _ (name : Identifier) where
  abbrev before : Classes → ℕ
  before U = prefix_len (λ (c : Class). not (bytes_eq c.name name)) U

  found : (U : Classes) → nat_lt (before U) (length U) ≡ has_name U name
  found [] = refl
  found (c ∷ U) = step (bytes_eq c.name name) (found U)
    where
      one_more : (n m : ℕ) → nat_lt (1 + n) (suc m) ≡ nat_lt n m
      one_more n m = grind (arith, nat_tests)

      some : (m : ℕ) → nat_lt 0 (suc m) ≡ true
      some m = grind (arith, nat_tests)

      step : (b : Bool) → nat_lt (before U) (length U) ≡ has_name U name → nat_lt (cond (not b) (1 + before U) 0) (suc (length U)) ≡ (b || has_name U name)
      step true e = some (length U)
      step false e = one_more (before U) (length U) ∙ e

  -- whether a class has the name
  pub named : (T : Classes) → is_some (class_named T name) ≡ has_name T name
  named T = shown (nat_lt (before T) (length T)) ∙ found T
    where
      shown : (b : Bool) → is_some (option_map (λ i. i + 1) (cond b (Some (before T)) None)) ≡ b
      shown true = refl
      shown false = refl

module _ (T : Classes) (name : Identifier) (new : class_named T name ≡ None) (elements : ArraysHaveElements T) where
  none : has_name T name ≡ false
  none = sym (named name T) ∙ ap is_some new

  pub no-array : has_name T (array_name name) ≡ false
  no-array = by_name (has_name T (array_name name)) refl
    where
      by_name : (b : Bool) → has_name T (array_name name) ≡ b → b ≡ false
      by_name true e = let there : has_name T name ≡ true = elements name e in let not_there = none in absurd (cc)
      by_name false e = refl

  -- where a class is new, so is that of its arrays
  pub new-array : class_named T (array_name name) ≡ None
  new-array = unnamed T (array_name name) no-array

-- a class that may be added has a new name
pub not_taken : (o : Option ℕ) (rest : Option ClassRule) → cond (is_some o) (Some NameTaken) rest ≡ None → o ≡ None
not_taken None rest h = refl
not_taken (Some c) rest h = absurd (cc)

-- the elements of each class of arrays are there after an addition too
pub added-elements : (T : Classes) (name : Identifier) (s : ℕ) → is_class_name name ≡ true → ArraysHaveElements T → ArraysHaveElements (with_class T (new_class name (Some s)))
added-elements T name s is elements other h =
    let new = new_class name (Some s) in
    let two = new ∷ object_array_class (length T + 1, new) ∷ [] in
    cases (has_name T (array_name other)) (has_name two (array_name other)) (sym (either-append T two (array_name other)) ∙ h)
    (λ q. first_of_both T two other (elements other q))
    (λ q. cases (bytes_eq name (array_name other)) (bytes_eq (array_name name) (array_name other) || false) q
    (λ r. absurd (no_array name other is r))
    (λ r. cases (bytes_eq (array_name name) (array_name other)) false r
    (λ t. let same : bytes_eq name other ≡ true = is_same name other (element_name name other ((bytes_eq-Decides (array_name name) (array_name other)).0 t)) in
    second_of_both T two other (ap (λ b. b || (bytes_eq (array_name name) other || false)) same))
    (λ t. absurd (cc))))
