-- A method that GetStaticMethodID finds in a unit of which no two functions have one name can be called.
use Rattle.std.proofs.Common.{◌≡◌, ℕ, zero, suc, ◌+◌, Bool, true, false, ◌&&◌, List, [], ◌∷◌, ◌++◌, filter, flat_map, Option, Some, None, refl, sym, ap, ◌∙◌, subst, if◌then◌else◌}
use Rattle.std.specs.Prelude.{slice_get}
use Rattle.std.specs.List.{AllByRecursion}
use Rattle.std.specs.Option.{option_map, option_map_or, option_and_then}
use Rattle.std.specs.Str.{bytes_eq}
use Rattle.std.proofs.lemmas.Bool.{and_parts}
use Rattle.std.proofs.lemmas.Iterator.Adapters.{position_from-zero}
use Rattle.std.proofs.lemmas.Slice.Eq.{bytes_eq-Decides}
use Rattle.base.specs.Bytes.{Identifier}
use Rattle.class_rules.specs.Class.{Class, Classes, class_name, class_named, ancestry}
use Rattle.class_rules.specs.Mangling.{is_class_name, is_simple_name, is_unmangled, mangle, unmangle, IsInverse}
use Rattle.class_rules.proofs.FoundClasses.{found_from}
use Rattle.syntax.specs.Parts.{functions_of}
use Rattle.syntax.specs.Tree.{Function, SourceUnit}
use Rattle.semantics.specs.Activation.{class_of_function, function_at}
use Rattle.semantics.specs.Method.{MethodId, find_method, is_method_of, method_signature, methods_named}
use Rattle.semantics_safety.specs.StepSafe.{IsCallable}

-- ---- a class of a name

class_found : (cs : Classes) (name : Identifier) (i : ℕ) (c : Class) → slice_get cs i ≡ Some c → bytes_eq c.name name ≡ true → (j : ℕ) × (class_named cs name ≡ Some j)
class_found cs name i c there same =
    let found = found_from (λ (d : Class). bytes_eq d.name name) 0 cs i c there same in
    (found.0 + 1, ap (option_map (λ j. j + 1)) (position_from-zero (λ (d : Class). bytes_eq d.name name) cs ∙ found.1))

-- one whose name is a class's is in the table
class_there : (cs : Classes) (d : ℕ) → is_class_name (class_name cs d) ≡ true → (j : ℕ) × (class_named cs (class_name cs d) ≡ Some j)
class_there cs zero h = absurd (cc)
class_there cs (suc i) h = by_place (slice_get cs i) refl h
  where
    by_place : (o : Option Class) → slice_get cs i ≡ o → is_class_name (option_map_or (λ (c : Class). c.name) o []) ≡ true
        → (j : ℕ) × (class_named cs (option_map_or (λ (c : Class). c.name) (slice_get cs i) []) ≡ Some j)
    by_place None e g = absurd (cc)
    by_place (Some c) e g =
        subst (λ (o : Option Class). (j : ℕ) × (class_named cs (option_map_or (λ (c : Class). c.name) o []) ≡ Some j)) (sym e)
        (class_found cs c.name i c e ((bytes_eq-Decides c.name c.name).1 refl))

-- ---- a function

module _ (inverse : IsInverse) (classes : Classes) where
  -- the native method of a class has that class
  class_of_method : (f : Function) (d : ℕ) (name : Identifier) → is_unmangled f.name (class_name classes d, name) ≡ true → (c : ℕ) × (class_of_function classes f ≡ Some c)
  class_of_method f d name h =
      let one = and_parts (is_class_name (class_name classes d) && is_simple_name name) (bytes_eq (mangle (class_name classes d) name) f.name) h in
      let two = and_parts (is_class_name (class_name classes d)) (is_simple_name name) one.0 in
      let spelled : f.name ≡ mangle (class_name classes d) name = sym ((bytes_eq-Decides (mangle (class_name classes d) name) f.name).0 one.1) in
      let is : unmangle f.name ≡ Some (class_name classes d, name) = (inverse f.name (class_name classes d) name).1 (two.0, two.1, spelled) in
      let of_class : class_of_function classes f ≡ class_named classes (class_name classes d) =
      ap (λ (o : Option (Identifier × Identifier)). option_and_then (class_named classes) (option_map (λ (parts : Identifier × Identifier). parts.0) o)) is in
      let found = class_there classes d two.0 in
      (found.0, of_class ∙ found.1)

  module _ (unit : SourceUnit) where
    -- a function that is found by its name, as its class is
    abbrev IsFound : Function → Type 0
    IsFound f = (function_at unit f.name ≡ Some f) × ((c : ℕ) × (class_of_function classes f ≡ Some c))

    one_found : (f : Function) (fs : List Function) (b : Bool) → (b ≡ true → IsFound f) → AllByRecursion IsFound fs → AllByRecursion IsFound (if b then f ∷ fs else fs)
    one_found f fs true h later = (h refl, later)
    one_found f fs false h later = later

    filtered_found : (d : ℕ) (name text : List ℕ) (fs : List Function) → AllByRecursion (λ (f : Function). function_at unit f.name ≡ Some f) fs → AllByRecursion IsFound (filter (is_method_of classes d name text) fs)
    filtered_found d name text [] named = tt
    filtered_found d name text (f ∷ fs) named =
        one_found f (filter (is_method_of classes d name text) fs) (is_method_of classes d name text f)
        (λ is. (named.0, class_of_method f d name (and_parts (is_unmangled f.name (class_name classes d, name)) (bytes_eq (method_signature f) text) is).0))
        (filtered_found d name text fs named.1)

    both_found : (fs gs : List Function) → AllByRecursion IsFound fs → AllByRecursion IsFound gs → AllByRecursion IsFound (fs ++ gs)
    both_found [] gs h g = g
    both_found (f ∷ fs) gs h g = (h.0, both_found fs gs h.1 g)

    module _ (named : AllByRecursion (λ (f : Function). function_at unit f.name ≡ Some f) (functions_of unit)) where
      all_found : (name text : List ℕ) (ds : List ℕ) → AllByRecursion IsFound (flat_map (λ d. filter (is_method_of classes d name text) (functions_of unit)) ds)
      all_found name text [] = tt
      all_found name text (d ∷ ds) =
          both_found (filter (is_method_of classes d name text) (functions_of unit)) (flat_map (λ d. filter (is_method_of classes d name text) (functions_of unit)) ds)
          (filtered_found d name text (functions_of unit) named) (all_found name text ds)

      first_found : (c : ℕ) (fs : List Function) (m : MethodId) → AllByRecursion IsFound fs → option_map (λ f. record { class = c; function = f }) (slice_get fs 0) ≡ Some m → IsCallable unit classes m
      first_found c [] m all e = absurd (cc)
      first_found c (f ∷ fs) m all e =
          let same : record { class = c; function = f } ≡ m = cc in
          subst (IsCallable unit classes) same (record { named = all.0.0; class = all.0.1.0; of_class = all.0.1.1 })

      -- what GetStaticMethodID gives
      pub found_is_callable : (c : ℕ) (name text : List ℕ) (m : MethodId) → find_method unit classes c name text ≡ Some m → IsCallable unit classes m
      found_is_callable c name text m e = first_found c (methods_named unit classes c name text) m (all_found name text (ancestry classes c)) e
