-- What calls and steps write into objects, and which objects they make.
use Rattle.std.proofs.Common.{◌≡◌, ◌≢◌, inl, inr, ℕ, ℤ, zero, suc, pos, ◌<◌, ◌≤◌, true, false, List, [], ◌∷◌, length, map, replicate, Option, Some, None, refl, sym, ap, ◌∙◌, subst, arith}
use Rattle.std.specs.Prelude.{slice_get, slice_set, IsTrue, ◌==◌}
use Rattle.std.specs.Option.{option_map, option_map_or}
use Rattle.std.proofs.lemmas.Bool.Decides.{nat_tests}
use Rattle.std.proofs.lemmas.List.{length-map}
use Rattle.std.proofs.lemmas.Option.{slice_get-map}
use lib.ListN.{length-set}
use Rattle.base.specs.declared.element.ElementType.{ElementType}
use Rattle.base.specs.declared.element.ElementType.TheVariants.{Int as JInt, Short as JShort, Byte as JByte, Char as JChar}
use Rattle.class_rules.specs.BuiltIns.{class_class, string_class, number_array}
use Rattle.class_rules.specs.Class.{FieldType, NumberField, ReferenceField, Classes, assignable}
use Rattle.class_rules.specs.Fields.{FieldId, layout}
use Rattle.class_rules.specs.Grown.{IsGrown}
use Rattle.semantics.specs.CallEffects.{string_object}
use Rattle.semantics.specs.Heap.{Heap, object_at, class_of, values_of, with_value_at, with_numbers, numbers_of, number_in, fits_class}
use Rattle.semantics.specs.Object.{ObjectValue, Number, Refers, Reference, Object}
use Rattle.semantics.specs.World.{initial, fresh_object}
use Rattle.world_values.specs.WorldRules.{is_in_range}
use Rattle.world_values.proofs.LoadedWorlds.{map_get}
use Rattle.semantics_typing.specs.Objects.{ReferenceFits, ValueFits, PlaceFits, element_type_of, type_at, IsTypedObject, AreTypedObjects, AreInRange, HasNumbers}
use Rattle.semantics_typing.proofs.Heaps.{values_there, Keeps, keeps_values}
use Rattle.semantics_typing.proofs.TableKinds.{IsMakeable, makes, field_type, has_fields, zero_assignable, grown_long, kind_string, kind_numbers}
use Rattle.semantics_typing.proofs.Lists.{get_set, all_get}
use Rattle.semantics_typing.proofs.Ranges.{zero_in_range}

-- ---- an object of a class is there

pub there : (heap : Heap) (n c : ℕ) → class_of heap n ≡ c → 0 < c → (o : Object) × (object_at heap n ≡ Some o) × (o.class ≡ c)
there heap n c is low = by_object (object_at heap n) refl is
  where
    by_object : (o : Option Object) → object_at heap n ≡ o → option_map_or (λ (o : Object). o.class) o 0 ≡ c → (o : Object) × (object_at heap n ≡ Some o) × (o.class ≡ c)
    by_object None e h = absurd (let zero : c ≡ 0 = sym h in omega (arith, zero, low))
    by_object (Some o) e h = (o, e, h)

pub there_if : (classes : Classes) (heap : Heap) (n d : ℕ) → assignable classes (class_of heap n) d ≡ true → 0 < d → (o : Object) × (object_at heap n ≡ Some o) × (o.class ≡ class_of heap n)
there_if classes heap n d h low = there heap n (class_of heap n) refl (some (class_of heap n) refl)
  where
    some : (c : ℕ) → class_of heap n ≡ c → 0 < c
    some zero e = absurd (let none = zero_assignable classes d (ap (λ (c : ℕ). assignable classes c d) (sym e) ∙ h) in omega (arith, none, low))
    some (suc c) e = omega arith

pub reference_fits : (classes : Classes) (heap : Heap) (r : Reference) (c : ℕ) → fits_class classes heap r c ≡ true → 0 < c → ReferenceFits classes heap c r
reference_fits classes heap None c h low = tt
reference_fits classes heap (Some n) c h low =
    let o = there_if classes heap n c h low in
    (o.0, o.1, ap (λ (d : ℕ). assignable classes d c) o.2 ∙ h)

-- ---- one value

pub keeps_place : (classes : Classes) (heap : Heap) → AreTypedObjects classes heap → (n i : ℕ) (o : Object) (v : ObjectValue) → object_at heap n ≡ Some o → PlaceFits classes heap (type_at classes n o.class i) v → Keeps classes heap (with_value_at heap n i v)
keeps_place classes heap typed n i o v at fits =
    let is = values_there heap n o at in
    keeps_values classes heap typed n o at (slice_set (values_of heap n) i v) (length-set (values_of heap n) i v ∙ ap length is)
    (λ j w e. elim (get_set (values_of heap n) i j v w e) [
      | inl old ↦ (typed.objects n o at).values j w (ap (λ (l : List ObjectValue). slice_get l j) (sym is) ∙ old)
      | inr (here, same) ↦ subst (λ (k : ℕ). PlaceFits classes heap (type_at classes n o.class k) w) here (subst (PlaceFits classes heap (type_at classes n o.class i)) same fits)
    ])

-- ---- the numbers of an array or a string

number_at : (t : ElementType) (zs : List ℤ) (i : ℕ) (v : ObjectValue) → AreInRange t zs → slice_get (map Number zs) i ≡ Some v → (z : ℤ) × (Number z ≡ v) × IsTrue (is_in_range t z)
number_at t zs i v all e = let at = map_get Number zs i v e in (at.0, at.2, all_get (λ z. IsTrue (is_in_range t z)) zs i at.0 all at.1)

pub numbers_fit : (classes : Classes) (heap : Heap) (n c : ℕ) (t : ElementType) (zs : List ℤ) → element_type_of classes c ≡ Some (NumberField t) → AreInRange t zs → (i : ℕ) (v : ObjectValue) → slice_get (map Number zs) i ≡ Some v → PlaceFits classes heap (type_at classes n c i) v
numbers_fit classes heap n c t zs is all i v e =
    let at = number_at t zs i v all e in
    rw is (subst (λ (w : ObjectValue). ValueFits classes heap (NumberField t) w) at.1 at.2)

pub keeps_numbers : (classes : Classes) (heap : Heap) → AreTypedObjects classes heap → (n : ℕ) (t : ElementType) (zs : List ℤ) → HasNumbers classes heap t n → AreInRange t zs → length zs ≡ length (values_of heap n) → Keeps classes heap (with_numbers heap n zs)
keeps_numbers classes heap typed n t zs (o, at, is) all same =
    keeps_values classes heap typed n o at (map Number zs) (length-map zs Number ∙ same ∙ ap length (values_there heap n o at)) (numbers_fit classes heap n o.class t zs is all)

numbers_in : (classes : Classes) (heap : Heap) (t : ElementType) (vs : List ObjectValue) → ((i : ℕ) (v : ObjectValue) → slice_get vs i ≡ Some v → ValueFits classes heap (NumberField t) v) → AreInRange t (map number_in vs)
numbers_in classes heap t [] h = tt
numbers_in classes heap t (Number z ∷ vs) h = (h 0 (Number z) refl, numbers_in classes heap t vs (λ i v e. h (suc i) v e))
numbers_in classes heap t (Refers r ∷ vs) h = absurd (h 0 (Refers r) refl)

-- those of an array or a string are in range
pub numbers_of_typed : (classes : Classes) (heap : Heap) → AreTypedObjects classes heap → (n : ℕ) (t : ElementType) → HasNumbers classes heap t n → AreInRange t (numbers_of heap n)
numbers_of_typed classes heap typed n t (o, at, is) =
    subst (λ (vs : List ObjectValue). AreInRange t (map number_in vs)) (sym (values_there heap n o at))
    (numbers_in classes heap t o.values (λ i v e. let h : PlaceFits classes heap (type_at classes n o.class i) v = (typed.objects n o at).values i v e in rw is at h))

pub numbers_count : (heap : Heap) (n : ℕ) → length (numbers_of heap n) ≡ length (values_of heap n)
numbers_count heap n = length-map (values_of heap n) number_in

-- ---- new objects

pub fresh_at : (classes : Classes) (heap : Heap) (fields : List FieldId) (i : ℕ) (v : ObjectValue) → slice_get (map (λ (f : FieldId). initial f.field.type) fields) i ≡ Some v → PlaceFits classes heap (option_map (λ (f : FieldId). f.field.type) (slice_get fields i)) v
fresh_at classes heap fields i v e =
    let at = map_get (λ (f : FieldId). initial f.field.type) fields i v e in
    subst (λ (o : Option FieldId). PlaceFits classes heap (option_map (λ (f : FieldId). f.field.type) o) v) (sym at.1)
    (subst (ValueFits classes heap at.0.field.type) at.2 (new at.0.field.type))
  where
    new : (t : FieldType) → ValueFits classes heap t (initial t)
    new (NumberField t) = zero_in_range t
    new (ReferenceField c) = tt

pub fresh_typed : (classes : Classes) (heap : Heap) (n c : ℕ) → IsMakeable classes c → IsTypedObject classes heap n (fresh_object classes c)
fresh_typed classes heap n c h = record {
  low = h.low;
  high = h.high;
  of_class = λ e. absurd (let no = (makes classes c h.making).2 in let yes : (c == class_class) ≡ true = grind (arith, nat_tests, e) in let both : true ≡ false = sym yes ∙ no in cc);
  count = λ e. length-map (layout classes c) (λ (f : FieldId). initial f.field.type) ∙ ap length (sym (has_fields classes n c h.making));
  values = λ i v e. subst (λ (t : Option FieldType). PlaceFits classes heap t v) (sym (field_type classes n c i h.making)) (fresh_at classes heap (layout classes c) i v e);
}

replicate_at : (k : ℕ) (v w : ObjectValue) (i : ℕ) → slice_get (replicate k v) i ≡ Some w → v ≡ w
replicate_at zero v w i e = absurd (cc)
replicate_at (suc k) v w zero e = cc
replicate_at (suc k) v w (suc i) e = replicate_at k v w i e

-- an array of equal elements
pub array_typed : (classes : Classes) (heap : Heap) (n c k : ℕ) (t : FieldType) (v : ObjectValue) → 0 < c → c ≤ length classes → c ≢ class_class → element_type_of classes c ≡ Some t → ValueFits classes heap t v → IsTypedObject classes heap n (record { class = c; values = replicate k v })
array_typed classes heap n c k t v low high no_class is fits = record {
  low = low;
  high = high;
  of_class = λ e. absurd (no_class e);
  count = λ e. absurd (let both : Some t ≡ None = sym is ∙ e in cc);
  values = λ i w e. let same = replicate_at k v w i e in rw is (subst (ValueFits classes heap t) same fits);
}

module _ (classes : Classes) (g : IsGrown classes) where
  long : 42 ≤ length classes
  long = grown_long classes g

  number_element : (t : ElementType) → element_type_of classes (number_array t) ≡ Some (NumberField t)
  number_element JInt = rw (kind_numbers classes g JInt) refl
  number_element JShort = rw (kind_numbers classes g JShort) refl
  number_element JByte = rw (kind_numbers classes g JByte) refl
  number_element JChar = rw (kind_numbers classes g JChar) refl

  pub number_array_is : (t : ElementType) → (0 < number_array t) × (number_array t ≤ length classes) × (number_array t ≢ class_class) × (element_type_of classes (number_array t) ≡ Some (NumberField t))
  number_array_is JInt = (omega arith, omega (arith, long), λ e. cc, number_element JInt)
  number_array_is JShort = (omega arith, omega (arith, long), λ e. cc, number_element JShort)
  number_array_is JByte = (omega arith, omega (arith, long), λ e. cc, number_element JByte)
  number_array_is JChar = (omega arith, omega (arith, long), λ e. cc, number_element JChar)

  pub string_element : element_type_of classes string_class ≡ Some (NumberField JChar)
  string_element = rw (kind_string classes g) refl

  pub string_typed : (heap : Heap) (n : ℕ) (bytes : List ℕ) → AreInRange JChar (map pos bytes) → IsTypedObject classes heap n (string_object bytes)
  string_typed heap n bytes all = record {
    low = omega arith;
    high = omega (arith, long);
    of_class = λ e. absurd (cc);
    count = λ e. absurd (let both : Some (NumberField JChar) ≡ None = sym string_element ∙ e in cc);
    values = λ i v e.
        let at = map_get (λ b. Number (pos b)) bytes i v e in
        rw string_element (subst (λ (w : ObjectValue). ValueFits classes heap (NumberField JChar) w) at.2
        (all_get (λ z. IsTrue (is_in_range JChar z)) (map pos bytes) i (pos at.0) all (slice_get-map pos bytes i ∙ ap (option_map pos) at.1)));
  }
