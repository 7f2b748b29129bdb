-- Typed objects stay so when the values of one change, and when one more is made.
use Rattle.std.proofs.Common.{◌≡◌, ◌≢◌, inl, inr, ℕ, zero, suc, ◌+◌, ◌-◌, ◌<◌, ◌≤◌, Bool, true, false, List, [], ◌∷◌, ◌++◌, length, Option, Some, None, refl, sym, ap, ◌∙◌, subst, arith}
use Rattle.std.specs.Prelude.{slice_get, slice_set, IsTrue, ◌==◌}
use Rattle.std.proofs.lemmas.Bool.Decides.{nat_tests}
use Rattle.base.specs.Bytes.{Identifier}
use Rattle.base.specs.declared.element.ElementType.{ElementType}
use Rattle.base.proofs.Lists.{get_front}
use Rattle.class_rules.specs.BuiltIns.{class_class}
use Rattle.class_rules.specs.Class.{FieldType, NumberField, ReferenceField, Classes, assignable}
use Rattle.semantics.specs.Heap.{Heap, object_at, class_of, values_of, with_values}
use Rattle.semantics.specs.Object.{ObjectValue, Number, Refers, Reference, Object}
use Rattle.semantics.specs.Variable.{Variable, Scalar, LocalRef, FieldHandle, MethodHandle, Elements, LocalArray, NoBuffer, Copy, View, Variables}
use Rattle.semantics_typing.specs.Objects.{ReferenceFits, ValueFits, PlaceFits, element_type_of, fields_of, type_at, IsTypedObject, AreTypedObjects, HasNumbers, IsTypedVariable, AreTypedVariables, ShapesStay}
use Rattle.semantics_typing.proofs.Lists.{get_set, set_there, set_elsewhere, get_last, all_later}

-- ---- the object of a name

pub class_there : (heap : Heap) (n : ℕ) (o : Object) → object_at heap n ≡ Some o → class_of heap n ≡ o.class
class_there heap n o at = cc (at)

pub values_there : (heap : Heap) (n : ℕ) (o : Object) → object_at heap n ≡ Some o → values_of heap n ≡ o.values
values_there heap n o at = cc (at)

pub one_object : (heap : Heap) (n : ℕ) (o p : Object) → object_at heap n ≡ Some o → object_at heap n ≡ Some p → o ≡ p
one_object heap n o p e f = let both : Some o ≡ Some p = sym e ∙ f in cc

-- ---- what stays

pub shapes_same : (heap : Heap) → ShapesStay heap heap
shapes_same heap n o at = (o, at, refl, refl)

pub shapes_after : (a b c : Heap) → ShapesStay a b → ShapesStay b c → ShapesStay a c
shapes_after a b c f g n o at =
    let p = f n o at in
    let q = g n p.0 p.1 in
    (q.0, q.1, q.2 ∙ p.2, q.3 ∙ p.3)

module _ (classes : Classes) (before after : Heap) (stay : ShapesStay before after) where
  pub reference_later : (c : ℕ) (r : Reference) → ReferenceFits classes before c r → ReferenceFits classes after c r
  reference_later c None h = tt
  reference_later c (Some n) (o, at, ok) = let p = stay n o at in (p.0, p.1, subst (λ (d : ℕ). IsTrue (assignable classes d c)) (sym p.2) ok)

  pub value_later : (t : FieldType) (v : ObjectValue) → ValueFits classes before t v → ValueFits classes after t v
  value_later (NumberField t) (Number z) h = h
  value_later (NumberField t) (Refers r) h = absurd h
  value_later (ReferenceField c) (Number z) h = absurd h
  value_later (ReferenceField c) (Refers r) h = reference_later c r h

  pub place_later : (t : Option FieldType) (v : ObjectValue) → PlaceFits classes before t v → PlaceFits classes after t v
  place_later None v h = h
  place_later (Some t) v h = value_later t v h

  pub object_later : (n : ℕ) (o : Object) → IsTypedObject classes before n o → IsTypedObject classes after n o
  object_later n o h = record { low = h.low; high = h.high; of_class = h.of_class; count = h.count; values = λ i v e. place_later (type_at classes n o.class i) v (h.values i v e) }

  pub numbers_later : (t : ElementType) (n : ℕ) → HasNumbers classes before t n → HasNumbers classes after t n
  numbers_later t n (o, at, is) = let p = stay n o at in (p.0, p.1, ap (element_type_of classes) p.2 ∙ is)

  length_later : (n : ℕ) (o : Object) → object_at before n ≡ Some o → length (values_of before n) ≡ length (values_of after n)
  length_later n o at =
      let p = stay n o at in
      ap length (values_there before n o at) ∙ sym p.3 ∙ ap length (sym (values_there after n p.0 p.1))

  pub variable_later : (v : Variable) → IsTypedVariable classes before v → IsTypedVariable classes after v
  variable_later (Scalar v) h = tt
  variable_later (LocalRef level r) h = tt
  variable_later (FieldHandle None) h = tt
  variable_later (FieldHandle (Some f)) h = h
  variable_later (MethodHandle m) h = tt
  variable_later (LocalArray t zs) h = h
  variable_later (Elements t NoBuffer) h = tt
  variable_later (Elements t (View n)) h = numbers_later t n h
  variable_later (Elements t (Copy n zs)) h = (numbers_later t n h.0, h.1, h.2 ∙ length_later n h.0.0 h.0.1)

  pub variables_later : (vs : Variables) → AreTypedVariables classes before vs → AreTypedVariables classes after vs
  variables_later vs h = all_later (λ (v : Identifier × Variable). IsTypedVariable classes before v.1) (λ (v : Identifier × Variable). IsTypedVariable classes after v.1) vs (λ v g. variable_later v.1 g) h

-- what a change leaves
pub record Keeps (classes : Classes) (before after : Heap) : Type 0 where
  pub stay : ShapesStay before after
  pub typed : AreTypedObjects classes after

pub keeps_same : (classes : Classes) (heap : Heap) → AreTypedObjects classes heap → Keeps classes heap heap
keeps_same classes heap h = record { stay = shapes_same heap; typed = h }

pub keeps_after : (classes : Classes) (a b c : Heap) → Keeps classes a b → Keeps classes b c → Keeps classes a c
keeps_after classes a b c f g = record { stay = shapes_after a b c f.stay g.stay; typed = g.typed }

classes_stay : (classes : Classes) (before after : Heap) → ShapesStay before after → ((n : ℕ) → 0 < n → n ≤ length classes → (o : Object) × (object_at before n ≡ Some o) × (o.class ≡ class_class))
    → (n : ℕ) → 0 < n → n ≤ length classes → (o : Object) × (object_at after n ≡ Some o) × (o.class ≡ class_class)
classes_stay classes before after stay h n low high =
    let o = h n low high in
    let p = stay n o.0 o.1 in
    (p.0, p.1, p.2 ∙ o.2)

-- ---- other values in an object

module _ (classes : Classes) (heap : Heap) (typed : AreTypedObjects classes heap) (m : ℕ) (o : Object) (at : object_at heap (suc m) ≡ Some o) (vs : List ObjectValue) (same : length vs ≡ length o.values) where
  -- the object after the change
  written : Object
  written = record { class = class_of heap (suc m); values = vs }

  class_is : written.class ≡ o.class
  unfolding written
  class_is = class_there heap (suc m) o at

  abbrev after : Heap
  after = slice_set heap m written

  stays : ShapesStay heap after
  unfolding written
  stays zero x e = absurd (cc)
  stays (suc j) x e = by_place (m == j) refl
    where
      by_place : (b : Bool) → (m == j) ≡ b → (p : Object) × (slice_get after j ≡ Some p) × (p.class ≡ x.class) × (length p.values ≡ length x.values)
      by_place true is =
          let here : m ≡ j = grind (arith, nat_tests, is) in
          let one : o ≡ x = one_object heap (suc j) o x (subst (λ (i : ℕ). slice_get heap i ≡ Some o) here at) e in
          (written, subst (λ (i : ℕ). slice_get after i ≡ Some written) here (set_there heap m o written at), class_is ∙ ap (λ (y : Object). y.class) one, same ∙ ap (λ (y : Object). length y.values) one)
      by_place false is =
          let away : m ≢ j = grind (arith, nat_tests, is) in
          (x, set_elsewhere heap m j written away ∙ e, refl, refl)

  module _ (fits : (i : ℕ) (v : ObjectValue) → slice_get vs i ≡ Some v → PlaceFits classes heap (type_at classes (suc m) o.class i) v) where
    written_typed : IsTypedObject classes after (suc m) written
    unfolding written
    written_typed =
        let was = typed.objects (suc m) o at in
        let is : class_of heap (suc m) ≡ o.class = class_there heap (suc m) o at in
        record {
          low = subst (λ (c : ℕ). 0 < c) (sym is) was.low;
          high = subst (λ (c : ℕ). c ≤ length classes) (sym is) was.high;
          of_class = λ e. was.of_class (sym is ∙ e);
          count = λ e. same ∙ was.count (ap (element_type_of classes) (sym is) ∙ e) ∙ ap (λ (c : ℕ). length (fields_of classes (suc m) c)) (sym is);
          values = λ i v e. place_later classes heap after stays (type_at classes (suc m) (class_of heap (suc m)) i) v (subst (λ (c : ℕ). PlaceFits classes heap (type_at classes (suc m) c i) v) (sym is) (fits i v e));
        }

    objects_typed : (n : ℕ) (x : Object) → object_at after n ≡ Some x → IsTypedObject classes after n x
    objects_typed zero x e = absurd (cc)
    objects_typed (suc j) x e = elim (get_set heap m j written x e) [
      | inl old ↦ object_later classes heap after stays (suc j) x (typed.objects (suc j) x old)
      | inr (here, is) ↦ subst (λ (i : ℕ). IsTypedObject classes after (suc i) x) here (subst (IsTypedObject classes after (suc m)) is written_typed)
    ]

    slot : Keeps classes heap after
    slot = record { stay = stays; typed = record { objects = objects_typed; class_objects = classes_stay classes heap after stays typed.class_objects } }

pub keeps_values : (classes : Classes) (heap : Heap) → AreTypedObjects classes heap → (n : ℕ) (o : Object) → object_at heap n ≡ Some o → (vs : List ObjectValue) → length vs ≡ length o.values
    → ((i : ℕ) (v : ObjectValue) → slice_get vs i ≡ Some v → PlaceFits classes heap (type_at classes n o.class i) v) → Keeps classes heap (with_values heap n vs)
unfolding written
keeps_values classes heap typed zero o at vs same fits = absurd (cc)
keeps_values classes heap typed (suc m) o at vs same fits = slot classes heap typed m o at vs same fits

-- ---- one object more

module _ (classes : Classes) (heap : Heap) (typed : AreTypedObjects classes heap) (o : Object) where
  more_stay : ShapesStay heap (heap ++ o ∷ [])
  more_stay zero x e = absurd (cc)
  more_stay (suc i) x e = (x, get_front heap (o ∷ []) i x e, refl, refl)

  pub keeps_more : IsTypedObject classes heap (length heap + 1) o → Keeps classes heap (heap ++ o ∷ [])
  keeps_more new = record { stay = more_stay; typed = record { objects = each; class_objects = classes_stay classes heap (heap ++ o ∷ []) more_stay typed.class_objects } }
    where
      each : (n : ℕ) (x : Object) → object_at (heap ++ o ∷ []) n ≡ Some x → IsTypedObject classes (heap ++ o ∷ []) n x
      each zero x e = absurd (cc)
      each (suc i) x e = elim (get_last heap o x i e) [
        | inl old ↦ object_later classes heap (heap ++ o ∷ []) more_stay (suc i) x (typed.objects (suc i) x old)
        | inr (last, is) ↦
            let name : length heap + 1 ≡ suc i = omega (arith, last) in
            object_later classes heap (heap ++ o ∷ []) more_stay (suc i) x (subst (λ (n : ℕ). IsTypedObject classes heap n x) name (subst (IsTypedObject classes heap (length heap + 1)) is new))
      ]
