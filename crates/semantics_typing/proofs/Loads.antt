-- Objects are typed when a run begins.
use Rattle.std.proofs.Common.{◌≡◌, ◌≢◌, ⊎_elim, ℕ, zero, suc, ◌+◌, ◌-◌, ◌<◌, ◌≤◌, Bool, true, false, eqb, List, [], ◌∷◌, ◌++◌, length, map, Option, Some, None, refl, sym, ap, ◌∙◌, subst, arith, append_assoc}
use Rattle.std.specs.Prelude.{slice_get, IsTrue, ◌&&◌, ◌==◌, nat_lt, nat_le}
use Rattle.std.specs.Option.{option_map}
use Rattle.std.proofs.lemmas.Bool.{ltb-true, ltb-false, leb-true, and_parts}
use Rattle.std.proofs.lemmas.Bool.Decides.{nat_tests, eqb_tells}
use Rattle.std.proofs.lemmas.List.{length-map}
use Rattle.std.proofs.lemmas.Option.{slice_get-map, slice_get-get_or}
use Rattle.std.proofs.lemmas.Slice.Zip.{AllZip-long}
use Rattle.base.specs.declared.element.ElementType.TheVariants.{Char as JChar}
use Rattle.base.proofs.Lists.{get_front}
use Rattle.class_rules.specs.BuiltIns.{built_ins, class_class, string_class, out_of_memory_error}
use Rattle.class_rules.specs.Class.{FieldType, NumberField, ReferenceField, ClassKind, Plain, ArrayOfNumbers, ArrayOfObjects, Classes, class_kind, assignable}
use Rattle.class_rules.specs.Fields.{FieldId, layout, own_statics}
use Rattle.semantics.specs.Heap.{Heap, object_at, is_instance}
use Rattle.semantics.specs.Object.{ObjectValue, Number, Refers, Reference, Object}
use Rattle.semantics.specs.World.{World, initial, class_object, fresh_object, made_before, loaded_objects}
use Rattle.semantics.proofs.ShownRows.{loaded_is}
use Rattle.world_values.proofs.LoadedWorlds.{loaded_class, loaded_error, loaded_object}
use Rattle.world_values.specs.SoundWorlds.{types_by_kind, reference_fits, value_fits, IsObjectAfter, AreObjectsAfter, IsSound}
use Rattle.semantics_typing.specs.Objects.{ReferenceFits, ValueFits, PlaceFits, element_type_of, fields_of, type_at, IsTypedObject, AreTypedObjects}
use Rattle.semantics_typing.proofs.Heaps.{class_there}
use Rattle.semantics_typing.proofs.Lists.{zip_at}
use Rattle.semantics_typing.proofs.TableKinds.{IsMakeable, grown_long, kind_class, plain_class}
use Rattle.semantics_typing.proofs.Writes.{fresh_at, fresh_typed}

-- ---- the world's objects

-- an object among several is made after a beginning of them
object_after : (classes : Classes) (made objects : Heap) (j : ℕ) (o : Object) → AreObjectsAfter classes made objects → slice_get objects j ≡ Some o → (before : Heap) × (rest : Heap) × (before ++ rest ≡ made ++ objects) × IsObjectAfter classes before o
object_after classes made [] j o h e = absurd (cc)
object_after classes made (x ∷ objects) zero o h e = let same : x ≡ o = cc in (made, x ∷ objects, refl, subst (IsObjectAfter classes made) same h.0)
object_after classes made (x ∷ objects) (suc j) o h e =
    let later = object_after classes (made ++ x ∷ []) objects j o h.1 e in
    (later.0, later.1, later.2 ∙ append_assoc made (x ∷ []) objects, later.3)

named_before : (before rest : Heap) (n : ℕ) → (nat_lt 0 n && nat_le n (length before)) ≡ true → (o : Object) × (object_at before n ≡ Some o) × (object_at (before ++ rest) n ≡ Some o)
named_before before rest zero h = absurd (cc)
named_before [] rest (suc m) h = absurd (let low = leb-true (suc m) 0 (and_parts (nat_lt 0 (suc m)) (nat_le (suc m) 0) h).1 in omega (arith, low))
named_before (x ∷ before) rest (suc m) h =
    let low = leb-true (suc m) (length (x ∷ before)) (and_parts (nat_lt 0 (suc m)) (nat_le (suc m) (length (x ∷ before))) h).1 in
    let at = slice_get-get_or (x ∷ before) m x (omega (arith, low)) in
    (_, at, get_front (x ∷ before) rest m _ at)

module _ (classes : Classes) (before rest : Heap) where
  reference_later : (c : ℕ) (r : Reference) → reference_fits classes before c r ≡ true → ReferenceFits classes (before ++ rest) c r
  reference_later c None h = tt
  reference_later c (Some n) h =
      let parts = and_parts (nat_lt 0 n && nat_le n (length before)) (is_instance classes before n c) h in
      let o = named_before before rest n parts.0 in
      (o.0, o.2, ap (λ (d : ℕ). assignable classes d c) (sym (class_there before n o.0 o.1)) ∙ parts.1)

  value_later : (t : FieldType) (v : ObjectValue) → value_fits classes before t v ≡ true → ValueFits classes (before ++ rest) t v
  value_later (NumberField t) (Number z) h = h
  value_later (NumberField t) (Refers r) h = absurd (cc)
  value_later (ReferenceField c) (Number z) h = absurd (cc)
  value_later (ReferenceField c) (Refers r) h = reference_later c r h

  world_object : (n : ℕ) (o : Object) → IsObjectAfter classes before o → IsTypedObject classes (before ++ rest) n o
  world_object n o h = record {
    low = h.class.0;
    high = h.class.1;
    of_class = λ e. absurd (let yes : (o.class == class_class) ≡ true = grind (arith, nat_tests, e) in let no = h.no_class in let both : true ≡ false = sym yes ∙ no in cc);
    count = by_count (class_kind classes o.class) refl (o.class == string_class) refl;
    values = λ i v e.
        let at = zip_at (λ t v. IsTrue (value_fits classes before t v)) (types_by_kind classes o.class (class_kind classes o.class) o.values) o.values i v h.values e in
        subst (λ (t : Option FieldType). PlaceFits classes (before ++ rest) t v) (types_are i v e (class_kind classes o.class) refl (o.class == string_class) refl at.0 at.1) (value_later at.0 v at.2);
  }
    where
      fields_are : fields_of classes n o.class ≡ layout classes o.class
      fields_are = let no = h.no_class in rw no refl

      by_count : (k : ClassKind) → class_kind classes o.class ≡ k → (b : Bool) → (o.class == string_class) ≡ b → element_type_of classes o.class ≡ None → length o.values ≡ length (fields_of classes n o.class)
      by_count Plain e false f none =
          let same : types_by_kind classes o.class (class_kind classes o.class) o.values ≡ map (λ (f : FieldId). f.field.type) (layout classes o.class) = rw (e, f) refl in
          AllZip-long (λ t v. IsTrue (value_fits classes before t v)) (types_by_kind classes o.class (class_kind classes o.class) o.values) o.values h.values
          ∙ ap length same ∙ length-map (layout classes o.class) (λ (f : FieldId). f.field.type) ∙ ap length (sym fields_are)
      by_count Plain e true f none = absurd (let some : element_type_of classes o.class ≡ Some (NumberField JChar) = rw (e, f) refl in let both : None ≡ Some (NumberField JChar) = sym none ∙ some in cc)
      by_count (ArrayOfNumbers t) e b f none = absurd (let some : element_type_of classes o.class ≡ Some (NumberField t) = rw e refl in let both : None ≡ Some (NumberField t) = sym none ∙ some in cc)
      by_count (ArrayOfObjects c) e b f none = absurd (let some : element_type_of classes o.class ≡ Some (ReferenceField c) = rw e refl in let both : None ≡ Some (ReferenceField c) = sym none ∙ some in cc)

      types_are : (i : ℕ) (v : ObjectValue) → slice_get o.values i ≡ Some v → (k : ClassKind) → class_kind classes o.class ≡ k → (b : Bool) → (o.class == string_class) ≡ b
          → (t : FieldType) → slice_get (types_by_kind classes o.class (class_kind classes o.class) o.values) i ≡ Some t → Some t ≡ type_at classes n o.class i
      types_are i v at Plain e false f t is =
          let same : types_by_kind classes o.class (class_kind classes o.class) o.values ≡ map (λ (f : FieldId). f.field.type) (layout classes o.class) = rw (e, f) refl in
          let no = h.no_class in
          let type : type_at classes n o.class i ≡ option_map (λ (f : FieldId). f.field.type) (slice_get (layout classes o.class) i) = rw (e, f, no) refl in
          sym is ∙ ap (λ (l : List FieldType). slice_get l i) same ∙ slice_get-map (λ (f : FieldId). f.field.type) (layout classes o.class) i ∙ sym type
      types_are i v at Plain e true f t is =
          let same : types_by_kind classes o.class (class_kind classes o.class) o.values ≡ map (λ v. NumberField JChar) o.values = rw (e, f) refl in
          let type : type_at classes n o.class i ≡ Some (NumberField JChar) = rw (e, f) refl in
          sym is ∙ ap (λ (l : List FieldType). slice_get l i) same ∙ slice_get-map (λ v. NumberField JChar) o.values i ∙ ap (option_map (λ (v : ObjectValue). NumberField JChar)) at ∙ sym type
      types_are i v at (ArrayOfNumbers u) e b f t is =
          let same : types_by_kind classes o.class (class_kind classes o.class) o.values ≡ map (λ v. NumberField u) o.values = rw e refl in
          let type : type_at classes n o.class i ≡ Some (NumberField u) = rw e refl in
          sym is ∙ ap (λ (l : List FieldType). slice_get l i) same ∙ slice_get-map (λ v. NumberField u) o.values i ∙ ap (option_map (λ (v : ObjectValue). NumberField u)) at ∙ sym type
      types_are i v at (ArrayOfObjects c) e b f t is =
          let same : types_by_kind classes o.class (class_kind classes o.class) o.values ≡ map (λ v. ReferenceField c) o.values = rw e refl in
          let type : type_at classes n o.class i ≡ Some (ReferenceField c) = rw e refl in
          sym is ∙ ap (λ (l : List FieldType). slice_get l i) same ∙ slice_get-map (λ v. ReferenceField c) o.values i ∙ ap (option_map (λ (v : ObjectValue). ReferenceField c)) at ∙ sym type

-- ---- all objects

module _ (w : World) (sound : IsSound w) where
  abbrev classes : Classes
  classes = w.classes

  abbrev heap : Heap
  heap = loaded_objects w

  long : 42 ≤ length classes
  long = grown_long classes sound.grown

  class_typed : (i : ℕ) → suc i ≤ length classes → IsTypedObject classes heap (suc i) (class_object classes (i + 1))
  class_typed i high =
      let name : i + 1 ≡ suc i = omega arith in
      let kind = kind_class classes sound.grown in
      record {
        low = omega arith;
        high = omega (arith, long);
        of_class = λ e. high;
        count = λ e. length-map (own_statics classes (i + 1)) (λ (f : FieldId). initial f.field.type) ∙ ap (λ (n : ℕ). length (own_statics classes n)) name;
        values = λ j v e.
            let type : type_at classes (suc i) class_class j ≡ option_map (λ (f : FieldId). f.field.type) (slice_get (own_statics classes (suc i)) j) = rw kind refl in
            subst (λ (t : Option FieldType). PlaceFits classes heap t v) (ap (λ (n : ℕ). option_map (λ (f : FieldId). f.field.type) (slice_get (own_statics classes n) j)) name ∙ sym type)
            (fresh_at classes heap (own_statics classes (i + 1)) j v e);
      }

  memory_error : IsMakeable classes out_of_memory_error
  unfolding built_ins
  memory_error = let kind = plain_class classes sound.grown 11 _ refl refl in record { low = omega arith; high = omega (arith, long); making = rw kind refl }

  of_world : (i : ℕ) (o : Object) → slice_get heap i ≡ Some o → length classes ≤ i → i ≢ length classes → IsTypedObject classes heap (suc i) o
  of_world i o at above other =
      let j = i - (length classes + 1) in
      let place : i ≡ length classes + 1 + j = omega (arith, above, other) in
      let there = sym (loaded_object w i j place) ∙ at in
      let after = object_after classes (made_before classes) w.objects j o sound.objects there in
      in_loaded after.0 after.1 after.2 (world_object classes after.0 after.1 (suc i) o after.3)
    where
      in_loaded : (before rest : Heap) → before ++ rest ≡ made_before classes ++ w.objects → IsTypedObject classes (before ++ rest) (suc i) o → IsTypedObject classes heap (suc i) o
      in_loaded before rest e h = subst (λ (h : Heap). IsTypedObject classes h (suc i) o) (e ∙ sym (loaded_is w)) h

  object_typed : (n : ℕ) (o : Object) → object_at heap n ≡ Some o → IsTypedObject classes heap n o
  object_typed zero o at = absurd (cc)
  object_typed (suc i) o at = by_place (nat_lt i (length classes)) refl
    where
      by_place : (b : Bool) → nat_lt i (length classes) ≡ b → IsTypedObject classes heap (suc i) o
      by_place true e =
          let below : i < length classes = ltb-true i (length classes) e in
          let same : class_object classes (i + 1) ≡ o = let both : Some (class_object classes (i + 1)) ≡ Some o = sym (loaded_class w i below) ∙ at in cc in
          subst (IsTypedObject classes heap (suc i)) same (class_typed i (omega (arith, below)))
      by_place false e =
          let above : length classes ≤ i = ltb-false i (length classes) e in
          ⊎_elim
          (λ (t : (eqb i (length classes) ≡ true) × (i ≡ length classes)).
          let same : fresh_object classes out_of_memory_error ≡ o = let both : Some (fresh_object classes out_of_memory_error) ≡ Some o = sym (loaded_error w) ∙ ap (slice_get heap) (sym t.1) ∙ at in cc in
          subst (IsTypedObject classes heap (suc i)) same (fresh_typed classes heap (suc i) out_of_memory_error memory_error))
          (λ (t : (eqb i (length classes) ≡ false) × (i ≡ length classes → ⊥)). of_world i o at above t.1)
          (eqb_tells i (length classes))

  class_there_at : (n : ℕ) → 0 < n → n ≤ length classes → (o : Object) × (object_at heap n ≡ Some o) × (o.class ≡ class_class)
  class_there_at zero low high = absurd (omega (arith, low))
  class_there_at (suc i) low high = (class_object classes (i + 1), loaded_class w i (omega (arith, high)), refl)

  pub loaded_typed : AreTypedObjects classes heap
  loaded_typed = record { objects = object_typed; class_objects = class_there_at }
