-- The object that has a field has a value at its place, and so has the class object that declares a static.
use Rattle.std.proofs.Common.{◌≡◌, ℕ, zero, suc, ◌-◌, ◌<◌, Bool, true, false, List, [], ◌∷◌, length, Option, Some, None, slice_get, refl, sym, ap, ◌∙◌, subst, arith}
use Rattle.std.specs.Prelude.{◌==◌, ◌||◌, IsSome, if◌then◌else◌, is_some, nat_lt, not}
use Rattle.std.specs.Option.{option_map_or}
use Rattle.std.proofs.lemmas.Bool.{and_parts, lt-ltb}
use Rattle.std.proofs.lemmas.Option.{slice_get_within}
use Rattle.class_rules.specs.BuiltIns.{class_class, has_own_making, string_class}
use Rattle.class_rules.specs.Class.{ArrayOfNumbers, ArrayOfObjects, ClassKind, Classes, Plain, assignable, class_kind, elements_fit, is_plain, is_subclass}
use Rattle.class_rules.specs.Fields.{FieldId, layout, own_fields, own_statics}
use Rattle.class_rules.specs.Grown.{IsGrown}
use Rattle.classes.proofs.ArrayNames.{cases}
use Rattle.classes.specs.FieldViews.{field_of}
use Rattle.classes.specs.declared.class.FieldHandle.{FieldHandle}
use Rattle.jni.specs.declared.function.JniFunction.{JniFunction}
use Rattle.jni.specs.JniFunction.{parameters_for}
use Rattle.jni.specs.Subjects.{subject_of}
use Rattle.jni.specs.declared.kinds.ParameterKind.{ParameterKind}
use Rattle.jni.specs.declared.kinds.ParameterKind.TheVariants.{FieldID}
use Rattle.jni.specs.declared.subject.Subject.TheVariants as subject
use Rattle.semantics.specs.Arguments.{name_or_zero, reference_given}
use Rattle.semantics.specs.CallSight as source
use Rattle.semantics.specs.Heap.{Heap, class_of, is_instance, place_in, static_place, values_of}
use Rattle.semantics.specs.Object.{Object, ObjectValue}
use Rattle.semantics_typing.proofs.FieldWrites.{class_low}
use Rattle.semantics_typing.proofs.Places.{declared_class, field_own, field_placed, static_placed}
use Rattle.semantics_typing.proofs.TableKinds.{grown_long, has_fields, itself, kind_class, no_elements}
use Rattle.semantics_typing.proofs.Writes.{there_if}
use Rattle.semantics_typing.specs.Objects.{AreTypedObjects, element_type_of, fields_of}
use Rattle.world_values.specs.DeclaredFields.{DeclaresWell, IsDeclared}
use Rattle.machine_scenes.specs.Given.{class_of_given, field_at, field_there, operand_of}
use Rattle.machine_scenes.specs.HeapAgrees.{ReferenceAgrees}
use Rattle.machine_scenes.proofs.Handles.{class_known, class_of_field, field_of_handle, kind_of_field}
use Rattle.machine_scenes.proofs.OperandsThere.{handle_of}
use Rattle.machine_answers.specs.Answered.{Asked, Passes, TwoCalls, unit}
use Rattle.machine_answers.specs.Sights.{class_object_seen, element_wanted, name_seen, object_seen, values_seen}
use Rattle.machine_answers.specs.WorkedOut.{class_object}
use Rattle.machine_answers.proofs.CallTraps.{handles_there, has_passed}
use Rattle.machine_answers.proofs.FieldKinds.{a_static, no_static, takes_field, takes_static, the_field}
use Rattle.machine_answers.proofs.KindAnswers.{handle_given}
use Rattle.machine_answers.proofs.SightParts.{name_seen_is, object_seen_is}
use Rattle.machine_answers.proofs.TwoCalls.{agrees, at, fields, references, table_of}

-- ---- in the source

no_elements_below : (classes : Classes) (k : ClassKind) → elements_fit classes k Plain ≡ true → ⊥
no_elements_below classes Plain fit = absurd (cc)
no_elements_below classes (ArrayOfNumbers T) fit = absurd (cc)
no_elements_below classes (ArrayOfObjects c) fit = absurd (cc)

module _ (classes : Classes) (well : DeclaresWell classes) (g : IsGrown classes) (f : FieldId) (declared : IsDeclared classes f) where
  module _ (kind : f.is_static ≡ false) where
    -- a class that declares a field is no array's
    no_making : (c : ℕ) → is_subclass classes c f.class ≡ true → has_own_making classes c ≡ true → ⊥
    no_making c below making =
        let own = field_own classes f declared kind in
        let none : None ≡ Some f = ap (λ (l : List FieldId). slice_get l own.0) (sym (well.bare c f.class making below)) ∙ own.1 in
        absurd (cc)

    no_array : (k : ClassKind) → class_kind classes f.class ≡ k → is_plain k ≡ false → ⊥
    no_array k is array =
        no_making f.class (itself classes f.class (let long = grown_long classes g in omega (arith, long)))
        (ap (λ (b : Bool). not b || (f.class == string_class) || (f.class == class_class)) (ap is_plain is ∙ array))

    -- so a class that is assignable to it is below it
    is_below : (c : ℕ) → assignable classes c f.class ≡ true → is_subclass classes c f.class ≡ true
    is_below c h = cases (is_subclass classes c f.class) (elements_fit classes (class_kind classes c) (class_kind classes f.class)) h (λ e. e) (λ e. absurd (by_kind (class_kind classes f.class) refl e))
      where
        by_kind : (k : ClassKind) → class_kind classes f.class ≡ k → elements_fit classes (class_kind classes c) k ≡ true → ⊥
        by_kind Plain is e = no_elements_below classes (class_kind classes c) e
        by_kind (ArrayOfNumbers T) is e = no_array (ArrayOfNumbers T) is refl
        by_kind (ArrayOfObjects d) is e = no_array (ArrayOfObjects d) is refl

    -- and its objects have fields
    has_layout : (c : ℕ) → is_subclass classes c f.class ≡ true → has_own_making classes c ≡ false
    has_layout c below = by_test (has_own_making classes c) refl
      where
        by_test : (b : Bool) → has_own_making classes c ≡ b → has_own_making classes c ≡ false
        by_test false e = e
        by_test true e = absurd (no_making c below e)

  module _ (heap : Heap) (typed : AreTypedObjects classes heap) where
    -- an object of such a class
    pub field_inside : f.is_static ≡ false → (n : ℕ) → is_instance classes heap n f.class ≡ true → nat_lt (place_in f (layout classes (class_of heap n))) (length (values_of heap n)) ≡ true
    field_inside kind n h =
        let c = class_of heap n in
        let d = declared_class classes f declared in
        let o = there_if classes heap n f.class h (class_low classes f.class d.0 d.1) in
        let below = is_below kind c h in
        let making = has_layout kind c below in
        let count : length o.0.values ≡ length (layout classes c) =
        (typed.objects n o.0 o.1).count (ap (element_type_of classes) o.2 ∙ no_elements classes c making) ∙ ap (λ (d : ℕ). length (fields_of classes n d)) o.2 ∙ ap length (has_fields classes n c making) in
        let values : values_of heap n ≡ o.0.values = ap (λ (x : Option Object). option_map_or (λ (y : Object). y.values) x []) o.1 in
        ap (λ (l : List ObjectValue). nat_lt (place_in f (layout classes c)) (length l)) values ∙ ap (nat_lt (place_in f (layout classes c))) count
        ∙ lt-ltb _ _ (slice_get_within (layout classes c) (place_in f (layout classes c)) f (field_placed classes well f declared kind c below))

    -- a class object
    pub static_inside : f.is_static ≡ true → nat_lt (static_place classes f) (length (values_of heap f.class)) ≡ true
    static_inside kind =
        let d = declared_class classes f declared in
        let o = typed.class_objects f.class (class_low classes f.class d.0 d.1) (class_known classes f.class d.0 d.1).1 in
        let none : element_type_of classes class_class ≡ None = rw (kind_class classes g) refl in
        let count : length o.0.values ≡ length (own_statics classes f.class) =
        (typed.objects f.class o.0 o.1).count (ap (element_type_of classes) o.2 ∙ none) ∙ ap (λ (d : ℕ). length (fields_of classes f.class d)) o.2 in
        let values : values_of heap f.class ≡ o.0.values = ap (λ (x : Option Object). option_map_or (λ (y : Object). y.values) x []) o.1 in
        ap (λ (l : List ObjectValue). nat_lt (static_place classes f) (length l)) values ∙ ap (nat_lt (static_place classes f)) count
        ∙ lt-ltb _ _ (slice_get_within (own_statics classes f.class) (static_place classes f) f (static_placed classes well f declared kind))

-- the field of a handle is declared
declared_there : (classes : Classes) (x : FieldHandle) → IsSome (field_of classes x) → IsDeclared classes (field_there classes (Some x))
declared_there classes x there =
    let kind = sym (kind_of_field classes x there) in
    let class = sym (class_of_field classes x there) in
    (x.place, (λ i. slice_get (if kind i then own_statics classes (class i) else own_fields classes (class i)) x.place) ∙ field_of_handle classes x there)

-- ---- in memory

module _ (both : TwoCalls) (f : JniFunction) (h : Asked both f) (free : Passes both) where
  open both use {p, w, store, pending, activation, call, others, k, owner, shared, s, target, sound, args}

  -- the field of the second operand
  abbrev field : FieldId
  field = field_there w.classes (field_at (fields both) (operand_of call.operands 1))

  -- which is given
  given : slice_get (parameters_for f (length args)) 1 ≡ Some FieldID → (x : FieldHandle) × (field_at (fields both) (operand_of call.operands 1) ≡ Some x)
  given takes = by_parameters (parameters_for f (length args)) refl takes
    where
      by_parameters : (ps : List ParameterKind) → parameters_for f (length args) ≡ ps → slice_get ps 1 ≡ Some FieldID → (x : FieldHandle) × (field_at (fields both) (operand_of call.operands 1) ≡ Some x)
      by_parameters [] are is = absurd (cc)
      by_parameters (q ∷ []) are is = absurd (cc)
      by_parameters (q ∷ r ∷ ps) are is = let second : r ≡ FieldID = cc in handle_given both f q ps (are ∙ ap (λ (x : ParameterKind). q ∷ x ∷ ps) second) h free

  pub field_given : subject_of f ≡ subject.Fields → is_some (field_at (fields both) (operand_of call.operands 1)) ≡ true
  field_given of = ap is_some (given (takes_field f (length args) of)).1

  declared : slice_get (parameters_for f (length args)) 1 ≡ Some FieldID → IsDeclared w.classes field
  declared takes =
      let x = given takes in
      let there = handle_of w.classes (fields both) call.operands 1 (handles_there p w store pending activation call others k owner shared s target f args h) x.0 x.1 in
      subst (λ (o : Option FieldHandle). IsDeclared w.classes (field_there w.classes o)) (sym x.1) (declared_there w.classes x.0 there)

  -- the object of the first operand has its place
  pub place_inside : subject_of f ≡ subject.Fields → nat_lt (place_in field (layout w.classes (class_of_given store.heap (at both 0)))) (length (values_seen store.heap (at both 0))) ≡ true
  place_inside of =
      let n = name_or_zero (reference_given args 0) in
      let same : object_seen store.heap (at both 0) ≡ source.object_seen shared.heap n = object_seen_is store.heap shared.heap h.store_agrees.heap (at both 0) (reference_given args 0) (agrees both f h 0) in
      let fit = has_passed p w store pending activation call others k owner shared s target f args h free in
      let own = no_static (unit both) w.classes store.heap (references both) (fields both) call.operands (element_wanted call.target) f of fit in
      let has : assignable w.classes (class_of_given store.heap (at both 0)) field.class ≡ true =
      (and_parts (not field.is_static) (assignable w.classes (class_of_given store.heap (at both 0)) field.class) (the_field (unit both) w.classes store.heap (references both) (fields both) call.operands (element_wanted call.target) f of fit)).1 in
      let inside = field_inside w.classes sound.declares sound.grown field (declared (takes_field f (length args) of)) shared.heap h.typed own n (ap (λ (x : Object). assignable w.classes x.class field.class) (sym same) ∙ has) in
      ap (λ (x : Object). nat_lt (place_in field (layout w.classes x.class)) (length x.values)) same ∙ inside

  pub static_given : subject_of f ≡ subject.Statics → is_some (field_at (fields both) (operand_of call.operands 1)) ≡ true
  static_given of = ap is_some (given (takes_static f (length args) of)).1

  -- the class object that declares a static
  agrees_there : IsDeclared w.classes field → ReferenceAgrees store.heap (class_object_seen store.loaded.items field.class) (Some field.class)
  agrees_there known =
      let d = declared_class w.classes field known in
      let low = class_low w.classes field.class d.0 d.1 in
      by_class field.class low (table_of both f h field.class low (class_known w.classes field.class d.0 d.1).1)
    where
      by_class : (c : ℕ) → 0 < c → ReferenceAgrees store.heap (class_object store.loaded.items (Some c)) (Some c) → ReferenceAgrees store.heap (class_object_seen store.loaded.items c) (Some c)
      by_class zero low agrees = absurd (omega (arith, low))
      by_class (suc c) low agrees = let before : suc c - 1 ≡ c = omega arith in subst (λ (n : ℕ). ReferenceAgrees store.heap (slice_get store.loaded.items n) (Some (suc c))) before agrees

  pub class_named : subject_of f ≡ subject.Statics → name_seen store.heap (class_object_seen store.loaded.items field.class) ≡ Some field.class
  class_named of = name_seen_is store.heap _ (Some field.class) (agrees_there (declared (takes_static f (length args) of)))

  pub static_inside_it : subject_of f ≡ subject.Statics → nat_lt (static_place w.classes field) (length (values_seen store.heap (class_object_seen store.loaded.items field.class))) ≡ true
  static_inside_it of =
      let known = declared (takes_static f (length args) of) in
      let same : object_seen store.heap (class_object_seen store.loaded.items field.class) ≡ source.object_seen shared.heap field.class = object_seen_is store.heap shared.heap h.store_agrees.heap _ (Some field.class) (agrees_there known) in
      let own = a_static (unit both) w.classes store.heap (references both) (fields both) call.operands (element_wanted call.target) f of (has_passed p w store pending activation call others k owner shared s target f args h free) in
      ap (λ (x : Object). nat_lt (static_place w.classes field) (length x.values)) same ∙ static_inside w.classes sound.declares sound.grown field known shared.heap h.typed own
