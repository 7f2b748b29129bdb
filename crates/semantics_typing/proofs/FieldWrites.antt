-- What is written into fields, statics and elements of arrays of objects fits there.
use Rattle.std.proofs.Common.{◌≡◌, ℕ, zero, suc, ◌<◌, ◌≤◌, Bool, true, false, List, [], ◌∷◌, ◌++◌, length, Option, Some, None, refl, sym, ap, ◌∙◌, arith}
use Rattle.std.specs.Prelude.{slice_get, ◌||◌, ◌==◌, not, codes}
use Rattle.std.specs.List.{list_any}
use Rattle.std.specs.Option.{option_map}
use Rattle.std.proofs.lemmas.Bool.Decides.{nat_tests}
use Rattle.std.proofs.lemmas.Option.{slice_get_within}
use Rattle.base.specs.declared.element.ElementType.{ElementType}
use Rattle.base.proofs.Lists.{get_front}
use Rattle.class_rules.specs.BuiltIns.{built_ins, class_class, string_class, throwable_class, has_own_making}
use Rattle.class_rules.specs.Class.{FieldType, NumberField, ReferenceField, ClassKind, Plain, ArrayOfNumbers, ArrayOfObjects, Class, Classes, class_at, class_kind, is_plain, is_object_array, element_class, superclass, above, ancestry_within, is_subclass, elements_fit, assignable}
use Rattle.class_rules.specs.Fields.{FieldId, own_fields, own_statics, layout}
use Rattle.class_rules.specs.Grown.{IsGrown}
use Rattle.classes.proofs.Ancestry.{is_among}
use Rattle.classes.proofs.Layouts.{layout_within, layout-above, layout-top}
use Rattle.classes.proofs.ArrayNames.{cases}
use Rattle.semantics.specs.Heap.{Heap, object_at, class_of, place_in, field_place, static_place, is_instance, holds_number, fits_type}
use Rattle.semantics.specs.Object.{Refers, Reference, Object}
use Rattle.semantics_typing.specs.Objects.{ValueFits, type_at, AreTypedObjects}
use Rattle.world_values.specs.DeclaredFields.{DeclaresWell, IsDeclared}
use Rattle.semantics_typing.proofs.TableKinds.{field_type, itself, grown_long, kind_class, kind_string, kind_throwable, super_throwable, super_string, super_root, element_low}
use Rattle.semantics_typing.proofs.Places.{field_own, declared_class, field_placed, static_placed}
use Rattle.semantics_typing.proofs.Writes.{there, there_if, reference_fits}
use Rattle.type_rules.proofs.TypeTests.{same_types}

array_kind : (classes : Classes) (j k : ClassKind) → elements_fit classes j k ≡ true → is_plain k ≡ false
array_kind classes (ArrayOfObjects c) (ArrayOfObjects d) h = refl
array_kind classes (ArrayOfObjects c) Plain h = absurd (cc)
array_kind classes (ArrayOfObjects c) (ArrayOfNumbers t) h = absurd (cc)
array_kind classes Plain k h = absurd (cc)
array_kind classes (ArrayOfNumbers t) k h = absurd (cc)

no_plain : (classes : Classes) (c : ℕ) → is_plain (class_kind classes c) ≡ false → has_own_making classes c ≡ true
no_plain classes c h = ap (λ (b : Bool). not b || (c == string_class) || (c == class_class)) h

-- a class of the table has a number
pub class_low : (classes : Classes) (c : ℕ) (d : Class) → class_at classes c ≡ Some d → 0 < c
class_low classes zero d h = absurd (cc)
class_low classes (suc i) d h = omega arith

pub number_type : (t : ElementType) (type : FieldType) → holds_number t type ≡ true → type ≡ NumberField t
number_type t (NumberField u) h = ap (λ (e : ElementType). NumberField e) (same_types t u h)
number_type t (ReferenceField c) h = absurd (cc)

module _ (classes : Classes) (well : DeclaresWell classes) (g : IsGrown classes) where
  some_classes : 0 < length classes
  some_classes = omega (arith, grown_long classes g)

  -- the class of an object that has a field has no making of its own
  module _ (f : FieldId) (declared : IsDeclared classes f) (kind : f.is_static ≡ false) where
    has_own : own_fields classes f.class ≡ [] → ⊥
    has_own e = let at = field_own classes f declared kind in let none : None ≡ Some f = ap (λ (l : List FieldId). slice_get l at.0) (sym e) ∙ at.1 in cc

    below : (c : ℕ) → assignable classes c f.class ≡ true → is_subclass classes c f.class ≡ true
    below c h = cases (is_subclass classes c f.class) (elements_fit classes (class_kind classes c) (class_kind classes f.class)) h (λ e. e)
        (λ e. absurd (has_own (well.bare f.class f.class (no_plain classes f.class (array_kind classes (class_kind classes c) (class_kind classes f.class) e)) (itself classes f.class some_classes))))

    plainly : (c : ℕ) → assignable classes c f.class ≡ true → has_own_making classes c ≡ false
    plainly c h = by_test (has_own_making classes c) refl
      where
        by_test : (b : Bool) → has_own_making classes c ≡ b → has_own_making classes c ≡ false
        by_test false e = e
        by_test true e = absurd (has_own (well.bare c f.class e (below c h)))

    field_there : (n c : ℕ) → assignable classes c f.class ≡ true → type_at classes n c (place_in f (layout classes c)) ≡ Some f.field.type
    field_there n c h =
        field_type classes n c (place_in f (layout classes c)) (plainly c h)
        ∙ ap (option_map (λ (f : FieldId). f.field.type)) (field_placed classes well f declared kind c (below c h))

  module _ (heap : Heap) (typed : AreTypedObjects classes heap) where
    -- an object with a place of a type
    pub record HasPlace (n i : ℕ) (type : FieldType) : Type 0 where
      pub object : Object
      pub is : object_at heap n ≡ Some object
      pub place : type_at classes n object.class i ≡ Some type

    pub holds_field : (f : FieldId) → IsDeclared classes f → f.is_static ≡ false → (n : ℕ) → is_instance classes heap n f.class ≡ true → HasPlace n (field_place classes heap n f) f.field.type
    holds_field f declared kind n h =
        let d = declared_class classes f declared in
        let o = there_if classes heap n f.class h (class_low classes f.class d.0 d.1) in
        record { object = o.0; is = o.1; place = ap (λ (c : ℕ). type_at classes n c (field_place classes heap n f)) o.2 ∙ field_there f declared kind n (class_of heap n) h }

    class_within : (c : ℕ) (d : Class) → class_at classes c ≡ Some d → c ≤ length classes
    class_within zero d h = omega arith
    class_within (suc i) d h = omega (arith, slice_get_within classes i d h)

    pub holds_static : (f : FieldId) → IsDeclared classes f → f.is_static ≡ true → HasPlace f.class (static_place classes f) f.field.type
    holds_static f declared kind =
        let d = declared_class classes f declared in
        let o = typed.class_objects f.class (class_low classes f.class d.0 d.1) (class_within f.class d.0 d.1) in
        record {
          object = o.0;
          is = o.1;
          place = ap (λ (c : ℕ). type_at classes f.class c (static_place classes f)) o.2
              ∙ statics_at
              ∙ ap (option_map (λ (f : FieldId). f.field.type)) (static_placed classes well f declared kind);
        }
      where
        statics_at : type_at classes f.class class_class (static_place classes f) ≡ option_map (λ (f : FieldId). f.field.type) (slice_get (own_statics classes f.class) (static_place classes f))
        statics_at = rw (kind_class classes g) refl

    -- a reference that fits a field's type
    pub fits_field : (f : FieldId) → IsDeclared classes f → (r : Reference) (type : FieldType) → f.field.type ≡ type → fits_type classes heap r type ≡ true → ValueFits classes heap type (Refers r)
    fits_field f declared r (NumberField t) is h = absurd (cc)
    fits_field f declared r (ReferenceField c) is h = reference_fits classes heap r c h (well.referred f c declared is)

    -- an array of objects
    pub holds_element : (n i : ℕ) → is_object_array (class_kind classes (class_of heap n)) ≡ true → HasPlace n i (ReferenceField (element_class (class_kind classes (class_of heap n)))) × (0 < element_class (class_kind classes (class_of heap n)))
    holds_element n i h = by_kind (class_kind classes (class_of heap n)) refl h
      where
        low : (c : ℕ) (e : ℕ) → class_kind classes c ≡ ArrayOfObjects e → 0 < c
        low zero e k = absurd (cc)
        low (suc c) e k = omega arith

        by_kind : (k : ClassKind) → class_kind classes (class_of heap n) ≡ k → is_object_array k ≡ true → HasPlace n i (ReferenceField (element_class k)) × (0 < element_class k)
        by_kind Plain e h = absurd (cc)
        by_kind (ArrayOfNumbers t) e h = absurd (cc)
        by_kind (ArrayOfObjects c) e h =
            let o = there heap n (class_of heap n) refl (low (class_of heap n) c e) in
            (record { object = o.0; is = o.1; place = ap (λ (d : ℕ). type_at classes n d i) o.2 ∙ (let p : type_at classes n (class_of heap n) i ≡ Some (ReferenceField c) = rw e refl in p) }, element_low classes g (class_of heap n) c e)

    -- a class object stands for a class of the table
    pub stands_for : (n : ℕ) → class_of heap n ≡ class_class → (0 < n) × (n ≤ length classes)
    stands_for n h =
        let o = there heap n class_class h (omega arith) in
        (named n o.0 o.1, (typed.objects n o.0 o.1).of_class o.2)
      where
        named : (m : ℕ) (o : Object) → object_at heap m ≡ Some o → 0 < m
        named zero o e = absurd (cc)
        named (suc m) o e = omega arith

  -- ---- throwables

  abbrev message : FieldId
  message = record { class = throwable_class; is_static = false; field = record { name = codes "message"; type = ReferenceField string_class } }

  own_message : own_fields classes throwable_class ≡ message ∷ []
  unfolding built_ins
  own_message = well.message

  bare_root : own_fields classes 1 ≡ []
  bare_root = well.bare string_class 1 string_making string_root
    where
      string_making : has_own_making classes string_class ≡ true
      string_making = rw (kind_string classes g) refl

      string_root : is_subclass classes string_class 1 ≡ true
      string_root = among (length classes) (grown_long classes g)
        where
          among : (n : ℕ) → 42 ≤ n → is_among n classes string_class 1 ≡ true
          among zero h = absurd (omega (arith, h))
          among (suc zero) h = absurd (omega (arith, h))
          among (suc (suc n)) h = rw (super_string classes g) refl

  layout_root : (n : ℕ) → layout_within n classes 1 ≡ []
  layout_root zero = refl
  layout_root (suc n) = layout-top classes 1 (suc n) n (omega arith) (super_root classes g) ∙ bare_root

  layout_throwable : (n : ℕ) → 0 < n → layout_within n classes throwable_class ≡ message ∷ []
  layout_throwable zero h = absurd (omega (arith, h))
  layout_throwable (suc n) h =
      layout-above classes throwable_class (suc n) n 1 (omega arith) (super_throwable classes g)
      ∙ ap (λ (l : List FieldId). l ++ own_fields classes throwable_class) (layout_root n)
      ∙ own_message

  -- the message is the first field of each throwable
  first_message : (n c : ℕ) → is_among n classes c throwable_class ≡ true → slice_get (layout_within n classes c) 0 ≡ Some message
  first_message zero c h = absurd (cc)
  first_message (suc n) c h = by_class (c == throwable_class) refl (superclass classes c) refl h (first_message n)
    where
      by_class : (b : Bool) → (c == throwable_class) ≡ b → (o : Option ℕ) → superclass classes c ≡ o → (b || list_any (λ x. x == throwable_class) (above (ancestry_within n classes) (superclass classes c))) ≡ true
          → ((s : ℕ) → is_among n classes s throwable_class ≡ true → slice_get (layout_within n classes s) 0 ≡ Some message) → slice_get (layout_within (suc n) classes c) 0 ≡ Some message
      by_class true e o over q up =
          let same : c ≡ throwable_class = grind (arith, nat_tests, e) in
          ap (λ (d : ℕ). slice_get (layout_within (suc n) classes d) 0) same ∙ ap (λ (l : List FieldId). slice_get l 0) (layout_throwable (suc n) (omega arith))
      by_class false e None top q up = absurd (let none : list_any (λ x. x == throwable_class) (above (ancestry_within n classes) None) ≡ true = ap (λ (o : Option ℕ). list_any (λ x. x == throwable_class) (above (ancestry_within n classes) o)) (sym top) ∙ q in cc)
      by_class false e (Some s) over q up =
          ap (λ (l : List FieldId). slice_get l 0) (layout-above classes c (suc n) n s (omega arith) over)
          ∙ get_front (layout_within n classes s) (own_fields classes c) 0 message (up s (ap (λ (o : Option ℕ). list_any (λ x. x == throwable_class) (above (ancestry_within n classes) o)) (sym over) ∙ q))

  pub record IsThrowable (c : ℕ) : Type 0 where
    pub making : has_own_making classes c ≡ false
    pub first : (n : ℕ) → type_at classes n c 0 ≡ Some (ReferenceField string_class)

  pub throwable_is : (c : ℕ) → assignable classes c throwable_class ≡ true → IsThrowable c
  throwable_is c h = record { making = making; first = λ n. field_type classes n c 0 making ∙ ap (option_map (λ (f : FieldId). f.field.type)) (first_message (length classes) c under) }
    where
      under : is_subclass classes c throwable_class ≡ true
      under = cases (is_subclass classes c throwable_class) (elements_fit classes (class_kind classes c) (class_kind classes throwable_class)) h (λ e. e)
          (λ e. absurd (let no = array_kind classes (class_kind classes c) (class_kind classes throwable_class) e in let yes : is_plain (class_kind classes throwable_class) ≡ true = ap is_plain (kind_throwable classes g) in let both : true ≡ false = sym yes ∙ no in cc))

      making : has_own_making classes c ≡ false
      making = by_test (has_own_making classes c) refl
        where
          by_test : (b : Bool) → has_own_making classes c ≡ b → has_own_making classes c ≡ false
          by_test false e = e
          by_test true e = absurd (let none : message ∷ [] ≡ [] = sym own_message ∙ well.bare c throwable_class e under in cc)
