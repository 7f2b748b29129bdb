-- The field of a handle is of the class of the handle, and a static where the handle says so.
use Rattle.std.proofs.Common.{None, arith, length, ◌<◌, ◌≤◌, ◌≡◌, ℕ, zero, suc, Bool, true, false, List, [], ◌∷◌, map, Option, Some, slice_get, refl, sym, ap, ◌∙◌}
use Rattle.std.specs.Prelude.{IsSome, unwrap_or, if◌then◌else◌}
use Rattle.std.specs.Option.{option_map_or}
use Rattle.class_rules.specs.Class.{Class, Classes, Field, class_at}
use Rattle.class_rules.specs.Fields.{FieldId, own_fields, own_statics}
use Rattle.classes.specs.FieldViews.{field_of}
use Rattle.classes.specs.declared.class.FieldHandle.{FieldHandle}
use Rattle.machine_scenes.specs.Given.{no_field}

-- a field of this class and kind
record IsOf (class : ℕ) (is_static : Bool) (o : Option FieldId) : Type 0 where
  pub field : FieldId
  pub is : o ≡ Some field
  pub of_class : field.class ≡ class
  pub of_kind : field.is_static ≡ is_static

mapped : (class : ℕ) (is_static : Bool) (fields : List Field) (i : ℕ) → IsSome (slice_get (map (λ (f : Field). let id : FieldId = record { class = class; is_static = is_static; field = f } in id) fields) i)
    → IsOf class is_static (slice_get (map (λ (f : Field). let id : FieldId = record { class = class; is_static = is_static; field = f } in id) fields) i)
mapped class is_static [] i h = absurd (cc)
mapped class is_static (f ∷ fields) zero h = record { field = record { class = class; is_static = is_static; field = f }; is = refl; of_class = refl; of_kind = refl }
mapped class is_static (f ∷ fields) (suc i) h = mapped class is_static fields i h

module _ (classes : Classes) (h : FieldHandle) (there : IsSome (field_of classes h)) where
  by_kind : (s : Bool) → IsSome (slice_get (if s then own_statics classes h.class.number else own_fields classes h.class.number) h.place) → IsOf h.class.number s (slice_get (if s then own_statics classes h.class.number else own_fields classes h.class.number) h.place)
  by_kind true there = mapped h.class.number true (option_map_or (λ (d : Class). d.statics) (class_at classes h.class.number) []) h.place there
  by_kind false there = mapped h.class.number false (option_map_or (λ (d : Class). d.fields) (class_at classes h.class.number) []) h.place there

  found : IsOf h.class.number h.is_static (field_of classes h)
  found = by_kind h.is_static there

  pub class_of_field : h.class.number ≡ (unwrap_or (field_of classes h) no_field).class
  class_of_field = sym (ap (λ (o : Option FieldId). (unwrap_or o no_field).class) found.is ∙ found.of_class)

  pub kind_of_field : h.is_static ≡ (unwrap_or (field_of classes h) no_field).is_static
  kind_of_field = sym (ap (λ (o : Option FieldId). (unwrap_or o no_field).is_static) found.is ∙ found.of_kind)

  -- it is the field of the handle
  pub field_of_handle : field_of classes h ≡ Some (unwrap_or (field_of classes h) no_field)
  field_of_handle = found.is ∙ ap (λ (o : Option FieldId). Some (unwrap_or o no_field)) (sym found.is)

-- the class of a handle is one of the table
pub class_known : (T : Classes) (n : ℕ) (d : Class) → class_at T n ≡ Some d → (0 < n) × (n ≤ length T)
class_known T zero d e = absurd (cc)
class_known [] (suc i) d e = absurd (cc)
class_known (x ∷ T) (suc zero) d e = (omega arith, omega arith)
class_known (x ∷ T) (suc (suc i)) d e = (omega arith, omega (arith, (class_known T (suc i) d e).1))

pub class_within : (classes : Classes) (h : FieldHandle) → IsSome (field_of classes h) → (0 < h.class.number) × (h.class.number ≤ length classes)
class_within classes h there = by_kind h.is_static there
  where
    by_class : (get : Class → List Field) (is_static : Bool) (o : Option Class) → class_at classes h.class.number ≡ o → IsSome (slice_get (map (λ (f : Field). let id : FieldId = record { class = h.class.number; is_static = is_static; field = f } in id) (option_map_or get o [])) h.place) → (0 < h.class.number) × (h.class.number ≤ length classes)
    by_class get is_static None e there = absurd (cc)
    by_class get is_static (Some d) e there = class_known classes h.class.number d e

    by_kind : (s : Bool) → IsSome (slice_get (if s then own_statics classes h.class.number else own_fields classes h.class.number) h.place) → (0 < h.class.number) × (h.class.number ≤ length classes)
    by_kind true there = by_class (λ d. d.statics) true (class_at classes h.class.number) refl there
    by_kind false there = by_class (λ d. d.fields) false (class_at classes h.class.number) refl there
