-- What holds of each world that was read: its objects fit their classes and the heap, and calls are given what is there.
use Rattle.std.specs.Prelude.{◌≡◌, ℕ, ◌<◌, ◌≤◌, Bool, true, false, ◌&&◌, ◌==◌, List, [], ◌∷◌, ◌++◌, length, map, nat_lt, nat_le, IsTrue, Some, None, if◌then◌else◌}
use Rattle.std.specs.List.{list_all, AllZip}
use Rattle.base.specs.Limits.{most_cells, most_objects}
use Rattle.base.specs.declared.element.ElementType.TheVariants.{Char as JChar}
use Rattle.class_rules.specs.BuiltIns.{class_class, string_class}
use Rattle.class_rules.specs.Class.{FieldType, NumberField, ReferenceField, ClassKind, Plain, ArrayOfNumbers, ArrayOfObjects, Classes, class_kind}
use Rattle.class_rules.specs.Fields.{FieldId, layout}
use Rattle.class_rules.specs.Grown.{IsGrown, HasMethodError}
use Rattle.semantics.specs.Heap.{is_instance}
use Rattle.semantics.specs.Object.{ObjectValue, Number, Refers, Reference, Object}
use Rattle.semantics.specs.Reachable.{loaded_count}
use Rattle.semantics.specs.World.{Invocation, World, made_before, fits_cells}
use Rattle.world_values.specs.CallArguments.{are_arguments}
use Rattle.world_values.specs.DeclaredFields.{DeclaresWell}
use Rattle.world_values.specs.WorldRules.{is_in_range}

-- ---- objects

-- the types of an object's values, by the kind of its class; a string's are its units
abbrev pub types_by_kind : Classes → (class : ℕ) → ClassKind → List ObjectValue → List FieldType
types_by_kind classes class Plain values = if class == string_class then map (λ v. NumberField JChar) values else map
    (λ (f : FieldId). f.field.type) (layout classes class)
types_by_kind classes class (ArrayOfNumbers t) values = map (λ v. NumberField t) values
types_by_kind classes class (ArrayOfObjects c) values = map (λ v. ReferenceField c) values

-- NULL, or one of the objects made so far, of a class that is assignable to this
abbrev pub reference_fits : Classes → (made : List Object) → (class : ℕ) → Reference → Bool
reference_fits classes made class None = true
reference_fits classes made class (Some n) = nat_lt 0 n && nat_le n (length made) && is_instance classes made n class

-- a place of this type can hold the value
abbrev pub value_fits : Classes → (made : List Object) → FieldType → ObjectValue → Bool
value_fits classes made (NumberField t) (Number z) = is_in_range t z
value_fits classes made (ReferenceField class) (Refers r) = reference_fits classes made class r
value_fits classes made t v = false

-- an object that is made after these fits its class, and is no class object
pub record IsObjectAfter (classes : Classes) (made : List Object) (o : Object) : Type 0 where
  pub class : (0 < o.class) × (o.class ≤ length classes)
  pub no_class : (o.class == class_class) ≡ false
  pub values : AllZip (λ t v. IsTrue (value_fits classes made t v)) (types_by_kind classes o.class (class_kind classes o.class) o.values) o.values

-- each of several, which are made one after another
abbrev pub AreObjectsAfter : Classes → (made : List Object) → List Object → Type 0
AreObjectsAfter classes made [] = Unit {0}
AreObjectsAfter classes made (o ∷ objects) = IsObjectAfter classes made o × AreObjectsAfter classes (made ++ o ∷ []) objects

-- ---- threads

-- a thread has a call to make
abbrev pub has_call : List Invocation → Bool
has_call [] = false
has_call (call ∷ calls) = true

-- ---- the whole

pub record IsSound (w : World) : Type 0 where
  pub grown : IsGrown w.classes
  pub methods : w.methods ≡ true → HasMethodError w.classes
  pub declares : DeclaresWell w.classes
  pub cells : w.cells ≤ most_cells
  pub fits : IsTrue (fits_cells w)
  pub few_objects : length w.objects ≤ most_objects
  pub objects : AreObjectsAfter w.classes (made_before w.classes) w.objects
  pub few_threads : length w.threads ≤ 8
  pub calls : IsTrue (list_all has_call w.threads)
  pub arguments : IsTrue (list_all (list_all (are_arguments (loaded_count w))) w.threads)
