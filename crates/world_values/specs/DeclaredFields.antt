-- What the fields and the array classes of a class table meet, as those of each world do.
use Rattle.std.specs.Prelude.{◌≡◌, ℕ, ◌<◌, ◌≤◌, true, List, [], length, slice_get, Some, if◌then◌else◌}
use Rattle.std.specs.Str.{bytes_eq}
use Rattle.class_rules.specs.BuiltIns.{throwable_class, built_ins, has_own_making}
use Rattle.class_rules.specs.Class.{Classes, ReferenceField, ArrayOfObjects, class_kind, is_plain, is_subclass, array_class_of}
use Rattle.class_rules.specs.Fields.{FieldId, own_fields, own_statics}

-- a field or static that its class declares
abbrev pub declared_of : Classes → FieldId → List FieldId
declared_of classes f = if f.is_static then own_statics classes f.class else own_fields classes f.class

abbrev pub IsDeclared : Classes → FieldId → Type 0
IsDeclared classes f = (i : ℕ) × (slice_get (declared_of classes f) i ≡ Some f)

pub record DeclaresWell (classes : Classes) : Type 0 where
  -- a class declares no two fields of one name, and no two statics
  pub once : (f g : FieldId) → IsDeclared classes f → IsDeclared classes g → f.class ≡ g.class
      → f.is_static ≡ g.is_static → bytes_eq f.field.name g.field.name ≡ true → f ≡ g
  -- arrays, strings and class objects have no field: neither their classes nor those above declare one
  pub bare : (c d : ℕ) → has_own_making classes c ≡ true → is_subclass classes c d ≡ true → own_fields classes d ≡ []
  -- java/lang/Throwable declares its message alone
  pub message : own_fields classes throwable_class ≡ own_fields built_ins throwable_class
  -- a field of a reference type is of a class
  pub referred : (f : FieldId) (c : ℕ) → IsDeclared classes f → f.field.type ≡ ReferenceField c → 0 < c
  -- the class of arrays of a class that is no array's is found by its name
  pub arrays : (c : ℕ) → 0 < c → c ≤ length classes → is_plain (class_kind classes c) ≡ true → (a : ℕ)
      × (array_class_of classes c ≡ Some a) × (class_kind classes a ≡ ArrayOfObjects c)
