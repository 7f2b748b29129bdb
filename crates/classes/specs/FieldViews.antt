-- Fields that were found in a table in memory, and fields that are added to one.
use Rattle.std.specs.Prelude.{◌≡◌, ℕ, Bool, List, [], Option, None, Some, Result, Ok, Err, unwrap_or, position, slice_get, if◌then◌else◌}
use Rattle.std.specs.Option.{option_map_or}
use Rattle.base.specs.Bytes.{Identifier}
use Rattle.base.specs.declared.element.ElementType.TheVariants.{Int as JInt}
use Rattle.classes.specs.declared.class.FieldHandle.{FieldHandle}
use Rattle.classes.specs.declared.fields.FieldId.{FieldId as IdInMemory}
use Rattle.classes.specs.declared.fault.FieldError.{FieldError}
use Rattle.classes.specs.declared.fault.FieldError.TheVariants as errors
use Rattle.class_rules.specs.declared.rule.ClassRule.{ClassRule}
use Rattle.class_rules.specs.Additions.{with_field, with_static}
use Rattle.class_rules.specs.Class.{NumberField, Field, Class, Classes, class_at}
use Rattle.class_rules.specs.Fields.{FieldId, same_field, own_fields, own_statics, find_field, find_static, type_of_signature}
use Rattle.classes.specs.Views.{field_view}

abbrev pub field_id_view : IdInMemory → FieldId
field_id_view f = record { class = f.class.number; is_static = f.is_static; field = field_view f.field }

-- the fields, or the statics, that a class declares itself
abbrev pub declared_as : Classes → ℕ → Bool → List Field
declared_as classes c is_static = option_map_or (λ (d : Class). if is_static then d.statics else d.fields) (class_at classes c) []

-- the field, or the static, of this name and signature
abbrev pub find_as : Classes → ℕ → Identifier → List ℕ → Bool → Option FieldId
find_as classes c name text is_static = if is_static then find_static classes c name text else find_field classes c name text

-- a field of this name and signature
abbrev pub declared_field : Classes → Identifier → List ℕ → Field
declared_field classes name text = record { name = name; type = unwrap_or (type_of_signature classes text) (NumberField JInt) }

-- the table with one more field, or static, in the class of this number
abbrev pub with_declared : Classes → Option ℕ → Field → Bool → Classes
with_declared classes c field is_static = if is_static then with_static classes (unwrap_or c 0) field else with_field classes (unwrap_or c 0) field

-- The answer to a new field: the broken rule, where one is broken, or else that there is no such class, or else that it is there, unless memory ran out.
abbrev pub AnswersField : Option ClassRule → Option ℕ → Result Unit FieldError → Type 0
AnswersField broken class (Ok x) = (broken ≡ None) × ((c : ℕ) × (class ≡ Some c))
AnswersField broken class (Err errors.Memory) = broken ≡ None
AnswersField broken class (Err errors.NoClass) = (broken ≡ None) × (class ≡ None)
AnswersField broken class (Err (errors.Refused rule)) = broken ≡ Some rule

-- ---- handles

-- the field, or the static, at a place among those that a class declares itself
abbrev pub field_of : Classes → FieldHandle → Option FieldId
field_of classes h = slice_get (if h.is_static then own_statics classes h.class.number else own_fields classes h.class.number) h.place

-- the place of a field among these, and 0 where it isn't there
abbrev pub place_among : FieldId → List FieldId → ℕ
place_among f fields = option_map_or (λ i. i) (position (same_field f) fields) 0
