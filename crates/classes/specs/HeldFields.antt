-- The fields that lie in memory, as fields of the definitions.
use Rattle.std.specs.Prelude.{ℕ, List, map}
use Rattle.std.specs.Global.{Vec}
use Rattle.classes.specs.declared.class.FieldType.{FieldType as FieldTypeInMemory}
use Rattle.classes.specs.declared.class.FieldType.TheVariants as type
use Rattle.classes.specs.declared.class.Field.{Field as FieldInMemory}
use Rattle.class_rules.specs.Class.{FieldType, NumberField, ReferenceField, Field}

abbrev pub field_type_view : FieldTypeInMemory → FieldType
field_type_view (type.Number t) = NumberField t
field_type_view (type.Reference c) = ReferenceField c.number

abbrev pub field_view : FieldInMemory → Field
field_view f = record { name = f.name.now; type = field_type_view f.field_type }

-- a field, by its name and what it holds
abbrev pub own_field : Vec ℕ × FieldTypeInMemory → Field
own_field (name, held) = record { name = name.items; type = field_type_view held }

abbrev pub own_view : List (Vec ℕ × FieldTypeInMemory) → List Field
own_view entries = map own_field entries
