-- The fields of classes: their order in objects, how they are found, and the signatures of their types.
use Rattle.std.specs.Prelude.{ℕ, Bool, true, false, ◌&&◌, ◌==◌, List, [], ◌∷◌, ◌++◌, map, reverse, flat_map, find, Option, codes}
use Rattle.std.specs.Option.{option_map_or}
use Rattle.std.specs.List.{enumerate_from}
use Rattle.std.specs.Str.{bytes_eq}
use Rattle.base.specs.Bytes.{Identifier}
use Rattle.base.specs.declared.element.ElementType.TheVariants.{Int as JInt, Short as JShort, Byte as JByte, Char as JChar}
use Rattle.class_rules.specs.Class.{Field, FieldType, NumberField, ReferenceField, ClassKind, Plain, Class, Classes, class_at, class_kind, class_name, ancestry}

-- a field or static, by the class that declares it
pub record FieldId : Type 0 where
  pub class : ℕ
  pub is_static : Bool
  pub field : Field

-- the fields that a class declares itself
abbrev pub own_fields : Classes → ℕ → List FieldId
own_fields classes c = map (λ f. record { class = c; is_static = false; field = f }) (option_map_or (λ (d : Class). d.fields) (class_at classes c) [])

-- the statics that a class declares itself
abbrev pub own_statics : Classes → ℕ → List FieldId
own_statics classes c = map (λ f. record { class = c; is_static = true; field = f }) (option_map_or (λ (d : Class). d.statics) (class_at classes c) [])

-- the fields of a class's objects in their order: the superclass's first, then its own
abbrev pub layout : Classes → ℕ → List FieldId
layout classes c = flat_map (own_fields classes) (reverse (ancestry classes c))

-- names are declared once in a class
abbrev pub same_field : FieldId → FieldId → Bool
same_field f g = (f.class == g.class) && bytes_eq f.field.name g.field.name

-- the signature of a reference to a class
abbrev pub reference_signature : ClassKind → List ℕ → List ℕ
reference_signature Plain name = codes "L" ++ name ++ codes ";"
reference_signature kind name = name

-- the text that stands for a type in a world and in GetFieldID
abbrev pub signature : Classes → FieldType → List ℕ
signature classes (NumberField JInt) = codes "I"
signature classes (NumberField JShort) = codes "S"
signature classes (NumberField JByte) = codes "B"
signature classes (NumberField JChar) = codes "C"
signature classes (ReferenceField c) = reference_signature (class_kind classes c) (class_name classes c)

-- the types that a field can have
abbrev pub field_types : Classes → List FieldType
field_types classes =
    NumberField JInt ∷ NumberField JShort ∷ NumberField JByte ∷ NumberField JChar
    ∷ map (λ (c : ℕ × Class). ReferenceField c.0) (enumerate_from 1 classes)

-- the type whose signature this is
abbrev pub type_of_signature : Classes → List ℕ → Option FieldType
type_of_signature classes text = find (λ type. bytes_eq (signature classes type) text) (field_types classes)

-- the first of these fields with that name and signature
abbrev pub field_among : Classes → List FieldId → Identifier → List ℕ → Option FieldId
field_among classes fields name text = find (λ f. bytes_eq f.field.name name && bytes_eq (signature classes f.field.type) text) fields

-- the field that GetFieldID finds: own class first, then superclasses
abbrev pub find_field : Classes → ℕ → Identifier → List ℕ → Option FieldId
find_field classes c name text = field_among classes (flat_map (own_fields classes) (ancestry classes c)) name text

-- the static that GetStaticFieldID finds
abbrev pub find_static : Classes → ℕ → Identifier → List ℕ → Option FieldId
find_static classes c name text = field_among classes (flat_map (own_statics classes) (ancestry classes c)) name text
