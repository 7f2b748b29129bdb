-- The heap. An object has a name, its birth number, and never moves.
use Rattle.std.specs.Prelude.{ℕ, zero, suc, ◌+◌, Bool, true, false, ℤ, pos, List, [], map, length, position, slice_get, slice_set, Option, Some, None}
use Rattle.std.specs.Option.{option_map_or}
use Rattle.base.specs.declared.element.ElementType.{ElementType}
use Rattle.base.specs.Element.{same_element}
use Rattle.class_rules.specs.Class.{Classes, FieldType, NumberField, ReferenceField, assignable}
use Rattle.class_rules.specs.Fields.{FieldId, layout, own_statics, same_field}
use Rattle.semantics.specs.Object.{ObjectValue, Number, Refers, Reference, Object}

-- the objects in the order of their birth, the first named 1; none is ever taken out
abbrev pub Heap : Type 0
Heap = List Object

-- the object of a name
abbrev pub object_at : Heap → ℕ → Option Object
object_at heap zero = None
object_at heap (suc i) = slice_get heap i

-- its class
abbrev pub class_of : Heap → ℕ → ℕ
class_of heap n = option_map_or (λ (o : Object). o.class) (object_at heap n) 0

-- its values
abbrev pub values_of : Heap → ℕ → List ObjectValue
values_of heap n = option_map_or (λ (o : Object). o.values) (object_at heap n) []

-- the heap with other values in an object; as it was, where there is none of this name
abbrev pub with_values : Heap → ℕ → List ObjectValue → Heap
with_values heap zero values = heap
with_values heap (suc i) values = slice_set heap i (record { class = class_of heap (suc i); values = values })

-- the name of the next object
abbrev pub next_name : Heap → ℕ
next_name heap = length heap + 1

-- ---- numbers and references among the values

-- the number of a value
abbrev pub number_in : ObjectValue → ℤ
number_in (Number z) = z
number_in (Refers r) = pos 0

-- the reference of a value
abbrev pub reference_in : ObjectValue → Reference
reference_in (Number z) = None
reference_in (Refers r) = r

-- the value at a place, and 0 past the end
abbrev pub value_or_zero : Option ObjectValue → ObjectValue
value_or_zero None = Number (pos 0)
value_or_zero (Some v) = v

-- the value at a place
abbrev pub value_at : Heap → ℕ → ℕ → ObjectValue
value_at heap n i = value_or_zero (slice_get (values_of heap n) i)

-- the heap with another value at a place
abbrev pub with_value_at : Heap → ℕ → ℕ → ObjectValue → Heap
with_value_at heap n i v = with_values heap n (slice_set (values_of heap n) i v)

-- the numbers of an array or a string
abbrev pub numbers_of : Heap → ℕ → List ℤ
numbers_of heap n = map number_in (values_of heap n)

-- the heap with other numbers in an array
abbrev pub with_numbers : Heap → ℕ → List ℤ → Heap
with_numbers heap n zs = with_values heap n (map Number zs)

-- ---- fields

-- the place of a field in these, and 0 where it isn't there
abbrev pub place_in : FieldId → List FieldId → ℕ
place_in f fields = option_map_or (λ i. i) (position (same_field f) fields) 0

-- the place of a field among the values of an object
abbrev pub field_place : Classes → Heap → ℕ → FieldId → ℕ
field_place classes heap n f = place_in f (layout classes (class_of heap n))

-- the place of a static among the values of its class object
abbrev pub static_place : Classes → FieldId → ℕ
static_place classes f = place_in f (own_statics classes f.class)

-- ---- what fits where

-- the object is of the class or one assignable to it
abbrev pub is_instance : Classes → Heap → ℕ → ℕ → Bool
is_instance classes heap n c = assignable classes (class_of heap n) c

-- NULL fits every class
abbrev pub fits_class : Classes → Heap → Reference → ℕ → Bool
fits_class classes heap None c = true
fits_class classes heap (Some n) c = is_instance classes heap n c

-- whether a field is of this number type
abbrev pub holds_number : ElementType → FieldType → Bool
holds_number T (NumberField U) = same_element T U
holds_number T (ReferenceField c) = false

-- whether a field is of a reference type
abbrev pub holds_reference : FieldType → Bool
holds_reference (NumberField T) = false
holds_reference (ReferenceField c) = true

-- whether a reference may be stored in such a field
abbrev pub fits_type : Classes → Heap → Reference → FieldType → Bool
fits_type classes heap r (NumberField T) = false
fits_type classes heap r (ReferenceField c) = fits_class classes heap r c
