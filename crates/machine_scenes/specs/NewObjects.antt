-- Objects to be made, in memory and in the source.
use Rattle.std.specs.Global.{Vec}
use Rattle.std.specs.Prelude.{◌≡◌, ℕ, ◌<◌, ◌≤◌, List, [], length, map, replicate, slice_get, slice_set, unwrap_or, Some}
use Rattle.class_rules.specs.BuiltIns.{class_class, string_class}
use Rattle.class_rules.specs.Class.{Classes, FieldType, NumberField, ReferenceField}
use Rattle.class_rules.specs.Fields.{FieldId, layout}
use Rattle.heap.specs.Heap.{Space, name_at}
use Rattle.heap.specs.declared.value.Value.{Value}
use Rattle.heap.specs.declared.value.Value.TheVariants as value
use Rattle.semantics.specs.CallEffects.{string_object, with_message}
use Rattle.semantics.specs.Object.{Object, ObjectValue, object_size}
use Rattle.semantics.specs.World.{fresh_object}
use Rattle.machine_scenes.specs.declared.new_object.New.{New}
use Rattle.machine_scenes.specs.declared.new_object.New.TheVariants.{Fresh, Array, Text, Exception}
use Rattle.machine_scenes.specs.HeapAgrees.{ValueAgrees}

-- ---- texts

-- the texts of a call in memory
abbrev pub texts_in : List (Vec ℕ) → List (List ℕ)
texts_in texts = map (λ text. text.items) texts

-- the text at a place, and an empty one where there is none
abbrev pub text_in : List (List ℕ) → (place : ℕ) → List ℕ
text_in texts place = unwrap_or (slice_get texts place) []

-- each of these is a byte
abbrev pub AreBytes : List ℕ → Type 0
AreBytes bytes = (i b : ℕ) → slice_get bytes i ≡ Some b → b < 256

-- ---- in memory

-- what a new field of this type holds
abbrev pub initial_value : FieldType → Value
initial_value (NumberField T) = value.Number 0
initial_value (ReferenceField c) = value.Null

-- what the fields of a new object of a class hold
abbrev pub initial_values : Classes → (class : ℕ) → List Value
initial_values classes class = map (λ (f : FieldId). initial_value f.field.type) (layout classes class)

-- the units of a string of these bytes
abbrev pub units : List ℕ → List Value
units bytes = map (λ (b : ℕ). value.Number b) bytes

-- what the fields of a new exception of a class hold, of which the first is its message
abbrev pub values_of_exception : Classes → (class message : ℕ) → List Value
values_of_exception classes class message = slice_set (initial_values classes class) 0 (value.Block message)

-- the class of an object to be made
abbrev pub class_of_new : New → ℕ
class_of_new (Fresh class) = class.number
class_of_new (Array array) = array.class.number
class_of_new (Text place) = string_class
class_of_new (Exception class message) = class.number

-- its values, where a call has these texts
abbrev pub values_of_new : Classes → (texts : List (List ℕ)) → New → List Value
values_of_new classes texts (Fresh class) = initial_values classes class.number
values_of_new classes texts (Array array) = replicate array.count array.value
values_of_new classes texts (Text place) = units (text_in texts place)
values_of_new classes texts (Exception class message) = values_of_exception classes class.number message

-- the cells that it takes
abbrev pub cells_of_new : Classes → (texts : List (List ℕ)) → New → ℕ
cells_of_new classes texts new = object_size (length (values_of_new classes texts new))

-- a string is of bytes
abbrev pub IsOfBytes : (texts : List (List ℕ)) → New → Type 0
IsOfBytes texts (Text place) = AreBytes (text_in texts place)
IsOfBytes texts new = Unit {0}

-- ---- in the source

-- objects of this class can be made
pub record IsMakeable (classes : Classes) (c : ℕ) : Type 0 where
  pub low : 0 < c
  pub high : c ≤ length classes
  pub no_class : c ≡ class_class → ⊥

-- what is made is this object of the source
abbrev pub IsObject : Classes → (texts : List (List ℕ)) → Space → New → Object → Type 0
IsObject classes texts space (Fresh class) o = o ≡ fresh_object classes class.number
IsObject classes texts space (Array array) o = (v : ObjectValue) × ValueAgrees space array.value v
    × (o ≡ record { class = array.class.number; values = replicate array.count v })
IsObject classes texts space (Text place) o = o ≡ string_object (text_in texts place)
IsObject classes texts space (Exception class message) o = (n : ℕ) × (name_at space message ≡ Some n)
    × (o ≡ with_message (fresh_object classes class.number) (Some n))

-- the same, and objects of its class can be made
pub record Describes (classes : Classes) (texts : List (List ℕ)) (space : Space) (new : New) (o : Object) : Type 0 where
  pub object : IsObject classes texts space new o
  pub makeable : IsMakeable classes (class_of_new new)
