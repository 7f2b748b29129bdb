-- Objects that are to be made, as those of the language.
use Rattle.std.specs.Prelude.{ℕ, List, [], ◌∷◌, replicate, Some}
use Rattle.std.specs.Option.{option_map_or}
use Rattle.class_rules.specs.Class.{Classes, array_class_of}
use Rattle.semantics.specs.CallEffects.{string_object, with_message}
use Rattle.semantics.specs.Heap.{Heap, next_name}
use Rattle.semantics.specs.Object.{Object, ObjectValue, Refers, Reference}
use Rattle.semantics.specs.Views.{name_of}
use Rattle.semantics.specs.World.{fresh_object}
use Rattle.replay_objects.specs.declared.new.New.{New as InMemory}
use Rattle.replay_objects.specs.declared.new.New.TheVariants as new
use Rattle.world_values.specs.Views.{object_value_view}

-- an object of a class with zero and null fields, an array of equal values, one of equal references to objects of a class, or a
-- string, one unit a byte
pub data New : Type 0 where
  Fresh : (class : ℕ) → New
  Array : (class count : ℕ) → ObjectValue → New
  ObjectArray : (element count : ℕ) → Reference → New
  Text : (bytes : List ℕ) → New

abbrev pub new_view : InMemory → New
new_view (new.Fresh c) = Fresh c.number
new_view (new.Array c n v) = Array c.number n (object_value_view v)
new_view (new.ObjectArray c n r) = ObjectArray c.number n (name_of r)
new_view (new.Text bytes) = Text bytes.now

-- the class of arrays of objects of a class, and 0 where there is none
abbrev pub array_class : Classes → ℕ → ℕ
array_class classes c = option_map_or (λ d. d) (array_class_of classes c) 0

-- the object that is made
abbrev pub object_of : Classes → New → Object
object_of classes (Fresh c) = fresh_object classes c
object_of classes (Array c n v) = record { class = c; values = replicate n v }
object_of classes (ObjectArray c n r) = record { class = array_class classes c; values = replicate n (Refers r) }
object_of classes (Text bytes) = string_object bytes

-- a string and an exception of a class with it as message, the next objects of this heap
abbrev pub thrown : Classes → Heap → (class : ℕ) → (text : List ℕ) → List Object
thrown classes heap c text = string_object text ∷ with_message (fresh_object classes c) (Some (next_name heap)) ∷ []
