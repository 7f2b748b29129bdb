-- Worlds: the heap's cells, the classes, the objects and each thread's calls, with which a run begins.
use Rattle.std.specs.Prelude.{ℕ, pos, Bool, List, [], ◌∷◌, ◌++◌, map, nat_le, None}
use Rattle.std.specs.List.{enumerate_from}
use Rattle.base.specs.Bytes.{Identifier}
use Rattle.class_rules.specs.Class.{FieldType, NumberField, ReferenceField, Class, Classes}
use Rattle.class_rules.specs.BuiltIns.{class_class, out_of_memory_error}
use Rattle.class_rules.specs.Fields.{FieldId, layout, own_statics}
use Rattle.semantics.specs.Object.{ObjectValue, Number, Refers, Object, sizes}

-- a call that a world asks for: numbers and references for the parameters
pub record Invocation : Type 0 where
  -- the line of the world's text
  pub line : ℕ
  pub function : Identifier
  pub arguments : List ObjectValue

-- Classes go by their number in the class table, objects by the name that they get at load.
pub record World : Type 0 where
  -- the line of the world's text that tells the heap, and whether it allows methods
  pub heap_line : ℕ
  pub methods : Bool
  pub cells : ℕ
  pub classes : Classes
  pub objects : List Object
  pub threads : List (List Invocation)

-- ---- the objects made at load

-- what a new field holds
abbrev pub initial : FieldType → ObjectValue
initial (NumberField kind) = Number (pos 0)
initial (ReferenceField c) = Refers None

-- a new object of a class, with zero and null fields
abbrev pub fresh_object : Classes → ℕ → Object
fresh_object classes c = record { class = c; values = map (λ (f : FieldId). initial f.field.type) (layout classes c) }

-- a class object, whose values are the statics that the class declares
abbrev pub class_object : Classes → ℕ → Object
class_object classes c = record { class = class_class; values = map (λ (f : FieldId). initial f.field.type) (own_statics classes c) }

-- the class objects in the order of the table
abbrev pub class_objects : Classes → List Object
class_objects classes = map (λ (c : ℕ × Class). class_object classes c.0) (enumerate_from 1 classes)

-- the class objects and the OutOfMemoryError object, which are made before the world's
abbrev pub made_before : Classes → List Object
made_before classes = class_objects classes ++ fresh_object classes out_of_memory_error ∷ []

-- the class objects, the OutOfMemoryError object, and the world's
abbrev pub loaded_objects : World → List Object
loaded_objects w = class_objects w.classes ++ fresh_object w.classes out_of_memory_error ∷ w.objects

-- whether these objects fit into the world's cells
abbrev pub fits_cells : World → Bool
fits_cells w = nat_le (sizes (loaded_objects w)) w.cells
