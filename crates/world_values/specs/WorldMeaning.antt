-- The world that lines define.
use Rattle.std.specs.Prelude.{ℕ, ◌+◌, Bool, true, false, pos, List, [], ◌∷◌, ◌++◌, length, map, position, Option, Some, None, filter_map, fold, unwrap_or, bytes_eq}
use Rattle.std.specs.Option.{option_map}
use Rattle.std.specs.List.{list_any}
use Rattle.base.specs.Bytes.{Identifier, ByName, lookup}
use Rattle.base.specs.declared.element.ElementType.TheVariants.{Int as JInt}
use Rattle.class_rules.specs.Class.{Field, NumberField, Classes, class_named, array_name}
use Rattle.class_rules.specs.BuiltIns.{built_ins, object_class, string_class, number_array}
use Rattle.class_rules.specs.Fields.{type_of_signature}
use Rattle.class_rules.specs.Additions.{new_class, with_class, with_field, with_static, with_methods}
use Rattle.semantics.specs.Object.{Reference, ObjectValue, Number, Refers, Object, sizes}
use Rattle.semantics.specs.World.{Invocation, World, loaded_objects}
use Rattle.world_values.specs.WorldLines.{WorldValue, NumberValue, NamedObject, NamedClass, WorldLine, MethodsLine, ClassLine, FieldLine, StaticLine, ObjectLine, ObjectsLine, ArrayLine, StringLine, ThreadLine, CallLine, Lines}

-- ---- classes

-- the number of a class, and 0 where it isn't there
abbrev pub class_number : Classes → Identifier → ℕ
class_number classes name = unwrap_or (class_named classes name) 0

-- the number of a class's superclass, which is java/lang/Object where the line names none
abbrev pub superclass_number : Classes → Option Identifier → ℕ
superclass_number classes None = object_class
superclass_number classes (Some name) = class_number classes name

-- a field or static of a line
abbrev pub field_of : Classes → Identifier → List ℕ → Field
field_of classes name signature = record { name = name; type = unwrap_or (type_of_signature classes signature) (NumberField JInt) }

-- the classes after one more line
abbrev pub table_with : Classes → WorldLine → Classes
table_with classes MethodsLine = with_methods classes
table_with classes (ClassLine name superclass) = with_class classes (new_class name (Some (superclass_number classes superclass)))
table_with classes (FieldLine class name signature) = with_field classes (class_number classes class) (field_of classes name signature)
table_with classes (StaticLine class name signature) = with_static classes (class_number classes class) (field_of classes name signature)
table_with classes line = classes

-- the built-in classes, and after them those that lines define
abbrev pub table_of : Lines → Classes
table_of lines = fold (λ classes l. table_with classes l.1) built_ins lines

-- ---- objects

-- the name and the class of the object that a line defines
abbrev pub object_defined : Classes → WorldLine → Option (Identifier × ℕ)
object_defined classes (ObjectLine x class values) = Some (x, class_number classes class)
object_defined classes (ObjectsLine x class values) = Some (x, class_number classes (array_name class))
object_defined classes (ArrayLine x t values) = Some (x, number_array t)
object_defined classes (StringLine x text) = Some (x, string_class)
object_defined classes line = None

-- the objects that lines define, by name, with their classes
abbrev pub objects_defined : Lines → ByName ℕ
objects_defined lines = filter_map (λ (l : ℕ × WorldLine). object_defined (table_of lines) l.1) lines

-- the class of a named object
abbrev pub class_of_object : Lines → Identifier → Option ℕ
class_of_object lines x = lookup x (objects_defined lines)

-- the name that an object gets at load: class objects and the OutOfMemoryError object are made first
abbrev pub object_number : Lines → Identifier → Option ℕ
object_number lines x =
    option_map (λ i. length (table_of lines) + 2 + i) (position (λ (o : Identifier × ℕ). bytes_eq o.0 x) (objects_defined lines))

-- what a value refers to
abbrev pub reference_of : Lines → WorldValue → Reference
reference_of lines (NamedObject x) = object_number lines x
reference_of lines (NamedClass name) = class_named (table_of lines) name
reference_of lines value = None

-- a value
abbrev pub value_of : Lines → WorldValue → ObjectValue
value_of lines (NumberValue z) = Number z
value_of lines value = Refers (reference_of lines value)

-- the values and arguments of a line
abbrev pub values_of_line : WorldLine → List WorldValue
values_of_line (ObjectLine x class values) = values
values_of_line (ObjectsLine x class values) = values
values_of_line (ArrayLine x t values) = values
values_of_line (StringLine x text) = map (λ b. NumberValue (pos b)) text
values_of_line (ThreadLine function arguments) = arguments
values_of_line (CallLine function arguments) = arguments
values_of_line line = []

-- the object that a line defines
abbrev pub object_of : Lines → WorldLine → Option Object
object_of lines line =
    option_map (λ (o : Identifier × ℕ). record { class = o.1; values = map (value_of lines) (values_of_line line) }) (object_defined (table_of lines) line)

-- ---- threads

-- one more call of the last thread
abbrev pub with_last : Invocation → List (List Invocation) → List (List Invocation)
with_last c [] = []
with_last c (calls ∷ []) = (calls ++ c ∷ []) ∷ []
with_last c (calls ∷ next ∷ threads) = calls ∷ with_last c (next ∷ threads)

-- a call of a line
abbrev pub invocation_of_line : Lines → ℕ → Identifier → List WorldValue → Invocation
invocation_of_line lines n function arguments = record { line = n; function = function; arguments = map (value_of lines) arguments }

-- the threads after one more line: a thread line begins a thread, a call line adds to the last one
abbrev pub threads_with : Lines → List (List Invocation) → ℕ × WorldLine → List (List Invocation)
threads_with lines threads (n, ThreadLine function arguments) = threads ++ (invocation_of_line lines n function arguments ∷ []) ∷ []
threads_with lines threads (n, CallLine function arguments) = with_last (invocation_of_line lines n function arguments) threads
threads_with lines threads (n, line) = threads

-- the calls of each thread, in order
abbrev pub threads_of : Lines → List (List Invocation)
threads_of lines = fold (threads_with lines) [] lines

-- ---- the whole

-- whether a line allows methods
abbrev pub is_methods_line : WorldLine → Bool
is_methods_line MethodsLine = true
is_methods_line line = false

-- whether one of several does
abbrev pub has_methods : Lines → Bool
has_methods lines = list_any (λ (l : ℕ × WorldLine). is_methods_line l.1) lines

-- the world of a heap of this number of cells, told on this line, and these lines
abbrev pub world_of : (heap_line cells : ℕ) → Lines → World
world_of heap_line cells lines = record {
  heap_line = heap_line;
  methods = has_methods lines;
  cells = cells;
  classes = table_of lines;
  objects = filter_map (λ (l : ℕ × WorldLine). object_of lines l.1) lines;
  threads = threads_of lines;
}

-- the cells that are used at load
abbrev pub cells_of : Lines → ℕ
cells_of lines = sizes (loaded_objects (world_of 0 0 lines))
