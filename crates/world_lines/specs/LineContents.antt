-- What a line says by itself, as the rules on it ask for it.
use Rattle.std.specs.Prelude.{ℕ, Bool, true, false, List, [], length, Option, Some, None}
use Rattle.base.specs.Bytes.{Identifier}
use Rattle.semantics.specs.Object.{object_size}
use Rattle.world_values.specs.WorldLines.{WorldValue, NumberValue, WorldLine, MethodsLine, ClassLine, StaticLine, ObjectLine, ObjectsLine, ArrayLine, StringLine, ThreadLine, CallLine}

-- the values that it writes; a string writes none
abbrev pub written_values : WorldLine → List WorldValue
written_values (ObjectLine x class values) = values
written_values (ObjectsLine x class values) = values
written_values (ArrayLine x t values) = values
written_values (ThreadLine function arguments) = arguments
written_values (CallLine function arguments) = arguments
written_values line = []

-- the name that it gives its object
abbrev pub name_given : WorldLine → Option Identifier
name_given (ObjectLine x class values) = Some x
name_given (ObjectsLine x class values) = Some x
name_given (ArrayLine x t values) = Some x
name_given (StringLine x text) = Some x
name_given line = None

-- the cells that it adds at load: of two class objects, of a static, or of an object
abbrev pub cells_added : WorldLine → ℕ
cells_added MethodsLine = 6
cells_added (ClassLine name superclass) = 6
cells_added (StaticLine class name signature) = 1
cells_added (ObjectLine x class values) = object_size (length values)
cells_added (ObjectsLine x class values) = object_size (length values)
cells_added (ArrayLine x t values) = object_size (length values)
cells_added (StringLine x text) = object_size (length text)
cells_added line = 0

-- whether it is a number
abbrev pub is_number : WorldValue → Bool
is_number (NumberValue z) = true
is_number value = false
