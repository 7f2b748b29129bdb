-- Which texts are worlds.
use Rattle.std.specs.Prelude.{◌≡◌, ℕ, ◌≤◌, Bool, true, false, not, ◌&&◌, ◌||◌, ℤ, pos, negsuc, List, [], ◌∷◌, ◌++◌, length, map, codes, decimal, nat_lt, nat_le, ◌==◌, IsTrue, filter, unwrap_or, if◌then◌else◌, is_some}
use Rattle.std.specs.List.{list_any, list_all, AllZip}
use Rattle.base.specs.Limits.{least_cells, most_calls, most_cells, most_objects, most_threads}
use Rattle.base.specs.Bytes.{Identifier, is_from_to}
use Rattle.base.specs.declared.element.ElementType.{ElementType}
use Rattle.base.specs.declared.element.ElementType.TheVariants.{Int as JInt, Short as JShort, Byte as JByte, Char as JChar}
use Rattle.base.specs.Options.{some_passes}
use Rattle.class_rules.specs.Class.{FieldType, NumberField, ReferenceField, Classes, class_named, class_kind, is_plain, assignable}
use Rattle.class_rules.specs.BuiltIns.{class_class, has_own_making}
use Rattle.class_rules.specs.Fields.{FieldId, layout}
use Rattle.class_rules.specs.declared.rule.ClassRule.{ClassRule}
use Rattle.class_rules.specs.Additions.{class_breaks, field_breaks, built_in_count}
use Rattle.world_schedules.specs.LineRules.{LineRule, OfClass, LineForm, WrongName, OutOfLimit, HeapFull, line_rules}
use Rattle.class_rules.specs.Mangling.{is_simple_name, is_class_name}
use Rattle.semantics.specs.World.{World}
use Rattle.world_values.specs.declared.part.Part.{Part}
use Rattle.world_values.specs.declared.part.Part.TheVariants as parts
use Rattle.world_values.specs.WorldLines.{WorldValue, NumberValue, NullValue, NamedObject, NamedClass, WorldLine, MethodsLine, ClassLine, FieldLine, StaticLine, ObjectLine, ObjectsLine, ArrayLine, StringLine, ThreadLine, CallLine, Lines, spaced, IsLineText, text_lines}
use Rattle.world_values.specs.WorldMeaning.{class_number, table_of, object_defined, objects_defined, class_of_object, values_of_line, threads_of, has_methods, world_of, cells_of}

-- ---- the form and the order of lines

-- class and field lines, then objects, then threads
abbrev pub part_of : WorldLine → Part
part_of MethodsLine = parts.Classes
part_of (ClassLine name superclass) = parts.Classes
part_of (FieldLine class name signature) = parts.Classes
part_of (StaticLine class name signature) = parts.Classes
part_of (ThreadLine function arguments) = parts.Threads
part_of (CallLine function arguments) = parts.Threads
part_of line = parts.Objects

-- whether a part is the other or comes before it
abbrev pub is_no_later : Part → Part → Bool
is_no_later parts.Classes other = true
is_no_later parts.Objects parts.Classes = false
is_no_later parts.Objects other = true
is_no_later parts.Threads parts.Threads = true
is_no_later parts.Threads other = false

-- whether a line begins a thread
abbrev pub is_thread_line : WorldLine → Bool
is_thread_line (ThreadLine function arguments) = true
is_thread_line line = false

-- whether a line adds to a thread
abbrev pub is_call_line : WorldLine → Bool
is_call_line (CallLine function arguments) = true
is_call_line line = false

-- no line of a later part comes before it, and a thread before a further call
abbrev pub is_in_order : Lines → WorldLine → Bool
is_in_order earlier line =
    list_all (λ (l : ℕ × WorldLine). is_no_later (part_of l.1) (part_of line)) earlier
    && (not (is_call_line line) || list_any (λ (l : ℕ × WorldLine). is_thread_line l.1) earlier)

-- the name of an object is a simple name, also where it is used
abbrev pub is_formed_value : WorldValue → Bool
is_formed_value (NamedObject x) = is_simple_name x
is_formed_value value = true

-- a class of which an object line may make an object
abbrev pub is_object_class : Classes → Identifier → Bool
is_object_class classes class = some_passes (λ c. not (has_own_making classes c)) (class_named classes class)

-- the types of the fields of a class's objects
abbrev pub layout_types : Classes → ℕ → List FieldType
layout_types classes c = map (λ (f : FieldId). f.field.type) (layout classes c)

-- what a line defines is named as it should be, a string has text bytes, and an object has a value for each field; that of
-- methods is no line after that of the heap
abbrev pub is_well_formed : Classes → WorldLine → Bool
is_well_formed classes MethodsLine = false
is_well_formed classes (ClassLine name superclass) = is_class_name name
is_well_formed classes (FieldLine class name signature) = is_simple_name name
is_well_formed classes (StaticLine class name signature) = is_simple_name name
is_well_formed classes (ObjectLine x class values) =
    is_simple_name x && (not (is_object_class classes class) || length values == length (layout_types classes (class_number classes class)))
is_well_formed classes (ObjectsLine x class values) = is_simple_name x
is_well_formed classes (ArrayLine x t values) = is_simple_name x
is_well_formed classes (StringLine x text) = is_simple_name x && list_all (is_from_to 32 126) text
is_well_formed classes (ThreadLine function arguments) = true
is_well_formed classes (CallLine function arguments) = true

-- ---- names and values

-- a class that the world defines
abbrev pub is_world_class : (methods : Bool) → Classes → Identifier → Bool
is_world_class methods classes class = some_passes (λ c. nat_lt (built_in_count methods) c && is_plain (class_kind classes c)) (class_named classes class)

-- whether a line's class is known and allowed
abbrev pub is_class_allowed : (methods : Bool) → Classes → WorldLine → Bool
is_class_allowed methods classes (FieldLine class name signature) = is_world_class methods classes class
is_class_allowed methods classes (StaticLine class name signature) = is_world_class methods classes class
is_class_allowed methods classes (ObjectLine x class values) = is_object_class classes class
is_class_allowed methods classes (ObjectsLine x class values) = some_passes (λ c. is_plain (class_kind classes c)) (class_named classes class)
is_class_allowed methods classes line = true

-- whether the name that a line gives its object is taken
abbrev pub is_name_taken : Lines → WorldLine → Bool
is_name_taken earlier line = some_passes (λ (o : Identifier × ℕ). is_some (class_of_object earlier o.0)) (object_defined (table_of earlier) line)

-- whether a value's object or class is known
abbrev pub is_known_value : Lines → WorldValue → Bool
is_known_value lines (NamedObject x) = is_some (class_of_object lines x)
is_known_value lines (NamedClass name) = is_some (class_named (table_of lines) name)
is_known_value lines value = true

-- whether a place of a type can hold a value, its range aside
abbrev pub holds_value : Lines → FieldType → WorldValue → Bool
holds_value lines (NumberField t) (NumberValue z) = true
holds_value lines (ReferenceField c) NullValue = true
holds_value lines (ReferenceField c) (NamedObject x) = assignable (table_of lines) (unwrap_or (class_of_object lines x) 0) c
holds_value lines (ReferenceField c) (NamedClass name) = assignable (table_of lines) class_class c
holds_value lines t value = false

-- the type of each value of an object line
abbrev pub types_of_line : Classes → WorldLine → List FieldType
types_of_line classes (ObjectLine x class values) = layout_types classes (class_number classes class)
types_of_line classes (ObjectsLine x class values) = map (λ v. ReferenceField (class_number classes class)) values
types_of_line classes (ArrayLine x t values) = map (λ v. NumberField t) values
types_of_line classes line = []

-- each place can hold its value
abbrev pub each_holds : Lines → List FieldType → List WorldValue → Bool
each_holds lines (t ∷ types) (v ∷ values) = holds_value lines t v && each_holds lines types values
each_holds lines types values = true

-- ---- ranges and limits

-- whether a number is from -low to high
abbrev pub is_between : ℕ → ℕ → ℤ → Bool
is_between low high (pos n) = nat_le n high
is_between low high (negsuc n) = nat_lt n low

-- whether a number is in a type's range
abbrev pub is_in_range : ElementType → ℤ → Bool
is_in_range JInt z = is_between 2147483648 2147483647 z
is_in_range JShort z = is_between 32768 32767 z
is_in_range JByte z = is_between 128 127 z
is_in_range JChar z = is_between 0 65535 z

-- the same of a value that is a number
abbrev pub value_in_range : ElementType → WorldValue → Bool
value_in_range t (NumberValue z) = is_in_range t z
value_in_range t value = true

-- numbers in their types' ranges; an argument is in that of jint
abbrev pub each_in_range : List FieldType → List WorldValue → Bool
each_in_range (NumberField t ∷ types) (v ∷ values) = value_in_range t v && each_in_range types values
each_in_range (t ∷ types) (v ∷ values) = each_in_range types values
each_in_range types values = list_all (value_in_range JInt) values

-- the limits on objects, threads and calls
abbrev pub is_within_limits : Lines → Bool
is_within_limits lines =
    nat_le (length (objects_defined lines)) most_objects && nat_le (length (threads_of lines)) most_threads
    && list_all (λ calls. nat_le (length calls) most_calls) (threads_of lines)

-- ---- the rules on a line, after earlier lines

-- a rule on classes and fields
abbrev pub breaks_class_rule : ClassRule → Classes → WorldLine → Bool
breaks_class_rule rule classes (ClassLine name superclass) = class_breaks rule classes name (unwrap_or superclass (codes "java/lang/Object"))
breaks_class_rule rule classes (FieldLine class name signature) = field_breaks rule classes (class_named classes class) name signature
breaks_class_rule rule classes (StaticLine class name signature) = field_breaks rule classes (class_named classes class) name signature
breaks_class_rule rule classes line = false

-- whether a line in its order, its number with it, breaks a rule on a heap of this number of cells
abbrev pub line_breaks : LineRule → ℕ → Lines → ℕ × WorldLine → Bool
line_breaks (OfClass rule) cells earlier (n, line) = breaks_class_rule rule (table_of earlier) line
line_breaks LineForm cells earlier (n, line) = not (is_well_formed (table_of earlier) line) || not (list_all is_formed_value (values_of_line line))
line_breaks WrongName cells earlier (n, line) =
    is_name_taken earlier line
    || not (is_class_allowed (has_methods earlier) (table_of earlier) line)
    || not (list_all (is_known_value earlier) (values_of_line line))
    || not (each_holds earlier (types_of_line (table_of earlier) line) (values_of_line line))
line_breaks OutOfLimit cells earlier (n, line) =
    not (each_in_range (types_of_line (table_of earlier) line) (values_of_line line)) || not (is_within_limits (earlier ++ (n, line) ∷ []))
line_breaks HeapFull cells earlier (n, line) = is_no_later (part_of line) parts.Objects && nat_lt cells (cells_of (earlier ++ (n, line) ∷ []))

-- the rules that a line breaks; out of its order that is the only one
abbrev pub broken_by_line : ℕ → Lines → ℕ × WorldLine → List LineRule
broken_by_line cells earlier line =
    if is_in_order earlier line.1 then filter (λ rule. line_breaks rule cells earlier line) line_rules else LineForm ∷ []

-- the rules that lines break, each line after those before it
abbrev pub broken_after : ℕ → Lines → Lines → List (ℕ × LineRule)
broken_after cells earlier [] = []
broken_after cells earlier (line ∷ lines) = map (λ rule. (line.0, rule)) (broken_by_line cells earlier line) ++ broken_after cells (earlier ++ line ∷ []) lines

-- ---- worlds

-- a line of a text is a line of a world, with its number
abbrev pub IsNumberedLine : ℕ × List ℕ → ℕ × WorldLine → Type 0
IsNumberedLine text line = (text.0 ≡ line.0) × IsLineText text.1 line.1

-- the words of the line of the heap
abbrev pub heap_words : (cells : ℕ) (methods : Bool) → List (List ℕ)
heap_words cells methods = codes "heap" ∷ decimal cells ∷ (if methods then codes "methods" ∷ [] else [])

-- what the line of the heap says of classes
abbrev pub first_lines : (heap_line : ℕ) (methods : Bool) → Lines
first_lines heap_line methods = if methods then (heap_line, MethodsLine) ∷ [] else []

-- the world that a text means
pub record IsWorldText (text : List ℕ) (world : World) : Type 0 where
  pub written : List (ℕ × List ℕ)
  pub lines : Lines
  pub spelled : text_lines text ≡ (world.heap_line, spaced (heap_words world.cells world.methods)) ∷ written
  pub lines_spelled : AllZip IsNumberedLine written lines
  pub size : (least_cells ≤ world.cells) × (world.cells ≤ most_cells)
  pub rules : broken_after world.cells (first_lines world.heap_line world.methods) lines ≡ []
  pub threads : IsTrue (list_any (λ (l : ℕ × WorldLine). is_thread_line l.1) lines)
  pub meant : world ≡ world_of world.heap_line world.cells (first_lines world.heap_line world.methods ++ lines)

-- what pins it from outside: a text means one world at most
abbrev pub MeansOneWorld : Type 0
MeansOneWorld = (text : List ℕ) (a b : World) → IsWorldText text a → IsWorldText text b → a ≡ b
