-- What the lines so far say, as the rules on the next line ask for it, and what one more line adds.
use Rattle.std.specs.Prelude.{◌≡◌, ℕ, ◌+◌, Bool, true, false, not, ◌&&◌, ◌||◌, ◌==◌, List, [], ◌∷◌, ◌++◌, length, map, position, pos, codes, nat_lt, nat_le, Option, Some, None, Result, Ok, Err, is_some, filter_map, unwrap_or, bytes_eq, if◌then◌else◌}
use Rattle.std.specs.Option.{option_map, option_to_list}
use Rattle.std.specs.List.{list_all}
use Rattle.base.specs.Limits.{most_calls}
use Rattle.base.specs.Bytes.{Identifier, ByName, lookup}
use Rattle.base.specs.Options.{some_passes}
use Rattle.class_rules.specs.declared.rule.ClassRule.{ClassRule}
use Rattle.class_rules.specs.Additions.{new_class, with_class, with_field, with_static, with_methods}
use Rattle.class_rules.specs.BuiltIns.{class_class, string_class, number_array}
use Rattle.class_rules.specs.Class.{FieldType, NumberField, ReferenceField, Classes, class_named, array_name, assignable}
use Rattle.semantics.specs.Object.{ObjectValue, Number, Refers, Object, object_size}
use Rattle.semantics.specs.World.{Invocation, World}
use Rattle.world_schedules.specs.declared.fault.ReadError.{ReadError}
use Rattle.world_schedules.specs.declared.fault.Rule.TheVariants as held
use Rattle.world_schedules.specs.declared.fault.TextFault.{TextFault}
use Rattle.world_schedules.specs.Reading.{◌>>=◌, refused, Fails}
use Rattle.world_lines.specs.ClassRules.{broken_class_rule, is_formed}
use Rattle.world_lines.specs.LineContents.{written_values, name_given, cells_added, is_number}
use Rattle.world_lines.specs.ReadingLines.{HeapLine, line_of}
use Rattle.world.specs.ReadingWorlds.{ruled, lines_read, last_number, world_read}
use Rattle.world_schedules.specs.LineRules.{LineRule, OfClass, LineForm, WrongName, OutOfLimit, HeapFull}
use Rattle.world_values.specs.declared.part.Part.{Part}
use Rattle.world_values.specs.declared.part.Part.TheVariants as parts
use Rattle.world_values.specs.WorldLines.{WorldValue, NumberValue, NullValue, NamedObject, NamedClass, WorldLine, MethodsLine, ClassLine, FieldLine, StaticLine, ObjectLine, ObjectsLine, ArrayLine, StringLine, ThreadLine, CallLine, Lines}
use Rattle.world_values.specs.WorldMeaning.{class_number, field_of, table_of, objects_defined, object_of, with_last, threads_of, has_methods, cells_of}
use Rattle.world_values.specs.WorldRules.{first_lines, part_of, is_no_later, is_call_line, is_class_allowed, types_of_line, each_in_range}

pub record Gathered : Type 0 where
  -- the line of the heap, and whether it allows methods
  pub heap_line : ℕ
  pub methods : Bool
  pub cells : ℕ
  pub classes : Classes
  -- the objects' names, each with its class
  pub names : ByName ℕ
  pub objects : List Object
  pub threads : List (List Invocation)
  -- the cells that are used at load
  pub used : ℕ
  -- the part of the last line
  pub part : Part

-- what these lines say, the last of which is of this part
abbrev pub gather : (heap_line cells : ℕ) → (part : Part) → Lines → Gathered
gather heap_line cells part lines = record {
  heap_line = heap_line;
  methods = has_methods lines;
  cells = cells;
  classes = table_of lines;
  names = objects_defined lines;
  objects = filter_map (λ (l : ℕ × WorldLine). object_of lines l.1) lines;
  threads = threads_of lines;
  used = cells_of lines;
  part = part;
}

-- ---- the rules on the next line

-- no line of a later part is before it, and a thread is before a further call
abbrev pub comes_in_order : Gathered → WorldLine → Bool
comes_in_order g line = is_no_later g.part (part_of line) && (not (is_call_line line) || is_no_later parts.Threads g.part)

-- whether a value's object or class is known
abbrev pub is_known : Classes → ByName ℕ → WorldValue → Bool
is_known classes names (NamedObject x) = is_some (lookup x names)
is_known classes names (NamedClass name) = is_some (class_named classes name)
is_known classes names value = true

-- whether references to objects of a class can be this value
abbrev pub refers_to : Classes → ByName ℕ → (class : ℕ) → WorldValue → Bool
refers_to classes names c (NumberValue z) = false
refers_to classes names c NullValue = true
refers_to classes names c (NamedObject x) = assignable classes (unwrap_or (lookup x names) 0) c
refers_to classes names c (NamedClass name) = assignable classes class_class c

-- whether a place of a type can hold a value, its range aside
abbrev pub can_hold : Classes → ByName ℕ → FieldType → WorldValue → Bool
can_hold classes names (NumberField t) value = is_number value
can_hold classes names (ReferenceField c) value = refers_to classes names c value

-- each place can hold its value
abbrev pub each_can_hold : Classes → ByName ℕ → List FieldType → List WorldValue → Bool
each_can_hold classes names (t ∷ types) (v ∷ values) = can_hold classes names t v && each_can_hold classes names types values
each_can_hold classes names types values = true

-- whether its names are free, allowed and known, and its values are held
abbrev pub is_named : (methods : Bool) → Classes → ByName ℕ → WorldLine → Bool
is_named methods classes names line =
    not (some_passes (λ x. is_some (lookup x names)) (name_given line))
    && is_class_allowed methods classes line
    && list_all (is_known classes names) (written_values line)
    && each_can_hold classes names (types_of_line classes line) (written_values line)

-- the calls of the last thread
abbrev pub last_calls : List (List Invocation) → List Invocation
last_calls [] = []
last_calls (calls ∷ []) = calls
last_calls (calls ∷ next ∷ threads) = last_calls (next ∷ threads)

-- the limits on objects, threads and calls
abbrev pub has_place : Gathered → WorldLine → Bool
has_place g (ThreadLine function arguments) = nat_lt (length g.threads) 8
has_place g (CallLine function arguments) = nat_lt (length (last_calls g.threads)) most_calls
has_place g line = nat_lt (length g.names + length (option_to_list (name_given line))) 65537

-- the first that is broken
abbrev pub least_broken : Option ClassRule → (form names limits room : Bool) → Option LineRule
least_broken (Some rule) form names limits room = Some (OfClass rule)
least_broken None form names limits room =
    if not form then Some LineForm
    else (if not names then Some WrongName
    else (if not limits then Some OutOfLimit
    else (if not room then Some HeapFull else None)))

-- the least rule that the next line breaks
abbrev pub least_rule : Gathered → WorldLine → Option LineRule
least_rule g line =
    if comes_in_order g line
    then least_broken
    (broken_class_rule g.classes line)
    (is_formed g.classes line)
    (is_named g.methods g.classes g.names line)
    (each_in_range (types_of_line g.classes line) (written_values line) && has_place g line)
    (nat_le (g.used + cells_added line) g.cells)
    else Some LineForm

-- ---- one more line

-- the name that an object gets at load
abbrev pub object_at : Classes → ByName ℕ → Identifier → Option ℕ
object_at classes names x = option_map (λ i. length classes + 2 + i) (position (λ (o : Identifier × ℕ). bytes_eq o.0 x) names)

-- a value
abbrev pub value_at : Classes → ByName ℕ → WorldValue → ObjectValue
value_at classes names (NumberValue z) = Number z
value_at classes names NullValue = Refers None
value_at classes names (NamedObject x) = Refers (object_at classes names x)
value_at classes names (NamedClass name) = Refers (class_named classes name)

-- one more object
abbrev pub with_object : Gathered → Identifier → (class : ℕ) → List ObjectValue → Gathered
with_object g x class values = record g {
  names = g.names ++ (x, class) ∷ [];
  objects = g.objects ++ (record { class = class; values = values }) ∷ [];
  used = g.used + object_size (length values);
  part = parts.Objects;
}

-- a call
abbrev pub call_with : Gathered → ℕ → Identifier → List WorldValue → Invocation
call_with g number function arguments = record { line = number; function = function; arguments = map (value_at g.classes g.names) arguments }

-- one more call of a new thread, or of the last one
abbrev pub with_threads : Gathered → List (List Invocation) → Gathered
with_threads g threads = record g { threads = threads; part = parts.Threads }

-- the number of a class of arrays
abbrev pub array_number : Classes → Identifier → ℕ
array_number classes element = class_number classes (array_name element)

-- what is there after the line of this number
abbrev pub with_line : Gathered → ℕ → WorldLine → Gathered
with_line g number MethodsLine = record g { methods = true; classes = with_methods g.classes; used = g.used + 6; part = parts.Classes }
with_line g number (ClassLine name superclass) = record g {
  classes = with_class g.classes (new_class name (class_named g.classes (unwrap_or superclass (codes "java/lang/Object"))));
  used = g.used + 6;
  part = parts.Classes;
}
with_line g number (FieldLine class name signature) = record g {
  classes = with_field g.classes
      (class_number g.classes class) (field_of g.classes name signature);
  part = parts.Classes;
}
with_line g number (StaticLine class name signature) = record g {
  classes = with_static g.classes (class_number g.classes class) (field_of g.classes name signature);
  used = g.used + 1;
  part = parts.Classes;
}
with_line g number (ObjectLine x class values) = with_object g x (class_number g.classes class) (map (value_at g.classes g.names) values)
with_line g number (ObjectsLine x class values) = with_object g x (array_number g.classes class) (map (value_at g.classes g.names) values)
with_line g number (ArrayLine x t values) = with_object g x (number_array t) (map (value_at g.classes g.names) values)
with_line g number (StringLine x text) = with_object g x string_class (map (λ b. Number (pos b)) text)
with_line g number (ThreadLine function arguments) = with_threads g (g.threads ++ (call_with g number function arguments ∷ []) ∷ [])
with_line g number (CallLine function arguments) = with_threads g (with_last (call_with g number function arguments) g.threads)

-- what is there after the line of this number, or the fault
unfoldable pub gathered_read : Gathered → ℕ → Option WorldLine → Result Gathered TextFault
gathered_read g number None = refused held.Form number
gathered_read g number (Some line) = ruled number (least_rule g line) (with_line g number line)

-- What a call that takes a line leaves, by its answer.
abbrev pub OnGathered : Result Unit ReadError → Gathered → Result Gathered TextFault → Type 0
OnGathered (Ok _) new read = read ≡ Ok new
OnGathered (Err e) new read = Fails e read

-- the world that is gathered
abbrev pub gathered_world : Gathered → World
gathered_world g = record { heap_line = g.heap_line; methods = g.methods; cells = g.cells; classes = g.classes; objects = g.objects; threads = g.threads }

-- what is there, where a thread is among it; else the last line is told
abbrev pub whole_read : Gathered → (last : ℕ) → Result Gathered TextFault
whole_read g last = if length g.threads == 0 then refused held.Limit last else Ok g

-- what is there after these lines, the line before which is of this number, or the fault
unfoldable pub all_read : Gathered → (last : ℕ) → List (ℕ × List ℕ) → Result Gathered TextFault
all_read g last [] = whole_read g last
all_read g last ((number, bytes) ∷ more) = gathered_read g number (line_of bytes) >>= λ next. all_read next number more

-- the world that these lines mean after that of the heap, which is of this number
abbrev pub world_left : HeapLine → (number : ℕ) → List (ℕ × List ℕ) → Result World TextFault
world_left heap number more = lines_read heap.0 (first_lines number heap.1) more >>= λ lines. world_read number heap.0 (last_number number more) lines
