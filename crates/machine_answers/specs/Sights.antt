-- What a call asks, as it is seen in memory.
use Rattle.std.specs.Prelude.{◌≡◌, ℕ, zero, suc, if◌then◌else◌, Bool, true, false, not, ℤ, pos, List, [], ◌∷◌, drop, length, map, slice_get, take, unwrap_or, is_none, Option, Some, None}
use Rattle.std.specs.Int.{w32, cast_signed}
use Rattle.std.specs.Option.{option_map}
use Rattle.syntax.specs.Tree.{Function, SourceUnit}
use Rattle.syntax.specs.Parts.{functions_of}
use Rattle.base.specs.declared.element.ElementType.{ElementType}
use Rattle.base.specs.declared.element.ElementType.TheVariants.{Int as JInt}
use Rattle.class_rules.specs.Class.{Classes}
use Rattle.code.specs.Call.{Call}
use Rattle.code.specs.declared.instr.LocalArray.{LocalArray}
use Rattle.code.specs.declared.instr.Operand.{Operand}
use Rattle.code.specs.declared.instr.Operand.TheVariants as operand
use Rattle.code.specs.declared.instr.Target.{Target}
use Rattle.code.specs.declared.instr.Target.TheVariants.{Buffer}
use Rattle.heap.specs.Heap.{Space, name_at, values_at}
use Rattle.heap.specs.declared.value.Value.{Value}
use Rattle.heap.specs.declared.value.Value.TheVariants.{Number as Word, Null, Block as Address}
use Rattle.jni.specs.declared.function.JniFunction.{JniFunction}
use Rattle.jni.specs.declared.function.JniFunction.TheVariants.{DeleteGlobalRef, DeleteWeakGlobalRef}
use Rattle.jni.specs.JniFunction.{parameters_for, prototype}
use Rattle.jni.specs.declared.kinds.ParameterKind.{ParameterKind}
use Rattle.jni.specs.declared.kinds.ParameterKind.TheVariants.{ArrayVariable, FieldID, IntNumber, IsCopy, MethodID, Passed, TextBytes}
use Rattle.monitors.specs.declared.monitors.Monitor.{Monitor}
use Rattle.monitors.specs.Monitors.{monitor_of}
use Rattle.jni.specs.declared.mode.ReleaseMode.{ReleaseMode}
use Rattle.jni.specs.declared.mode.ReleaseMode.TheVariants.{CopyBackAndFree}
use Rattle.semantics.specs.Arguments.{name_or_zero}
use Rattle.semantics.specs.CallSight.{ArgumentSight, CallSight}
use Rattle.semantics.specs.Checks.{trap_of}
use Rattle.semantics.specs.Method.{MethodId}
use Rattle.semantics.specs.Object.{Object, ObjectValue, Number, Reference, Refers}
use Rattle.semantics.specs.Thread as source
use Rattle.semantics.specs.declared.trap.Trap.{Trap}
use Rattle.semantics.specs.Variable.{StaticReference, Empty, Live, Weakly, Cleared, Deleted}
use Rattle.tables.specs.Locals.{LocalTable, has_room, popped}
use Rattle.machine_scenes.specs.declared.handle.Handle.{Handle}
use Rattle.machine_scenes.specs.declared.handle.MethodHandle.{MethodHandle}
use Rattle.machine_scenes.specs.declared.references.Held.{Held}
use Rattle.machine_scenes.specs.declared.references.Held.TheVariants as held
use Rattle.machine_scenes.specs.FieldIds.{IsMethod}
use Rattle.machine_scenes.specs.Given.{class_of_given, field_at, field_there, method_at, name_there, operand_at, operand_of}
use Rattle.machine_scenes.specs.Scenes.{Scene}
use Rattle.machine_scenes.specs.Statics.{References, holds_deleted, holds_null, static_at}

-- ---- objects by their names, which are the birth numbers of their blocks

-- the name of the object at an address
abbrev pub name_seen : Space → Option ℕ → Reference
name_seen space None = None
name_seen space (Some a) = name_at space a

-- what a cell holds
abbrev pub value_seen : Space → Value → ObjectValue
value_seen space (Word word) = Number (cast_signed w32 word)
value_seen space Null = Refers None
value_seen space (Address a) = Refers (name_at space a)

-- the values of the object at an address
abbrev pub values_seen : Space → Option ℕ → List ObjectValue
values_seen space None = []
values_seen space (Some a) = map (value_seen space) (values_at space a)

-- that object
abbrev pub object_seen : Space → Option ℕ → Object
object_seen space r = record { class = class_of_given space r; values = values_seen space r }

-- the class object of a class
abbrev pub class_object_seen : (loaded : List ℕ) → ℕ → Option ℕ
class_object_seen loaded zero = None
class_object_seen loaded (suc i) = slice_get loaded i

-- what a static holds
abbrev pub held_seen : Space → Held → StaticReference
held_seen space held.Empty = Empty
held_seen space (held.At a) = Live (name_or_zero (name_at space a))
held_seen space (held.Weakly a) = Weakly (name_or_zero (name_at space a))
held_seen space held.Cleared = Cleared
held_seen space held.Deleted = Deleted

-- a monitor
abbrev pub monitor_seen : Monitor → source.Monitor
monitor_seen m = record { object = m.object; owner = m.owner; count = m.count }

-- the method of a method ID
abbrev pub method_seen : SourceUnit → Option MethodHandle → Option MethodId
method_seen unit None = None
method_seen unit (Some h) =
    option_map (λ (f : Function). let m : MethodId = record { class = h.class.number; function = f } in m) (slice_get (functions_of unit) h.function)

-- how a buffer is released
abbrev pub mode_seen : Operand → ReleaseMode
mode_seen (operand.Mode mode) = mode
mode_seen o = CopyBackAndFree

-- ---- numbers, which are on the stack, and texts, which are the call's

-- an operand is a number
abbrev pub is_number : Operand → Bool
is_number operand.Number = true
is_number o = false

-- an argument is a number: its parameter takes nothing else, or it is passed to a method and is one
abbrev pub takes_word : Option ParameterKind → Operand → Bool
takes_word (Some IntNumber) o = true
takes_word (Some Passed) o = is_number o
takes_word p o = false

-- how many words the arguments of these parameters have on the stack
abbrev pub words_of : List ParameterKind → List Operand → ℕ
words_of [] operands = 0
words_of (p ∷ parameters) operands =
    let further = words_of parameters (drop 1 operands) in if takes_word (Some p) (operand_of operands 0) then suc further else further

-- how many texts
abbrev pub texts_of : List ParameterKind → ℕ
texts_of [] = 0
texts_of (TextBytes ∷ parameters) = suc (texts_of parameters)
texts_of (p ∷ parameters) = texts_of parameters

-- the text of an argument
abbrev pub text_seen : (texts : List (List ℕ)) → Option ParameterKind → (before : ℕ) → List ℕ
text_seen texts (Some TextBytes) before = unwrap_or (slice_get texts before) []
text_seen texts p before = []

-- ---- what is checked of an argument

-- an operand gives NULL
abbrev pub gives_null : References → List (Option Handle) → Operand → Bool
gives_null references fields operand.Null = true
gives_null references fields (operand.Static i) = holds_null (static_at references i)
gives_null references fields (operand.Local i) = is_none (operand_at references (operand.Local i))
gives_null references fields (operand.FieldId i) = is_none (field_at fields (operand.FieldId i))
gives_null references fields (operand.MethodId i) = is_none (method_at fields (operand.MethodId i))
gives_null references fields operand.Number = false
gives_null references fields operand.Text = false
gives_null references fields (operand.Array array) = false
gives_null references fields (operand.Buffer i) = false
gives_null references fields (operand.Mode mode) = false
gives_null references fields (operand.IsCopy i) = false

-- an operand gives a static that is marked as deleted
abbrev pub gives_deleted : References → Operand → Bool
gives_deleted references (operand.Static i) = holds_deleted (static_at references i)
gives_deleted references o = false

-- it is NULL for a reference, a field ID or a method ID
abbrev pub null_seen : Bool → Option ParameterKind → Bool
null_seen false p = false
null_seen true None = false
null_seen true (Some IsCopy) = false
null_seen true p = true

-- a parameter for references
abbrev pub is_reference_kind : Option ParameterKind → Bool
is_reference_kind None = false
is_reference_kind (Some FieldID) = false
is_reference_kind (Some MethodID) = false
is_reference_kind (Some IsCopy) = false
is_reference_kind p = true

-- it is a reference
abbrev pub is_reference : Option ParameterKind → Operand → Bool
is_reference p (operand.Local i) = true
is_reference p (operand.Static i) = true
is_reference p operand.Null = is_reference_kind p
is_reference p o = false

-- ---- a call

-- an operand's local array, and one of no elements where it is none
abbrev pub array_in : Operand → LocalArray
array_in (operand.Array array) = array
array_in o = record { start = 0; len = 0 }

-- the element type of the buffer that a call is to fill
abbrev pub element_wanted : Target → ElementType
element_wanted (Buffer element i) = element
element_wanted target = JInt

-- what is seen of as many arguments as there are operands
abbrev pub each_seen : (ℕ → ArgumentSight) → List Operand → List ArgumentSight
each_seen seen [] = []
each_seen seen (o ∷ operands) = seen 0 ∷ each_seen (λ i. seen (suc i)) operands

-- how many elements the local array of an argument has
abbrev pub elements_seen : Option ParameterKind → Operand → ℕ
elements_seen (Some (ArrayVariable T)) o = (array_in o).len
elements_seen p o = 0

-- what the static of a slot holds that a call deletes
abbrev pub deleted_seen : Scene → JniFunction → Operand → Option StaticReference
deleted_seen scene DeleteGlobalRef (operand.Static i) = Some (held_seen scene.space (static_at scene.references i))
deleted_seen scene DeleteWeakGlobalRef (operand.Static i) = Some (held_seen scene.space (static_at scene.references i))
deleted_seen scene f o = None

-- what is seen of an argument for a parameter of this kind, of which the number and the text are these
abbrev pub operand_seen : Scene → Option ParameterKind → Operand → ℤ → (text : List ℕ) → ArgumentSight
operand_seen scene p o z text = record {
  reference = name_seen scene.space (operand_at scene.references o);
  object = object_seen scene.space (operand_at scene.references o);
  number = z;
  text = text;
  field = field_there scene.classes (field_at scene.fields o);
  method = method_seen scene.unit (method_at scene.fields o);
  mode = mode_seen o;
  is_deleted = gives_deleted scene.references o;
  is_null = null_seen (gives_null scene.references scene.fields o) p;
  is_number = is_number o;
  is_reference = is_reference p o;
}

-- the word at a place of the stack, as a number
abbrev pub number_at : (stack : List ℕ) → (place : ℕ) → ℤ
number_at stack place = cast_signed w32 (unwrap_or (slice_get stack place) 0)

-- a call that sees this, of a function with so many callers, whose local references are these
module _ (scene : Scene) (locals : LocalTable) (callers : ℕ) (call : Call) where
  -- the kinds of its parameters
  abbrev pub kinds : List ParameterKind
  kinds = parameters_for call.function (length call.operands)

  -- the number of the argument at a place
  abbrev pub number_seen : ℕ → ℤ
  number_seen i =
      if takes_word (slice_get kinds i) (operand_of call.operands i)
      then number_at scene.stack (words_of (drop (suc i) kinds) (drop (suc i) call.operands)) else pos 0

  -- what is seen of that argument
  abbrev pub argument_seen : ℕ → ArgumentSight
  argument_seen i =
      operand_seen scene (slice_get kinds i) (operand_of call.operands i) (number_seen i) (text_seen call.texts (slice_get kinds i) (texts_of (take i kinds)))

  -- what is seen of the call
  abbrev pub call_seen : CallSight
  call_seen = record {
    arguments = each_seen argument_seen call.operands;
    first = argument_seen 0;
    second = argument_seen 1;
    third = argument_seen 2;
    declaring = object_seen scene.space (class_object_seen scene.loaded (field_there scene.classes (field_at scene.fields (operand_of call.operands 1))).class);
    monitor = option_map monitor_seen (monitor_of scene.monitors (name_there scene.space (operand_at scene.references (operand_of call.operands 0))));
    elements = elements_seen (slice_get (prototype call.function).parameters 3) (operand_of call.operands 3);
    held = deleted_seen scene call.function (operand_of call.operands 0);
    pending = name_seen scene.space scene.pending;
    is_full = not (has_room locals);
    is_full_below = not (has_room (popped locals));
    callers = callers;
  }

-- the trap that the checks of a call find, but for that of how deep calls are: as if none waited for it
abbrev pub trap_seen : Scene → LocalTable → Call → Option Trap
trap_seen scene locals call = trap_of scene.classes (call_seen scene locals 0 call) (element_wanted call.target) call.function

-- a method ID is NULL or a handle of a method of the unit
abbrev pub MethodIsThere : SourceUnit → Classes → Option MethodHandle → Type 0
MethodIsThere unit classes method = (h : MethodHandle) → method ≡ Some h → (m : MethodId) × IsMethod unit classes h m
