-- What the machine works out of a call, by what is in memory.
use Rattle.std.specs.Prelude.{◌≡◌, ℕ, ◌-◌, ℤ, pos, negsuc, nat_lt, List, length, slice_get, unwrap_or, if◌then◌else◌, Option, Some, None}
use Rattle.syntax.specs.Tree.{SourceUnit}
use Rattle.class_rules.specs.ClassIds.{class_id}
use Rattle.class_rules.specs.BuiltIns.{no_class_def_found_error, no_such_field_error, no_such_method_error}
use Rattle.class_rules.specs.Class.{Classes}
use Rattle.class_rules.specs.Fields.{FieldId, layout}
use Rattle.classes.specs.FieldViews.{field_of}
use Rattle.classes.specs.declared.class.FieldHandle.{FieldHandle}
use Rattle.code.specs.Call.{Call}
use Rattle.code.specs.declared.instr.Operand.{Operand}
use Rattle.code.specs.declared.instr.Operand.TheVariants as operand
use Rattle.jni.specs.declared.mode.ReleaseMode.{ReleaseMode}
use Rattle.jni.specs.declared.mode.ReleaseMode.TheVariants.{FreeUncopied}
use Rattle.heap.specs.Heap.{Space, values_at}
use Rattle.heap.specs.declared.value.Value.{Value}
use Rattle.heap.specs.declared.value.Value.TheVariants as value
use Rattle.jni.specs.declared.access.Access.{Access}
use Rattle.jni.specs.declared.access.Access.TheVariants.{ElementsCopy}
use Rattle.semantics.specs.Heap.{place_in, static_place}
use Rattle.semantics.specs.Method.{MethodId}
use Rattle.machine_answers.specs.declared.answer.Given.TheVariants.{Nothing, Reference}
use Rattle.machine_answers.specs.declared.answer.Given.TheVariants as given
use Rattle.machine_answers.specs.declared.answer.Answer.{Answer}
use Rattle.machine_answers.specs.declared.answer.Answer.TheVariants.{Gives, Writes, Throws, Ensures, Pushes, RefusesFrames, Deletes, DeletesGlobal, DeletesWeak}
use Rattle.machine_scenes.specs.declared.buffer.Buffer.{Buffer}
use Rattle.machine_scenes.specs.declared.buffer.Buffer.TheVariants as buffer
use Rattle.machine_scenes.specs.FieldIds.{IsMethod}
use Rattle.machine_scenes.specs.declared.handle.MethodHandle.{MethodHandle}
use Rattle.machine_scenes.specs.Scenes.{Scene}
use Rattle.machine_scenes.specs.Statics.{References, static_at}
use Rattle.machine_scenes.specs.declared.references.Held.{Held}
use Rattle.machine_scenes.specs.declared.references.Held.TheVariants as held
use Rattle.machine_scenes.specs.Given.{operand_at, operand_of, field_at, class_of_given, field_there}
use Rattle.machine_answers.specs.Sights.{class_object_seen}

-- the address of a class object, where class objects are the first of the table
abbrev pub class_object : (loaded : List ℕ) → (class : Option ℕ) → Option ℕ
class_object loaded None = None
class_object loaded (Some c) = slice_get loaded (c - 1)

-- a class that was found, or else an exception
abbrev pub found_class : (loaded : List ℕ) → (class : Option ℕ) → Answer
found_class loaded None = Throws (class_id no_class_def_found_error)
found_class loaded (Some c) = Gives (Reference (class_object loaded (Some c)))

-- a handle of the field that was found, or else an exception
abbrev pub IsFoundField : Classes → Option FieldId → Answer → Type 0
IsFoundField classes None answer = answer ≡ Throws (class_id no_such_field_error)
IsFoundField classes (Some f) answer = (h : FieldHandle) × (answer ≡ Gives (given.FieldId (Some h))) × (field_of classes h ≡ Some f)

-- a handle of the method that was found, or else an exception
abbrev pub IsFoundMethod : SourceUnit → Classes → Option MethodId → Answer → Type 0
IsFoundMethod unit classes None answer = answer ≡ Throws (class_id no_such_method_error)
IsFoundMethod unit classes (Some m) answer = (h : MethodHandle) × (answer ≡ Gives (given.MethodId (Some h))) × IsMethod unit classes h m

-- room for this number of references more, which is refused for a negative number
abbrev pub room_for : ℤ → Answer
room_for (pos more) = Ensures more
room_for (negsuc n) = RefusesFrames

-- a frame with room for this number of references, which is refused for a negative number
abbrev pub frame_for : ℤ → Answer
frame_for (pos capacity) = Pushes capacity
frame_for (negsuc n) = RefusesFrames

-- the local reference of this key ends; nothing does for NULL
abbrev pub deletes : (key : Option ℕ) → Answer
deletes None = Gives Nothing
deletes (Some key) = Deletes key

-- the global reference of a static ends, where it holds one
abbrev pub deletes_held : ℕ → Held → Answer
deletes_held i (held.At a) = DeletesGlobal i
deletes_held i h = Gives Nothing

-- that of an operand's static
abbrev pub deletes_global : References → Operand → Answer
deletes_global references (operand.Static i) = deletes_held i (static_at references i)
deletes_global references o = Gives Nothing

-- the weak global reference of a static ends, cleared or not, where it holds one
abbrev pub deletes_held_weakly : ℕ → Held → Answer
deletes_held_weakly i (held.Weakly a) = DeletesWeak i
deletes_held_weakly i held.Cleared = DeletesWeak i
deletes_held_weakly i h = Gives Nothing

-- that of an operand's static
abbrev pub deletes_weak : References → Operand → Answer
deletes_weak references (operand.Static i) = deletes_held_weakly i (static_at references i)
deletes_weak references o = Gives Nothing

-- ---- cells

-- a value of an object, where the object has it
abbrev pub value_there : Space → Option ℕ → (place : ℕ) → Option Value
value_there space None place = None
value_there space (Some a) place = slice_get (values_at space a) place

-- the word in a cell, and 0 where there is none
abbrev pub word_in : Option Value → ℕ
word_in (Some (value.Number word)) = word
word_in v = 0

-- the address in a cell, and NULL where there is none
abbrev pub address_in : Option Value → Option ℕ
address_in (Some (value.Block a)) = Some a
address_in v = None

-- how a cell holds a reference
abbrev pub held_reference : Option ℕ → Value
held_reference None = value.Null
held_reference (Some a) = value.Block a

-- a cell of an object changes, where the object has it
abbrev pub writes_there : Space → Option ℕ → (place : ℕ) → Value → Answer
writes_there space None place v = Gives Nothing
writes_there space (Some a) place v = if nat_lt place (length (values_at space a)) then Writes a place v else Gives Nothing

-- ---- buffers

-- the slot of an operand that is a buffer
abbrev pub slot_of : Operand → ℕ
slot_of (operand.Buffer i) = i
slot_of o = 0

-- what it holds, and NULL where there is none
abbrev pub buffer_there : List Buffer → (slot : ℕ) → Buffer
buffer_there buffers slot = unwrap_or (slice_get buffers slot) buffer.Null

-- the mode of a release: the one that is given for elements of an array; nothing else is copied back
abbrev pub mode_of : Access → (given : ReleaseMode) → ReleaseMode
mode_of (ElementsCopy T) mode = mode
mode_of access mode = FreeUncopied

-- ---- what a call sees

-- A call that sees this.
module _ (scene : Scene) (call : Call) where
  -- the reference of an operand
  abbrev pub reference : ℕ → Option ℕ
  reference i = operand_at scene.references (operand_of call.operands i)

  -- the field ID of operand 1
  abbrev pub handle : Option FieldHandle
  handle = field_at scene.fields (operand_of call.operands 1)

  -- its field
  abbrev pub field : FieldId
  field = field_there scene.classes handle

  -- its place among the fields of operand 0
  abbrev pub place : ℕ
  place = place_in field (layout scene.classes (class_of_given scene.space (reference 0)))

  -- the class that declares it
  abbrev pub class : ℕ
  class = field.class

  -- the class object that holds the static
  abbrev pub declaring : Option ℕ
  declaring = class_object_seen scene.loaded class

  -- its place there
  abbrev pub place_of_static : ℕ
  place_of_static = static_place scene.classes field
