-- Answers in memory as answers of the source, by what a call sees.
use Rattle.std.specs.Prelude.{◌≡◌, ℕ, ◌+◌, ◌^◌, Bool, true, false, not, ◌&&◌, ◌==◌, nat_lt, pos, length, replicate, slice_get, is_some, nat_le, Option, Some, None, ◌<◌, ◌≤◌, ◌⊎◌}
use Rattle.std.specs.Int.{w32, cast_signed}
use Rattle.std.specs.Option.{option_map}
use Rattle.class_rules.specs.Class.{Classes}
use Rattle.class_rules.specs.Fields.{FieldId}
use Rattle.classes.specs.declared.class.FieldHandle.{FieldHandle}
use Rattle.classes.specs.FieldViews.{field_of}
use Rattle.code.specs.Call.{Call}
use Rattle.code.specs.declared.instr.LocalArray.{LocalArray}
use Rattle.jni.specs.declared.function.JniFunction.TheVariants.{DeleteLocalRef, MonitorEnter, GetObjectClass, GetStaticMethodID}
use Rattle.jni.specs.declared.kinds.ResultKind.{ResultKind}
use Rattle.jni.specs.declared.kinds.ResultKind.TheVariants.{GivesFlag}
use Rattle.jni.specs.JniFunction.{calls_method, prototype}
use Rattle.jni.specs.Subjects.{subject_of}
use Rattle.jni.specs.declared.subject.Subject.TheVariants as subject
use Rattle.jni.specs.declared.subject.Subject.{Subject}
use Rattle.jni.specs.declared.subject.Subject.TheVariants.{Buffers, Monitors, Regions}
use Rattle.semantics.specs.Answer as source
use Rattle.semantics.specs.Answer.{Region}
use Rattle.semantics.specs.AnswerTable.{call_answer, method_called, monitor_entered, monitor_left, released}
use Rattle.semantics.specs.Arguments.{name_or_zero}
use Rattle.semantics.specs.CallStep.{is_owned_by_other}
use Rattle.semantics.specs.CallEffects.{CallResult, same_reference, NoResult, NullResult, ScalarResult, ReferenceResult, WeakResult, FieldResult, MethodResult, string_object, with_message}
use Rattle.semantics.specs.Method.{MethodId}
use Rattle.semantics.specs.Object.{Object, Reference}
use Rattle.semantics.specs.Thread.{Monitor}
use Rattle.semantics.specs.Variable.{StaticReference, Live}
use Rattle.semantics.specs.declared.value.Value.{Value as Scalar}
use Rattle.semantics.specs.declared.value.Value.TheVariants.{Int, Flag}
use Rattle.semantics.specs.World.{fresh_object}
use Rattle.heap.specs.Heap.{Space, block_at, name_at, values_at}
use Rattle.heap.specs.declared.value.Value.{Value}
use Rattle.heap.specs.declared.value.Value.TheVariants as cell
use Rattle.code.specs.declared.instr.Operand.{Operand}
use Rattle.code.specs.declared.instr.Operand.TheVariants as operand
use Rattle.tables.specs.Locals.{LocalTable}
use Rattle.machine_scenes.specs.declared.references.Held.{Held}
use Rattle.machine_scenes.specs.declared.references.Held.TheVariants as held
use Rattle.monitors.specs.declared.monitors.Enter.{Enter}
use Rattle.monitors.specs.declared.monitors.Enter.TheVariants.{Entered}
use Rattle.monitors.specs.declared.monitors.Exit.{Exit}
use Rattle.monitors.specs.declared.monitors.Exit.TheVariants.{Left}
use Rattle.monitors.specs.Monitors.{entering, leaving, monitor_of}
use Rattle.machine_answers.specs.declared.answer.Given.{Given}
use Rattle.machine_answers.specs.declared.answer.Given.TheVariants as given
use Rattle.machine_answers.specs.declared.answer.Answer.{Answer}
use Rattle.machine_answers.specs.declared.answer.Answer.TheVariants as answer
use Rattle.machine_answers.specs.Sights.{array_in, call_seen, held_seen, method_seen, monitor_seen, name_seen, value_seen, values_seen}
use Rattle.machine_answers.specs.WorkedOut.{handle, place, declaring, field, place_of_static, class_object}
use Rattle.machine_scenes.specs.declared.array_region.ArrayRegion.{ArrayRegion}
use Rattle.machine_scenes.specs.declared.buffer.Buffer.{Buffer}
use Rattle.machine_scenes.specs.declared.buffer.Buffer.TheVariants as buffer
use Rattle.machine_answers.specs.WorkedOut.{buffer_there, slot_of}
use Rattle.machine_scenes.specs.declared.new_object.New.{New}
use Rattle.machine_scenes.specs.declared.new_object.New.TheVariants as new
use Rattle.machine_scenes.specs.FieldIds.{IsMethod}
use Rattle.machine_scenes.specs.Given.{class_of_given, key_at, method_at, name_there, operand_at, operand_of}
use Rattle.machine_scenes.specs.NewObjects.{text_in}
use Rattle.machine_scenes.specs.Scenes.{Scene}
use Rattle.machine_scenes.specs.Statics.{static_at}

-- the name of the object at an address, and 0 where there is none
abbrev pub named : Space → ℕ → ℕ
named space a = name_or_zero (name_at space a)

-- the value that a word is in a result of this kind
abbrev pub word_seen : ResultKind → ℕ → Scalar
word_seen GivesFlag word = Flag (not (word == 0))
word_seen kind word = Int (cast_signed w32 word)

-- the field of a field ID
abbrev pub field_seen : Classes → Option FieldHandle → Option FieldId
field_seen classes None = None
field_seen classes (Some h) = field_of classes h

-- what is given, in a result of this kind, by a call that sees this; what only carrying out an answer gives is nothing yet
abbrev pub given_seen : Scene → ResultKind → Given → CallResult
given_seen scene kind given.Nothing = NoResult
given_seen scene kind (given.Number word) = ScalarResult (word_seen kind word)
given_seen scene kind (given.Reference a) = ReferenceResult (name_seen scene.space a)
given_seen scene kind (given.FieldId h) = FieldResult (field_seen scene.classes h)
given_seen scene kind (given.MethodId h) = MethodResult (method_seen scene.unit h)
given_seen scene kind g = NullResult

-- an object that is made
abbrev pub made_seen : Scene → Call → New → Object
made_seen scene call (new.Fresh class) = fresh_object scene.classes class.number
made_seen scene call (new.Array array) = record { class = array.class.number; values = replicate array.count (value_seen scene.space array.value) }
made_seen scene call (new.Text place) = string_object (text_in call.texts place)
made_seen scene call (new.Exception class message) = with_message (fresh_object scene.classes class.number) (name_at scene.space message)

-- a region of an object
abbrev pub region_seen : Space → ArrayRegion → Region
region_seen space r = record { object = named space r.object; start = r.start; count = r.count }

-- the monitor of an object
abbrev pub owned_seen : Scene → ℕ → Option Monitor
owned_seen scene n = option_map monitor_seen (monitor_of scene.monitors n)

-- the name of the object that a static holds, and 0 of none
abbrev pub held_name : StaticReference → ℕ
held_name (Live n) = n
held_name r = 0

-- an answer to a call that sees this, of a function with this kind of result
abbrev pub answer_seen : Scene → Call → ResultKind → Answer → source.Answer
answer_seen scene call kind (answer.Gives g) = source.Gives (given_seen scene kind g)
answer_seen scene call kind (answer.Writes a i v) = source.Writes (named scene.space a) i (value_seen scene.space v)
answer_seen scene call kind (answer.CopiesOut r) = source.GetsRegion (region_seen scene.space r)
answer_seen scene call kind (answer.CopiesIn r) = source.SetsRegion (region_seen scene.space r)
answer_seen scene call kind (answer.AcquiresCopy a) = source.Copies (named scene.space a)
answer_seen scene call kind (answer.AcquiresView a) = source.Views (named scene.space a)
answer_seen scene call kind (answer.Releases r) = released (named scene.space r.object) r.mode
answer_seen scene call kind (answer.Makes n) = source.Makes (made_seen scene call n)
answer_seen scene call kind (answer.Throws class) = source.Raises class.number
answer_seen scene call kind (answer.Raises class i) = source.RaisesWith class.number (text_in call.texts i)
answer_seen scene call kind (answer.Pends a g) = source.Pends (name_seen scene.space a) (given_seen scene kind g)
answer_seen scene call kind (answer.Halts trap) = source.Halts trap
answer_seen scene call kind (answer.Ensures n) = source.Ensures n
answer_seen scene call kind (answer.Pushes n) = source.Pushes n
answer_seen scene call kind answer.RefusesFrames = source.RefusesFrames
answer_seen scene call kind (answer.Pops a) = source.Pops (name_seen scene.space a)
answer_seen scene call kind (answer.Deletes key) =
    source.DeletesLocal 0 (name_or_zero (name_seen scene.space (operand_at scene.references (operand_of call.operands 0))))
answer_seen scene call kind (answer.MakesGlobal a) = source.MakesGlobal (name_seen scene.space a)
answer_seen scene call kind (answer.DeletesGlobal i) = source.DeletesGlobal 0 (held_name (held_seen scene.space (static_at scene.references i)))
answer_seen scene call kind (answer.MakesWeak a) = source.Gives (WeakResult (name_seen scene.space a))
answer_seen scene call kind (answer.DeletesWeak i) = source.DeletesWeak 0
answer_seen scene call kind (answer.Enters o) = monitor_entered o.name (owned_seen scene o.name)
answer_seen scene call kind (answer.Exits n) = monitor_left scene.thread n (owned_seen scene n)
answer_seen scene call kind answer.Calls = method_called (method_seen scene.unit (method_at scene.fields (operand_of call.operands 1)))

-- ---- what an answer names is there

-- an address or none
abbrev pub reference_there : Space → Option ℕ → Bool
reference_there space None = true
reference_there space (Some a) = is_some (block_at space a)

-- a word
abbrev pub is_word : ℕ → Bool
is_word word = nat_lt word (2 ^ 32)

-- what a cell is to hold
abbrev pub value_there : Space → Value → Bool
value_there space (cell.Number word) = is_word word
value_there space cell.Null = true
value_there space (cell.Block a) = is_some (block_at space a)

-- what is given: a flag is 0 or 1; of a method ID its kind isn't enough
abbrev pub given_there : Space → ResultKind → Given → Bool
given_there space GivesFlag (given.Number word) = nat_lt word 2
given_there space kind (given.Number word) = is_word word
given_there space kind (given.Reference a) = reference_there space a
given_there space kind (given.MethodId h) = false
given_there space kind g = true

-- what is made
abbrev pub new_there : Space → New → Bool
new_there space (new.Array array) = value_there space array.value
new_there space (new.Exception class message) = false
new_there space n = true

-- a local reference has this key, or an object this name
abbrev pub is_key : Option ℕ → ℕ → Bool
is_key None key = false
is_key (Some k) key = k == key

-- an operand is the static of a slot, of which what is held is at an address, or weak
abbrev pub is_static_at : Operand → ℕ → Bool
is_static_at (operand.Static j) i = j == i
is_static_at o i = false

abbrev pub is_at : Held → Bool
is_at (held.At a) = true
is_at h = false

abbrev pub is_weak : Held → Bool
is_weak (held.Weakly a) = true
is_weak held.Cleared = true
is_weak h = false

-- a monitor is entered
abbrev pub is_entered : Enter → Bool
is_entered Entered = true
is_entered came = false

-- a monitor is left
abbrev pub is_left : Exit → Bool
is_left Left = true
is_left came = false

-- a region lies within its object, and its slots are the first of a local array
abbrev pub region_there : Space → LocalArray → ArrayRegion → Bool
region_there space array r =
    is_some (block_at space r.object) && nat_le (r.start + r.count) (length (values_at space r.object)) && (r.slot == array.start) && nat_le r.count array.len

-- two slots of buffers hold the same
abbrev pub same_buffer : Buffer → Buffer → Bool
same_buffer buffer.Null buffer.Null = true
same_buffer (buffer.Copy a) (buffer.Copy b) = a == b
same_buffer (buffer.View a) (buffer.View b) = a == b
same_buffer a b = false

-- what an answer names is there
abbrev pub answer_there : Scene → Call → ResultKind → Answer → Bool
answer_there scene call kind (answer.Gives g) = given_there scene.space kind g
answer_there scene call kind (answer.Writes a i v) =
    is_some (block_at scene.space a) && nat_lt i (length (values_at scene.space a)) && value_there scene.space v
answer_there scene call kind (answer.Makes n) = new_there scene.space n
answer_there scene call kind (answer.Pends a g) = reference_there scene.space a && given_there scene.space kind g
answer_there scene call kind (answer.Pops a) = reference_there scene.space a
answer_there scene call kind (answer.Deletes key) = is_key (key_at scene.references (operand_of call.operands 0)) key
answer_there scene call kind (answer.MakesGlobal a) = reference_there scene.space a
answer_there scene call kind (answer.DeletesGlobal i) = is_static_at (operand_of call.operands 0) i && is_at (static_at scene.references i)
answer_there scene call kind (answer.MakesWeak a) = reference_there scene.space a
answer_there scene call kind (answer.DeletesWeak i) = is_static_at (operand_of call.operands 0) i && is_weak (static_at scene.references i)
answer_there scene call kind (answer.CopiesOut r) = region_there scene.space (array_in (operand_of call.operands 3)) r
answer_there scene call kind (answer.CopiesIn r) = region_there scene.space (array_in (operand_of call.operands 3)) r
answer_there scene call kind (answer.AcquiresCopy a) = is_some (block_at scene.space a)
answer_there scene call kind (answer.AcquiresView a) = is_some (block_at scene.space a)
answer_there scene call kind (answer.Releases r) =
    is_some (block_at scene.space r.object) && (slot_of (operand_of call.operands 1) == r.slot) && same_buffer (buffer_there scene.buffers r.slot) r.held
answer_there scene call kind (answer.Enters o) =
    is_key (name_at scene.space o.address) o.name && is_entered (entering scene.thread (monitor_of scene.monitors o.name))
answer_there scene call kind (answer.Exits n) = is_left (leaving scene.thread (monitor_of scene.monitors n))
answer_there scene call kind (answer.Throws class) = true
answer_there scene call kind (answer.Raises class i) = true
answer_there scene call kind (answer.Halts trap) = true
answer_there scene call kind (answer.Ensures n) = true
answer_there scene call kind (answer.Pushes n) = true
answer_there scene call kind answer.RefusesFrames = true
answer_there scene call kind answer.Calls = is_some (method_seen scene.unit (method_at scene.fields (operand_of call.operands 1)))

-- ---- what the checks let through

-- the first argument of a function that works on this is an object
abbrev pub takes_object : Subject → Bool
takes_object Monitors = true
takes_object Regions = true
takes_object Buffers = true
takes_object s = false

-- a class of the table
abbrev pub IsInTable : Classes → ℕ → Type 0
IsInTable classes c = (0 < c) × (c ≤ length classes)

module _ (scene : Scene) (call : Call) where
  -- the reference of an operand, its name as it is seen, and how many values its object has
  abbrev reference : ℕ → Option ℕ
  reference i = operand_at scene.references (operand_of call.operands i)

  abbrev name : ℕ → Reference
  name i = name_seen scene.space (reference i)

  abbrev count : ℕ
  count = length (values_seen scene.space (reference 0))

  -- P, by what is known of a call that has passed its checks: a class object has the number of its class as its name, and the class of an
  -- object is one of the table; an exception that is pending has a name; so has each object, and no two have one; an object has fewer
  -- values than there are `jint`s; a local reference that is to be deleted has a key; a first argument that is to be an object isn't NULL;
  -- no other thread owns a monitor that is to be entered; a field is given, and the object has its place; a static is given, its class
  -- object has the name of the class, and its place
  abbrev pub WhenPassed : Type 0 → Type 0
  WhenPassed P =
      ((c : ℕ) → IsInTable scene.classes c → name_seen scene.space (class_object scene.loaded (Some c)) ≡ Some c)
      → (call.function ≡ GetObjectClass → IsInTable scene.classes (class_of_given scene.space (reference 0)))
      → (is_some (name_seen scene.space scene.pending) ≡ is_some scene.pending)
      → ((name_there scene.space (reference 0) == name_there scene.space (reference 1)) ≡ same_reference (name 0) (name 1))
      → (cast_signed w32 count ≡ pos count)
      → (call.function ≡ DeleteLocalRef → is_some (key_at scene.references (operand_of call.operands 0)) ≡ is_some (name 0))
      → (takes_object (subject_of call.function) ≡ true → is_some (name 0) ≡ true)
      → (call.function ≡ MonitorEnter → is_owned_by_other scene.thread (owned_seen scene (name_there scene.space (reference 0))) ≡ false)
      → (subject_of call.function ≡ subject.Fields → is_some (handle scene call) ≡ true)
      → (subject_of call.function ≡ subject.Fields → nat_lt (place scene call) count ≡ true)
      → (subject_of call.function ≡ subject.Statics → is_some (handle scene call) ≡ true)
      → (subject_of call.function ≡ subject.Statics → name_seen scene.space (declaring scene call) ≡ Some (field scene call).class)
      → (subject_of call.function ≡ subject.Statics → nat_lt (place_of_static scene call) (length (values_seen scene.space (declaring scene call))) ≡ true)
      → P

-- the answer is the source's, as it is seen
abbrev pub IsSeen : Scene → Call → Answer → Type 0
IsSeen scene call x = (locals : LocalTable) (callers : ℕ) → WhenPassed scene call
    (answer_seen scene call (prototype call.function).result x
    ≡ call_answer scene.unit scene.classes scene.thread (call_seen scene locals callers call) call.function)

-- each reference that a cell holds is there
abbrev pub CellsAreThere : Space → Type 0
CellsAreThere space = (a i b : ℕ) → slice_get (values_at space a) i ≡ Some (cell.Block b) → is_some (block_at space b) ≡ true

-- what it names is there, where the pending exception, what cells hold and the method of a call of one is
abbrev pub IsThere : Scene → Call → Answer → Type 0
IsThere scene call x =
    (reference_there scene.space scene.pending ≡ true)
    → CellsAreThere scene.space
    → (calls_method call.function ≡ true → is_some (method_seen scene.unit (method_at scene.fields (operand_of call.operands 1))) ≡ true)
    → answer_there scene call (prototype call.function).result x ≡ true

-- a method ID is given that is a handle of a method
abbrev pub GivesMethod : Scene → Answer → Type 0
GivesMethod scene (answer.Gives (given.MethodId (Some h))) = (m : MethodId) × IsMethod scene.unit scene.classes h m
GivesMethod scene x = ⊥

-- where a method was found
abbrev pub IsThereOrMethod : Scene → Call → Answer → Type 0
IsThereOrMethod scene call x = IsThere scene call x ⊎ GivesMethod scene x

-- the local reference that ends is that of the first operand
abbrev pub EndsFirst : Scene → Call → Answer → Type 0
EndsFirst scene call x = call.function ≡ DeleteLocalRef → (key : ℕ) → x ≡ answer.Deletes key
    → key_at scene.references (operand_of call.operands 0) ≡ Some key

-- a function that calls a method answers with that
abbrev pub CallsMethod : Call → Answer → Type 0
CallsMethod call x = calls_method call.function ≡ true → x ≡ answer.Calls
