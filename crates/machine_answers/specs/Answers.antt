-- Which answers in memory stand for which of the source's.
use Rattle.std.specs.Prelude.{◌≡◌, ℕ, Bool, true, false, ◌+◌, ◌<◌, ◌≤◌, ℤ, List, drop, length, map, take, Option, Some, None, FitsSigned}
use Rattle.std.specs.Int.{w32, cast_unsigned}
use Rattle.std.specs.List.{AllByRecursion}
use Rattle.base.specs.Limits.{most_monitor_entries}
use Rattle.base.specs.Bytes.{Identifier, lookup}
use Rattle.syntax.specs.Tree.{SourceUnit}
use Rattle.class_rules.specs.BuiltIns.{string_class}
use Rattle.class_rules.specs.Class.{Classes}
use Rattle.class_rules.specs.declared.class_id.ClassId.{ClassId}
use Rattle.class_rules.specs.Fields.{FieldId}
use Rattle.classes.specs.declared.class.FieldHandle.{FieldHandle}
use Rattle.heap.specs.Heap.{Space, name_at, values_at}
use Rattle.heap.specs.declared.value.Value.{Value}
use Rattle.jni.specs.declared.kinds.ResultKind.{ResultKind}
use Rattle.jni.specs.declared.kinds.ResultKind.TheVariants.{NewLocal, NewGlobal, GivesFlag, GivesInt, GivesField, GivesMethod, GivesNothing, NewWeak}
use Rattle.semantics.specs.Answer as source
use Rattle.semantics.specs.Answer.{Region, effect_of}
use Rattle.semantics.specs.AnswerTable.{monitor_entered, monitor_left, released}
use Rattle.semantics.specs.CallEffects.{CallEffect, CallResult, NoResult, NullResult, ScalarResult, ReferenceResult, WeakResult, FieldResult, MethodResult, level_of, local_array}
use Rattle.semantics.specs.Heap.{numbers_of, values_of, with_value_at}
use Rattle.semantics.specs.declared.trap.Trap.{Trap}
use Rattle.semantics.specs.Method.{MethodId}
use Rattle.semantics.specs.Object.{Object, ObjectValue, Number, Reference}
use Rattle.semantics.specs.Thread.{BuffersInUse, Monitor, Shared, Thread, monitor_of}
use Rattle.semantics.specs.declared.value.Value.TheVariants.{Int, Flag}
use Rattle.semantics.specs.Variable.{StaticReference, Live, Weakly, Cleared}
use Rattle.jni.specs.declared.mode.ReleaseMode.{ReleaseMode}
use Rattle.semantics.specs.Arguments.{Actual, variable_given}
use Rattle.code.specs.declared.instr.LocalArray.{LocalArray}
use Rattle.code.specs.declared.instr.Operand.{Operand}
use Rattle.code.specs.declared.instr.Operand.TheVariants as operand
use Rattle.tables.specs.Locals.{LocalTable}
use Rattle.monitors.specs.declared.monitors.Object.{Object as MonitorObject}
use Rattle.code_meaning.specs.Coding.{mode_code}
use Rattle.code_meaning.specs.Slots.{word_of, static_index}
use Rattle.code_meaning.specs.Stands.{IsBufferResult}
use Rattle.machine_answers.specs.declared.answer.Given.{Given}
use Rattle.machine_answers.specs.declared.answer.Given.TheVariants as given
use Rattle.machine_answers.specs.declared.answer.Answer.{Answer}
use Rattle.machine_answers.specs.declared.answer.Answer.TheVariants as answer
use Rattle.machine_scenes.specs.declared.array_region.ArrayRegion.{ArrayRegion}
use Rattle.machine_scenes.specs.declared.buffer.Release.{Release}
use Rattle.machine_scenes.specs.Buffers.{HeldBuffers, HoldsBuffer, IsCopyOf, copies_back}
use Rattle.machine_answers.specs.Copies.{words_at, words_from, words_of}
use Rattle.machine_scenes.specs.declared.handle.MethodHandle.{MethodHandle}
use Rattle.machine_scenes.specs.declared.new_object.New.{New}
use Rattle.machine_scenes.specs.FieldIds.{FieldAgrees, MethodAgrees}
use Rattle.machine_scenes.specs.Given.{operand_of}
use Rattle.machine_scenes.specs.HeapAgrees.{ReferenceAgrees, ValueAgrees}
use Rattle.machine_scenes.specs.Locals.{IsKeyOf}
use Rattle.machine_scenes.specs.NewObjects.{Describes, IsMakeable, text_in}

-- What a function of this kind of result gives in memory is what it gives in the source; NULL where it failed.
pub data GivenAgrees (unit : SourceUnit) (classes : Classes) (space : Space) : ResultKind → Given → CallResult → Type 0 where
  -- nothing
  nothing : GivenAgrees unit classes space GivesNothing given.Nothing NoResult
  -- the word of a number in the range of a `jint`
  int : {word : ℕ} {z : ℤ} → word ≡ word_of (Int z) → FitsSigned w32 z
      → GivenAgrees unit classes space GivesInt (given.Number word) (ScalarResult (Int z))
  -- the word of a flag
  flag : {word : ℕ} {b : Bool} → word ≡ word_of (Flag b) → GivenAgrees unit classes space GivesFlag (given.Number word) (ScalarResult (Flag b))
  -- the address of an object that has this name, or NULL
  reference : {a : Option ℕ} {r : Reference} → ReferenceAgrees space a r
      → GivenAgrees unit classes space NewLocal (given.Reference a) (ReferenceResult r)
  null_reference : GivenAgrees unit classes space NewLocal (given.Reference None) NullResult
  -- the field ID of this field, or NULL
  field : {h : Option FieldHandle} {f : Option FieldId} → FieldAgrees classes h f
      → GivenAgrees unit classes space GivesField (given.FieldId h) (FieldResult f)
  null_field : GivenAgrees unit classes space GivesField (given.FieldId None) NullResult
  -- the method ID of this method, or NULL
  method : {h : Option MethodHandle} {m : Option MethodId} → MethodAgrees unit classes h m
      → GivenAgrees unit classes space GivesMethod (given.MethodId h) (MethodResult m)
  null_method : GivenAgrees unit classes space GivesMethod (given.MethodId None) NullResult

-- a value of the object at an address is written, which has this name in the source, and there a value of it
pub record WritesAt (space : Space) (a place : ℕ) (v : Value) (name : ℕ) (value : ObjectValue) : Type 0 where
  pub there : name_at space a ≡ Some name
  pub agrees : ValueAgrees space v value
  pub within : place < length (values_at space a)

-- an answer is carried out, as all are but a stop of the machine and a call of a method
abbrev pub is_carried : Answer → Bool
is_carried (answer.Halts trap) = false
is_carried answer.Calls = false
is_carried a = true

-- the static at this place holds the object of this name
pub record HoldsObject (s : Shared) (x : Identifier) (i n : ℕ) : Type 0 where
  pub place : static_index x s.statics ≡ Some i
  pub there : lookup x s.statics ≡ Some (Live n)

-- a static holds a weak global reference, cleared or not
abbrev pub IsWeak : StaticReference → Type 0
IsWeak (Weakly n) = Unit {0}
IsWeak Cleared = Unit {0}
IsWeak r = ⊥

-- the static at this place holds a weak global reference
pub record HoldsWeakly (s : Shared) (x : Identifier) (i : ℕ) : Type 0 where
  pub place : static_index x s.statics ≡ Some i
  pub held : StaticReference
  pub there : lookup x s.statics ≡ Some held
  pub weak : IsWeak held

-- ---- what a call brings

-- the unit of a call, its texts, its operands, the arguments of the source's call, what the slots of numbers and of buffers hold, the thread
-- that makes it, and what all buffers take
pub record Brought : Type 0 where
  pub unit : SourceUnit
  pub texts : List (List ℕ)
  pub operands : List Operand
  pub args : List Actual
  pub numbers : List ℕ
  pub buffers : HeldBuffers
  pub thread : ℕ
  pub in_use : BuffersInUse

-- what a call of a thread of this unit with these texts, operands and slots brings, of which the source's has these arguments
abbrev pub bringing : SourceUnit → (texts : List (List ℕ)) → List Operand → (numbers : List ℕ) → HeldBuffers → (thread : ℕ) → BuffersInUse
    → List Actual → Brought
bringing unit texts operands numbers buffers thread in_use args = record {
  unit = unit;
  texts = texts;
  operands = operands;
  args = args;
  numbers = numbers;
  buffers = buffers;
  thread = thread;
  in_use = in_use;
}

-- the effect of an answer of the source to a call that brings these
abbrev pub effect_told : Classes → Brought → Shared → Thread → source.Answer → CallEffect
effect_told classes brought s t told = effect_of classes brought.in_use brought.thread s t brought.args told

-- a region of an object, which has this name in the source
abbrev pub region_named : ArrayRegion → (name : ℕ) → Region
region_named r name = record { object = name; start = r.start; count = r.count }

-- these numbers, each in the range of a `jint`, stand in words
pub record AreWordsOf (words : List ℕ) (zs : List ℤ) : Type 0 where
  pub fit : AllByRecursion (FitsSigned w32) zs
  pub same : words ≡ map (cast_unsigned w32) zs

-- numbers of an object go into the local array that the call names: no function names it elsewhere
pub record IsCopiedOut (brought : Brought) (space : Space) (s : Shared) (r : ArrayRegion) : Type 0 where
  pub name : ℕ
  pub there : name_at space r.object ≡ Some name
  pub array : LocalArray
  pub given : operand_of brought.operands 3 ≡ operand.Array array
  pub slot : r.slot ≡ array.start
  pub few : r.count ≤ array.len
  pub slots : (i : ℕ) → i < r.count → r.slot + i < length brought.numbers
  pub within : r.start + r.count ≤ length (values_at space r.object)
  pub words : AreWordsOf (words_of space r) (take r.count (drop r.start (numbers_of s.heap name)))

-- numbers of a local array go into an object, which holds nothing but numbers
pub record IsCopiedIn (brought : Brought) (space : Space) (s : Shared) (t : Thread) (r : ArrayRegion) : Type 0 where
  pub name : ℕ
  pub there : name_at space r.object ≡ Some name
  pub slots : (i : ℕ) → i < r.count → r.slot + i < length brought.numbers
  pub within : r.start + r.count ≤ length (values_at space r.object)
  pub all_numbers : values_of s.heap name ≡ map Number (numbers_of s.heap name)
  pub words : AreWordsOf (words_from brought.numbers r) (take r.count (local_array (lookup (variable_given brought.args 3) t.variables)))

-- ---- buffers

-- numbers of an object are copied into a buffer
pub record IsCopyAcquired (space : Space) (s : Shared) (a : ℕ) : Type 0 where
  pub name : ℕ
  pub there : name_at space a ≡ Some name
  pub words : AreWordsOf (words_at space a) (numbers_of s.heap name)

-- the buffer that argument 1 is is released; numbers go back from a copy of the object alone
pub record IsReleased (brought : Brought) (space : Space) (s : Shared) (t : Thread) (r : Release) : Type 0 where
  pub given : operand_of brought.operands 1 ≡ operand.Buffer r.slot
  pub holds : HoldsBuffer space brought.buffers r.slot (lookup (variable_given brought.args 1) t.variables)
  pub held : r.held ≡ holds.held
  pub name : ℕ
  pub there : name_at space r.object ≡ Some name
  pub copy : copies_back r.mode ≡ true → IsCopyOf s.heap name holds.buffer
  pub mode : ReleaseMode
  pub coded : r.mode ≡ mode_code mode

-- ---- monitors

-- Thread k enters the monitor of an object: no other thread owns it, and thread k has entered it fewer times than it may.
pub record IsEntered (k : ℕ) (space : Space) (s : Shared) (o : MonitorObject) : Type 0 where
  pub there : name_at space o.address ≡ Some o.name
  pub own : (m : Monitor) → monitor_of s.monitors o.name ≡ Some m → m.owner ≡ k
  pub few : (m : Monitor) → monitor_of s.monitors o.name ≡ Some m → m.count < most_monitor_entries

-- thread k leaves the monitor of an object, which it owns
pub record IsExited (k : ℕ) (s : Shared) (n : ℕ) : Type 0 where
  pub monitor : Monitor
  pub owned : monitor_of s.monitors n ≡ Some monitor
  pub own : monitor.owner ≡ k

-- ---- all answers

-- The answer stands for one of the source, to a call that brings these and has this kind of result, all checks being passed.
pub data IsAnswer (classes : Classes) (brought : Brought) (space : Space) (locals : LocalTable) (s : Shared) (t : Thread) :
    Answer → ResultKind → source.Answer → Type 0 where
  gives : {g : Given} {kind : ResultKind} {c : CallResult} → GivenAgrees brought.unit classes space kind g c
      → IsAnswer classes brought space locals s t (answer.Gives g) kind (source.Gives c)
  writes : {a place name : ℕ} {v : Value} {value : ObjectValue} → WritesAt space a place v name value
      → IsAnswer classes brought space locals s t (answer.Writes a place v) GivesNothing (source.Writes name place value)
  -- the object has no such value, so that nothing changes
  writes_nothing : {name place : ℕ} {value : ObjectValue} → with_value_at s.heap name place value ≡ s.heap
      → IsAnswer classes brought space locals s t (answer.Gives given.Nothing) GivesNothing (source.Writes name place value)
  makes : {new : New} {o : Object} → Describes classes brought.texts space new o
      → IsAnswer classes brought space locals s t (answer.Makes new) NewLocal (source.Makes o)
  throws : {class : ClassId} {kind : ResultKind} → IsMakeable classes class.number
      → IsAnswer classes brought space locals s t (answer.Throws class) kind (source.Raises class.number)
  raises : {class : ClassId} {place : ℕ} → IsMakeable classes string_class → IsMakeable classes class.number
      → IsAnswer classes brought space locals s t (answer.Raises class place) GivesInt (source.RaisesWith class.number (text_in brought.texts place))
  pends : {a : Option ℕ} {g : Given} {kind : ResultKind} {c : CallResult} (r : Reference) → ReferenceAgrees space a r
      → GivenAgrees brought.unit classes space kind g c → IsAnswer classes brought space locals s t (answer.Pends a g) kind (source.Pends r c)
  copies_out : {region : ArrayRegion} (it : IsCopiedOut brought space s region)
      → IsAnswer classes brought space locals s t (answer.CopiesOut region) GivesNothing (source.GetsRegion (region_named region it.name))
  copies_in : {region : ArrayRegion} (it : IsCopiedIn brought space s t region)
      → IsAnswer classes brought space locals s t (answer.CopiesIn region) GivesNothing (source.SetsRegion (region_named region it.name))
  acquires_copy : {a : ℕ} {kind : ResultKind} → IsBufferResult kind → (it : IsCopyAcquired space s a)
      → IsAnswer classes brought space locals s t (answer.AcquiresCopy a) kind (source.Copies it.name)
  acquires_view : {a : ℕ} {kind : ResultKind} (n : ℕ) → IsBufferResult kind → name_at space a ≡ Some n
      → IsAnswer classes brought space locals s t (answer.AcquiresView a) kind (source.Views n)
  releases : {r : Release} (it : IsReleased brought space s t r)
      → IsAnswer classes brought space locals s t (answer.Releases r) GivesNothing (released it.name it.mode)
  enters : {o : MonitorObject} → IsEntered brought.thread space s o
      → IsAnswer classes brought space locals s t (answer.Enters o) GivesInt (monitor_entered o.name (monitor_of s.monitors o.name))
  exits : {n : ℕ} → IsExited brought.thread s n
      → IsAnswer classes brought space locals s t (answer.Exits n) GivesInt (monitor_left brought.thread n (monitor_of s.monitors n))
  ensures : {more : ℕ} → IsAnswer classes brought space locals s t (answer.Ensures more) GivesInt (source.Ensures more)
  pushes : {capacity : ℕ} → IsAnswer classes brought space locals s t (answer.Pushes capacity) GivesInt (source.Pushes capacity)
  refuses : IsAnswer classes brought space locals s t answer.RefusesFrames GivesInt source.RefusesFrames
  pops : {a : Option ℕ} (r : Reference) → ReferenceAgrees space a r
      → IsAnswer classes brought space locals s t (answer.Pops a) NewLocal (source.Pops r)
  deletes : {key : ℕ} (n variable : ℕ) → IsKeyOf space locals key n (level_of (lookup (variable_given brought.args variable) t.variables))
      → IsAnswer classes brought space locals s t (answer.Deletes key) GivesNothing (source.DeletesLocal variable n)
  makes_global : {a : Option ℕ} (r : Reference) → ReferenceAgrees space a r
      → IsAnswer classes brought space locals s t (answer.MakesGlobal a) NewGlobal (source.MakesGlobal r)
  deletes_global : {i : ℕ} (n variable : ℕ) → HoldsObject s (variable_given brought.args variable) i n
      → IsAnswer classes brought space locals s t (answer.DeletesGlobal i) GivesNothing (source.DeletesGlobal variable n)
  makes_weak : {a : Option ℕ} (r : Reference) → ReferenceAgrees space a r
      → IsAnswer classes brought space locals s t (answer.MakesWeak a) NewWeak (source.Gives (WeakResult r))
  deletes_weak : {i : ℕ} (variable : ℕ) → HoldsWeakly s (variable_given brought.args variable) i
      → IsAnswer classes brought space locals s t (answer.DeletesWeak i) GivesNothing (source.DeletesWeak variable)
  calls : {kind : ResultKind} (method : MethodId) → IsAnswer classes brought space locals s t answer.Calls kind (source.Calls method)
  halts : {trap : Trap} {kind : ResultKind} → IsAnswer classes brought space locals s t (answer.Halts trap) kind (source.Halts trap)
