-- What carrying out an answer leaves, by the effect of the source's call.
use Rattle.std.specs.Prelude.{◌≡◌, ◌≢◌, ℕ, ◌-◌, ◌^◌, ◌<◌, ◌≤◌, Bool, true, false, if◌then◌else◌, List, [], ◌∷◌, ◌++◌, length, slice_get, slice_set, IsSome, Option, Some, None}
use Rattle.syntax.specs.Tree.{SourceUnit}
use Rattle.syntax.specs.Views.{unit_tree}
use Rattle.class_rules.specs.Class.{Classes}
use Rattle.code.specs.declared.instr.Call.{Call}
use Rattle.heap.specs.Heap.{Space, left_of}
use Rattle.jni.specs.declared.kinds.ResultKind.{ResultKind}
use Rattle.jni.specs.declared.kinds.ResultKind.TheVariants.{NewLocal, NewGlobal, NewWeak, GivesFlag, GivesInt, GivesField, GivesMethod, GivesBuffer}
use Rattle.semantics.specs.Answer.{Answer as SourceAnswer}
use Rattle.semantics.specs.Arguments.{Actual}
use Rattle.semantics.specs.CallEffects.{CallResult, NoResult, NullResult, ReferenceResult, WeakResult, BufferResult, CallEffect, Leaves, Throws, Halts, Enters, out_of_memory}
use Rattle.semantics.specs.CallStep.{failure, makes_objects, static_result}
use Rattle.semantics.specs.Heap.{next_name}
use Rattle.semantics.specs.Object.{Object, Reference, sizes}
use Rattle.semantics.specs.Thread as source
use Rattle.semantics.specs.Thread.{Shared, Thread}
use Rattle.semantics.specs.World.{World, fresh_object}
use Rattle.code_meaning.specs.Lowered.{Lowered}
use Rattle.code_meaning.specs.Stands.{IsBufferResult, IsStaticResult}
use Rattle.tables.specs.Elements.{OwnedNumbers}
use Rattle.tables.specs.Keys.{value_at}
use Rattle.machine_scenes.specs.Buffers.{Acquired, BufferAgrees, acquired_by, acquired_of, beside, gives_up, holding, in_use_of, nothing_acquired}
use Rattle.machine_scenes.specs.declared.activation.Activation.{Activation}
use Rattle.machine_scenes.specs.declared.buffer.Buffer.{Buffer}
use Rattle.machine_scenes.specs.declared.buffer.Buffer.TheVariants as buffer
use Rattle.machine_answers.specs.declared.answer.Given.{Given}
use Rattle.machine_answers.specs.declared.answer.Given.TheVariants as given
use Rattle.machine_scenes.specs.declared.store.Store.{Store}
use Rattle.semantics.specs.Variable.{Variables}
use Rattle.tables.specs.References.{address_at}
use Rattle.machine_scenes.specs.Statics.{held}
use Rattle.machine_scenes.specs.Statics.{StaticReference}
use Rattle.semantics.specs.declared.static_reference.StaticReference.TheVariants as static
use Rattle.machine_scenes.specs.StoreAgrees.{HeldAgrees, StoreAgrees, Keeps}
use Rattle.machine_answers.specs.Answers.{Brought, GivenAgrees, IsAnswer, bringing, effect_told}
use Rattle.machine_answers.specs.declared.answer.Answer.{Answer}
use Rattle.machine_answers.specs.declared.answer.Answer.TheVariants as answer
use Rattle.machine_answers.specs.Copies.{numbers_with}
use Rattle.machine_scenes.specs.Locals.{FramesAgree, IsKeyOf}
use Rattle.tables.specs.Locals.{LocalTable}
use Rattle.machine_scenes.specs.HeapAgrees.{ReferenceAgrees}
use Rattle.machine_scenes.specs.NewObjects.{texts_in}
use Rattle.machine_calls.specs.CallState.{CallState}
use Rattle.machine_calls.specs.declared.carry_out.Calling.{Calling}
use Rattle.machine_calls.specs.declared.carry_out.Carried.{Carried}

-- the shared state after a call of this effect, or after the same with its allocation refused
abbrev pub shared_after : Classes → (refused : Bool) → Shared → CallEffect → Shared
shared_after classes true s effect = s
shared_after classes false s (Leaves made s' t' given) = record s' { heap = s'.heap ++ made }
shared_after classes false s (Throws c) = record s { heap = s.heap ++ fresh_object classes c ∷ [] }
shared_after classes false s (Halts trap) = s
shared_after classes false s (Enters function arguments) = s

-- the exception that is pending then
abbrev pub pending_after : Classes → (refused : Bool) → Shared → Thread → CallEffect → Reference
pending_after classes true s t effect = Some (out_of_memory classes)
pending_after classes false s t (Leaves made s' t' given) = t'.pending
pending_after classes false s t (Throws c) = Some (next_name s.heap)
pending_after classes false s t (Halts trap) = t.pending
pending_after classes false s t (Enters function arguments) = t.pending

-- the thread then, but for the exception that is pending, before a result is put into it
abbrev pub thread_left : (refused : Bool) → Thread → CallEffect → Thread
thread_left true t effect = t
thread_left false t (Leaves made s' t' given) = t'
thread_left false t (Throws c) = t
thread_left false t (Halts trap) = t
thread_left false t (Enters function arguments) = t

-- its frames
abbrev pub frames_left : (refused : Bool) → Thread → CallEffect → List source.Frame
frames_left refused t effect = (thread_left refused t effect).frames

-- its variables
abbrev pub variables_left : (refused : Bool) → Thread → CallEffect → Variables
variables_left refused t effect = (thread_left refused t effect).variables

-- what a call of this kind of result gives
abbrev pub result_after : ResultKind → (refused : Bool) → CallEffect → CallResult
result_after kind true effect = failure kind
result_after kind false (Leaves made s' t' given) = given
result_after kind false (Throws c) = failure kind
result_after kind false (Halts trap) = NoResult
result_after kind false (Enters function arguments) = NoResult

-- what a result takes that is a buffer
abbrev pub acquired_with : CallResult → Acquired
acquired_with (BufferResult b) = acquired_of b
acquired_with c = nothing_acquired

-- what all buffers take then, with that of the result, where those of the other threads take this
abbrev pub acquired_after : (others : Acquired) → ResultKind → (refused : Bool) → Thread → CallEffect → Acquired
acquired_after others kind refused t effect =
    beside others (beside (acquired_by (thread_left refused t effect)) (acquired_with (result_after kind refused effect)))

-- the objects that a call of this effect makes, if nothing is refused
abbrev pub made_by : Classes → CallEffect → List Object
made_by classes (Leaves made s t given) = made
made_by classes (Throws c) = fresh_object classes c ∷ []
made_by classes (Halts trap) = []
made_by classes (Enters function arguments) = []

-- fewer than so many cells are left after the highest block, and the heap is as it was
abbrev pub IsShortOf : (cells : ℕ) → (old new : Space) → Type 0
IsShortOf cells old new = (left_of old < cells) × (new ≡ old)

-- an allocation of so many cells is refused exactly where fewer are left
abbrev pub GoesByRoom : (refused : Bool) → (cells : ℕ) → (old new : Space) → Type 0
GoesByRoom true cells old new = IsShortOf cells old new
GoesByRoom false cells old new = cells ≤ left_of old

-- a global reference, weak or not, that no static holds, or none
pub record IsFresh (store : Store) (s : StaticReference) : Type 0 where
  pub live : (key : ℕ) → s ≡ static.Live key → IsSome (address_at store.globals key)
      × ((i : ℕ) → slice_get store.statics.items i ≡ Some (static.Live key) → ⊥)
  pub weak : (key : ℕ) → s ≡ static.Weakly key → IsSome (value_at store.weaks key)
      × ((i : ℕ) → slice_get store.statics.items i ≡ Some (static.Weakly key) → ⊥)

-- what a call of this number is given is the buffer of a result, whose copy is its own, or NULL
abbrev pub BufferIsGiven : Store → (owner : ℕ) → Buffer → CallResult → Type 0
BufferIsGiven store owner h (BufferResult b) = BufferAgrees store.heap store.elements owner h b
BufferIsGiven store owner h NullResult = h ≡ buffer.Null
BufferIsGiven store owner h c = ⊥

-- a function of this kind of result, which goes into a static, gives this
abbrev pub IsForStatic : ResultKind → CallResult → Type 0
IsForStatic NewGlobal (ReferenceResult r) = Unit {0}
IsForStatic NewGlobal NullResult = Unit {0}
IsForStatic NewWeak (WeakResult r) = Unit {0}
IsForStatic NewWeak NullResult = Unit {0}
IsForStatic kind c = ⊥

-- what a function of this kind of result gives to a call of this number, where that may be a buffer or for a static
abbrev pub ResultAgrees : SourceUnit → Classes → Store → (owner : ℕ) → Given → ResultKind → CallResult → Type 0
ResultAgrees unit classes store owner (given.Buffer h) kind c = IsBufferResult kind × BufferIsGiven store owner h c
ResultAgrees unit classes store owner (given.Global s) kind c = IsForStatic kind c
    × HeldAgrees store.heap (held store.globals store.weaks s) (static_result c) × IsFresh store s
ResultAgrees unit classes store owner g kind c = GivenAgrees unit classes store.heap kind g c

-- the number slots once an answer is carried out
abbrev pub slots_after : Space → Answer → List ℕ → List ℕ
slots_after space (answer.CopiesOut region) numbers = numbers_with space region numbers
slots_after space a numbers = numbers

-- the buffers in slots then
abbrev pub buffers_after : Answer → List Buffer → List Buffer
buffers_after (answer.Releases r) buffers = if gives_up r.mode then slice_set buffers r.slot buffer.Null else buffers
buffers_after a buffers = buffers

-- an answer leaves the copied list of a key
abbrev pub LeavesCopy : Answer → (key : ℕ) → Type 0
LeavesCopy (answer.Releases r) key = gives_up r.mode ≡ true → r.held ≢ buffer.Copy key
LeavesCopy a key = Unit {0}

-- the lists that it leaves are those that they were
abbrev pub CopiesStay : Answer → (before after : List (Option OwnedNumbers)) → Type 0
CopiesStay a before after = (key : ℕ) (c : OwnedNumbers) → value_at before key ≡ Some c → LeavesCopy a key → value_at after key ≡ Some c

-- a copied list that is given has a key that had none
abbrev pub IsNewCopy : (before : List (Option OwnedNumbers)) → Given → Type 0
IsNewCopy before (given.Buffer (buffer.Copy key)) = value_at before key ≡ None
IsNewCopy before g = Unit {0}

-- no copied list is given
abbrev pub IsNoCopy : Given → Type 0
IsNoCopy g = (before : List (Option OwnedNumbers)) → IsNewCopy before g

-- an answer does nothing but to the frames
abbrev pub is_of_frames : Answer → Bool
is_of_frames (answer.Ensures more) = true
is_of_frames (answer.Pushes capacity) = true
is_of_frames answer.RefusesFrames = true
is_of_frames (answer.Pops a) = true
is_of_frames a = false

-- or to the references that there are
abbrev pub is_of_references : Answer → Bool
is_of_references (answer.Deletes key) = true
is_of_references (answer.MakesGlobal a) = true
is_of_references (answer.DeletesGlobal slot) = true
is_of_references (answer.MakesWeak a) = true
is_of_references (answer.DeletesWeak slot) = true
is_of_references a = is_of_frames a

-- or to monitors
abbrev pub is_of_monitors : Answer → Bool
is_of_monitors (answer.Enters o) = true
is_of_monitors (answer.Exits n) = true
is_of_monitors a = is_of_references a

-- or to buffers
abbrev pub is_of_buffers : Answer → Bool
is_of_buffers (answer.AcquiresCopy a) = true
is_of_buffers (answer.AcquiresView a) = true
is_of_buffers (answer.Releases r) = true
is_of_buffers a = is_of_monitors a

-- what an answer does may take host memory
abbrev pub takes_memory : Answer → Bool
takes_memory (answer.AcquiresCopy a) = true
takes_memory (answer.Enters o) = true
takes_memory a = is_of_references a

-- an answer leaves a key of this level as it is, where there were this number of frames
abbrev pub IsLeft : Answer → (frames : ℕ) → (key level : ℕ) → Type 0
IsLeft (answer.Deletes deleted) frames key level = key ≢ deleted
IsLeft (answer.Pops a) frames key level = level ≢ frames
IsLeft a frames key level = Unit {0}

-- The store, the frames and the exception that is pending are those that the effect on the call's thread leaves, and what is given is what the
-- call gives; the buffers of other threads take what they did. Keys that the answer leaves are those of the same references. Only what
-- makes objects can be refused, and only where they have no room.
pub record CarriesOut (p : Lowered) (w : World) (old : Space) (before : LocalTable) (answer : Answer)
    (kind : ResultKind) (others : Acquired) (owner : ℕ) (shared : Shared) (s : Thread) (effect : CallEffect)
    (refused : Bool) (store : Store) (pending : Option ℕ) (locals : LocalTable) (given : Given) : Type 0 where
  pub store_agrees : StoreAgrees p w store (shared_after w.classes refused shared effect) (acquired_after others kind refused s effect)
  pub keeps : Keeps old shared store.heap (shared_after w.classes refused shared effect)
  pub pending_agrees : ReferenceAgrees store.heap pending (pending_after w.classes refused shared s effect)
  pub frames_agree : FramesAgree store.heap locals (frames_left refused s effect)
  pub left : (key n level : ℕ) → IsKeyOf old before key n level → IsLeft answer (length before.frames) key level → IsKeyOf store.heap locals key n level
  pub given_agrees : ResultAgrees (unit_tree p.unit) w.classes store owner given kind (result_after kind refused effect)
  pub still : IsStaticResult kind → (shared_after w.classes refused shared effect).statics ≡ shared.statics
  pub could_refuse : refused ≡ true → makes_objects effect ≡ true
  pub room : GoesByRoom refused (sizes (made_by w.classes effect)) old store.heap

-- what a call of this kind of result gives where it fails
abbrev pub failed : ResultKind → Given
failed NewLocal = given.Reference None
failed NewGlobal = given.Global static.Empty
failed NewWeak = given.Global static.Empty
failed GivesField = given.FieldId None
failed GivesMethod = given.MethodId None
failed GivesInt = given.Number (2 ^ 32 - 1)
failed GivesFlag = given.Number 0
failed (GivesBuffer access) = given.Buffer buffer.Null
failed kind = given.Nothing

-- A call can be carried out: the store, the exception that is pending and the frames agree with the source's.
pub record IsPossible (p : Lowered) (w : World) (store : Store) (pending : Option ℕ) (locals : LocalTable)
    (others : Acquired) (shared : Shared) (s : Thread) : Type 0 where
  pub store_agrees : StoreAgrees p w store shared (beside others (acquired_by s))
  pub pending_agrees : ReferenceAgrees store.heap pending s.pending
  pub frames_agree : FramesAgree store.heap locals s.frames

-- ---- what is carried out, of any call of the source for whose answer the answer stands

-- what a call of thread k brings, of this number and with these slots, of which the source's has these arguments
abbrev pub brought_to : Lowered → Store → Activation → Call → (k owner : ℕ) → (others : Acquired) → Thread → List Actual → Brought
brought_to p store activation call k owner others s args =
    bringing (unit_tree p.unit) (texts_in call.texts.items) call.operands.items activation.slots.numbers.items
    (holding activation.slots.buffers.items store.elements owner) k (in_use_of (beside others (acquired_by s))) args

-- this call can be carried out and has this answer
abbrev pub HasAnswer : Calling → CallState → Answer → Type 0
HasAnswer calling before a =
    (p : Lowered) × (args : List Actual) × (others : Acquired) × (shared : Shared) × (s : Thread)
    × (of_source : SourceAnswer) × IsPossible p calling.world.now before.store before.pending before.activation.locals others shared s
    × IsAnswer calling.world.now.classes
    (brought_to p before.store before.activation calling.call.now calling.thread calling.owner others s args)
    before.store.heap before.activation.locals shared s a calling.call.now.result of_source

-- what carrying it out leaves is what the call does
abbrev pub CarriesOutAnswer : Calling → (before after : CallState) → Answer → Carried → Type 0
CarriesOutAnswer calling before after a carried =
    (p : Lowered) (args : List Actual) (others : Acquired) (shared : Shared) (s : Thread)
    (of_source : SourceAnswer) → IsPossible p calling.world.now before.store before.pending before.activation.locals others shared s
    → IsAnswer calling.world.now.classes
    (brought_to p before.store before.activation calling.call.now calling.thread calling.owner others s args)
    before.store.heap before.activation.locals shared s a calling.call.now.result of_source
    → CarriesOut p calling.world.now before.store.heap before.activation.locals a calling.call.now.result others
    calling.owner shared s (effect_told calling.world.now.classes
    (brought_to p before.store before.activation calling.call.now calling.thread calling.owner others s args) shared s of_source)
    carried.refused after.store after.pending after.activation.locals carried.given

-- what such a call brings of buffers is what is in slots, and it is this thread's
pub record BringsBuffers (calling : Calling) (before : CallState) (others : Acquired) (s : Thread) (brought : Brought) : Type 0 where
  pub buffers : brought.buffers ≡ holding before.activation.slots.buffers.items before.store.elements calling.owner
  pub in_use : brought.in_use ≡ in_use_of (beside others (acquired_by s))
  pub thread : brought.thread ≡ calling.thread

-- a call has an answer of buffers, and can be carried out
abbrev pub HasAnswerOfBuffers : Calling → CallState → Answer → Type 0
HasAnswerOfBuffers calling before a =
    (p : Lowered) × (kind : ResultKind) × (brought : Brought) × (others : Acquired) × (shared : Shared) × (s : Thread)
    × (of_source : SourceAnswer) × IsPossible p calling.world.now before.store before.pending before.activation.locals others shared s
    × IsAnswer calling.world.now.classes brought before.store.heap before.activation.locals shared s a kind of_source
    × BringsBuffers calling before others s brought

-- what carrying that out leaves, and this being given, is what the call does
abbrev pub CarriesOutBuffers : Calling → (before after : CallState) → Answer → Given → Type 0
CarriesOutBuffers calling before after a given =
    (p : Lowered) (kind : ResultKind) (brought : Brought) (others : Acquired) (shared : Shared) (s : Thread)
    (of_source : SourceAnswer) → IsPossible p calling.world.now before.store before.pending before.activation.locals others shared s
    → IsAnswer calling.world.now.classes brought before.store.heap before.activation.locals shared s a kind of_source
    → BringsBuffers calling before others s brought
    → CarriesOut p calling.world.now before.store.heap before.activation.locals a kind others calling.owner shared s
    (effect_told calling.world.now.classes brought shared s of_source) false after.store after.pending after.activation.locals given

-- a call has an answer of monitors, and can be carried out
abbrev pub HasAnswerOfMonitors : Calling → Store → (pending : Option ℕ) → LocalTable → Answer → Type 0
HasAnswerOfMonitors calling store pending locals a =
    (p : Lowered) × (kind : ResultKind) × (brought : Brought) × (others : Acquired) × (shared : Shared) × (s : Thread)
    × (of_source : SourceAnswer) × IsPossible p calling.world.now store pending locals others shared s
    × IsAnswer calling.world.now.classes brought store.heap locals shared s a kind of_source × (brought.thread ≡ calling.thread)

-- what carrying that out leaves, and this being given, is what the call does, whatever its number
abbrev pub CarriesOutMonitors : Calling → (old store : Store) → (pending left : Option ℕ) → (before locals : LocalTable) → Answer → Given → Type 0
CarriesOutMonitors calling old store pending left before locals a given =
    (p : Lowered) (kind : ResultKind) (brought : Brought) (others : Acquired) (owner : ℕ) (shared : Shared) (s : Thread)
    (of_source : SourceAnswer) → IsPossible p calling.world.now old pending before others shared s
    → IsAnswer calling.world.now.classes brought old.heap before shared s a kind of_source → brought.thread ≡ calling.thread
    → CarriesOut p calling.world.now old.heap before a kind others owner shared s
    (effect_told calling.world.now.classes brought shared s of_source) false store left locals given

-- a call has an answer of references, and can be carried out
abbrev pub HasAnswerOfReferences : World → Store → (pending : Option ℕ) → LocalTable → Answer → Type 0
HasAnswerOfReferences w store pending locals a =
    (p : Lowered) × (kind : ResultKind) × (brought : Brought) × (others : Acquired) × (shared : Shared) × (s : Thread)
    × (of_source : SourceAnswer) × IsPossible p w store pending locals others shared s
    × IsAnswer w.classes brought store.heap locals shared s a kind of_source

-- what carrying that out leaves, and this being given, is what the call does, whichever thread makes it and whatever its number
abbrev pub CarriesOutReferences : World → (old store : Store) → (pending left : Option ℕ) → (before locals : LocalTable)
    → Answer → Given → Type 0
CarriesOutReferences w old store pending left before locals a given =
    (p : Lowered) (kind : ResultKind) (brought : Brought) (others : Acquired) (owner : ℕ) (shared : Shared) (s : Thread)
    (of_source : SourceAnswer) → IsPossible p w old pending before others shared s
    → IsAnswer w.classes brought old.heap before shared s a kind of_source
    → CarriesOut p w old.heap before a kind others owner shared s (effect_told w.classes brought shared s of_source)
    false store left locals given
