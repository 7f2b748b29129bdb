-- What an instruction does to a call in progress.
use Rattle.std.specs.Prelude.{◌≡◌, ◌≢◌, ℕ, ◌+◌, ◌<◌, ◌≤◌, Bool, true, false, List, [], ◌∷◌, length, drop, Option, Some, None}
use Rattle.std.specs.List.{AllByRecursion}
use Rattle.base.specs.Bytes.{Identifier, lookup}
use Rattle.base.specs.Limits.{most_further}
use Rattle.class_rules.specs.Class.{Classes}
use Rattle.class_rules.specs.Grown.{HasMethodError}
use Rattle.heap.specs.Heap.{left_of}
use Rattle.syntax.specs.Views.{unit_tree}
use Rattle.syntax.specs.Tree.{SourceUnit}
use Rattle.semantics.specs.Object.{Reference, sizes}
use Rattle.semantics.specs.World.{World}
use Rattle.semantics.specs.CallEffects.{CallResult}
use Rattle.semantics.specs.CallStep.{trap_of_call, waits_with}
use Rattle.semantics.specs.Effect.{Effect, Calls, Returns, NoEffect, effect_of}
use Rattle.semantics.specs.Task.{Task, Target, Assigned}
use Rattle.semantics.specs.Checks.{frames_after}
use Rattle.semantics.specs.Arguments.{Actual, method_given, object_given, variable_given}
use Rattle.semantics.specs.Method.{MethodId}
use Rattle.semantics_safety.specs.Owners.{Owners, IsOwn, after_effect as owners_left}
use Rattle.semantics_safety.specs.StepSafe.{IsCallable, IsResumable, HoldsNoBuffer, MayMeetView, MayReturn, SetsWhole, came_from}
use Rattle.semantics_safety.specs.Used.{task_names}
use Rattle.semantics_typing.specs.Objects.{AreTypedObjects, AreTypedVariables}
use Rattle.jni.specs.declared.access.Access.{Access}
use Rattle.jni.specs.declared.function.JniFunction.{JniFunction}
use Rattle.jni.specs.declared.function.JniFunction.TheVariants.{GetStaticMethodID, ReleaseBuffer}
use Rattle.jni.specs.JniFunction.{calls_method, prototype}
use Rattle.jni.specs.declared.kinds.ResultKind.TheVariants.{NewLocal}
use Rattle.semantics.specs.Thread as source
use Rattle.semantics.specs.Thread.{BuffersInUse, Shared, Advance, Advances, NoAdvance, sight_of, objects_viewed}
use Rattle.semantics.specs.Variable.{LocalRef}
use Rattle.semantics.specs.ThreadStep.{next_effect, after_effect, after_refused_effect}
use Rattle.code_meaning.specs.Slots.{visible_to}
use Rattle.code_meaning.specs.Lowered.{Lowered}
use Rattle.semantics.specs.declared.event.Event.{Event}
use Rattle.semantics.specs.declared.event.Event.TheVariants.{Quiet}
use Rattle.machine_scenes.specs.declared.activation.Activation.{Activation}
use Rattle.machine_steps.specs.declared.context.StepContext.{StepContext}
use Rattle.machine_steps.specs.declared.execute.Executed.{Executed}
use Rattle.machine_steps.specs.declared.execute.Executed.TheVariants.{Did, Refused, Returned}
use Rattle.machine_steps.specs.declared.execute.Executed.TheVariants as executed
use Rattle.machine_steps.specs.Returned.{ReturnAgrees}
use Rattle.machine_steps.specs.declared.fault.StepFault.{StepFault}
use Rattle.machine_steps.specs.declared.fault.StepFault.TheVariants.{NoRoom, Memory}
use Rattle.machine_scenes.specs.declared.store.Store.{Store}
use Rattle.machine_scenes.specs.Buffers.{Acquired, AreViewed, KeepsCopies, acquired_by, beside, in_use_of}
use Rattle.machine_calls.specs.CallState.{CallState}
use Rattle.machine_calls.specs.CarriedOut.{IsShortOf}
use Rattle.machine_scenes.specs.HeapAgrees.{ReferenceAgrees}
use Rattle.machine_threads.specs.Callers.{owner_at}
use Rattle.machine_threads.specs.InProgress.{CallStands, WorkAgrees}
use Rattle.machine_scenes.specs.StoreAgrees.{StoreAgrees, Keeps}

-- What no step of an accepted unit breaks, as `StepSafe` has it of the thread alone, and what its objects and variables are made of.
pub record IsSteady (unit : SourceUnit) (classes : Classes) (own : Owners) (shared : Shared) (s : source.Thread) : Type 0 where
  pub callers : (c : source.Caller) (below : List source.Caller) → s.callers ≡ c ∷ below → IsResumable c
  pub view : (task : Task) (rest : List Task) → s.tasks ≡ Some (task ∷ rest) → objects_viewed s.variables ≢ [] → MayMeetView task
  pub return : (given : CallResult) → next_effect shared s s.tasks ≡ Returns given → MayReturn s
  pub release : (line : ℕ) (target : Target) (access : Access) (args : List Actual)
      → next_effect shared s s.tasks ≡ Calls line target (ReleaseBuffer access) args
      → came_from (lookup (variable_given args 1) s.variables) ≡ Some (object_given args 0)
  pub free : (x : Identifier) → SetsWhole x (next_effect shared s s.tasks) → HoldsNoBuffer (lookup x s.variables)
  pub possible : (tasks : List Task) → s.tasks ≡ Some tasks → next_effect shared s s.tasks ≢ NoEffect
  pub objects : AreTypedObjects classes shared.heap
  pub variables : AreTypedVariables classes shared.heap s.variables
  pub declared : (line : ℕ) (x : Identifier) (f : JniFunction) (args : List Actual) (level : ℕ) (r : Reference)
      → next_effect shared s s.tasks ≡ Calls line (Assigned x) f args → (prototype f).result ≡ NewLocal
      → lookup x s.variables ≡ Some (LocalRef level r) → level ≡ length (frames_after f s.frames)
  pub owned : (task : Task) (rest : List Task) → s.tasks ≡ Some (task ∷ rest)
      → AllByRecursion (λ x. IsOwn own x (lookup x s.variables)) (task_names task)
  -- a method is asked for only where its exception is there
  pub methods : (line : ℕ) (target : Target) (args : List Actual) → next_effect shared s s.tasks ≡ Calls line target GetStaticMethodID args
      → HasMethodError classes
  -- a call of a method is one of the unit's functions, and gives it few arguments
  pub calls : (line : ℕ) (target : Target) (f : JniFunction) (args : List Actual) → next_effect shared s s.tasks ≡ Calls line target f args
      → calls_method f ≡ true → (length args ≤ 2 + most_further) × ((m : MethodId) → method_given args 1 ≡ Some m → IsCallable unit classes m)

-- what all buffers take of what there is for them, where those of the other calls take this
abbrev pub in_use_with : Acquired → source.Thread → BuffersInUse
in_use_with others s = in_use_of (beside others (acquired_by s))

-- A call in progress of thread k, with what is pending, stands for the thread's tasks, of which this is the first; the buffers of the
-- other calls take this. Its own copies have this owner, which tells how many calls are below it. The thread doesn't wait for a monitor.
pub record IsExecuting (p : Lowered) (w : World) (store : Store) (activation : Activation) (pending : Option ℕ)
    (others : Acquired) (k owner : ℕ) (own : Owners) (shared : Shared) (s : source.Thread) (task : Task)
    (rest : List Task) : Type 0 where
  pub store_agrees : StoreAgrees p w store shared (beside others (acquired_by s))
  pub depth : owner ≡ owner_at k (length s.callers)
  pub tasks : s.tasks ≡ Some (task ∷ rest)
  pub stands : CallStands p w.classes store.heap store.elements owner activation (visible_to own shared s) s.frames (task ∷ rest)
  pub pending_agrees : ReferenceAgrees store.heap pending s.pending
  pub views : AreViewed store.heap activation.slots.buffers.items s
  pub steady : IsSteady (unit_tree p.unit) w.classes own shared s
  pub ready : waits_with w.classes k shared s (effect_of (sight_of shared s) task) ≡ false

-- what an effect of the first task leaves, or the same with its allocation refused
abbrev pub after_any : SourceUnit → Classes → BuffersInUse → ℕ → Shared → source.Thread → List Task → (refused : Bool) → Effect → Advance
after_any unit classes in_use k shared s rest false effect = after_effect unit classes in_use k shared s rest effect
after_any unit classes in_use k shared s rest true effect = after_refused_effect unit classes in_use k shared s rest effect

-- the cells of the objects that a step makes
abbrev pub cells_made : Shared → Advance → ℕ
cells_made shared (Advances next t event) = sizes (drop (length shared.heap) next.heap)
cells_made shared NoAdvance = 0

-- Why a step that makes objects of so many cells was not taken: fewer are left after the highest block, and it may not be refused yet;
-- or host memory was refused, which no step needs that makes objects.
abbrev pub IsHindered : (left cells : ℕ) → (may_refuse : Bool) → StepFault → Type 0
IsHindered left cells may_refuse NoRoom = (may_refuse ≡ false) × (left < cells)
IsHindered left cells may_refuse Memory = cells ≡ 0

-- The first task had this effect on thread k, with the rest still to do: the thread goes on within its call. Its allocation was
-- refused only where too few cells were left. The buffers of the other calls, and the copies of other owners, are as they were.
pub record GoesOn (p : Lowered) (w : World) (old store : Store) (others : Acquired) (k owner : ℕ) (own : Owners)
    (shared : Shared) (s : source.Thread) (rest : List Task) (activation : Activation) (pending : Option ℕ) (effect : Effect)
    (refused : Bool) (event : Event) : Type 0 where
  pub next_shared : Shared
  pub next : source.Thread
  pub steps : after_any (unit_tree p.unit) w.classes (in_use_with others s) k shared s rest refused effect
      ≡ source.Advances next_shared next event
  pub store_agrees : StoreAgrees p w store next_shared (beside others (acquired_by next))
  pub keeps : Keeps old.heap shared store.heap next_shared
  pub keeps_copies : KeepsCopies owner old.elements store.elements
  pub work : WorkAgrees p w.classes store.heap store.elements owner (visible_to
      (owners_left (unit_tree p.unit) w.classes k shared s effect own event next.variables) next_shared next)
      (Some activation) next.frames next.tasks
  pub pending_agrees : ReferenceAgrees store.heap pending next.pending
  pub views : AreViewed store.heap activation.slots.buffers.items next
  pub calls : next.calls ≡ s.calls
  pub callers : next.callers ≡ s.callers
  pub ending : next.ending ≡ s.ending
  pub short : refused ≡ true
      → IsShortOf (cells_made shared (after_effect (unit_tree p.unit) w.classes (in_use_with others s) k shared s rest effect)) old.heap store.heap

-- the effect is a call of a method that no check stops
pub record IsCalling (classes : Classes) (shared : Shared) (s : source.Thread) (effect : Effect) : Type 0 where
  pub line : ℕ
  pub target : Target
  pub f : JniFunction
  pub args : List Actual
  pub is : effect ≡ Calls line target f args
  pub method : calls_method f ≡ true
  pub free : trap_of_call classes shared s target f args ≡ None

-- What an instruction did is the effect of the first of the tasks. A return gives what the source's does, and leaves the store as it was.
-- Of a call of a method no more is told than that it is one.
abbrev pub Executes : Lowered → World → (old store : Store) → (others : Acquired) → (k owner : ℕ) → Owners → Shared
    → source.Thread → (rest : List Task) → Activation → (pending : Option ℕ) → Effect → Executed → Type 0
Executes p w old store others k owner own shared s rest activation pending effect (Did event) =
    GoesOn p w old store others k owner own shared s rest activation pending effect false event
Executes p w old store others k owner own shared s rest activation pending effect Refused =
    GoesOn p w old store others k owner own shared s rest activation pending effect true Quiet
Executes p w old store others k owner own shared s rest activation pending effect (Returned given) =
    ((result : CallResult) × (effect ≡ Returns result) × ReturnAgrees store.heap given result)
    × StoreAgrees p w store shared (beside others (acquired_by s)) × (store ≡ old) × ReferenceAgrees store.heap pending s.pending
Executes p w old store others k owner own shared s rest activation pending effect executed.Calls = IsCalling w.classes shared s effect

-- ---- an instruction for any thread of the source

-- the call in progress, whose copies have this owner, stands for the tasks of some thread of the source
abbrev pub StandsExecuting : StepContext → (owner : ℕ) → CallState → Type 0
StandsExecuting context owner before =
    (others : Acquired) × (own : Owners) × (shared : Shared) × (s : source.Thread) × (task : Task) × (rest : List Task)
    × IsExecuting context.program.now context.world.now before.store before.activation before.pending others context.thread owner own shared
    s task rest

-- of each thread for which it does, the instruction does the first task
abbrev pub DoesFirstTask : StepContext → (owner : ℕ) → (before after : CallState) → Executed → Type 0
DoesFirstTask context owner before after done =
    (others : Acquired) (own : Owners) (shared : Shared) (s : source.Thread) (task : Task) (rest : List Task)
    → IsExecuting context.program.now context.world.now before.store before.activation before.pending others context.thread owner own shared
    s task rest
    → Executes context.program.now context.world.now before.store after.store others context.thread owner own shared s rest
    after.activation after.pending (effect_of (sight_of shared s) task) done

-- or this is why it wasn't done
abbrev pub IsHinderedExecuting : StepContext → (owner : ℕ) → CallState → StepFault → Type 0
IsHinderedExecuting context owner before fault =
    (others : Acquired) (own : Owners) (shared : Shared) (s : source.Thread) (task : Task) (rest : List Task)
    → IsExecuting context.program.now context.world.now before.store before.activation before.pending others context.thread owner own shared
    s task rest
    → IsHindered (left_of before.store.heap) (cells_made shared (after_effect (unit_tree context.program.now.unit)
    context.world.now.classes (in_use_with others s) context.thread shared s rest (effect_of (sight_of shared s) task)))
    context.may_refuse fault
