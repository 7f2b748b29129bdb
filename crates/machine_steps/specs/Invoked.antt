-- Where a call of a function of the JNI is made.
use Rattle.std.specs.Prelude.{◌≡◌, ℕ, ◌+◌, ◌<◌, ◌^◌, Bool, true, false, if◌then◌else◌, nat_le, List, ◌∷◌, length, slice_get, ◌⊎◌, Option, Some, None, Result, Ok, IfOk, IfErr, OnErr}
use Rattle.base.specs.Limits.{most_activations}
use Rattle.syntax.specs.Views.{unit_tree}
use Rattle.code.specs.Call.{IsPrepared, call_view}
use Rattle.code.specs.Depth.{Listing}
use Rattle.code.specs.declared.instr.Call.{Call as InMemory}
use Rattle.code.specs.declared.instr.Instr.TheVariants as instr
use Rattle.heap.specs.Heap.{left_of}
use Rattle.semantics.specs.CallStep.{waits_with}
use Rattle.semantics.specs.Effect.{effect_of}
use Rattle.semantics.specs.Task.{Task}
use Rattle.semantics.specs.Thread.{Shared, Thread, sight_of}
use Rattle.semantics.specs.ThreadStep.{after_effect}
use Rattle.semantics.specs.declared.trap.Trap.{Trap}
use Rattle.semantics.specs.declared.trap.Trap.TheVariants.{CallsTooDeep}
use Rattle.semantics.specs.World.{World}
use Rattle.world_values.specs.SoundWorlds.{IsSound}
use Rattle.semantics_safety.specs.Owners.{Owners}
use Rattle.code_meaning.specs.Lowered.{Lowered, IsLowered}
use Rattle.code_meaning.specs.Slots.{SeesBuffers, visible_to}
use Rattle.machine_calls.specs.CallState.{CallState, IsAsBefore}
use Rattle.machine_steps.specs.declared.context.CallContext.{CallContext}
use Rattle.machine_steps.specs.declared.context.StepContext.{StepContext}
use Rattle.machine_steps.specs.declared.invoke.Invoked.{Invoked}
use Rattle.machine_steps.specs.declared.invoke.Invoked.TheVariants as invoked
use Rattle.semantics.specs.declared.event.Event.TheVariants.{Quiet, Trapped}
use Rattle.machine_steps.specs.declared.execute.Executed.{Executed}
use Rattle.machine_steps.specs.declared.execute.Executed.TheVariants.{Did, Refused, Calls}
use Rattle.machine_steps.specs.declared.fault.StepFault.{StepFault}
use Rattle.machine_answers.specs.declared.answer.Answer.{Answer}
use Rattle.machine_answers.specs.declared.answer.Answer.TheVariants as answer
use Rattle.machine_scenes.specs.declared.store.Store.{Store}
use Rattle.machine_scenes.specs.declared.activation.Activation.{Activation}
use Rattle.machine_answers.specs.Asked.{scene_of}
use Rattle.machine_scenes.specs.Buffers.{Acquired, AreViewed, acquired_by, beside}
use Rattle.machine_answers.specs.Sights.{trap_seen}
use Rattle.machine_scenes.specs.StoreAgrees.{StoreAgrees}
use Rattle.machine_answers.specs.Answered.{IsAnswerTo}
use Rattle.machine_steps.specs.Executes.{Executes, IsHindered, IsSteady, cells_made, in_use_with}
use Rattle.machine_threads.specs.Callers.{owner_at}
use Rattle.machine_threads.specs.InProgress.{CallStands}
use Rattle.machine_scenes.specs.HeapAgrees.{ReferenceAgrees}

-- Thread k of the source has a call as its first task, the machine is at the instruction that stands for it, and all that the
-- call can change agrees. The copies of the call in progress have this owner, which tells how many calls are below it. What is seen of
-- buffers are their elements. The thread doesn't wait for a monitor.
pub record AtCall (p : Lowered) (w : World) (store : Store) (pending : Option ℕ) (activation : Activation)
    (call : InMemory) (others : Acquired) (k owner : ℕ) (own : Owners) (shared : Shared) (s : Thread) (task : Task)
    (rest : List Task) : Type 0 where
  pub lowered : IsLowered p
  pub depth : owner ≡ owner_at k (length s.callers)
  pub tasks : s.tasks ≡ Some (task ∷ rest)
  pub shares : StoreAgrees p w store shared (beside others (acquired_by s))
  pub pending_agrees : ReferenceAgrees store.heap pending s.pending
  pub stands : CallStands p w.classes store.heap store.elements owner activation (visible_to own shared s) s.frames (task ∷ rest)
  pub sees : SeesBuffers (visible_to own shared s) stands.meant.buffers
  pub views : AreViewed store.heap activation.slots.buffers.items s
  pub steady : IsSteady (unit_tree p.unit) w.classes own shared s
  pub ready : waits_with w.classes k shared s (effect_of (sight_of shared s) task) ≡ false
  pub code : Listing
  pub of_function : slice_get p.codes activation.function ≡ Some code
  pub at : slice_get code.instrs activation.place ≡ Some (instr.Call (call_view call))

-- the trap of a call of thread k before it does anything
abbrev pub trap_at : Lowered → World → Store → (pending : Option ℕ) → Activation → (k : ℕ) → InMemory → Option Trap
trap_at p w store pending activation k call = trap_seen (scene_of (unit_tree p.unit) w.classes store activation k pending) activation.locals (call_view call)

-- No check stops a call of thread k, and this is what it answers.
pub record IsAnswered (p : Lowered) (w : World) (store : Store) (pending : Option ℕ) (activation : Activation) (k : ℕ)
    (call : InMemory) (given : Answer) : Type 0 where
  pub sound : IsSound w
  pub free : trap_at p w store pending activation k call ≡ None
  pub works : IsAnswerTo (scene_of (unit_tree p.unit) w.classes store activation k pending) (call_view call) given

-- the same of what goes by this context
abbrev pub IsAnsweredIn : StepContext → CallState → InMemory → Answer → Type 0
IsAnsweredIn context before call given =
    IsAnswered context.program.now context.world.now before.store before.pending before.activation context.thread call given

-- A trap stops a call: a check found it, or it is what the call does.
abbrev pub IsStoppedIn : StepContext → CallState → InMemory → Trap → Type 0
IsStoppedIn context before call trap =
    (trap_at context.program.now context.world.now before.store before.pending before.activation context.thread call ≡ Some trap)
    ⊎ IsAnsweredIn context before call (answer.Halts trap)

-- an answer stops the machine
abbrev pub is_halt : Answer → Bool
is_halt (answer.Halts trap) = true
is_halt a = false

-- what a call came to that wasn't stopped
abbrev pub done_or_refused : (refused : Bool) → Invoked
done_or_refused true = invoked.Refused
done_or_refused false = invoked.Done

-- what a call of a method comes to that nothing else stops, with so many calls below the one that makes it
abbrev pub called_from : (below : ℕ) → Invoked
called_from below = if nat_le most_activations (below + 1) then invoked.Trapped CallsTooDeep else invoked.Calls

-- what the instruction of a call on this line did, by what the call came to
abbrev pub executed_as : (line : ℕ) → Invoked → Executed
executed_as line invoked.Done = Did Quiet
executed_as line invoked.Refused = Refused
executed_as line invoked.Calls = Calls
executed_as line (invoked.Trapped trap) = Did (Trapped trap line)

-- ---- a call of any thread of the source

-- some thread k of the source is at this call, with copies of this owner
abbrev pub StandsAtCall : Lowered → World → (k owner : ℕ) → CallState → InMemory → Type 0
StandsAtCall p w k owner before call =
    (others : Acquired) × (own : Owners) × (shared : Shared) × (s : Thread) × (task : Task) × (rest : List Task)
    × AtCall p w before.store before.pending before.activation call others k owner own shared s task rest

-- the same of what goes by this context, with copies of some owner
abbrev pub IsAtCall : StepContext → CallState → InMemory → Type 0
IsAtCall context before call = (owner : ℕ) × StandsAtCall context.program.now context.world.now context.thread owner before call

-- of each thread that is, the call does the first task
abbrev pub DoesCall : Lowered → World → (k owner : ℕ) → (before after : CallState) → InMemory → Invoked → Type 0
DoesCall p w k owner before after call done =
    (others : Acquired) (own : Owners) (shared : Shared) (s : Thread) (task : Task) (rest : List Task)
    → AtCall p w before.store before.pending before.activation call others k owner own shared s task rest
    → Executes p w before.store after.store others k owner own shared s rest after.activation after.pending
    (effect_of (sight_of shared s) task) (executed_as call.line done)

-- so it does that goes by this context
abbrev pub DoesItsCall : CallContext → (before after : CallState) → Invoked → Type 0
DoesItsCall context before after done =
    DoesCall context.step.program.now context.step.world.now context.step.thread context.owner before after context.call.now done

-- or this is why it wasn't done
abbrev pub IsHinderedAtCall : CallContext → CallState → StepFault → Type 0
IsHinderedAtCall context before fault =
    (others : Acquired) (own : Owners) (shared : Shared) (s : Thread) (task : Task) (rest : List Task)
    → AtCall context.step.program.now context.step.world.now before.store before.pending before.activation context.call.now others
    context.step.thread context.owner own shared s task rest
    → IsHindered (left_of before.store.heap) (cells_made shared (after_effect (unit_tree context.step.program.now.unit)
    context.step.world.now.classes (in_use_with others s) context.step.thread shared s rest (effect_of (sight_of shared s) task)))
    context.step.may_refuse fault

-- what is asked of a call: some thread of the source is at it, there is a place behind its instruction, and births are few
pub record MayCall (context : CallContext) (before : CallState) : Type 0 where
  pub at_call : StandsAtCall context.step.program.now context.step.world.now context.step.thread context.owner before context.call.now
  pub place : before.activation.place + 1 < 2 ^ 64
  pub few : before.store.births + 2 < 2 ^ 32
  pub prepared : IsPrepared context.call.now

-- What a call came to: it did the first task; it was refused, where that may be; it calls a method, and nothing has changed yet; or it
-- wasn't done, for this reason, and all is as before.
pub record Invokes (context : CallContext) (before after : CallState) (result : Result Invoked StepFault) : Type 0 where
  pub done : IfOk result (DoesItsCall context before after)
  pub hindered : IfErr result (IsHinderedAtCall context before)
  pub refuses : result ≡ Ok invoked.Refused → context.step.may_refuse ≡ true
  pub calls : IfOk result (λ done. done ≡ invoked.Calls → IsAsBefore before after)
  pub kept : OnErr result (IsAsBefore before after)
