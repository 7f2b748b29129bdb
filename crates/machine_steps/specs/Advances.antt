-- What a step of a thread is.
use Rattle.std.specs.Prelude.{◌≡◌, ℕ, Bool, true, false, List, [], ◌∷◌, length, slice_get, Option, Some, None}
use Rattle.class_rules.specs.ClassIds.{class_id}
use Rattle.heap.specs.Heap.{left_of}
use Rattle.syntax.specs.Views.{unit_tree}
use Rattle.semantics.specs.World.{World, loaded_objects}
use Rattle.semantics_safety.specs.Owners.{ThreadOwners, after_advance}
use Rattle.semantics.specs.Thread as source
use Rattle.semantics.specs.Thread.{Shared}
use Rattle.semantics.specs.ThreadStep.{thread_step, waits}
use Rattle.code.specs.Depth.{Listing}
use Rattle.code_meaning.specs.Lowered.{Lowered, IsLowered}
use Rattle.semantics.specs.declared.event.Ending.{Ending}
use Rattle.semantics.specs.declared.event.Ending.TheVariants.{Ended, Uncaught, Unfinished}
use Rattle.semantics.specs.declared.event.Event.{Event}
use Rattle.semantics.specs.declared.event.Event.TheVariants.{Quiet}
use Rattle.machine_calls.specs.CallState.{CallState}
use Rattle.machine_steps.specs.declared.context.CodeContext.{CodeContext}
use Rattle.machine_steps.specs.declared.context.StepContext.{StepContext}
use Rattle.machine_steps.specs.declared.advance.Advanced.{Advanced}
use Rattle.machine_steps.specs.declared.advance.Advanced.TheVariants as advanced
use Rattle.machine_steps.specs.declared.advance.AtOnce.{AtOnce}
use Rattle.machine_steps.specs.declared.advance.AtOnce.TheVariants as at_once
use Rattle.machine_threads.specs.declared.thread.Thread.{Thread}
use Rattle.machine_threads.specs.declared.thread.PendingCall.{PendingCall}
use Rattle.machine_scenes.specs.declared.activation.Activation.{Activation}
use Rattle.machine_scenes.specs.declared.store.Store.{Store}
use Rattle.monitors.specs.Monitors.{kept_from, monitor_of, without_owner}
use Rattle.machine_scenes.specs.Buffers.{Acquired, KeepsCopies, acquired_by, beside}
use Rattle.machine_calls.specs.CarriedOut.{IsShortOf}
use Rattle.machine_scenes.specs.StoreAgrees.{StoreAgrees, Keeps}
use Rattle.machine_steps.specs.Executes.{IsHindered, IsSteady, cells_made, in_use_with}
use Rattle.machine_steps.specs.declared.fault.StepFault.{StepFault}
use Rattle.machine_threads.specs.Callers.{beside_callers, owner_at}
use Rattle.machine_threads.specs.ThreadAgrees.{ThreadAgrees}

-- ---- steps

-- thread k, in a store, stands for one of the source that no step breaks; the buffers of the other threads take this
abbrev pub Stands : Lowered → World → Store → (others : Acquired) → (k : ℕ) → ThreadOwners → Shared → source.Thread → Thread → Type 0
Stands p w store others k own shared s t =
    StoreAgrees p w store shared (beside (beside_callers others s) (acquired_by s))
    × ThreadAgrees p w.classes store.heap store.elements (length (loaded_objects w)) k own shared t s
    × IsSteady (unit_tree p.unit) w.classes own.current shared s

-- some thread of the source is one for which it stands
abbrev pub StandsForSome : Lowered → World → (k : ℕ) → Store → Thread → Type 0
StandsForSome p w k store t =
    (others : Acquired) × (own : ThreadOwners) × (shared : Shared) × (s : source.Thread) × Stands p w store others k own shared s t

-- the same of a thread of which this call is in progress, in a function of this code
pub record StandsInCode (p : Lowered) (w : World) (store : Store) (others : Acquired) (k : ℕ) (own : ThreadOwners)
    (shared : Shared) (s : source.Thread) (t : Thread) (code : Listing) (call : Activation) : Type 0 where
  pub lowered : IsLowered p
  pub stands : Stands p w store others k own shared s t
  pub in_progress : t.call ≡ Some call
  pub of_function : slice_get p.codes call.function ≡ Some code

-- the thread with this call in progress
abbrev pub with_call : Activation → Thread → Thread
with_call call t = record t { call = Some call }

-- The same of a thread with this exception pending, or none. What its call in progress copies has this owner.
pub record StandsWithin (p : Lowered) (w : World) (store : Store) (others : Acquired) (k : ℕ) (own : ThreadOwners)
    (shared : Shared) (s : source.Thread) (t : Thread) (code : Listing) (call : Activation) (pending : Option ℕ) (owner : ℕ) : Type 0 where
  pub in_code : StandsInCode p w store others k own shared s t code call
  pub pending_is : t.pending ≡ pending
  pub owner_is : owner ≡ owner_at k (length t.callers.items)

-- the thread with this call in progress, and with this exception pending, or none
abbrev pub within : Activation → Option ℕ → Thread → Thread
within call pending t = record t { call = Some call; pending = pending }

-- Thread k took the step that the source's thread takes, or the same with its allocation refused, where too few cells were left. The
-- buffers of the other threads, which take this, are as they were, and so are the copies of all other calls.
pub record Advances (p : Lowered) (w : World) (old store : Store) (others : Acquired) (k : ℕ) (own : ThreadOwners)
    (shared : Shared) (s : source.Thread) (t : Thread) (refused : Bool) (event : Event) : Type 0 where
  pub next_shared : Shared
  pub next : source.Thread
  pub steps : thread_step (unit_tree p.unit) w.classes (in_use_with (beside_callers others s) s) k shared s refused
      ≡ source.Advances next_shared next event
  pub store_agrees : StoreAgrees p w store next_shared (beside (beside_callers others next) (acquired_by next))
  pub keeps : Keeps old.heap shared store.heap next_shared
  pub keeps_copies : KeepsCopies (owner_at k (length s.callers)) old.elements store.elements
  pub agrees : ThreadAgrees p w.classes store.heap store.elements (length (loaded_objects w)) k
      (after_advance (unit_tree p.unit) w.classes k shared s own (source.Advances next_shared next event)) next_shared t next
  pub short : refused ≡ true → IsShortOf (cells_made shared (thread_step (unit_tree p.unit) w.classes
      (in_use_with (beside_callers others s) s) k shared s false)) old.heap store.heap

-- the same by what is told of it
abbrev pub AdvancesBy : Lowered → World → (old store : Store) → (others : Acquired) → (k : ℕ) → ThreadOwners → Shared
    → source.Thread → Thread → Advanced → Type 0
AdvancesBy p w old store others k own shared s t (advanced.Did event) = Advances p w old store others k own shared s t false event
AdvancesBy p w old store others k own shared s t advanced.Refused = Advances p w old store others k own shared s t true Quiet

-- it stands for some thread of the source that no step breaks; it has not ended, and doesn't wait for a monitor
abbrev pub StandsReady : Lowered → World → (k : ℕ) → Store → Thread → Type 0
StandsReady p w k store t =
    (others : Acquired) × (own : ThreadOwners) × (shared : Shared) × (s : source.Thread)
    × StoreAgrees p w store shared (beside (beside_callers others s) (acquired_by s))
    × ThreadAgrees p w.classes store.heap store.elements (length (loaded_objects w)) k own shared t s
    × (t.ending ≡ Unfinished) × IsSteady (unit_tree p.unit) w.classes own.current shared s × (waits w.classes k shared s ≡ false)

-- what holds of thread k with whatever state it stands for in which it doesn't wait
abbrev pub HoldsAlways : Lowered → World → (k : ℕ) → Store → Thread
    → (Acquired → ThreadOwners → Shared → source.Thread → Type 0) → Type 0
HoldsAlways p w k store t Holds =
    (others : Acquired) (own : ThreadOwners) (shared : Shared) (s : source.Thread)
    → StoreAgrees p w store shared (beside (beside_callers others s) (acquired_by s))
    → ThreadAgrees p w.classes store.heap store.elements (length (loaded_objects w)) k own shared t s
    → IsSteady (unit_tree p.unit) w.classes own.current shared s → waits w.classes k shared s ≡ false → Holds others own shared s

-- it took the step that the source's thread takes
abbrev pub AdvancesAlways : Lowered → World → (k : ℕ) → (store after : Store) → Thread → Thread → Advanced → Type 0
AdvancesAlways p w k store after t t' x =
    HoldsAlways p w k store t (λ others own shared s. AdvancesBy p w store after others k own shared s t' x)

-- it took a step that is known not to wait, by what is seen of it, whatever thread of the source it stands for
abbrev pub StepsFreely : Lowered → World → (k : ℕ) → (old store : Store) → Thread → Thread → Event → Type 0
StepsFreely p w k old store t after e =
    (others : Acquired) (own : ThreadOwners) (shared : Shared) (s : source.Thread) → Stands p w old others k own shared s t
    → (waits w.classes k shared s ≡ false) × Advances p w old store others k own shared s after false e

-- or this is why it didn't
abbrev pub IsHinderedAlways : Lowered → World → (k : ℕ) → Store → Thread → (may_refuse : Bool) → StepFault → Type 0
IsHinderedAlways p w k store t may_refuse fault =
    HoldsAlways p w k store t (λ others own shared s. IsHindered (left_of store.heap) (cells_made shared
    (thread_step (unit_tree p.unit) w.classes (in_use_with (beside_callers others s) s) k shared s false)) may_refuse fault)

-- ---- the step of the thread of a context

-- it can take one, in such a store
abbrev pub MayStep : StepContext → Store → Thread → Type 0
MayStep context store t = StandsReady context.program.now context.world.now context.thread store t

-- it took it
abbrev pub TakesStep : StepContext → (old store : Store) → (t after : Thread) → Advanced → Type 0
TakesStep context old store t after x = AdvancesAlways context.program.now context.world.now context.thread old store t after x

-- or this is why it didn't
abbrev pub IsHinderedStep : StepContext → Store → Thread → StepFault → Type 0
IsHinderedStep context store t fault =
    IsHinderedAlways context.program.now context.world.now context.thread store t context.may_refuse fault

-- ---- what is done at once

-- the call in progress, in a function of this code, is of a thread that stands for some thread of the source that no step breaks
abbrev pub StandsInCall : CodeContext → CallState → Type 0
StandsInCall context before =
    (others : Acquired) × (own : ThreadOwners) × (shared : Shared) × (s : source.Thread) × (t : Thread)
    × StandsWithin context.step.program.now context.step.world.now before.store others context.step.thread own shared s t context.code.now
    before.activation before.pending context.owner

-- of each thread that is, it took a step that is known not to wait, by what is seen of it
abbrev pub StepsInCall : CodeContext → (before after : CallState) → Event → Type 0
StepsInCall context before after event =
    (others : Acquired) (own : ThreadOwners) (shared : Shared) (s : source.Thread) (t : Thread)
    → StandsWithin context.step.program.now context.step.world.now before.store others context.step.thread own shared s t context.code.now
    before.activation before.pending context.owner
    → (waits context.step.world.now.classes context.step.thread shared s ≡ false)
    × Advances context.step.program.now context.step.world.now before.store after.store others context.step.thread own shared s
    (within after.activation after.pending t) false event

-- this holds of what is seen of a step that was taken
abbrev pub IfDid : AtOnce → (Event → Type 0) → Type 0
IfDid (at_once.Did event) Holds = Holds event
IfDid x Holds = Unit {0}

-- and this where none was taken
abbrev pub UnlessDid : AtOnce → Type 0 → Type 0
UnlessDid (at_once.Did event) holds = Unit {0}
UnlessDid x holds = holds

-- ---- returns

-- how a thread with these calls to come has ended after a call, with an exception of this class pending or none
abbrev pub ending_after : Option ℕ → List PendingCall → Ending → Ending
ending_after (Some class) calls ending = Uncaught (class_id class)
ending_after None [] ending = Ended
ending_after None (n ∷ rest) ending = ending

-- whether it has ended then
abbrev pub ends_with : Option ℕ → List PendingCall → Bool
ends_with (Some class) calls = true
ends_with None [] = true
ends_with None (n ∷ rest) = false

-- its calls that are left
abbrev pub calls_after : Option ℕ → List PendingCall → List PendingCall
calls_after (Some class) calls = []
calls_after None calls = calls

-- thread k has given up the monitors that it owned, and nothing else changed
pub record GivesUp (k : ℕ) (old store : Store) : Type 0 where
  pub is : store ≡ record old { monitors = without_owner old.monitors k }
  pub each : (n : ℕ) → monitor_of store.monitors n ≡ kept_from k (monitor_of old.monitors n)

-- so it has where it has ended
abbrev pub LeavesMonitors : (ended : Bool) → (k : ℕ) → (old store : Store) → Type 0
LeavesMonitors true k old store = GivesUp k old store
LeavesMonitors false k old store = store ≡ old
