-- How a call from which another was made stands for the source's caller.
use Rattle.std.specs.Prelude.{◌≡◌, ℕ, ◌+◌, ◌*◌, true, List, [], ◌∷◌, length, flat_map, sum_by, Option, Some, None}
use Rattle.class_rules.specs.Class.{Classes}
use Rattle.heap.specs.Heap.{Space}
use Rattle.jni.specs.declared.function.JniFunction.{JniFunction}
use Rattle.jni.specs.JniFunction.{prototype}
use Rattle.base.specs.Bytes.{lookup}
use Rattle.semantics.specs.Effect.{is_ready}
use Rattle.semantics.specs.Sight.{scalar}
use Rattle.semantics.specs.Task.{Invoke, Operand}
use Rattle.semantics.specs.Thread as source
use Rattle.semantics.specs.declared.event.Ending.TheVariants.{Unfinished}
use Rattle.semantics.specs.Thread.{Caller, Shared, lengths_copied, objects_viewed}
use Rattle.semantics_safety.specs.Owners.{Owners}
use Rattle.code_meaning.specs.Lowered.{Lowered}
use Rattle.code_meaning.specs.Slots.{Visible, visible_to}
use Rattle.machine_scenes.specs.Buffers.{Acquired, AreViewed, beside}
use Rattle.machine_scenes.specs.declared.activation.Activation.{Activation}
use Rattle.machine_threads.specs.InProgress.{CallStands}
use Rattle.tables.specs.Elements.{OwnedNumbers}

-- a thread that has nothing but this caller's call
abbrev pub thread_of : Caller → source.Thread
thread_of caller = record {
  calls = [];
  callers = [];
  tasks = Some caller.tasks;
  variables = caller.variables;
  frames = caller.frames;
  pending = None;
  ending = Unfinished;
}

-- what a caller can see, whose variables have these references of their own
abbrev pub seen_by : Owners → Shared → Caller → Visible
seen_by own shared caller = visible_to own shared (thread_of caller)

-- A call, whose copied lists have this owner, is yet where it made another: it stands for the call of a function, with all numbers worked
-- out, and for what the source's caller has to do then. What the function gives is what the caller wants. Each view in a slot is one that
-- a variable of the caller holds, so it is pinned.
pub record CallerAgrees (p : Lowered) (classes : Classes) (space : Space) (copies : List (Option OwnedNumbers)) (owner : ℕ)
    (activation : Activation) (own : Owners) (shared : Shared) (caller : Caller) : Type 0 where
  pub line : ℕ
  pub function : JniFunction
  pub operands : List Operand
  pub ready : is_ready (λ x. scalar (lookup x caller.variables)) operands ≡ true
  pub result : (prototype function).result ≡ caller.result
  pub stands : CallStands p classes space copies owner activation (seen_by own shared caller) caller.frames
      (Invoke line caller.target function operands ∷ caller.tasks)
  pub views : AreViewed space activation.slots.buffers.items (thread_of caller)

-- ---- the callers of a thread

-- what their buffers take
abbrev pub acquired_by_callers : source.Thread → Acquired
acquired_by_callers s = record {
  copied = sum_by (λ (c : Caller). lengths_copied c.variables) s.callers;
  viewed = flat_map (λ (c : Caller). objects_viewed c.variables) s.callers;
}

-- what the buffers of all calls take but a thread's call in progress, where those of the other threads take this
abbrev pub beside_callers : (others : Acquired) → source.Thread → Acquired
beside_callers others s = beside others (acquired_by_callers s)

-- The owner of the copied lists of a call of thread k, where this number of calls are below it: its number for the first, and 8 more for each
-- call that was made from one. As there are 8 threads at most, the calls of two threads never have the same.
abbrev pub owner_at : (k below : ℕ) → ℕ
owner_at k below = k + 8 * below

-- calls of thread k stand for the source's callers, the last one first
abbrev pub CallersAgree : Lowered → Classes → Space → List (Option OwnedNumbers) → (k : ℕ) → Shared → List Activation → List Owners
    → List Caller → Type 0
CallersAgree p classes space copies k shared [] [] [] = Unit {0}
CallersAgree p classes space copies k shared (call ∷ calls) (own ∷ owners) (c ∷ callers) =
    CallerAgrees p classes space copies (owner_at k (length callers)) call own shared c
    × CallersAgree p classes space copies k shared calls owners callers
CallersAgree p classes space copies k shared calls owners callers = ⊥
