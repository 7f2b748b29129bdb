-- What a call of a method leaves to be entered.
use Rattle.std.specs.Prelude.{◌≡◌, ℕ, List, [], ◌∷◌, ◌++◌, drop, length, map, reverse, Option, Some, None}
use Rattle.std.specs.Global.{Vec}
use Rattle.code.specs.declared.instr.Call.{Call}
use Rattle.code_meaning.specs.Lowered.{Lowered}
use Rattle.heap.specs.declared.value.Value.{Value}
use Rattle.machine_answers.specs.Asked.{references_of}
use Rattle.machine_answers.specs.Passed.{passed_in}
use Rattle.machine_scenes.specs.Buffers.{Acquired}
use Rattle.machine_scenes.specs.declared.activation.Activation.{Activation}
use Rattle.machine_scenes.specs.declared.handle.MethodHandle.{MethodHandle}
use Rattle.machine_scenes.specs.declared.store.Store.{Store}
use Rattle.machine_steps.specs.Executes.{IsCalling, IsExecuting}
use Rattle.machine_threads.specs.Entry.{Begins, IsEnteringOf}
use Rattle.machine_threads.specs.ThreadAgrees.{EnteringAgrees}
use Rattle.machine_threads.specs.declared.thread.Entering.{Entering}
use Rattle.machine_threads.specs.declared.thread.PendingCall.{PendingCall}
use Rattle.machine_threads.specs.declared.thread.Thread.{Thread}
use Rattle.semantics.specs.Arguments.{method_given, passed_value}
use Rattle.semantics.specs.Effect.{effect_of}
use Rattle.semantics.specs.Method.{MethodId}
use Rattle.semantics.specs.Task.{Task}
use Rattle.semantics.specs.Thread as source
use Rattle.semantics.specs.Thread.{Shared, sight_of}
use Rattle.semantics.specs.World.{World, loaded_objects}
use Rattle.semantics_safety.specs.Owners.{Owners}

-- ---- the next call

-- This is the call that a thread enters next, where these calls of the world are left then: the one that the last caller has made, if
-- there is one, or else the first of the world's.
abbrev pub IsNext : (loaded : List ℕ) → Option Entering → (calls rest : List PendingCall) → Entering → Type 0
IsNext loaded (Some e) calls rest entering = (entering ≡ e) × (rest ≡ calls)
IsNext loaded None calls rest entering = (next : PendingCall) × (calls ≡ next ∷ rest) × IsEnteringOf loaded next entering

-- it enters it
pub record Enters (p : Lowered) (loaded : List ℕ) (t after : Thread) : Type 0 where
  pub entering : Entering
  pub next : IsNext loaded t.entering t.calls.items after.calls.items entering
  pub activation : Activation
  pub active : after.call ≡ Some activation
  pub begins : Begins p loaded entering activation

-- ---- a call of a method

-- a call in progress stands for one of the source that calls a method, which no check stops
pub record MakesCall (p : Lowered) (w : World) (store : Store) (activation : Activation) : Type 0 where
  pub pending : Option ℕ
  pub others : Acquired
  pub k : ℕ
  pub owner : ℕ
  pub own : Owners
  pub shared : Shared
  pub thread : source.Thread
  pub task : Task
  pub rest : List Task
  pub executing : IsExecuting p w store activation pending others k owner own shared thread task rest
  pub calling : IsCalling w.classes shared thread (effect_of (sight_of shared thread) task)

-- what is to be entered stands for what any such call of the source calls, with what that is given
abbrev pub IsCalled : Lowered → World → Store → Activation → Entering → Type 0
IsCalled p w store activation e =
    (pending : Option ℕ) (others : Acquired) (k owner : ℕ) (own : Owners) (shared : Shared) (s : source.Thread) (task : Task)
    (rest : List Task) → IsExecuting p w store activation pending others k owner own shared s task rest
    → (c : IsCalling w.classes shared s (effect_of (sight_of shared s) task)) (m : MethodId) → method_given c.args 1 ≡ Some m
    → EnteringAgrees p w.classes store.heap (length (loaded_objects w)) e
    (record { line = c.line; function = m.function.name; arguments = map passed_value (drop 2 c.args) })

-- the call in progress is the last of the callers, and what it calls is to be entered; what memory is kept doesn't matter
pub record Pushes (p : Lowered) (w : World) (store : Store) (activation : Activation) (t after : Thread) : Type 0 where
  pub entering : Entering
  pub callers : Vec Activation
  pub spare : Vec Value
  pub last : callers.items ≡ t.callers.items ++ activation ∷ []
  pub pushed : after ≡ record t { entering = Some entering; call = None; callers = callers; spare_arguments = spare }
  pub called : IsCalled p w store activation entering

-- the same of this method, which gets what the operands of this call give
pub record PushesMethod (store : Store) (activation : Activation) (call : Call) (method : MethodHandle) (t after : Thread) : Type 0 where
  pub entering : Entering
  pub callers : Vec Activation
  pub spare : Vec Value
  pub last : callers.items ≡ t.callers.items ++ activation ∷ []
  pub pushed : after ≡ record t { entering = Some entering; call = None; callers = callers; spare_arguments = spare }
  pub function : entering.function ≡ method.function
  pub class : entering.class ≡ method.declarer
  pub arguments : entering.arguments.items
      ≡ passed_in (references_of store activation) (drop 2 call.operands.items) (reverse activation.stack)
