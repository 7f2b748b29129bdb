-- What is known where an instruction was fetched for a call in progress.
use Rattle.std.proofs.Common.{◌≡◌, ◌≢◌, ℕ, ◌+◌, ◌<◌, ◌≤◌, ◌^◌, ◌∷◌, List, Option, Some, length, ap, ◌∙◌, arith}
use Rattle.std.specs.Prelude.{slice_get}
use Rattle.code.specs.Call.{call_view}
use Rattle.code.specs.Depth.{LeadsInside, Listing}
use Rattle.code.specs.declared.instr.Call.{Call as CallInMemory}
use Rattle.code.specs.declared.instr.Instr.{Instr}
use Rattle.code.specs.declared.instr.Instr.TheVariants as instr
use Rattle.code.specs.declared.instr.Plain.{Plain}
use Rattle.code.specs.declared.instr.Plain.TheVariants as plain
use Rattle.semantics.specs.Effect.{NoEffect, effect_of}
use Rattle.semantics.specs.Task.{Task}
use Rattle.semantics.specs.Thread.{Shared, Thread, sight_of}
use Rattle.semantics.specs.ThreadStep.{next_effect}
use Rattle.semantics.specs.World.{World}
use Rattle.semantics_safety.specs.Owners.{Owners}
use Rattle.code_meaning.specs.Lowered.{Lowered, IsLowered}
use Rattle.code_meaning.specs.Slots.{SeesBuffers, visible_to}
use Rattle.code_meaning.proofs.BufferLaws.{sees_buffers}
use Rattle.machine_scenes.specs.declared.activation.Activation.{Activation}
use Rattle.machine_scenes.specs.declared.store.Store.{Store}
use Rattle.machine_scenes.specs.Buffers.{Acquired, acquired_by, beside}
use Rattle.machine_steps.specs.Executes.{IsExecuting}
use Rattle.machine_steps.specs.Invoked.{AtCall}
use Rattle.machine_steps.specs.Moved.{IsReachable}
use Rattle.machine_steps.proofs.Calls.{Ready, ready}
use Rattle.machine_steps.proofs.SlotBuffers.{elements_fit}

-- what was fetched at the place of a call
pub record Fetched (p : Lowered) (store : Store) (call : Activation) (i : Instr) : Type 0 where
  pub code : Listing
  pub lowered : IsLowered p
  pub of_function : slice_get p.codes call.function ≡ Some code
  pub at : slice_get code.instrs call.place ≡ Some i
  pub few : store.heap.cells ≤ 1048576

-- what is seen of buffers
pub seeing : (p : Lowered) (w : World) (store : Store) (call : Activation) (pending : Option ℕ) (others : Acquired) (k owner : ℕ) (own : Owners) (shared : Shared) (s : Thread) (task : Task) (rest : List Task) (e : IsExecuting p w store call pending others k owner own shared s task rest) → store.heap.cells ≤ 1048576 → SeesBuffers (visible_to own shared s) e.stands.meant.buffers
seeing p w store call pending others k owner own shared s task rest e few =
    sees_buffers own shared s e.stands.meant.buffers (elements_fit p w store shared (beside others (acquired_by s)) e.store_agrees owner call.slots.buffers.items e.stands.meant.buffers few e.stands.holds.buffers e.stands.holds.small)

pub ready_for : (p : Lowered) (w : World) (store : Store) (call : Activation) (i : Instr) (f : Fetched p store call i) (pending : Option ℕ) (others : Acquired) (k owner : ℕ) (own : Owners) (shared : Shared) (s : Thread) (task : Task) (rest : List Task) → IsExecuting p w store call pending others k owner own shared s task rest
    → Ready p w.classes store.heap store.elements owner call f.code (visible_to own shared s) s.frames task rest
ready_for p w store call i f pending others k owner own shared s task rest e = ready p w.classes store.heap store.elements owner call f.code (visible_to own shared s) s.frames task rest f.lowered f.of_function e.stands (seeing p w store call pending others k owner own shared s task rest e f.few)

-- the task has an effect
pub possible : (p : Lowered) (w : World) (store : Store) (call : Activation) (pending : Option ℕ) (others : Acquired) (k owner : ℕ) (own : Owners) (shared : Shared) (s : Thread) (task : Task) (rest : List Task) → IsExecuting p w store call pending others k owner own shared s task rest → effect_of (sight_of shared s) task ≢ NoEffect
possible p w store call pending others k owner own shared s task rest e none = e.steady.possible (task ∷ rest) e.tasks (ap (next_effect shared s) e.tasks ∙ none)

-- the machine is at the instruction of a call
pub at_call : (p : Lowered) (w : World) (store : Store) (pending : Option ℕ) (call : Activation) (i : Instr) (f : Fetched p store call i) (function : CallInMemory) → i ≡ instr.Call (call_view function) → (others : Acquired) (k owner : ℕ) (own : Owners) (shared : Shared) (s : Thread) (task : Task) (rest : List Task)
    → IsExecuting p w store call pending others k owner own shared s task rest → AtCall p w store pending call function others k owner own shared s task rest
at_call p w store pending call i f function is others k owner own shared s task rest e = record {
  lowered = f.lowered;
  depth = e.depth;
  tasks = e.tasks;
  shares = e.store_agrees;
  pending_agrees = e.pending_agrees;
  stands = e.stands;
  sees = seeing p w store call pending others k owner own shared s task rest e f.few;
  views = e.views;
  steady = e.steady;
  ready = e.ready;
  code = f.code;
  of_function = f.of_function;
  at = f.at ∙ ap (λ j. Some j) is;
}

-- a path that leads inside code can be gone
pub reachable : (instrs : List Instr) (place : ℕ) (path : Plain) (depth : ℕ) → length instrs < 2 ^ 64 → LeadsInside instrs place path depth → IsReachable place path
reachable instrs place plain.Next depth few h = let inside : place + 1 < length instrs = h.inside in omega (arith, inside)
reachable instrs place (plain.Skip n) depth few h = let inside : place + 1 + n < length instrs = h.inside in omega (arith, inside)
reachable instrs place (plain.Back n) depth few h = h.0
reachable instrs place (plain.Trap trap line) depth few h = tt
