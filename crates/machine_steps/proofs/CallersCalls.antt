-- Where a call is yet from which another was made.
use Rattle.std.proofs.Common.{◌≡◌, ℕ, Bool, List, Option, Some, ap, subst}
use Rattle.std.specs.Prelude.{slice_get, if◌then◌else◌}
use Rattle.class_rules.specs.Class.{Classes}
use Rattle.code.specs.Depth.{Listing}
use Rattle.code_meaning.specs.Does.{CallsFunction, DoesEffect}
use Rattle.code_meaning.specs.Lowered.{Lowered, IsLowered}
use Rattle.code_meaning.specs.Slots.{SeesBuffers, Visible}
use Rattle.heap.specs.Heap.{Space}
use Rattle.machine_scenes.specs.declared.activation.Activation.{Activation}
use Rattle.machine_steps.proofs.Calls.{Ready, ready}
use Rattle.machine_threads.specs.Callers.{CallerAgrees, seen_by}
use Rattle.machine_threads.specs.SlotsHold.{slots_of}
use Rattle.semantics.specs.Arguments.{Actual, actuals}
use Rattle.semantics.specs.Effect.{Calls, goes_on, reduce_first}
use Rattle.semantics.specs.Task.{Invoke}
use Rattle.semantics.specs.Thread.{Caller, Shared}
use Rattle.semantics_safety.specs.Owners.{Owners}
use Rattle.tables.specs.Elements.{OwnedNumbers}

-- the instruction at its place calls a function yet, and puts the result where the caller wants it
module _ (p : Lowered) (classes : Classes) (space : Space) (copies : List (Option OwnedNumbers)) (owner : ℕ) (call : Activation) (code : Listing) (own : Owners) (shared : Shared) (c : Caller) (lowered : IsLowered p) (at : slice_get p.codes call.function ≡ Some code) (h : CallerAgrees p classes space copies owner call own shared c) (sees : SeesBuffers (seen_by own shared c) h.stands.meant.buffers) where
  abbrev visible : Visible
  visible = seen_by own shared c

  pub caller_ready : Ready p classes space copies owner call code visible c.frames (Invoke h.line c.target h.function h.operands) c.tasks
  caller_ready = ready p classes space copies owner call code visible c.frames (Invoke h.line c.target h.function h.operands) c.tasks lowered at h.stands sees

  abbrev args : List Actual
  args = actuals visible.sight h.function h.operands

  pub caller_calls : CallsFunction code caller_ready.known call.place call.stack (slots_of call caller_ready.meant) visible h.line c.target h.function args c.tasks
  caller_calls =
      subst (DoesEffect code caller_ready.known call.place call.stack (slots_of call caller_ready.meant) visible c.tasks)
      (ap (λ (b : Bool). if b then Calls h.line c.target h.function args else goes_on h.line (Invoke h.line c.target h.function) (reduce_first visible.sight h.operands)) h.ready)
      caller_ready.does
