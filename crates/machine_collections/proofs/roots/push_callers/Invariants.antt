use Rattle.std.proofs.Common.{◌≡◌, ℕ, ◌+◌, ◌<◌, ◌++◌, Some, drop, length}
use Rattle.std.specs.Prelude.{flat_map, slice_get, vec_capacity, vec_len}
use Rattle.tables.specs.Locals.{AreStacked}
use Rattle.machine_scenes.specs.declared.activation.Activation.{Activation}
use Rattle.machine_collections.specs.Roots.{call_places}
use Rattle.machine_collections.proofs.roots.push_callers.Given as goal

abbrev pub invariant-loop-caller : goal.invariant-loop-caller
invariant-loop-caller l = record {
  places : l.places.items ++ flat_map call_places (drop l.caller-index l.callers) ≡ l.fn.places.items ++ flat_map call_places l.callers;
  len : vec_len l.places + length (flat_map call_places (drop l.caller-index l.callers)) ≡ vec_len l.fn.places + length (flat_map call_places l.callers);
  capacity : vec_capacity l.places ≡ vec_capacity l.fn.places;
  stacked : (i : ℕ) (call : Activation) → i < l.caller-index → slice_get l.callers i ≡ Some call → AreStacked call.locals;
}
