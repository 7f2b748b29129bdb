use Rattle.std.proofs.Common.{◌≡◌, ℕ, ◌+◌, length}
use Rattle.std.specs.Prelude.{flat_map}
use Rattle.compact.proofs.Fronts.{front}
use Rattle.machine_collections.specs.Moving.{AreMovedAt, moved_call}
use Rattle.machine_collections.specs.Roots.{call_places}
use Rattle.machine_collections.proofs.MovedRoots.{places_to}
use Rattle.machine_collections.proofs.roots.put_callers.Given as goal

abbrev pub invariant-loop-index : goal.invariant-loop-index
invariant-loop-index l = record {
  next : l.next ≡ l.from + length (places_to call_places l.fn.callers l.index);
  moved : (to : ℕ → ℕ) → AreMovedAt to (flat_map call_places l.fn.callers) l.roots.places.items l.from → l.callers ≡ front (moved_call to) l.index l.fn.callers;
}
