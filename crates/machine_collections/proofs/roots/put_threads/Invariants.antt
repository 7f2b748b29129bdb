use Rattle.std.proofs.Common.{◌≡◌, ℕ, ◌+◌, length}
use Rattle.std.specs.Prelude.{flat_map}
use Rattle.compact.proofs.Fronts.{front}
use Rattle.machine_collections.specs.Moving.{AreMovedAt, moved_thread}
use Rattle.machine_collections.specs.Roots.{thread_places}
use Rattle.machine_collections.proofs.MovedRoots.{places_to}
use Rattle.machine_collections.proofs.roots.put_threads.Given as goal

abbrev pub invariant-loop-index : goal.invariant-loop-index
invariant-loop-index l = record {
  next : l.next ≡ l.from + length (places_to thread_places l.fn.threads l.index);
  moved : (to : ℕ → ℕ) → AreMovedAt to (flat_map thread_places l.fn.threads) l.roots.places.items l.from → l.threads ≡ front (moved_thread to) l.index l.fn.threads;
}
