use Rattle.std.proofs.Common.{◌≡◌, ℕ, ◌+◌, ◌<◌, ◌++◌, Some, drop, length}
use Rattle.std.specs.Prelude.{flat_map, slice_get, vec_capacity, vec_len}
use Rattle.machine_threads.specs.declared.thread.Thread.{Thread}
use Rattle.machine_collections.specs.Roots.{ThreadIsStacked, thread_places}
use Rattle.machine_collections.proofs.roots.push_threads.Given as goal

abbrev pub invariant-loop-thread : goal.invariant-loop-thread
invariant-loop-thread l = record {
  places : l.places.items ++ flat_map thread_places (drop l.thread-index l.threads) ≡ l.fn.places.items ++ flat_map thread_places l.threads;
  len : vec_len l.places + length (flat_map thread_places (drop l.thread-index l.threads)) ≡ vec_len l.fn.places + length (flat_map thread_places l.threads);
  capacity : vec_capacity l.places ≡ vec_capacity l.fn.places;
  stacked : (i : ℕ) (t : Thread) → i < l.thread-index → slice_get l.threads i ≡ Some t → ThreadIsStacked t;
}
