use Rattle.std.proofs.Common.{◌≡◌, ◌+◌, drop, length}
use Rattle.std.specs.Prelude.{flat_map}
use Rattle.machine_collections.specs.Roots.{thread_places}
use Rattle.machine_collections.proofs.counting.count_threads.Given as goal

abbrev pub invariant-loop-thread : goal.invariant-loop-thread
invariant-loop-thread l = l.count + length (flat_map thread_places (drop l.thread-index l.threads)) ≡ length (flat_map thread_places l.threads)
