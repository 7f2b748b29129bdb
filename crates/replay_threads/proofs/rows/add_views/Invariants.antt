use Rattle.std.proofs.Common.{◌≡◌, ◌++◌, drop}
use Rattle.std.specs.Prelude.{flat_map}
use Rattle.semantics.specs.Views.{names_of}
use Rattle.replay_threads.specs.States.{viewed_in}
use Rattle.replay_threads.proofs.rows.add_views.Given as goal

abbrev pub invariant-loop-thread : goal.invariant-loop-thread
invariant-loop-thread l = names_of l.names.items ++ flat_map viewed_in (drop l.thread-index l.threads) ≡ names_of l.fn.names.items ++ flat_map viewed_in l.threads
