use Rattle.std.proofs.Common.{◌≡◌, ◌++◌, drop}
use Rattle.std.specs.Prelude.{flat_map}
use Rattle.semantics.specs.Views.{names_of}
use Rattle.replay_threads.specs.Rows.{thread_names}
use Rattle.replay_threads.proofs.rows.add_threads.Given as goal

abbrev pub invariant-loop-thread : goal.invariant-loop-thread
invariant-loop-thread l = names_of l.names.items ++ flat_map thread_names (drop l.thread-index l.threads) ≡ names_of l.fn.names.items ++ flat_map thread_names l.threads
