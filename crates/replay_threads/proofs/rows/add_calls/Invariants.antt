use Rattle.std.proofs.Common.{◌≡◌, ◌++◌, drop}
use Rattle.std.specs.Prelude.{flat_map}
use Rattle.semantics.specs.Views.{names_of}
use Rattle.replay_threads.specs.Rows.{call_names}
use Rattle.replay_threads.specs.Threads.{last_first}
use Rattle.replay_threads.proofs.rows.add_calls.Given as goal

abbrev pub invariant-loop-done : goal.invariant-loop-done
invariant-loop-done l =
    names_of l.names.items ++ flat_map call_names (drop l.done (last_first l.callers))
    ≡ names_of l.fn.names.items ++ flat_map call_names (last_first l.callers)
