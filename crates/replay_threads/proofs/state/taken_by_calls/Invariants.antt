use Rattle.std.proofs.Common.{◌≡◌, ◌≤◌, ◌+◌, ◌*◌}
use Rattle.replay_threads.specs.States.{call_copies, call_views}
use Rattle.replay_threads.specs.Threads.{last_first}
use Rattle.replay_threads.proofs.BufferLemmas.{copied_from, viewed_from}
use Rattle.replay_threads.proofs.state.taken_by_calls.Given as goal

abbrev pub invariant-loop-done : goal.invariant-loop-done
invariant-loop-done l =
    (l.copied + copied_from call_copies call_views (last_first l.callers) l.done ≡ copied_from call_copies call_views (last_first l.callers) 0)
    × (l.views + viewed_from call_copies call_views (last_first l.callers) l.done ≡ viewed_from call_copies call_views (last_first l.callers) 0)
    × (l.copied ≤ 65536 * l.done)
    × (l.views ≤ 64 * l.done)
