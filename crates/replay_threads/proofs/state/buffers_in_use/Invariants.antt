use Rattle.std.proofs.Common.{◌≡◌, ◌≤◌, ◌+◌, ◌*◌}
use Rattle.replay_threads.specs.States.{copied_in, viewed_in}
use Rattle.replay_threads.proofs.BufferLemmas.{copied_from, viewed_from}
use Rattle.replay_threads.proofs.state.buffers_in_use.Given as goal

abbrev pub invariant-loop-thread : goal.invariant-loop-thread
invariant-loop-thread l =
    (l.copied + copied_from copied_in viewed_in l.threads l.thread-index ≡ copied_from copied_in viewed_in l.threads 0)
    × (l.views + viewed_from copied_in viewed_in l.threads l.thread-index ≡ viewed_from copied_in viewed_in l.threads 0)
    × (l.copied ≤ 4194304 * l.thread-index)
    × (l.views ≤ 4096 * l.thread-index)
