use Rattle.std.proofs.Common.{◌≡◌, map, take}
use Rattle.report.specs.ThreadStatus.{standing_view}
use Rattle.replay_threads.specs.States.{OfEach, standings_of}
use Rattle.replay_threads.proofs.state.add_standings.Given as goal

-- the statuses so far
abbrev pub invariant-loop-thread : goal.invariant-loop-thread
invariant-loop-thread l = record {
  counted : l.k ≡ l.thread-index;
  told : OfEach l.state (λ w s. map standing_view l.standings.items ≡ take l.thread-index (standings_of w.classes s));
}
