use Rattle.std.proofs.Common.{◌≡◌, length, map, take}
use Rattle.report.specs.ThreadStatus.{standing_view}
use Rattle.machine.specs.Run.{InState, standings_in}
use Rattle.machine.proofs.machine.Machine.standings.Given as goal

-- the statuses so far
abbrev pub invariant-loop-thread : goal.invariant-loop-thread
invariant-loop-thread l = record {
  counted : l.k ≡ l.thread-index;
  few : length l.standings.items ≡ l.thread-index;
  told : InState l.fn.self (λ s. map standing_view l.standings.items ≡ take l.thread-index (standings_in l.fn.self.world.classes s));
}
