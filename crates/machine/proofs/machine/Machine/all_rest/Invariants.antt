use Rattle.std.proofs.Common.{◌≡◌, take, true}
use Rattle.std.specs.List.{list_all, enumerate_from}
use Rattle.machine.specs.Run.{InState, is_resting}
use Rattle.machine.proofs.machine.Machine.all_rest.Given as goal

-- the threads so far rest
abbrev pub invariant-loop-thread : goal.invariant-loop-thread
invariant-loop-thread l = record {
  counted : l.k ≡ l.thread-index;
  rest : InState l.self (λ s. list_all (is_resting l.self.world.classes s) (take l.thread-index (enumerate_from 1 s.threads)) ≡ true);
}
