use Rattle.std.proofs.Common.{◌-◌, ◌≤◌, IsSome, replicate}
use Rattle.semantics.specs.declared.schedule.ScheduleWord.TheVariants.{Slice}
use Rattle.machine.specs.Run.{RunsAlong, replay_of}
use Rattle.machine.proofs.machine.Machine.slice_for.Given as goal

abbrev pub invariant-loop-left : goal.invariant-loop-left
invariant-loop-left l = record {
  most : l.left ≤ l.fn.times;
  along : RunsAlong l.fn.self l.self (replicate (l.fn.times - l.left) Slice);
  runs : IsSome (replay_of l.self);
}

abbrev pub decreases-loop-left : goal.decreases-loop-left
decreases-loop-left l = l.left
