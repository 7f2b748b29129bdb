use Rattle.std.proofs.Common.{IsSome}
use Rattle.machine.specs.Run.{RunsAlong, replay_of}
use Rattle.machine.proofs.Runs.{words_to}
use Rattle.machine.proofs.machine.Machine.run.Given as goal

abbrev pub invariant-loop-repetition : goal.invariant-loop-repetition
invariant-loop-repetition l = record {
  along : RunsAlong l.fn.self l.self (words_to l.repetition-items l.repetition-index);
  runs : IsSome (replay_of l.self);
}
