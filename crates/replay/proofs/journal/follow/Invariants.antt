use Rattle.std.proofs.Common.{take}
use Rattle.syntax.specs.Views.{unit_tree}
use Rattle.replay.specs.Replays.{LeadsTo}
use Rattle.replay_threads.specs.States.{AreInRange}
use Rattle.replay.proofs.journal.follow.Given as goal

abbrev pub invariant-loop-done : goal.invariant-loop-done
invariant-loop-done l = record {
  replayed : LeadsTo (unit_tree l.functions) l.fn.state (take l.done l.journal) l.state;
  range : AreInRange l.state.threads.items;
}
