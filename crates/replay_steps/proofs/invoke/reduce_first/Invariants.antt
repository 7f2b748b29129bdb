use Rattle.std.proofs.Common.{◌≡◌}
use Rattle.replay_arguments.specs.Shares.{shared_view, sight_in}
use Rattle.replay_tasks.specs.Tasks.{ListedInRange}
use Rattle.replay_steps.proofs.Invocations.{AreGiven}
use Rattle.replay_steps.proofs.invoke.reduce_first.Given as goal

abbrev pub invariant-loop-place : goal.invariant-loop-place
invariant-loop-place l = (l.operands ≡ l.initial.operands) × AreGiven (sight_in (shared_view l.shared) l.variables) l.operands l.place × ListedInRange l.operands
