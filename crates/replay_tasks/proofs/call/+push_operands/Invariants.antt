use Rattle.std.proofs.Common.{length}
use Rattle.replay_tasks.proofs.call.+push_operands.Given as goal

abbrev pub decreases-push_operands : goal.decreases-push_operands
decreases-push_operands l = length l.parameters.now
