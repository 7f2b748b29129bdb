use Rattle.std.proofs.Common.{length}
use Rattle.replay_tasks.proofs.call.+push_passed.Given as goal

abbrev pub decreases-push_passed : goal.decreases-push_passed
decreases-push_passed l = length l.arguments.now
