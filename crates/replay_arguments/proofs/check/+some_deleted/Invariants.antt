use Rattle.std.proofs.Common.{length}
use Rattle.replay_arguments.proofs.check.+some_deleted.Given as goal

abbrev pub decreases-some_deleted : goal.decreases-some_deleted
decreases-some_deleted l = length l.actuals.now
