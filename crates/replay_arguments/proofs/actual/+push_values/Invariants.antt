use Rattle.std.proofs.Common.{length}
use Rattle.replay_arguments.proofs.actual.+push_values.Given as goal

abbrev pub decreases-push_values : goal.decreases-push_values
decreases-push_values l = length l.actuals.now
