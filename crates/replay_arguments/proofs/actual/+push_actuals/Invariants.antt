use Rattle.std.proofs.Common.{length}
use Rattle.replay_arguments.proofs.actual.+push_actuals.Given as goal

abbrev pub decreases-push_actuals : goal.decreases-push_actuals
decreases-push_actuals l = length l.parameters.now
