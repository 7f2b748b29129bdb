use Rattle.std.proofs.Common.{length}
use Rattle.replay_arguments.proofs.check.+all_fit.Given as goal

abbrev pub decreases-all_fit : goal.decreases-all_fit
decreases-all_fit l = length l.parameters.now
