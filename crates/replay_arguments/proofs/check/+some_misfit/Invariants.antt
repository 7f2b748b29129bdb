use Rattle.std.proofs.Common.{length}
use Rattle.replay_arguments.proofs.check.+some_misfit.Given as goal

abbrev pub decreases-some_misfit : goal.decreases-some_misfit
decreases-some_misfit l = length l.parameters.now
