use Rattle.std.proofs.Common.{length}
use Rattle.class_queries.proofs.arguments.+arguments_fit.Given as goal

abbrev pub decreases-arguments_fit : goal.decreases-arguments_fit
decreases-arguments_fit l = length l.parameters.now
