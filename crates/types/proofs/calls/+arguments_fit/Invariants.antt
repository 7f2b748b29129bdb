use Rattle.std.proofs.Common.{length}
use Rattle.types.proofs.calls.+arguments_fit.Given as goal

abbrev pub decreases-arguments_fit : goal.decreases-arguments_fit
decreases-arguments_fit l = length l.kinds.now
