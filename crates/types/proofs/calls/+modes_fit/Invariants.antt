use Rattle.std.proofs.Common.{length}
use Rattle.types.proofs.calls.+modes_fit.Given as goal

abbrev pub decreases-modes_fit : goal.decreases-modes_fit
decreases-modes_fit l = length l.kinds.now
