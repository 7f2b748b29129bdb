use Rattle.std.proofs.Common.{length}
use Rattle.step_counts.proofs.length.+after_arguments.Given as goal

abbrev pub decreases-after_arguments : goal.decreases-after_arguments
decreases-after_arguments l = length l.arguments.now
