use Rattle.std.proofs.Common.{length}
use Rattle.machine_answers.proofs.check.+takes_all.Given as goal

abbrev pub decreases-takes_all : goal.decreases-takes_all
decreases-takes_all l = length l.parameters.now
