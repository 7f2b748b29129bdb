use Rattle.std.proofs.Common.{length}
use Rattle.machine_answers.proofs.at_once.+takes_at_once.Given as goal

abbrev pub decreases-takes_at_once : goal.decreases-takes_at_once
decreases-takes_at_once l = length l.parameters.now
