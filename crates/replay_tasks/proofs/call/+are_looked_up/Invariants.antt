use Rattle.std.proofs.Common.{length}
use Rattle.replay_tasks.proofs.call.+are_looked_up.Given as goal

abbrev pub decreases-are_looked_up : goal.decreases-are_looked_up
decreases-are_looked_up l = length l.parameters.now
