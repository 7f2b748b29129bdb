use Rattle.std.proofs.Common.{length}
use Rattle.replay_steps.proofs.wait.+are_given.Given as goal

abbrev pub decreases-are_given : goal.decreases-are_given
decreases-are_given l = length l.operands.now
