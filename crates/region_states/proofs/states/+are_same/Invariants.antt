use Rattle.std.proofs.Common.{length}
use Rattle.region_states.proofs.states.+are_same.Given as goal

abbrev pub decreases-are_same : goal.decreases-are_same
decreases-are_same l = length l.a.now
