use Rattle.semantics.proofs.ReachableLemmas.{reached_lists}
use Rattle.semantics.proofs.reachable_is_computed.Goals as goal

pub returns : goal.returns
returns c = λ heap from. reached_lists heap from
