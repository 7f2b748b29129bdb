use Rattle.semantics.proofs.WeakLaws.{lost_are_cleared}
use Rattle.semantics.proofs.lost_are_cleared.Goals as goal

pub returns : goal.returns
returns c = lost_are_cleared
