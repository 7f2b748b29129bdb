use Rattle.semantics.proofs.WeakLaws.{clearings_stay}
use Rattle.semantics.proofs.clearings_stay.Goals as goal

pub returns : goal.returns
returns c = clearings_stay
