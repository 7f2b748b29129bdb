use Rattle.semantics.proofs.WeakLaws.{clearings_are_few}
use Rattle.semantics.proofs.clearings_are_few.Goals as goal

pub returns : goal.returns
returns c = clearings_are_few
