use Rattle.semantics.proofs.AccountLaws.{others_stay}
use Rattle.semantics.proofs.others_stay.Goals as goal

pub returns : goal.returns
returns c = others_stay
