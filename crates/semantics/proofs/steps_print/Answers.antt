use Rattle.semantics.proofs.AccountLaws.{steps_print}
use Rattle.semantics.proofs.steps_print.Goals as goal

pub returns : goal.returns
returns c = steps_print
