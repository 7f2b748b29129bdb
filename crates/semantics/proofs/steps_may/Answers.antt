use Rattle.semantics.proofs.AccountLaws.{may_step}
use Rattle.semantics.proofs.steps_may.Goals as goal

pub returns : goal.returns
returns c = may_step
