use Rattle.class_rules.proofs.Assignable.{assignable_meets}
use Rattle.class_rules.proofs.assignable_is_the_relation.Goals as goal

pub returns : goal.returns
returns c = assignable_meets
