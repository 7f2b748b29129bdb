use Rattle.parse.proofs.Whole.{one_tree}
use Rattle.parse.proofs.functions.one_unit.Goals as goal

pub returns : goal.returns
returns c = λ text a b of_a of_b. one_tree text a b (λ tokens others s t. c.one_spelling.ensures text tokens others s t) of_a of_b
