use Rattle.types.proofs.BlockLemmas.{above-declared}
use Rattle.types.proofs.scope.+declare_parameters.Goals as goal

pub returns-in_ok-declare_parameters-in-len1-up-clause-above : goal.returns-in_ok-declare_parameters-in-len1-up-clause-above
returns-in_ok-declare_parameters-in-len1-up-clause-above t c = above-declared c.declare.result _ _ _ _ c.declare.ensures c.in_ok-declare_parameters-in-len1-up.ensures.above
