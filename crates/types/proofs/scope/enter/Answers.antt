use Rattle.types.proofs.BlockLemmas.{above-declared}
use Rattle.types.proofs.scope.enter.Goals as goal

pub returns-clause-above : goal.returns-clause-above
returns-clause-above c = above-declared c.declare.result _ _ _ _ c.declare.ensures c.in_ok-declare_parameters.ensures.above
