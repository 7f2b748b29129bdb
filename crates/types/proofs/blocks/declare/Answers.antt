use Rattle.types.proofs.BlockLemmas.{above-none, above-one}
use Rattle.types.proofs.blocks.declare.Goals as goal

pub returns-in_ok-add-in-Some-clause-above : goal.returns-in_ok-add-in-Some-clause-above
returns-in_ok-add-in-Some-clause-above c = above-one _ _ _ _ c.in_ok-declare-in-Some.ensures (above-none c.args.known.now)
