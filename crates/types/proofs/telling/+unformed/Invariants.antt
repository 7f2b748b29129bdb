use Rattle.syntax.specs.Nodes.{size}
use Rattle.syntax.specs.Shapes.{ref_tree}
use Rattle.types.proofs.telling.+unformed.Given as goal

abbrev pub decreases-unformed : goal.decreases-unformed
decreases-unformed l = size (ref_tree l.e)
