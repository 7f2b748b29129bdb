use Rattle.syntax.specs.Nodes.{size}
use Rattle.syntax.specs.Shapes.{ref_tree}
use Rattle.types.proofs.expressions.+value_type_of.Given as goal

abbrev pub decreases-value_type_of : goal.decreases-value_type_of
decreases-value_type_of l = size (ref_tree l.e)
