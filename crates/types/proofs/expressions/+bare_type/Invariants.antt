use Rattle.syntax.specs.Nodes.{size}
use Rattle.syntax.specs.Shapes.{ref_tree}
use Rattle.types.proofs.expressions.+bare_type.Given as goal

abbrev pub decreases-bare_type : goal.decreases-bare_type
decreases-bare_type l = size (ref_tree l.e)
