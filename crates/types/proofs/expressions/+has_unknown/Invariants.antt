use Rattle.syntax.specs.Nodes.{size}
use Rattle.syntax.specs.Shapes.{ref_tree}
use Rattle.types.proofs.expressions.+has_unknown.Given as goal

abbrev pub decreases-has_unknown : goal.decreases-has_unknown
decreases-has_unknown l = size (ref_tree l.e)
