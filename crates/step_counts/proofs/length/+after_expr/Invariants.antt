use Rattle.syntax.specs.Nodes.{size}
use Rattle.syntax.specs.Shapes.{ref_tree}
use Rattle.step_counts.proofs.length.+after_expr.Given as goal

abbrev pub decreases-after_expr : goal.decreases-after_expr
decreases-after_expr l = size (ref_tree l.e)
