use Rattle.syntax.specs.Nodes.{size}
use Rattle.syntax.specs.Shapes.{ref_tree}
use Rattle.type_rules.proofs.names.+first_in_expr.Given as goal

abbrev pub decreases-first_in_expr : goal.decreases-first_in_expr
decreases-first_in_expr g l = size (ref_tree l.e)
