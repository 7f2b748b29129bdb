use Rattle.syntax.specs.Nodes.{size}
use Rattle.syntax.specs.Shapes.{ref_tree}
use Rattle.region_states.proofs.names_used.+expr_uses.Given as goal

abbrev pub decreases-expr_uses : goal.decreases-expr_uses
decreases-expr_uses l = size (ref_tree l.e)
