use Rattle.syntax.specs.Nodes.{size}
use Rattle.syntax.specs.Shapes.{ref_tree}
use Rattle.lower_statements.proofs.statements.+emit_return.Given as goal

abbrev pub decreases-emit_return : goal.decreases-emit_return
decreases-emit_return l = size (ref_tree l.value)
