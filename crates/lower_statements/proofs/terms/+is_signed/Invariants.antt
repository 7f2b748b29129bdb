use Rattle.syntax.specs.Nodes.{size}
use Rattle.syntax.specs.Shapes.{ref_tree}
use Rattle.lower_statements.proofs.terms.+is_signed.Given as goal

abbrev pub decreases-is_signed : goal.decreases-is_signed
decreases-is_signed l = size (ref_tree l.operand)
