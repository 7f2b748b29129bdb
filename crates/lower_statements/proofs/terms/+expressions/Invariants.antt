use Rattle.std.proofs.Common.{◌+◌, ◌*◌, max}
use Rattle.syntax.specs.Nodes.{size}
use Rattle.syntax.specs.Shapes.{ref_tree}
use Rattle.lower_statements.proofs.terms.+expressions.Given as goal

abbrev pub decreases-emit_expr : goal.decreases-emit_expr
decreases-emit_expr l = 3 * size (ref_tree l.expr)

abbrev pub decreases-emit_binary : goal.decreases-emit_binary
decreases-emit_binary l = 3 * max (size (ref_tree l.operation.now.left)) (size (ref_tree l.operation.now.right)) + 2

abbrev pub decreases-emit_operator : goal.decreases-emit_operator
decreases-emit_operator l = 3 * max (size (ref_tree l.operation.now.left)) (size (ref_tree l.operation.now.right)) + 1

abbrev pub decreases-emit_logical : goal.decreases-emit_logical
decreases-emit_logical l = 3 * max (size (ref_tree l.operation.now.left)) (size (ref_tree l.operation.now.right)) + 1
