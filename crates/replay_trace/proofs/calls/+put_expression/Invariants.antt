use Rattle.syntax.specs.Nodes.{size}
use Rattle.syntax.specs.Shapes.{ref_tree}
use Rattle.replay_trace.proofs.calls.+put_expression.Given as goal

abbrev pub decreases-put_expression : goal.decreases-put_expression
decreases-put_expression l = size (ref_tree l.e)
