use Rattle.std.proofs.Common.{◌≡◌, ◌∷◌, ◌+◌, ◌-◌, ◌*◌}
use Rattle.parse_lexemes.specs.Lexemes.{views}
use Rattle.syntax.specs.Nodes.{top}
use Rattle.syntax.specs.Stacks.{stacked}
use Rattle.parse_expressions.specs.Reading.{expr_at}
use Rattle.parse_expressions.proofs.Climbing.{Climbs}
use Rattle.parse_expressions.proofs.expressions.+expressions.Given as goal

abbrev pub decreases-push_expression : goal.decreases-push_expression
decreases-push_expression l = 3 * l.room + 2

abbrev pub decreases-right_operand : goal.decreases-right_operand
decreases-right_operand l = 3 * l.room

abbrev pub decreases-operand : goal.decreases-operand
decreases-operand l = 3 * l.room + 1

abbrev pub decreases-other_operand : goal.decreases-other_operand
decreases-other_operand l = 3 * l.room

abbrev pub invariant-push_expression-loop-op : goal.invariant-push_expression-loop-op
invariant-push_expression-loop-op l =
    Climbs l.room l.least (top (stacked l.stack)) l.height (views l.rest) (expr_at l.room l.least (views l.lexemes)) × (stacked l.stack ≡ top (stacked l.stack) ∷ stacked l.fn.stack)

abbrev pub decreases-push_expression-loop-op : goal.decreases-push_expression-loop-op
decreases-push_expression-loop-op l = l.room - l.height
