use Rattle.std.proofs.Common.{◌-◌, ◌∙◌, ap, sym, refl}
use Rattle.std.proofs.lemmas.Result.{err_from_is_err_and}
use Rattle.parse_lexemes.specs.Lexemes.{views}
use Rattle.std.specs.Option.{option_map}
use Rattle.syntax.specs.Nodes.{top}
use Rattle.syntax.specs.Stacks.{stacked}
use Rattle.syntax.specs.Tree.{Number, Binary}
use Rattle.parse_expressions.specs.Steps.{opening_view}
use Rattle.parse_expressions.specs.Reading.{operator_at, expr_at}
use Rattle.parse_expressions.proofs.Climbing.{climbs_start, start_fails, climb_done, within_some, within_tight, climb_fails, climb_on, none_since, right_is}
use Rattle.parse_expressions.proofs.Openings.{operand_fails, operand_plain, operand_opens, inside_fails}
use Rattle.parse_expressions.proofs.Numbers.{operand_number}
use Rattle.parse_expressions.proofs.Pushes.{pushed_one, pushed_top, made_two}
use Rattle.parse_expressions.proofs.expressions.+expressions.Goals as goal

pub push_expression-returns-in_err-height-clause-gives : goal.push_expression-returns-in_err-height-clause-gives
push_expression-returns-in_err-height-clause-gives t c =
    let p = err_from_is_err_and c.from_residual.result c.from_residual.ensures.1 in
    rw (p.1, p.2) (start_fails c.args.room c.args.least (views c.args.lexemes) c.in_err-height.field-0.0 c.in_err-height.ensures.gives)

pub push_expression-loop-op-init : goal.push_expression-loop-op-init
push_expression-loop-op-init t c =
    let read = c.in_ok-height in (
      climbs_start c.args.room c.args.least (views c.args.lexemes) (top (stacked c.operand.new.stack)) read.height (views read.rest) read.ensures.low read.ensures.gives,
      read.ensures.pushed,
    )

pub push_expression-returns-in_err-right_height-clause-gives : goal.push_expression-returns-in_err-right_height-clause-gives
push_expression-returns-in_err-right_height-clause-gives t c =
    let p = err_from_is_err_and c.from_residual-in_err-right_height.result c.from_residual-in_err-right_height.ensures.1 in
    let next = operator_at (views c.loop-op.rest) in
    let op = c.in-Some.op in
    rw (p.1, p.2) (climb_fails c.args.room c.args.least (top (stacked c.loop-op.stack)) c.loop-op.height (views c.loop-op.rest) (expr_at c.args.room c.args.least (views c.args.lexemes)) c.loop-op.invariant.0 op c.in_err-right_height.field-0.0
    (within_some c.args.least next op c.in-Some.ensures) (within_tight c.args.least next op c.in-Some.ensures) c.in_err-right_height.ensures.gives)

pub push_expression-loop-op-preserved : goal.push_expression-loop-op-preserved
push_expression-loop-op-preserved t c =
    let next = operator_at (views c.loop-op.rest) in
    let op = c.in-Some.op in
    let left = stacked c.loop-op.stack in
    let right = stacked c.right_operand.new.stack in
    let both = stacked c.binary.new.self in
    let read = c.in_ok-right_height in
    let made = made_two (Binary op) both right left (stacked c.args.stack.now) c.in_ok-binary.ensures read.ensures.pushed c.loop-op.invariant.1 in
    let on = climb_on c.args.room c.args.least (top left) c.loop-op.height (views c.loop-op.rest) (expr_at c.args.room c.args.least (views c.args.lexemes)) c.loop-op.invariant.0 op
    (top right) read.right_height (views read.after) (within_some c.args.least next op c.in-Some.ensures) (within_tight c.args.least next op c.in-Some.ensures) read.ensures.low.1 read.ensures.low.0 read.ensures.gives in
    (rw (pushed_top (Binary op (top left) (top right)) both (stacked c.args.stack.now) made, c.max-height.ensures) on, pushed_one (Binary op (top left) (top right)) both (stacked c.args.stack.now) made)

pub push_expression-returns-clause-gives : goal.push_expression-returns-clause-gives
push_expression-returns-clause-gives t c =
    climb_done c.args.room c.args.least (top (stacked c.loop-op.stack)) c.loop-op.height (views c.loop-op.rest) (expr_at c.args.room c.args.least (views c.args.lexemes)) c.loop-op.invariant.0
    ((none_since c.operator_within.result c.in_default.not-Some) ∙ c.operator_within.ensures)

pub other_operand-returns-in_err-opening-clause-gives : goal.other_operand-returns-in_err-opening-clause-gives
other_operand-returns-in_err-opening-clause-gives t c =
    let p = err_from_is_err_and c.from_residual.result c.from_residual.ensures.1 in
    rw (p.1, p.2) (operand_fails c.args.room (views c.args.lexemes) c.in_err-opening.field-0.0 c.in_err-opening.ensures.gives)

pub other_operand-returns-in_default-clause-gives : goal.other_operand-returns-in_default-clause-gives
other_operand-returns-in_default-clause-gives t c =
    rw (operand_plain c.args.room (views c.args.lexemes) (rw c.in_default.is at c.in_ok-opening.ensures.gives)) c.primary.ensures.gives

pub other_operand-returns-in_err-inside-clause-gives : goal.other_operand-returns-in_err-inside-clause-gives
other_operand-returns-in_err-inside-clause-gives t c =
    let p = err_from_is_err_and c.from_residual-in_err-inside.result c.from_residual-in_err-inside.ensures.1 in
    rw (p.1, p.2) (inside_fails c.args.room (views c.args.lexemes) (opening_view c.in-Some.opening) (views c.in-Some.rest) c.in_err-inside.field-0.0
    (rw c.in-Some.is at c.in_ok-opening.ensures.gives) (rw c.in-Some.is at c.in_ok-opening.ensures.some) (rw c.level_inside.ensures at c.in_err-inside.ensures.gives))

pub other_operand-returns-clause-gives : goal.other_operand-returns-clause-gives
other_operand-returns-clause-gives t c =
    rw (
      operand_opens c.args.room (views c.args.lexemes) (opening_view c.in-Some.opening) (views c.in-Some.rest) (rw c.in-Some.is at c.in_ok-opening.ensures.gives) (rw c.in-Some.is at c.in_ok-opening.ensures.some),
      rw c.level_inside.ensures at c.in_ok-inside.ensures.gives,
    ) c.operand_of.ensures.gives

pub operand-returns-in_ok-number-in-Number-clause-gives : goal.operand-returns-in_ok-number-in-Number-clause-gives
operand-returns-in_ok-number-in-Number-clause-gives t c =
    rw (
      operand_number (views c.args.lexemes) c.in-Number.value c.in-Number.unsigned (sym c.in-Number.is ∙ c.shape.ensures) c.args.room,
      c.skip.ensures,
      pushed_top (Number c.in-Number.value c.in-Number.unsigned) (stacked c.number.new.self) (stacked c.args.stack.now) c.in_ok-number-in-Number.ensures,
    ) refl

pub right_operand-returns-in-Some-clause-gives : goal.right_operand-returns-in-Some-clause-gives
right_operand-returns-in-Some-clause-gives t c =
    rw (
      right_is c.args.room c.args.height c.args.op (views c.args.lexemes) c.if-height-room.false,
      ← c.level.ensures,
      ← c.skip-operand.ensures,
      c.in-Some.ensures (c.args.room - 1),
      c.skip.ensures,
      pushed_top (Number c.in-Some.value c.in-Some.unsigned) (stacked c.number.new.self) (stacked c.args.stack.now) c.in_ok-number.ensures,
    ) refl

pub right_operand-returns-clause-gives : goal.right_operand-returns-clause-gives
right_operand-returns-clause-gives t c =
    rw (right_is c.args.room c.args.height c.args.op (views c.args.lexemes) c.if-height-room.false, ← c.level-2.ensures, ← c.skip-operand.ensures) c.push_expression.ensures.gives
