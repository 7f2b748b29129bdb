use Rattle.std.proofs.lemmas.Result.{err_from_is_err_and}
use Rattle.syntax.specs.Nodes.{top}
use Rattle.syntax.specs.Stacks.{stacked}
use Rattle.parse_lexemes.specs.Lexemes.{views}
use Rattle.parse_expressions.proofs.Openings.{index_fails, index_inside_fails, index_end_fails, index_read}
use Rattle.parse_expressions.proofs.expressions.index.Goals as goal

pub returns-in_err-rest-clause-gives : goal.returns-in_err-rest-clause-gives
returns-in_err-rest-clause-gives c =
    let p = err_from_is_err_and c.from_residual.result c.from_residual.ensures.1 in
    rw (p.1, p.2) (index_fails c.args.room (views c.args.lexemes) c.in_err-rest.field-0.0 c.in_err-rest.ensures.gives)

pub returns-in_err-height-clause-gives : goal.returns-in_err-height-clause-gives
returns-in_err-height-clause-gives c =
    let p = err_from_is_err_and c.from_residual-in_err-height.result c.from_residual-in_err-height.ensures.1 in
    rw (p.1, p.2) (index_inside_fails c.args.room (views c.args.lexemes) (views c.in_ok-rest.rest) c.in_err-height.field-0.0 c.in_ok-rest.ensures.gives c.in_ok-rest.ensures.some c.in_err-height.ensures.gives)

pub returns-in_err-rest-2-clause-gives : goal.returns-in_err-rest-2-clause-gives
returns-in_err-rest-2-clause-gives c =
    let p = err_from_is_err_and c.from_residual-in_err-rest-2.result c.from_residual-in_err-rest-2.ensures.1 in
    let read = c.in_ok-height in
    rw (p.1, p.2) (index_end_fails c.args.room (views c.args.lexemes) (views c.in_ok-rest.rest) (top (stacked c.push_expression.new.stack), read.height, views read.rest) c.in_err-rest-2.field-0.0 c.in_ok-rest.ensures.gives c.in_ok-rest.ensures.some read.ensures.gives c.in_err-rest-2.ensures)

pub returns-clause-gives : goal.returns-clause-gives
returns-clause-gives c =
    let read = c.in_ok-height in
    rw c.in_ok-take.ensures.expr (index_read c.args.room (views c.args.lexemes) (views c.in_ok-rest.rest) (views read.rest) (views c.in_ok-rest-2.rest) (top (stacked c.push_expression.new.stack)) read.height c.in_ok-rest.ensures.gives c.in_ok-rest.ensures.some read.ensures.gives c.in_ok-rest-2.ensures)
