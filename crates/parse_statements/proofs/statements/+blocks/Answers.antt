use Rattle.std.proofs.Common.{◌-◌, sym, ◌∙◌}
use Rattle.std.proofs.lemmas.Result.{err_from_is_err_and}
use Rattle.syntax.specs.Views.{stmt_tree, block_tree}
use Rattle.syntax.proofs.Blocks.{block_made}
use Rattle.parse_lexemes.specs.Lexemes.{line_at, views}
use Rattle.parse_statements.specs.Steps.{head_view, takes_other, branches_at, other_at}
use Rattle.parse_statements.specs.Reading.{inner, block_at}
use Rattle.parse_statements.proofs.Branches.{statement_fails, statement_simple, statement_nested, branches_fail, branches_on, other_fails, other_on}
use Rattle.parse_statements.proofs.Nested.{statement_takes}
use Rattle.parse_statements.proofs.Blocks.{fills_start, fills_done, fills_refuses, fills_fails, fills_on}
use Rattle.parse_statements.proofs.statements.+blocks.Goals as goal

pub block-statements-init : goal.block-statements-init
block-statements-init t c = rw c.in_ok-statements.ensures.items (fills_start c.args.room c.args.names (views c.args.lexemes))

pub block-returns-then-returned : goal.block-returns-then-returned
block-returns-then-returned t c =
    rw c.missing.ensures (fills_refuses c.args.room c.statements.free c.statements.statements.items c.statements.returned (views c.statements.rest) (block_at c.args.room c.args.names (views c.args.lexemes)) c.statements.invariant (sym c.starts_with.ensures ∙ c.statements-test.true) c.if-returned.true)

pub block-returns-in_err-stmt : goal.block-returns-in_err-stmt
block-returns-in_err-stmt t c =
    let p = err_from_is_err_and c.from_residual-in_err-stmt.result c.from_residual-in_err-stmt.ensures.1 in
    rw (p.1, p.2) (fills_fails c.args.room c.statements.free c.statements.statements.items c.statements.returned (views c.statements.rest) (block_at c.args.room c.args.names (views c.args.lexemes)) c.statements.invariant c.in_err-stmt.field-0.0 (sym c.starts_with.ensures ∙ c.statements-test.true) c.if-returned.false c.in_err-stmt.ensures)

pub block-statements-smaller : goal.block-statements-smaller
block-statements-smaller t c = (statement_takes c.args.room c.statements.free (views c.statements.rest) (stmt_tree c.in_ok-stmt.stmt, c.in_ok-stmt.left, views c.in_ok-stmt.after) c.in_ok-stmt.ensures).shorter

pub block-statements-preserved : goal.block-statements-preserved
block-statements-preserved t c =
    rw c.in_ok-push.ensures.items (fills_on c.args.room c.statements.free c.statements.statements.items c.statements.returned (views c.statements.rest) (block_at c.args.room c.args.names (views c.args.lexemes)) c.statements.invariant c.in_ok-stmt.stmt c.in_ok-stmt.left c.is_return-returned.result (views c.in_ok-stmt.after) (sym c.starts_with.ensures ∙ c.statements-test.true) c.if-returned.false c.in_ok-stmt.ensures c.is_return-returned.ensures)

pub block-returns : goal.block-returns
block-returns t c =
    rw (c.line-end_line.ensures, c.skip.ensures, block_made (record { statements = c.shrink_to_fit.new.self; end_line = line_at (views c.statements.rest) }), c.shrink_to_fit.ensures.items) (fills_done c.args.room c.statements.free c.statements.statements.items c.statements.returned (views c.statements.rest) (block_at c.args.room c.args.names (views c.args.lexemes)) c.statements.invariant (sym c.starts_with.ensures ∙ c.statements-test.false))

pub statement-returns-in_err-head : goal.statement-returns-in_err-head
statement-returns-in_err-head t c =
    let p = err_from_is_err_and c.from_residual.result c.from_residual.ensures.1 in
    rw (p.1, p.2) (statement_fails c.args.room c.args.free (views c.args.lexemes) c.in_err-head.field-0.0 c.in_err-head.ensures.gives)

pub statement-returns-in_default : goal.statement-returns-in_default
statement-returns-in_default t c =
    rw (statement_simple c.args.room c.args.free (views c.args.lexemes) (rw c.in_default.is at c.in_ok-head.ensures.gives)) c.simple.ensures

pub statement-returns : goal.statement-returns
statement-returns t c =
    let head = head_view c.in-Some.head in
    let rest = views c.in-Some.rest in
    rw (statement_nested c.args.room c.args.free (views c.args.lexemes) head rest (rw c.in-Some.is at c.in_ok-head.ensures.gives), ← c.line.ensures)
    (c.nested.ensures (branches_at (inner c.args.room) c.args.free (takes_other head) rest) (rw c.takes_other.ensures at c.branches-branches.ensures))

pub branches-returns-in_err-body : goal.branches-returns-in_err-body
branches-returns-in_err-body t c =
    let p = err_from_is_err_and c.from_residual.result c.from_residual.ensures.1 in
    rw (p.1, p.2) (branches_fail c.args.room c.args.free (views c.args.lexemes) c.args.otherwise c.in_err-body.field-0.0 c.requires.some c.in_err-body.ensures)

pub branches-returns : goal.branches-returns
branches-returns t c =
    let rest = views c.in_ok-body.rest in
    rw (branches_on c.args.room c.args.free (views c.args.lexemes) c.args.otherwise (block_tree c.in_ok-body.body) c.in_ok-body.left rest c.requires.some c.in_ok-body.ensures)
    (c.both.ensures (other_at (inner c.args.room) c.in_ok-body.left c.args.otherwise rest) c.other_block-other.ensures)

pub other_block-returns-in_err-rest : goal.other_block-returns-in_err-rest
other_block-returns-in_err-rest t c =
    let p = err_from_is_err_and c.from_residual.result c.from_residual.ensures.1 in
    rw (p.1, p.2) (other_fails c.args.room c.args.free (views c.args.lexemes) c.args.otherwise c.in_err-rest.field-0.0 c.if-not-otherwise.false (sym c.starts_with.ensures ∙ c.if-not-starts_with.false) (rw c.skip.ensures at c.in_err-rest.ensures))

pub other_block-returns : goal.other_block-returns
other_block-returns t c =
    let within = views c.in_ok-rest.rest in
    rw (other_on c.args.room c.args.free (views c.args.lexemes) c.args.otherwise within c.if-not-otherwise.false (sym c.starts_with.ensures ∙ c.if-not-starts_with.false) (rw c.skip.ensures at c.in_ok-rest.ensures) c.requires.some)
    (c.second.ensures (block_at (c.args.room - 1) c.args.free within) c.block.ensures)
