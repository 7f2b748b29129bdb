use Rattle.std.proofs.Common.{◌≡◌, ◌+◌, length, map, Ok, sym, ◌∙◌}
use Rattle.std.proofs.lemmas.Result.{err_from_is_err_and}
use Rattle.std.proofs.lemmas.List.{map_push}
use Rattle.parse_lexemes.specs.Results.{Fails}
use Rattle.parse_lexemes.specs.Lexemes.{views}
use Rattle.syntax.specs.Views.{argument_tree}
use Rattle.parse_lexemes.specs.Reading.{rest_of}
use Rattle.parse_expressions.specs.Reading.{argument_at, arguments_at}
use Rattle.parse_expressions.proofs.JniCalls.{argument_shorter}
use Rattle.parse_expressions.proofs.Commas.{arguments_start}
use Rattle.parse_expressions.proofs.Commas.{arguments_done, arguments_fail, arguments_on}
use Rattle.parse_expressions.proofs.calls.arguments.Goals as goal

pub arguments-init : goal.arguments-init
arguments-init c = rw c.in_ok-arguments.ensures.items (arguments_start c.args.room (views c.args.lexemes))

pub returns-in_err-argument : goal.returns-in_err-argument
returns-in_err-argument c =
    let p = err_from_is_err_and c.from_residual-in_err-argument.result c.from_residual-in_err-argument.ensures.1 in
    let h : Fails c.in_err-argument.field-0.0 (argument_at c.args.room (rest_of (views c.arguments.rest))) = rw (sym c.skip.ensures) c.in_err-argument.ensures in
    rw (p.1, p.2) (arguments_fail c.args.room (map argument_tree c.arguments.arguments.items) (views c.arguments.rest) (arguments_at c.args.room (length (views c.args.lexemes) + 1) (views c.args.lexemes)) c.arguments.invariant c.in_err-argument.field-0.0 (sym c.starts_with.ensures ∙ c.arguments-test.true) h)

pub arguments-smaller : goal.arguments-smaller
arguments-smaller c =
    let h : argument_at c.args.room (rest_of (views c.arguments.rest)) ≡ Ok (argument_tree c.in_ok-argument.argument, views c.in_ok-argument.after) = rw (sym c.skip.ensures) c.in_ok-argument.ensures in
    argument_shorter c.args.room (views c.arguments.rest) (argument_tree c.in_ok-argument.argument, views c.in_ok-argument.after) (sym c.starts_with.ensures ∙ c.arguments-test.true) h

pub arguments-preserved : goal.arguments-preserved
arguments-preserved c =
    let h : argument_at c.args.room (rest_of (views c.arguments.rest)) ≡ Ok (argument_tree c.in_ok-argument.argument, views c.in_ok-argument.after) = rw (sym c.skip.ensures) c.in_ok-argument.ensures in
    rw (c.in_ok-push.ensures.items, map_push argument_tree c.arguments.arguments.items c.in_ok-argument.argument) (arguments_on c.args.room (map argument_tree c.arguments.arguments.items) (views c.arguments.rest) (arguments_at c.args.room (length (views c.args.lexemes) + 1) (views c.args.lexemes)) c.arguments.invariant (argument_tree c.in_ok-argument.argument) (views c.in_ok-argument.after) (sym c.starts_with.ensures ∙ c.arguments-test.true) h)

pub returns : goal.returns
returns c = arguments_done c.args.room (map argument_tree c.arguments.arguments.items) (views c.arguments.rest) (arguments_at c.args.room (length (views c.args.lexemes) + 1) (views c.args.lexemes)) c.arguments.invariant (sym c.starts_with.ensures ∙ c.arguments-test.false)
