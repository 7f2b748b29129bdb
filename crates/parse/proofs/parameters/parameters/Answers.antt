use Rattle.std.proofs.Common.{◌≡◌, map, Ok, sym, ◌∙◌, arith}
use Rattle.std.proofs.lemmas.Result.{err_from_is_err_and}
use Rattle.std.proofs.lemmas.List.{map_push, length-map}
use Rattle.parse_lexemes.specs.Results.{Fails}
use Rattle.parse_lexemes.specs.Lexemes.{views}
use Rattle.syntax.specs.Views.{parameter_tree}
use Rattle.parse_lexemes.specs.Reading.{rest_of}
use Rattle.parse.specs.Reading.{parameter_at, parameters_at}
use Rattle.parse.proofs.Commas.{parameters_start, parameters_done, parameters_many, parameters_fail, parameters_on}
use Rattle.parse.proofs.parameters.parameters.Goals as goal

pub parameters-init : goal.parameters-init
parameters-init c = rw c.new-parameters.ensures.items (parameters_start (views c.args.lexemes))

pub returns-then-len-eq-NAMES-clause-gives : goal.returns-then-len-eq-NAMES-clause-gives
returns-then-len-eq-NAMES-clause-gives c = rw c.fault.ensures (parameters_many (map parameter_tree c.parameters.parameters.items) (views c.parameters.rest) (parameters_at 255 (views c.args.lexemes)) c.parameters.invariant (sym c.starts_with.ensures ∙ c.parameters-test.true) (omega (arith, length-map c.parameters.parameters.items parameter_tree, c.parameters.parameters.ok.0, c.len.ensures, c.if-len-eq-NAMES.true)))

pub returns-in_err-parameter-clause-gives : goal.returns-in_err-parameter-clause-gives
returns-in_err-parameter-clause-gives c =
    let p = err_from_is_err_and c.from_residual.result c.from_residual.ensures.1 in
    let h : Fails c.in_err-parameter.field-0.0 (parameter_at (rest_of (views c.parameters.rest))) = rw (sym c.skip.ensures) c.in_err-parameter.ensures in
    rw (p.1, p.2) (parameters_fail (map parameter_tree c.parameters.parameters.items) (views c.parameters.rest) (parameters_at 255 (views c.args.lexemes)) c.parameters.invariant c.in_err-parameter.field-0.0 (sym c.starts_with.ensures ∙ c.parameters-test.true) (λ n. omega (arith, n, length-map c.parameters.parameters.items parameter_tree, c.parameters.parameters.ok.0, c.len.ensures, c.if-len-eq-NAMES.false)) h)

pub parameters-preserved : goal.parameters-preserved
parameters-preserved c =
    let h : parameter_at (rest_of (views c.parameters.rest)) ≡ Ok (parameter_tree c.in_ok-parameter.parameter, views c.in_ok-parameter.after) = rw (sym c.skip.ensures) c.in_ok-parameter.ensures in
    rw (c.in_ok-push.ensures.items, map_push parameter_tree c.parameters.parameters.items c.in_ok-parameter.parameter) (parameters_on (map parameter_tree c.parameters.parameters.items) (views c.parameters.rest) (parameters_at 255 (views c.args.lexemes)) c.parameters.invariant (parameter_tree c.in_ok-parameter.parameter) (views c.in_ok-parameter.after) (sym c.starts_with.ensures ∙ c.parameters-test.true) (λ n. omega (arith, n, length-map c.parameters.parameters.items parameter_tree, c.parameters.parameters.ok.0, c.len.ensures, c.if-len-eq-NAMES.false)) h)

pub returns-clause-gives : goal.returns-clause-gives
returns-clause-gives c = parameters_done (map parameter_tree c.parameters.parameters.items) (views c.parameters.rest) (parameters_at 255 (views c.args.lexemes)) c.parameters.invariant (sym c.starts_with.ensures ∙ c.parameters-test.false)
