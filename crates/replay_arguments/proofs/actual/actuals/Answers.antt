use Rattle.std.proofs.Common.{◌++◌, Bool, List, [], drop, map, sym, ap, ◌∙◌, append-nil}
use Rattle.std.specs.Prelude.{if◌then◌else◌, zip}
use Rattle.jni.specs.JniFunction.{prototype}
use Rattle.jni.specs.declared.kinds.ParameterKind.{ParameterKind}
use Rattle.jni.specs.declared.kinds.ParameterKind.TheVariants.{Passed}
use Rattle.jni.specs.Table.{Facts}
use Rattle.semantics.specs.Arguments.{Actual, look_up}
use Rattle.replay_arguments.specs.Actuals.{actual_view}
use Rattle.replay_arguments.specs.declared.actual.Actual.{Actual as ActualInMemory}
use Rattle.replay_arguments.specs.Shares.{shared_view, sight_in}
use Rattle.replay_terms.proofs.PassedLemmas.{of_all}
use Rattle.replay_terms.specs.Views.{operands_view}
use Rattle.replay_arguments.proofs.actual.actuals.Goals as goal

pub returns-then-not-calls_method : goal.returns-then-not-calls_method
returns-then-not-calls_method c =
    let sight = sight_in (shared_view c.args.shared.now) c.args.variables.now in
    let f = c.args.function in
    let operands = operands_view c.args.operands.now in
    let own : List ParameterKind → List Actual = λ ps. map (look_up sight) (zip ps operands) in
    let further : List Actual = map (λ o. look_up sight (Passed, o)) (drop 2 operands) in
    c.in_ok-push_actuals.ensures
    ∙ ap (λ (xs : List ActualInMemory). map actual_view xs ++ own c.prototype.result.now.parameters.now) c.new-actuals.ensures.items
    ∙ ap (λ (x : Facts). own x.prototype.parameters) c.prototype.ensures
    ∙ sym (append-nil (own (prototype f).parameters))
    ∙ ap (λ (b : Bool). own (prototype f).parameters ++ (if b then further else [])) (sym c.if-not-calls_method.true ∙ c.calls_method.ensures)
    ∙ sym (of_all (look_up sight) f operands)

pub returns : goal.returns
returns c =
    let sight = sight_in (shared_view c.args.shared.now) c.args.variables.now in
    let f = c.args.function in
    let operands = operands_view c.args.operands.now in
    let own : List ParameterKind → List Actual = λ ps. map (look_up sight) (zip ps operands) in
    let further : List Actual = map (λ o. look_up sight (Passed, o)) (drop 2 operands) in
    c.in_ok-push_passed.ensures
    ∙ ap (λ (l : List Actual). l ++ further) c.in_ok-push_actuals.ensures
    ∙ ap (λ (xs : List ActualInMemory). (map actual_view xs ++ own c.prototype.result.now.parameters.now) ++ further) c.new-actuals.ensures.items
    ∙ ap (λ (x : Facts). own x.prototype.parameters ++ further) c.prototype.ensures
    ∙ ap (λ (b : Bool). own (prototype f).parameters ++ (if b then further else [])) (sym c.if-not-calls_method.false ∙ c.calls_method.ensures)
    ∙ sym (of_all (look_up sight) f operands)
