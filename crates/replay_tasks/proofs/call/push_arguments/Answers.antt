use Rattle.std.proofs.Common.{List, Bool, [], ◌++◌, drop, map, sym, subst, ap, ◌∙◌, append_assoc, append-nil}
use Rattle.std.specs.Prelude.{if◌then◌else◌, zip}
use Rattle.std.proofs.lemmas.Result.{IfOk-weaker}
use Rattle.syntax.specs.declared.call.Argument.{Argument}
use Rattle.syntax.specs.Views.{argument_tree}
use Rattle.jni.specs.JniFunction.{prototype}
use Rattle.jni.specs.declared.kinds.ParameterKind.{ParameterKind}
use Rattle.jni.specs.declared.kinds.ParameterKind.TheVariants.{Passed}
use Rattle.jni.specs.Table.{Facts}
use Rattle.semantics.specs.Task.{Operand, operand}
use Rattle.replay_terms.specs.Views.{operand_view}
use Rattle.replay_tasks.specs.Tasks.{ArgumentsInRange}
use Rattle.replay_tasks.proofs.PassedOperands.{of_all}
use Rattle.replay_tasks.proofs.RangeLemmas.{passed_in_range}
use Rattle.replay_tasks.proofs.call.push_arguments.Goals as goal

pub push_passed-requires-clause-numbers : goal.push_passed-requires-clause-numbers
push_passed-requires-clause-numbers c =
    subst (λ (more : List Argument). ArgumentsInRange (map argument_tree more)) (sym c.passed.ensures) (passed_in_range c.args.arguments.now c.requires.numbers)

pub returns-then-not-calls_method-clause-view : goal.returns-then-not-calls_method-clause-view
returns-then-not-calls_method-clause-view c =
    let f = c.args.function in
    let arguments = c.args.arguments.now in
    let before = map operand_view c.args.operands.now.items in
    let own : List ParameterKind → List Operand = λ ps. map operand (zip ps (map argument_tree arguments)) in
    let further : List Operand = map (λ a. operand (Passed, a)) (map argument_tree (drop 2 arguments)) in
    c.in_ok-push_operands.ensures.view
    ∙ ap (λ (x : Facts). before ++ own x.prototype.parameters) c.prototype.ensures
    ∙ ap (λ (l : List Operand). before ++ l) (
    sym (append-nil (own (prototype f).parameters))
    ∙ ap (λ (b : Bool). own (prototype f).parameters ++ (if b then further else [])) (sym c.if-not-calls_method.true ∙ c.calls_method.ensures)
    ∙ sym (of_all argument_tree operand f arguments))

pub returns-clause-view : goal.returns-clause-view
returns-clause-view c =
    let f = c.args.function in
    let arguments = c.args.arguments.now in
    let before = map operand_view c.args.operands.now.items in
    let own : List ParameterKind → List Operand = λ ps. map operand (zip ps (map argument_tree arguments)) in
    let further : List Argument → List Operand = λ more. map (λ a. operand (Passed, a)) (map argument_tree more) in
    IfOk-weaker c.push_passed.result _ _ (λ done is. is
    ∙ ap (λ (l : List Operand). l ++ further c.passed.result.now) c.in_ok-push_operands.ensures.view
    ∙ append_assoc before (own c.prototype.result.now.parameters.now) (further c.passed.result.now)
    ∙ ap (λ (x : Facts). before ++ (own x.prototype.parameters ++ further c.passed.result.now)) c.prototype.ensures
    ∙ ap (λ (l : List Operand). before ++ l) (
    ap (λ (more : List Argument). own (prototype f).parameters ++ further more) c.passed.ensures
    ∙ ap (λ (b : Bool). own (prototype f).parameters ++ (if b then further (drop 2 arguments) else [])) (sym c.if-not-calls_method.false ∙ c.calls_method.ensures)
    ∙ sym (of_all argument_tree operand f arguments))) c.push_passed.ensures.view
