use Rattle.std.proofs.Common.{List, ◌∷◌, ◌++◌, map, sym, subst, ap, ◌∙◌, arith, get_or}
use Rattle.std.specs.Prelude.{zip}
use Rattle.syntax.specs.declared.call.Argument.{Argument}
use Rattle.syntax.specs.Views.{argument_tree}
use Rattle.jni.specs.declared.kinds.ParameterKind.{ParameterKind}
use Rattle.jni.specs.declared.kinds.ParameterKind.TheVariants as kind
use Rattle.semantics.specs.Task.{Operand, operand}
use Rattle.replay_terms.specs.declared.operand.Operand.{Operand as OperandInMemory}
use Rattle.replay_terms.specs.Views.{operand_view}
use Rattle.replay_tasks.specs.Tasks.{ListedInRange}
use Rattle.std.proofs.lemmas.Result.{IfOk-weaker}
use Rattle.replay_tasks.proofs.RangeLemmas.{after_first, first_is, operand_first, operands_pushed, rest_in_range, shorter}
use Rattle.replay_tasks.proofs.call.+push_operands.Goals as goal

pub push_operands-requires : goal.push_operands-requires
push_operands-requires t c = (
  omega (arith, c.decreases, shorter c.args.parameters.now c.in-len1-up.len_at_least),
  (
    rest_in_range c.args.arguments.now c.requires.numbers,
    subst ListedInRange (sym c.in_ok-push-in-len1-up-arguments.ensures.items)
        (operands_pushed c.args.operands.now.items c.in_ok-operand_of-in-len1-up-arguments.field-0 c.requires.range c.in_ok-operand_of-in-len1-up-arguments.ensures.range),
  ),
)

pub returns-in_ok-push-in-len1-up-arguments-clause-view : goal.returns-in_ok-push-in-len1-up-arguments-clause-view
returns-in_ok-push-in-len1-up-arguments-clause-view t c =
    let parameters = c.args.parameters.now in
    let arguments = c.args.arguments.now in
    let parameter : ParameterKind = get_or parameters 0 kind.Nullable in
    let argument : Argument = c.argument-item.result in
    let more : List Operand = map operand (zip ((after_first parameters)) (map argument_tree (after_first arguments))) in
    IfOk-weaker c.push_operands.result _ _
    (λ done is. is ∙ ap (λ (os : List OperandInMemory). map operand_view os ++ more) c.in_ok-push-in-len1-up-arguments.ensures.items
    ∙ operand_first c.args.operands.now.items c.in_ok-operand_of-in-len1-up-arguments.field-0 parameter argument parameters arguments
    c.in_ok-operand_of-in-len1-up-arguments.ensures.view
    (first_is parameters kind.Nullable c.in-len1-up.len_at_least)
    (ap (λ (a : Argument). a ∷ after_first arguments) c.argument-item.is ∙ first_is arguments argument c.in-len1-up-arguments.len_at_least))
    c.push_operands.ensures.view
