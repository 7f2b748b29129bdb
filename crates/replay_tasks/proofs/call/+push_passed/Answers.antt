use Rattle.std.proofs.Common.{List, ◌∷◌, ◌++◌, map, sym, subst, ap, ◌∙◌, arith}
use Rattle.syntax.specs.declared.call.Argument.{Argument}
use Rattle.syntax.specs.Views.{argument_tree}
use Rattle.jni.specs.declared.kinds.ParameterKind.TheVariants.{Passed}
use Rattle.semantics.specs.Task.{Operand, operand}
use Rattle.replay_terms.specs.declared.operand.Operand.{Operand as OperandInMemory}
use Rattle.replay_terms.specs.Views.{operand_view}
use Rattle.replay_tasks.specs.Tasks.{ListedInRange}
use Rattle.std.proofs.lemmas.Result.{IfOk-weaker}
use Rattle.replay_tasks.proofs.RangeLemmas.{after_first, first_is, operands_pushed, passed_first, rest_in_range, shorter}
use Rattle.replay_tasks.proofs.call.+push_passed.Goals as goal

pub push_passed-requires : goal.push_passed-requires
push_passed-requires t c = (
  omega (arith, c.decreases, shorter c.args.arguments.now c.in-len1-up.len_at_least),
  (
    rest_in_range c.args.arguments.now c.requires.numbers,
    subst ListedInRange (sym c.in_ok-push-in-len1-up.ensures.items)
        (operands_pushed c.args.operands.now.items c.in_ok-operand_of-in-len1-up.field-0 c.requires.range c.in_ok-operand_of-in-len1-up.ensures.range),
  ),
)

pub returns-in_ok-push-in-len1-up-clause-view : goal.returns-in_ok-push-in-len1-up-clause-view
returns-in_ok-push-in-len1-up-clause-view t c =
    let arguments = c.args.arguments.now in
    let argument : Argument = c.argument-item.result in
    let more : List Operand = map (λ a. operand (Passed, a)) (map argument_tree (after_first arguments)) in
    IfOk-weaker c.push_passed.result _ _
    (λ done is. is ∙ ap (λ (os : List OperandInMemory). map operand_view os ++ more) c.in_ok-push-in-len1-up.ensures.items
    ∙ passed_first c.args.operands.now.items c.in_ok-operand_of-in-len1-up.field-0 argument arguments c.in_ok-operand_of-in-len1-up.ensures.view
    (ap (λ (a : Argument). a ∷ after_first arguments) c.argument-item.is ∙ first_is arguments argument c.in-len1-up.len_at_least))
    c.push_passed.ensures.view
