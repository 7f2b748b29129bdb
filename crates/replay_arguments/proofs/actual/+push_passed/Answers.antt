use Rattle.std.proofs.Common.{arith}
use Rattle.std.proofs.lemmas.Grind.{common_steps}
use Rattle.replay_arguments.proofs.OperandLists.{there_are}
use Rattle.replay_terms.specs.Views.{operand_ref_view, operands_view}
use Rattle.replay_arguments.proofs.actual.+push_passed.Goals as goal

pub returns-in_ok-push-in-Some : goal.returns-in_ok-push-in-Some
returns-in_ok-push-in-Some t c =
    let os = operands_view c.args.operands.now in
    let some = there_are operand_ref_view os c.args.place c.in-Some.operand c.get.result c.in-Some.is c.get.ensures in
    rw some (grind (arith, common_steps))
