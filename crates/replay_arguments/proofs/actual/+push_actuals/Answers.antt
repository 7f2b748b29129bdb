use Rattle.std.proofs.Common.{drop, map, sym, append-nil, arith}
use Rattle.std.proofs.lemmas.Grind.{common_steps}
use Rattle.base.proofs.Lists.{drop_past}
use Rattle.replay_arguments.specs.Actuals.{actual_view}
use Rattle.replay_arguments.proofs.OperandLists.{no_pairs, none_there, there_are}
use Rattle.replay_terms.specs.Views.{operand_ref_view, operands_view}
use Rattle.replay_arguments.proofs.actual.+push_actuals.Goals as goal

pub returns-then-place-count : goal.returns-then-place-count
returns-then-place-count t c =
    let os = operands_view c.args.operands.now in
    let ps = c.args.parameters.now in
    let none = no_pairs ps (drop c.args.place os) (drop_past os c.args.place (omega (arith, c.count.ensures, c.if-place-count.true))) in
    rw none (sym (append-nil (map actual_view c.args.actuals.now.items)))

pub returns-in-None : goal.returns-in-None
returns-in-None t c =
    let os = operands_view c.args.operands.now in
    let ps = c.args.parameters.now in
    let none = no_pairs ps (drop c.args.place os) (none_there operand_ref_view os c.args.place c.get.result c.in-None.is c.get.ensures) in
    rw none (sym (append-nil (map actual_view c.args.actuals.now.items)))

pub returns-in_ok-push-in-Some : goal.returns-in_ok-push-in-Some
returns-in_ok-push-in-Some t c =
    let os = operands_view c.args.operands.now in
    let some = there_are operand_ref_view os c.args.place c.in-Some.operand c.get.result c.in-Some.is c.get.ensures in
    rw some (grind (arith, common_steps))
