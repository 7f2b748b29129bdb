use Rattle.replay_arguments.specs.Shares.{shared_view, sight_in}
use Rattle.replay_arguments.proofs.actual.look_up.Goals as goal

pub returns-in-Number : goal.returns-in-Number
returns-in-Number c = rw c.in-Number.is (c.number_argument.ensures (sight_in (shared_view c.args.shared.now) c.args.variables.now) c.args.parameter)

pub returns-in-Passed : goal.returns-in-Passed
returns-in-Passed c = rw c.in-Passed.is (c.named_reference.ensures c.args.parameter)
