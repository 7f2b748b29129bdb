use Rattle.std.proofs.Common.{ap}
use Rattle.replay_tasks.specs.declared.task.Invocation.{Invocation}
use Rattle.replay_terms.specs.declared.operand.Operands.{Operands}
use Rattle.replay_steps.proofs.invoke.reduce_number.Goals as goal

pub returns-clause-same : goal.returns-clause-same
returns-clause-same c = λ same. ap (λ (os : Operands). let i : Invocation = record c.args.i.now { operands = os } in i) same
