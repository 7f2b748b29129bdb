use Rattle.replay_steps.proofs.FinishedTasks.{leaves_begun}
use Rattle.replay_steps.proofs.activation.finish_block.Goals as goal

pub returns-clause-step : goal.returns-clause-step
returns-clause-step c = λ scene. leaves_begun scene c.args.work.now c.leave.new.work c.begin.new.work c.in_ok-possible.possible c.in_ok-begin.ensures.tasks (c.in_ok-possible.ensures.step scene)
