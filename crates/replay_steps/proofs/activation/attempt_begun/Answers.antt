use Rattle.std.proofs.Common.{subst}
use Rattle.replay_arguments.specs.Shares.{shared_view}
use Rattle.replay_tasks.specs.Tasks.{BegunInRange}
use Rattle.replay_steps.proofs.AttemptLemmas.{call_attempted, range_kept}
use Rattle.replay_steps.proofs.activation.attempt_begun.Goals as goal

pub attempt_task-requires : goal.attempt_task-requires
attempt_task-requires c = subst BegunInRange c.in-Some.is c.requires.range.begun

pub returns-in-Some-clause-step : goal.returns-in-Some-clause-step
returns-in-Some-clause-step c =
    call_attempted (shared_view c.args.shared.now) c.args.activation.now c.in-Some.task c.attempt_task.new.task c.in-Some.is c.attempt_task.result c.attempt_task.ensures.step

pub returns-in-Some-clause-range : goal.returns-in-Some-clause-range
returns-in-Some-clause-range c = range_kept c.args.activation.now.work c.attempt_task.new.task c.requires c.attempt_task.ensures.range
