use Rattle.std.proofs.Common.{sym, subst}
use Rattle.replay_arguments.specs.Shares.{shared_view, sight_in}
use Rattle.replay_tasks.specs.declared.task.Task.TheVariants as task
use Rattle.replay_steps.specs.declared.attempt.Attempt.{Attempt}
use Rattle.replay_steps.specs.Attempts.{AttemptsTask}
use Rattle.replay_steps.proofs.AttemptLemmas.{number_attempted}
use Rattle.replay_steps.proofs.attempt.attempt_listed.Goals as goal

pub returns-clause-step : goal.returns-clause-step
returns-clause-step c =
    let sight = sight_in (shared_view c.args.shared.now) c.args.variables.now in
    let i = c.args.i.now in
    let new = c.reduce_number.new.i in
    let left = c.reduce_number.ensures in
    subst (λ (r : Attempt). AttemptsTask sight (task.Invoke i) r (task.Invoke new)) (sym c.attempt_for.ensures)
    (number_attempted sight i new left.line left.purpose left.function left.same c.reduce_number.result left.step)
