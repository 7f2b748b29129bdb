use Rattle.std.proofs.Common.{sym, subst}
use Rattle.replay_arguments.specs.Shares.{shared_view}
use Rattle.replay_tasks.specs.declared.outcome.Outcome.{Outcome}
use Rattle.replay_steps.specs.Steps.{Does, Scene, scene_of}
use Rattle.replay_steps.proofs.TaskLemmas.{does_unless}
use Rattle.replay_steps.proofs.step.step.Goals as goal

pub returns-clause-step : goal.returns-clause-step
returns-clause-step c =
    let scene : Scene = scene_of c.args.turn (shared_view c.args.shared.now) c.args.locals.now c.args.pending.now in
    subst (λ (took : Outcome). Does c.args.turn.refused scene c.args.task.now took scene c.plain_step-outcome.new.task) (sym c.unless_refused.ensures.step)
    (does_unless scene c.args.task.now c.plain_step-outcome.new.task c.args.turn.refused c.plain_step-outcome.result c.plain_step-outcome.ensures.step)
