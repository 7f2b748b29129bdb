use Rattle.replay_arguments.specs.Shares.{shared_view}
use Rattle.replay_steps.specs.Steps.{scene_of}
use Rattle.replay_steps.proofs.ActivationLemmas.{begun_after}
use Rattle.replay_steps.proofs.activation.advance.Goals as goal

pub returns-clause-step : goal.returns-clause-step
returns-clause-step c =
    let turn = c.args.turn in
    let stepped = c.take_step.new.activation in
    begun_after turn.refused (scene_of turn (shared_view c.args.shared.now) c.args.activation.now.locals c.args.pending.now) c.args.activation.now.work c.in_ok-outcome.outcome
    (scene_of turn (shared_view c.take_step.new.shared) stepped.locals c.take_step.new.pending) stepped.work c.begin.new.work c.in_ok-begin.ensures.tasks c.in_ok-outcome.ensures.step

pub returns-clause-range : goal.returns-clause-range
returns-clause-range c = record { range = c.in_ok-begin.ensures.range; next = c.in_ok-begin.ensures.next }
