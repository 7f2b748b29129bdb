use Rattle.std.proofs.Common.{sym, subst}
use Rattle.replay_arguments.specs.Shares.{shared_view, sight_in}
use Rattle.replay_steps.specs.Steps.{Does, Scene, scene_of}
use Rattle.replay_tasks.specs.Effects.{HasEffect}
use Rattle.replay_tasks.specs.declared.outcome.Outcome.{Outcome}
use Rattle.replay_tasks.specs.declared.task.Task.TheVariants as task
use Rattle.std.proofs.lemmas.Result.{IfOk-weaker}
use Rattle.replay_steps.proofs.Invocations.{invocation_does, number_reduces}
use Rattle.replay_steps.proofs.TaskLemmas.{does_unless}
use Rattle.replay_steps.proofs.invoke.invoke.Goals as goal

pub returns-in-Some-clause-step : goal.returns-in-Some-clause-step
returns-in-Some-clause-step c =
    let i = c.args.i.now in
    let refused = c.args.turn.refused in
    let s = shared_view c.args.shared.now in
    let sight = sight_in s c.args.locals.now.variables in
    let scene : Scene = scene_of c.args.turn s c.args.locals.now c.args.pending.now in
    let left = c.in-Some.ensures in
    subst (λ (took : Outcome). Does refused scene (task.Invoke i) took scene (task.Invoke c.reduce_number.new.i)) (sym c.unless_refused.ensures.step)
    (does_unless scene (task.Invoke i) (task.Invoke c.reduce_number.new.i) refused c.reduced.result
    (subst (λ (took : Outcome). HasEffect sight (task.Invoke i) took (task.Invoke c.reduce_number.new.i)) (sym c.reduced.ensures.view)
    (number_reduces sight i c.reduce_number.new.i left.line left.purpose left.function c.in-Some.reduction left.step)))

pub returns-clause-step : goal.returns-clause-step
returns-clause-step c =
    let turn = c.args.turn in
    let left = c.in_default.ensures in
    IfOk-weaker c.make_call.result _ _
    (λ o makes. invocation_does (scene_of turn (shared_view c.args.shared.now) c.args.locals.now c.args.pending.now) c.args.i.now c.reduce_number.new.i (scene_of turn (shared_view c.make_call.new.shared) c.make_call.new.locals c.make_call.new.pending)
    left.line left.purpose left.function left.step.1 left.step.0 turn.refused o makes)
    c.make_call.ensures.step
