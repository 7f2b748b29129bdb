use Rattle.std.proofs.Common.{List, IfOk, map, ap, ◌∙◌, subst}
use Rattle.semantics.specs.Arguments.{Actual}
use Rattle.replay_arguments.specs.Actuals.{actual_view}
use Rattle.replay_arguments.specs.Shares.{shared_view}
use Rattle.replay_steps.specs.Calls.{MakesCall}
use Rattle.replay_steps.specs.Steps.{Scene, scene_of}
use Rattle.replay_steps.proofs.invoke.make_call.Goals as goal

pub returns-clause-step : goal.returns-clause-step
returns-clause-step c =
    let turn = c.args.turn in
    let s = shared_view c.args.shared.now in
    let locals = c.args.locals.now in
    let i = c.args.i.now in
    let f = i.function in
    let before : Scene = scene_of turn s locals c.args.pending.now in
    let after : Scene = scene_of turn (shared_view c.call.new.shared) c.call.new.locals c.call.new.pending in
    let looked_up = ap (map actual_view) c.deref.ensures.value ∙ c.in_ok-actuals.ensures in
    subst (λ (args : List Actual). IfOk c.call.result (λ o. MakesCall turn.refused before i.line i.purpose f args o after)) looked_up c.call.ensures.step
