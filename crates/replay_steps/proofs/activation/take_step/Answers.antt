use Rattle.std.proofs.lemmas.Result.{IfOk-weaker}
use Rattle.replay_arguments.specs.Shares.{shared_view}
use Rattle.replay_steps.specs.Steps.{scene_of}
use Rattle.replay_steps.proofs.activation.take_step.Goals as goal

pub returns-then-is_none-clause-step : goal.returns-then-is_none-clause-step
returns-then-is_none-clause-step c =
    IfOk-weaker c.leave_block.result _ _ (λ o does. does (scene_of c.args.turn (shared_view c.args.shared.now) c.args.activation.now.locals c.args.pending.now)) c.leave_block.ensures.step
