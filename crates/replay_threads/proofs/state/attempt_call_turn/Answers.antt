use Rattle.std.proofs.lemmas.Result.{IfOk-weaker}
use Rattle.syntax.specs.Views.{unit_tree}
use Rattle.replay_threads.proofs.AttemptedSteps.{number_is_call}
use Rattle.replay_threads.proofs.state.attempt_call_turn.Goals as goal

pub attempt_field_turn-requires-clause-there : goal.attempt_field_turn-requires-clause-there
attempt_field_turn-requires-clause-there c = c.requires.live.there

pub returns-in-Number-clause-step : goal.returns-in-Number-clause-step
returns-in-Number-clause-step c =
    IfOk-weaker c.attempt_field_turn.result _ _ (λ took does. number_is_call (unit_tree c.args.functions.now) c.args.state.now c.args.stepper.thread took c.attempt_field_turn.new.state (does c.args.stepper.thread c.requires.live)) c.attempt_field_turn.ensures.step
