use Rattle.std.proofs.Common.{◌≡◌, IfOk, subst}
use Rattle.std.proofs.lemmas.Result.{IfOk-weaker}
use Rattle.replay_arguments.specs.Shares.{shared_view}
use Rattle.replay_steps.specs.declared.activation.Activation.{Activation}
use Rattle.replay_steps.specs.declared.attempt.Attempt.{Attempt}
use Rattle.replay_steps.specs.Attempts.{AttemptsCall}
use Rattle.replay_steps.proofs.activation.attempt_step.Goals as goal

pub returns-in-Left-clause-step : goal.returns-in-Left-clause-step
returns-in-Left-clause-step c =
    let s = shared_view c.args.shared.now in
    let old = c.args.activation.now in
    let stood = c.attempt_begun.new.activation in
    let new = c.finish.new.activation in
    let same : stood ≡ old = subst (λ (r : Attempt). AttemptsCall s old r stood) c.in-Left.is c.attempt_begun.ensures.step in
    subst (λ (a : Activation). IfOk c.finish.result (λ took. AttemptsCall s a took new)) same (IfOk-weaker c.finish.result _ _ (λ took does. does s) c.finish.ensures.step)
