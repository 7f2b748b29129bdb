use Rattle.std.proofs.Common.{refl, subst}
use Rattle.std.proofs.lemmas.Result.{IfOk-weaker}
use Rattle.replay_arguments.specs.Shares.{shared_view}
use Rattle.replay_threads.specs.Threads.{WorkInRange}
use Rattle.replay_threads.proofs.AttemptedSteps.{attempted}
use Rattle.replay_threads.proofs.ThreadLemmas.{range_begun}
use Rattle.replay_threads.proofs.thread.try_step.Goals as goal

pub attempt_step-requires : goal.attempt_step-requires
attempt_step-requires c = subst WorkInRange c.in-Some.is c.requires.work

pub returns-in-Some-clause-step : goal.returns-in-Some-clause-step
returns-in-Some-clause-step c =
    IfOk-weaker c.attempt_step.result _ _ (λ took does.
    attempted (shared_view c.args.shared.now) c.args.thread.now c.in-Some.activation c.attempt_step.new.activation c.in-Some.is took does) c.attempt_step.ensures.step

pub returns-in-Some-clause-range : goal.returns-in-Some-clause-range
returns-in-Some-clause-range c = IfOk-weaker c.attempt_step.result _ _ (λ took range. range_begun c.args.thread.now _ refl range c.requires) c.attempt_step.ensures.range
