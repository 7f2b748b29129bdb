use Rattle.std.proofs.Common.{refl, subst}
use Rattle.std.proofs.lemmas.Result.{IfOk-weaker}
use Rattle.replay_arguments.specs.Shares.{shared_view}
use Rattle.replay_threads.specs.Threads.{WorkInRange}
use Rattle.replay_threads.proofs.AttemptedSteps.{call_attempted}
use Rattle.replay_threads.proofs.ThreadLemmas.{range_begun}
use Rattle.replay_threads.proofs.thread.try_call.Goals as goal

pub attempt_call-requires-clause-range : goal.attempt_call-requires-clause-range
attempt_call-requires-clause-range c = subst WorkInRange c.in-Some.is c.requires.range.work

pub returns-in-Some-clause-step : goal.returns-in-Some-clause-step
returns-in-Some-clause-step c =
    IfOk-weaker c.attempt_call.result _ _ (λ took does.
    call_attempted c.args.turn.now (shared_view c.args.shared.now) (shared_view c.attempt_call.new.shared) c.args.thread.now c.in-Some.activation c.attempt_call.new.activation c.in-Some.is c.attempt_call.new.pending took does) c.attempt_call.ensures.step

pub returns-in-Some-clause-range : goal.returns-in-Some-clause-range
returns-in-Some-clause-range c = IfOk-weaker c.attempt_call.result _ _ (λ took range. range_begun c.args.thread.now _ refl range c.requires.range) c.attempt_call.ensures.range
