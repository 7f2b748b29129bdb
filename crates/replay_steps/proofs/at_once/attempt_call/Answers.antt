use Rattle.std.proofs.Common.{◌≡◌, Bool, Some, rules, subst}
use Rattle.replay_arguments.specs.Shares.{shared_view}
use Rattle.replay_steps.specs.AtOnce.{TriesInvocation}
use Rattle.replay_steps.proofs.AtOnceLemmas.{at_once_left, at_once_over}
use Rattle.replay_tasks.specs.declared.task.Task.TheVariants as task
use Rattle.replay_steps.proofs.at_once.attempt_call.Goals as goal

pub returns-then-not-branch-clause-step : goal.returns-then-not-branch-clause-step
returns-then-not-branch-clause-step c =
    let turn = c.args.turn.now in
    let s = shared_view c.args.shared.now in
    let old = c.args.activation.now in
    let i = c.in-Some-Invoke.i in
    let new = c.try_invocation.new in
    let left = subst (λ (b : Bool). TriesInvocation turn i b s old.locals c.args.pending.now (shared_view new.shared) new.locals new.pending) c.if-not-branch.true c.in_ok-try_invocation.ensures in
    at_once_left turn s (shared_view new.shared) old c.args.pending.now new.pending i new.locals left

pub returns-clause-step : goal.returns-clause-step
returns-clause-step c =
    let turn = c.args.turn.now in
    let s = shared_view c.args.shared.now in
    let old = c.args.activation.now in
    let i = c.in-Some-Invoke.i in
    let new = c.try_invocation.new in
    let is : old.work.task ≡ Some (task.Invoke i) = search rules in
    let took = subst (λ (b : Bool). TriesInvocation turn i b s old.locals c.args.pending.now (shared_view new.shared) new.locals new.pending) c.if-not-branch.false c.in_ok-try_invocation.ensures in
    at_once_over turn s (shared_view new.shared) old c.args.pending.now new.pending i new.locals c.begin_next.new.work is took c.in_ok-begin_next.ensures.tasks
