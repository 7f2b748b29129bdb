use Rattle.std.proofs.Common.{◌≡◌, Bool, Some, rules, subst}
use Rattle.replay_arguments.specs.Shares.{shared_view}
use Rattle.replay_steps.specs.FieldCalls.{TriesCall}
use Rattle.replay_steps.proofs.FieldLemmas.{call_left, call_over}
use Rattle.replay_tasks.specs.declared.task.Task.TheVariants as task
use Rattle.replay_steps.proofs.field_calls.attempt_field.Goals as goal

pub returns-then-not-branch-clause-step : goal.returns-then-not-branch-clause-step
returns-then-not-branch-clause-step c =
    let old = c.args.activation.now in
    let new = c.try_call.new.variables in
    let left = subst (λ (b : Bool). TriesCall c.args.classes.now (shared_view c.args.shared.now) old.locals.variables c.in-Some-Invoke.i b (shared_view c.try_call.new.shared) new) c.if-not-branch.true c.in_ok-try_call.ensures in
    call_left c.args.classes.now (shared_view c.args.shared.now) (shared_view c.try_call.new.shared) old c.in-Some-Invoke.i new left

pub returns-clause-step : goal.returns-clause-step
returns-clause-step c =
    let old = c.args.activation.now in
    let i = c.in-Some-Invoke.i in
    let new = c.try_call.new.variables in
    let is : old.work.task ≡ Some (task.Invoke i) = search rules in
    let took = subst (λ (b : Bool). TriesCall c.args.classes.now (shared_view c.args.shared.now) old.locals.variables i b (shared_view c.try_call.new.shared) new) c.if-not-branch.false c.in_ok-try_call.ensures in
    call_over c.args.classes.now (shared_view c.args.shared.now) (shared_view c.try_call.new.shared) old i new c.begin_next.new.work is took c.in_ok-begin_next.ensures.tasks
