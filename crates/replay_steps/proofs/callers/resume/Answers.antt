use Rattle.std.proofs.Common.{Option, ap, ◌∙◌, rules}
use Rattle.std.proofs.lemmas.Result.{IfOk-weaker}
use Rattle.jni.specs.Table.{Facts}
use Rattle.semantics.specs.Views.{name_of}
use Rattle.replay_arguments.specs.Shares.{shared_view}
use Rattle.replay_steps.specs.Activations.{tasks_after, tasks_from}
use Rattle.replay_steps.specs.declared.activation.Activation.{Activation}
use Rattle.replay_tasks.specs.Outcomes.{result_view}
use Rattle.replay_tasks.specs.declared.task.Task.{Task}
use Rattle.replay_steps.proofs.CallerLemmas.{resumes}
use Rattle.replay_steps.proofs.callers.resume.Goals as goal

pub returns-clause-step : goal.returns-clause-step
returns-clause-step c = IfOk-weaker c.begin.result _ _ (λ done left.
    let old = c.args.caller.now in
    let new : Activation = record { work = c.begin.new.work; locals = c.put_result.new.locals } in
    resumes (shared_view c.args.shared.now) (name_of c.args.pending) (result_view c.args.returned) old new c.in-Some-Invoke.i (search rules) c.given_back-given.result c.prototype.result.now.result c.put_local.new.frames c.put_result.new.statics
    (ap (λ (x : Facts). x.prototype.result) c.prototype.ensures) c.given_back-given.ensures c.in_ok-put_local.ensures c.in_ok-put_result.ensures.variables c.put_result.ensures.frames
    (left ∙ ap (λ (o : Option Task). tasks_from o (tasks_after old.work.rest old.work.outer.items)) c.end_task.ensures)) c.begin.ensures.tasks
