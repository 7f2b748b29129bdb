use Rattle.replay_arguments.specs.Shares.{shared_view}
use Rattle.semantics.specs.Views.{name_of}
use Rattle.replay_steps.proofs.WaitLemmas.{waits_so}
use Rattle.replay_steps.proofs.wait.waits.Goals as goal

pub returns : goal.returns
returns c =
    let locals = c.args.activation.now.locals in
    waits_so c.args.classes.now c.args.thread (shared_view c.args.shared.now) locals.variables locals.frames (name_of c.args.pending) c.args.activation.now.work c.task_waits.result c.task_waits.ensures
