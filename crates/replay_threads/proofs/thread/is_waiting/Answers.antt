use Rattle.replay_arguments.specs.Shares.{shared_view}
use Rattle.replay_threads.proofs.ThreadLemmas.{idle_free, waits_as}
use Rattle.replay_threads.proofs.thread.is_waiting.Goals as goal

pub returns-in-None : goal.returns-in-None
returns-in-None c = idle_free c.args.classes.now c.args.k (shared_view c.args.shared.now) c.args.thread.now c.in-None.is

pub returns-in-Some : goal.returns-in-Some
returns-in-Some c = waits_as c.args.classes.now c.args.k (shared_view c.args.shared.now) c.args.thread.now c.in-Some.activation c.waits.result c.in-Some.is c.waits.ensures
