use Rattle.std.proofs.Common.{rules, ap, ◌∙◌, subst}
use Rattle.std.proofs.lemmas.Result.{IfOk-weaker}
use Rattle.replay_arguments.specs.Shares.{shared_view}
use Rattle.replay_tasks.specs.Outcomes.{result_view}
use Rattle.replay_threads.specs.Threads.{AreCalling, last_first}
use Rattle.replay_threads.proofs.CallerLists.{last_is_first}
use Rattle.replay_threads.proofs.ThreadLemmas.{none_taken, taken_back}
use Rattle.replay_threads.proofs.thread.return_from.Goals as goal

pub resume_caller-requires : goal.resume_caller-requires
resume_caller-requires c = (subst AreCalling (ap last_first c.in-Some.ensures.items ∙ last_is_first c.pop.new.self.items c.in-Some.caller) c.requires).0

pub returns-in-Some : goal.returns-in-Some
returns-in-Some c = IfOk-weaker c.resume_caller.result _ _ (λ done e.
    taken_back c.args.k (shared_view c.args.shared.now) (shared_view c.resume_caller.new.shared) c.args.thread.now c.pop.new.self (result_view c.args.returned) c.in-Some.caller c.resume_caller.new.thread c.in-Some.ensures.items e) c.resume_caller.ensures

pub returns-in-None : goal.returns-in-None
returns-in-None c = none_taken c.args.k (shared_view c.args.shared.now) (shared_view c.leave.new.shared) c.args.thread.now c.pop.new.self (result_view c.args.returned) c.leave.new.thread (search rules) (search rules) c.leave.ensures
