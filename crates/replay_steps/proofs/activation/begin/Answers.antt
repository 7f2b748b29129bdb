use Rattle.std.proofs.Common.{refl, sym, ◌∙◌}
use Rattle.std.proofs.lemmas.Result.{IfOk-weaker}
use Rattle.base.proofs.Options.{none_there}
use Rattle.replay_steps.proofs.ActivationLemmas.{none_begun}
use Rattle.replay_steps.proofs.activation.begin.Goals as goal

pub returns-clause-tasks : goal.returns-clause-tasks
returns-clause-tasks c =
    let old = c.args.work.now in
    IfOk-weaker c.begin_next.result _ _ (λ u left. left ∙ sym (none_begun old old (none_there old.task (sym c.is_some.ensures ∙ c.if-is_some.false)) refl refl)) c.begin_next.ensures.tasks

pub returns-clause-range : goal.returns-clause-range
returns-clause-range c = IfOk-weaker c.begin_next.result _ _ (λ u known. known.range) c.begin_next.ensures.range

pub returns-clause-next : goal.returns-clause-next
returns-clause-next c = IfOk-weaker c.begin_next.result _ _ (λ u known. known.next) c.begin_next.ensures.range
