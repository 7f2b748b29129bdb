use Rattle.std.proofs.Common.{None, refl, sym, ◌∙◌, subst}
use Rattle.replay_steps.specs.declared.activation.Work.{Work}
use Rattle.replay_steps.specs.Activations.{OuterInRange}
use Rattle.replay_tasks.specs.Tasks.{StatementsInRange}
use Rattle.replay_steps.proofs.ActivationLemmas.{body_tasks}
use Rattle.replay_steps.proofs.activation.work_of.Goals as goal

pub begin-requires : goal.begin-requires
begin-requires c = record { begun = tt; rest = subst StatementsInRange (sym c.of.ensures) c.requires; outer = subst OuterInRange (sym c.new.ensures.items) tt }

pub returns-clause-tasks : goal.returns-clause-tasks
returns-clause-tasks c =
    let work : Work = record { task = None; rest = c.of.result; outer = c.new.result } in
    c.in_ok-begin.ensures.tasks ∙ body_tasks c.args.body work refl c.of.ensures c.new.ensures.items

pub returns-clause-range : goal.returns-clause-range
returns-clause-range c = record { range = c.in_ok-begin.ensures.range; next = c.in_ok-begin.ensures.next }
