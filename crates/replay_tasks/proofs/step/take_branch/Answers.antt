use Rattle.std.proofs.Common.{◌≡◌, sym, subst, rules}
use Rattle.semantics.specs.Sight.{seen}
use Rattle.replay_terms.specs.Views.{variables_view}
use Rattle.replay_tasks.specs.declared.task.Task.{Task}
use Rattle.replay_tasks.specs.declared.task.Task.TheVariants as task
use Rattle.replay_tasks.specs.Effects.{HasEffect}
use Rattle.replay_tasks.proofs.step.take_branch.Goals as goal

pub returns-in-Branch-clause-step : goal.returns-in-Branch-clause-step
returns-in-Branch-clause-step g c =
    let same : c.args.task.now ≡ task.Branch c.in-Branch.choice = search rules in
    subst (λ (u : Task). HasEffect (seen (variables_view c.args.variables.now) c.args.statics.now (g.O.Objects.heap c.args.objects.now)) u c.branch-objects.result (task.Branch c.branch-objects.new.choice)) (sym same) c.branch-objects.ensures.step

pub returns-in-Loop-clause-step : goal.returns-in-Loop-clause-step
returns-in-Loop-clause-step g c =
    let same : c.args.task.now ≡ task.Loop c.in-Loop.i = search rules in
    subst (λ (u : Task). HasEffect (seen (variables_view c.args.variables.now) c.args.statics.now (g.O.Objects.heap c.args.objects.now)) u c.turn.result (task.Loop c.turn.new.i)) (sym same) c.turn.ensures.step
