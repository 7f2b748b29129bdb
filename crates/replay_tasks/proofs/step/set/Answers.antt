use Rattle.semantics.specs.Sight.{seen}
use Rattle.replay_terms.specs.Views.{variables_view}
use Rattle.replay_tasks.proofs.EffectLemmas.{set_reduces}
use Rattle.replay_tasks.proofs.step.set.Goals as goal

pub returns-in_default-clause-step : goal.returns-in_default-clause-step
returns-in_default-clause-step g c =
    rw c.reduced.ensures.view (set_reduces (seen (variables_view c.args.variables.now) c.args.statics.now (g.O.Objects.heap c.args.objects.now)) c.args.a.now.line _ _ _ c.in_default.not-Done c.reduce.ensures.step c.args.a.now.name)
