use Rattle.semantics.specs.Sight.{seen}
use Rattle.replay_terms.specs.Views.{variables_view}
use Rattle.replay_tasks.proofs.EffectLemmas.{print_reduces}
use Rattle.replay_tasks.proofs.step.print.Goals as goal

pub returns-in_default-clause-step : goal.returns-in_default-clause-step
returns-in_default-clause-step g c =
    rw c.reduced.ensures.view (print_reduces (seen (variables_view c.args.variables.now) c.args.statics.now (g.O.Objects.heap c.args.objects.now)) c.args.e.now.line _ _ _ c.in_default.not-Done c.reduce.ensures.step)
