use Rattle.std.proofs.Common.{◌≡◌, sym, subst}
use Rattle.semantics.specs.Sight.{seen}
use Rattle.replay_terms.specs.declared.term.Term.{Term}
use Rattle.replay_terms.specs.declared.term.Term.TheVariants as term
use Rattle.replay_terms.specs.Views.{variables_view}
use Rattle.replay_tasks.specs.Tasks.{element_task}
use Rattle.replay_tasks.specs.Effects.{HasEffect}
use Rattle.replay_tasks.proofs.EffectLemmas.{element_reduces, index_reduces}
use Rattle.replay_tasks.proofs.step.set_element.Goals as goal

pub returns-in-Done-number-clause-step : goal.returns-in-Done-number-clause-step
returns-in-Done-number-clause-step g c =
    let a = c.args.a.now in
    let sight = seen (variables_view c.args.variables.now) c.args.statics.now (g.O.Objects.heap c.args.objects.now) in
    let new = element_task a.line a.name (term.Done c.in-Done.index) (term.Done c.in-Done-number.number) in
    subst (λ (i : Term). HasEffect sight (element_task a.line a.name i a.number) c.write.result new) (sym c.in-Done.is)
    (subst (λ (t : Term). HasEffect sight (element_task a.line a.name (term.Done c.in-Done.index) t) c.write.result new) (sym c.in-Done-number.is)
    (c.write.ensures.step c.args.statics.now))

pub returns-in_default-number-clause-step : goal.returns-in_default-number-clause-step
returns-in_default-number-clause-step g c =
    let a = c.args.a.now in
    let sight = seen (variables_view c.args.variables.now) c.args.statics.now (g.O.Objects.heap c.args.objects.now) in
    subst (λ (i : Term). HasEffect sight (element_task a.line a.name i a.number) c.reduced.result (element_task a.line a.name (term.Done c.in-Done.index) c.reduce.new.term)) (sym c.in-Done.is)
    (rw c.reduced.ensures.view (element_reduces sight a.line _ _ _ c.in_default-number.not-Done c.reduce.ensures.step a.name c.in-Done.index))

pub returns-in_default-clause-step : goal.returns-in_default-clause-step
returns-in_default-clause-step g c =
    let a = c.args.a.now in
    rw c.reduced-in_default.ensures.view (index_reduces (seen (variables_view c.args.variables.now) c.args.statics.now (g.O.Objects.heap c.args.objects.now)) a.line _ _ _ c.in_default.not-Done c.reduce-in_default.ensures.step a.name a.number)
