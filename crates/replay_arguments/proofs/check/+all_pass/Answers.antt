use Rattle.std.proofs.Common.{ap, ◌∷◌, ◌∙◌}
use Rattle.syntax.specs.declared.unit.Parameter.{Parameter}
use Rattle.replay_arguments.specs.declared.actual.Actual.{Actual}
use Rattle.replay_arguments.proofs.PassedActuals.{after_first, first_fits, first_is, first_misfits}
use Rattle.replay_arguments.proofs.check.+all_pass.Goals as goal

pub returns-then-passes : goal.returns-then-passes
returns-then-passes t c = λ heap.
    let ps = c.args.parameters.now in
    let actuals = c.args.actuals.now in
    first_fits heap c.parameter-item.result c.actual-item.result ps actuals c.passes.result c.all_pass.result
    (ap (λ (p : Parameter). p ∷ after_first ps) c.parameter-item.is ∙ first_is ps c.parameter-item.result c.in-len1-up.len_at_least)
    (ap (λ (a : Actual). a ∷ after_first actuals) c.actual-item.is ∙ first_is actuals c.actual-item.result c.in-len1-up-actuals.len_at_least)
    c.if-passes.true (c.passes.ensures heap) (c.all_pass.ensures heap)

pub returns-else-passes : goal.returns-else-passes
returns-else-passes t c = λ heap.
    let ps = c.args.parameters.now in
    let actuals = c.args.actuals.now in
    first_misfits heap c.parameter-item.result c.actual-item.result ps actuals c.passes.result
    (ap (λ (p : Parameter). p ∷ after_first ps) c.parameter-item.is ∙ first_is ps c.parameter-item.result c.in-len1-up.len_at_least)
    (ap (λ (a : Actual). a ∷ after_first actuals) c.actual-item.is ∙ first_is actuals c.actual-item.result c.in-len1-up-actuals.len_at_least)
    c.if-passes.false (c.passes.ensures heap)
