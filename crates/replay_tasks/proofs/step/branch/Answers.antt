use Rattle.std.proofs.Common.{◌≡◌, true, false}
use Rattle.semantics.specs.Task.{EndIf}
use Rattle.replay_terms.specs.declared.term.Term.TheVariants as term
use Rattle.semantics.specs.declared.value.Value.TheVariants as value
use Rattle.semantics.specs.Sight.{seen}
use Rattle.replay_terms.specs.Views.{variables_view}
use Rattle.replay_tasks.proofs.EffectLemmas.{block_entered, else_entered, branch_reduces}
use Rattle.replay_tasks.proofs.step.branch.Goals as goal

pub returns-in_default-clause-step : goal.returns-in_default-clause-step
returns-in_default-clause-step g c =
    rw c.reduced.ensures.view (branch_reduces (seen (variables_view c.args.variables.now) c.args.statics.now (g.O.Objects.heap c.args.objects.now)) c.args.choice.now.line _ _ _ c.in_default.not-Done c.reduce.ensures.step c.args.choice.now.block c.args.choice.now.otherwise)

pub returns-in-Truth-true-clause-step : goal.returns-in-Truth-true-clause-step
returns-in-Truth-true-clause-step g c =
    let shape : c.args.choice.now.test ≡ term.Done (value.Truth true) = cc in
    rw shape (block_entered c.args.choice.now.block EndIf)

pub returns-in-Truth-false-clause-step : goal.returns-in-Truth-false-clause-step
returns-in-Truth-false-clause-step g c =
    let shape : c.args.choice.now.test ≡ term.Done (value.Truth false) = cc in
    rw shape (else_entered c.args.choice.now.line c.args.choice.now.otherwise EndIf)
