use Rattle.std.proofs.Common.{◌≡◌, true}
use Rattle.syntax.specs.Views.{expr_tree, block_tree}
use Rattle.semantics.specs.Task.{EndTurn}
use Rattle.replay_terms.specs.declared.term.Term.TheVariants as term
use Rattle.semantics.specs.declared.value.Value.TheVariants as value
use Rattle.semantics.specs.Sight.{seen}
use Rattle.replay_terms.specs.Views.{variables_view}
use Rattle.replay_tasks.proofs.EffectLemmas.{block_entered, loop_reduces}
use Rattle.replay_tasks.proofs.step.turn.Goals as goal

pub returns-in_default-clause-step : goal.returns-in_default-clause-step
returns-in_default-clause-step g c =
    rw c.reduced.ensures.view (loop_reduces (seen (variables_view c.args.variables.now) c.args.statics.now (g.O.Objects.heap c.args.objects.now)) c.args.i.now.line _ _ _ c.in_default.not-Done c.reduce.ensures.step c.args.i.now.test c.args.i.now.body)

pub returns-in-Truth-true-clause-step : goal.returns-in-Truth-true-clause-step
returns-in-Truth-true-clause-step g c =
    let shape : c.args.i.now.term ≡ term.Done (value.Truth true) = cc in
    rw shape (block_entered c.args.i.now.body (EndTurn c.args.i.now.line (expr_tree c.args.i.now.test.now) (block_tree c.args.i.now.body.now)))
