use Rattle.std.proofs.Common.{[], ◌∷◌, refl, sym, ap, ◌∙◌}
use Rattle.base.specs.Bytes.{lookup}
use Rattle.semantics.specs.Effect.{is_ready}
use Rattle.semantics.specs.Sight.{scalar}
use Rattle.semantics.specs.Task.{NumberOperand}
use Rattle.replay_terms.specs.Views.{operands_view, term_view, variables_view}
use Rattle.replay_terms.specs.declared.operand.Operands.{Operands}
use Rattle.replay_steps.proofs.Invocations.{all_ready, ready_after}
use Rattle.replay_steps.proofs.wait.is_ready.Goals as goal

pub returns-in-Given : goal.returns-in-Given
returns-in-Given c =
    let vs = variables_view c.args.variables.now in
    sym (ap (λ (os : Operands). is_ready (λ x. scalar (lookup x vs)) (operands_view os)) c.in-Given.is ∙ all_ready (λ x. scalar (lookup x vs)) c.in-Given.field-0.now)

pub returns-in-Done : goal.returns-in-Done
returns-in-Done c =
    let vs = variables_view c.args.variables.now in
    sym (ap (λ (os : Operands). is_ready (λ x. scalar (lookup x vs)) (operands_view os)) c.in-Last.is
    ∙ ready_after (λ x. scalar (lookup x vs)) c.in-Last.field-0.now (NumberOperand (term_view c.in-Last.number) ∷ [])
    ∙ rw c.in-Done.is refl)
