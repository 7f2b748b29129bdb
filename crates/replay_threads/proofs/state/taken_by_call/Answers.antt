use Rattle.std.proofs.Common.{Option, length, sym, ap, ◌∙◌}
use Rattle.replay_steps.specs.declared.activation.Activation.{Activation}
use Rattle.semantics.specs.Thread.{lengths_copied, objects_viewed}
use Rattle.replay_threads.specs.States.{variables_at, variables_of}
use Rattle.replay_threads.proofs.BufferLemmas.{total_copied, total_viewed}
use Rattle.replay_threads.proofs.state.taken_by_call.Goals as goal

pub returns-in-Some-clause-copied : goal.returns-in-Some-clause-copied
returns-in-Some-clause-copied c =
    c.in_use.ensures.copied
    ∙ total_copied (variables_at c.in-Some.activation)
    ∙ ap (λ (o : Option Activation). lengths_copied (variables_of o)) (sym c.in-Some.is)

pub returns-in-Some-clause-views : goal.returns-in-Some-clause-views
returns-in-Some-clause-views c =
    c.in_use.ensures.views
    ∙ total_viewed (variables_at c.in-Some.activation)
    ∙ ap (λ (o : Option Activation). length (objects_viewed (variables_of o))) (sym c.in-Some.is)
