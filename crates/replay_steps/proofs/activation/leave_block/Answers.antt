use Rattle.std.proofs.Common.{Bool, sym, subst}
use Rattle.replay_tasks.specs.declared.outcome.Outcome.TheVariants as outcome
use Rattle.replay_steps.specs.Activations.{Advances, Leaves}
use Rattle.replay_steps.proofs.ActivationLemmas.{nothing_to_refuse}
use Rattle.replay_steps.proofs.activation.leave_block.Goals as goal

pub returns-then-turn-clause-step : goal.returns-then-turn-clause-step
returns-then-turn-clause-step c = λ scene.
    let old = c.args.work.now in
    subst (λ b. Advances b scene old outcome.Impossible scene old) (sym c.if-turn.true) (nothing_to_refuse scene old old c.requires.task c.requires.rest)

pub returns-then-branch-clause-step : goal.returns-then-branch-clause-step
returns-then-branch-clause-step c = λ scene.
    let old = c.args.work.now in
    let new = c.leave.new.work in
    let left = subst (λ (b : Bool). Leaves scene old b new) c.if-branch.true (c.in_ok-leave.ensures.step scene) in
    subst (λ b. Advances b scene old outcome.Stays scene new) (sym c.if-turn.false) left

pub returns-clause-step : goal.returns-clause-step
returns-clause-step c = λ scene.
    let old = c.args.work.now in
    let new = c.leave.new.work in
    let left = subst (λ (b : Bool). Leaves scene old b new) c.if-branch.false (c.in_ok-leave.ensures.step scene) in
    subst (λ b. Advances b scene old outcome.Impossible scene new) (sym c.if-turn.false) left
