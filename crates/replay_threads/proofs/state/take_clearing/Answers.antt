use Rattle.std.proofs.Common.{◌≡◌, refl, ap, subst}
use Rattle.semantics.specs.Thread.{Shared}
use Rattle.semantics.specs.Variable.{Statics}
use Rattle.semantics.specs.Views.{names_of}
use Rattle.semantics.specs.WeakReferences.{may_clear}
use Rattle.replay_arguments.specs.Shares.{shared_view}
use Rattle.replay_threads.proofs.ClearingLemmas.{clears, refuses}
use Rattle.replay_threads.proofs.state.take_clearing.Goals as goal

pub returns-then-not-branch-clause-step : goal.returns-then-not-branch-clause-step
returns-then-not-branch-clause-step c =
    λ unit w s h.
    refuses unit w c.args.state.now s h (names_of c.args.names.now) c.args.state.now (subst (λ b. b ≡ may_clear w s (names_of c.args.names.now)) c.if-not-branch.true (c.in_ok-may_clear.ensures unit w s h))

pub returns-clause-step : goal.returns-clause-step
returns-clause-step c =
    λ unit w s h.
    clears unit w c.args.state.now s h (names_of c.args.names.now) _ (subst (λ b. b ≡ may_clear w s (names_of c.args.names.now)) c.if-not-branch.false (c.in_ok-may_clear.ensures unit w s h)) refl refl refl refl
    (ap (λ (ss : Statics). let x : Shared = record (shared_view c.args.state.now.shared) { statics = ss } in x) c.clear.ensures)
