use Rattle.std.proofs.Common.{ap}
use Rattle.replay_terms.specs.Views.{held_view}
use Rattle.replay_terms.proofs.WeakStatics.{one_named, none_named}
use Rattle.replay_terms.proofs.statics.add_weak.Goals as goal
use Rattle.replay_terms.proofs.statics.add_weak.Goals.{in-Weakly+in_ok-push, in_default}

pub loop-place-preserved : goal.loop-place-preserved
loop-place-preserved c =
    elim c.match-index.branch [
      | in-Weakly+in_ok-push w ↦
          rw (w.names-is, w.in_ok-push.ensures.items)
          (one_named c.loop-place.names.items c.args.held.now.entries c.loop-place.place w.in-Weakly.name c.index.result.now _ c.index.ensures (ap held_view w.in-Weakly.is) c.loop-place.invariant)
      | in_default w ↦
          rw (w.names-is) (none_named c.loop-place.names.items c.args.held.now.entries c.loop-place.place c.index.result.now _ c.index.ensures (λ o e. w.in_default.not-Weakly o e) c.loop-place.invariant)
    ]
