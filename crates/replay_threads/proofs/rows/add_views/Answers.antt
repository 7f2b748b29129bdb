use Rattle.std.proofs.Common.{◌≡◌, ◌+◌, ◌∷◌, drop, sym, ap, ◌∙◌}
use Rattle.semantics.specs.Views.{names_of}
use Rattle.std.proofs.lemmas.List.{drop_more}
use Rattle.replay_threads.specs.declared.thread.Thread.{Thread}
use Rattle.replay_threads.specs.States.{viewed_in}
use Rattle.replay_threads.proofs.AddedNames.{added_next}
use Rattle.replay_threads.proofs.rows.add_views.Goals as goal

pub loop-thread-preserved : goal.loop-thread-preserved
loop-thread-preserved c =
    let ts = c.args.threads.now in
    let i = c.loop-thread.thread-index in
    let x = c.thread-item.result in
    let after = drop (i + 1) ts in
    let here : drop i ts ≡ x ∷ after = drop_more ts i x c.loop-thread-test.true ∙ ap (λ (t : Thread). t ∷ after) (sym c.thread-item.is) in
    added_next viewed_in (drop i ts) after x (names_of c.loop-thread.names.items) _ _ here c.in_ok-push_views.ensures c.loop-thread.invariant
