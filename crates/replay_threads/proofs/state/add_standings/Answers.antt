use Rattle.std.proofs.Common.{◌≡◌, ℕ, suc, ◌+◌, ◌≤◌, ◌++◌, ◌∷◌, [], List, length, map, take, refl, ap, sym, ◌∙◌, subst, arith}
use Rattle.std.specs.Prelude.{slice_get}
use Rattle.std.proofs.lemmas.List.{map-append}
use Rattle.std.proofs.lemmas.Option.{slice_get_read}
use Rattle.report.specs.declared.thread_status.ThreadStatus.{ThreadStatus}
use Rattle.report.specs.ThreadStatus.{standing_view}
use Rattle.semantics.specs.Report.{ThreadStanding}
use Rattle.replay_threads.specs.declared.thread.Thread.{Thread}
use Rattle.replay_threads.specs.States.{standings_of}
use Rattle.replay_threads.proofs.StateLemmas.{standing_more, standings_all}
use Rattle.replay_threads.proofs.state.add_standings.Goals as goal

pub loop-thread-init : goal.loop-thread-init
loop-thread-init c = record { counted = refl; told = λ unit w s h range. ap (map standing_view) c.requires }

pub loop-thread-preserved : goal.loop-thread-preserved
loop-thread-preserved c =
    let i = c.loop-thread.thread-index in
    let ts = c.deref-thread-items.result.now in
    let at = ap (λ (l : List Thread). slice_get l i) (sym c.deref-thread-items.ensures.value) ∙ slice_get_read ts (length ts) i c.thread-item.result refl c.loop-thread-test.true c.thread-item.is in
    let counted : c.loop-thread.k + 1 ≡ suc i = omega (arith, c.loop-thread.invariant.counted) in
    let next : suc i ≡ i + 1 = omega arith in
    let told : List ThreadStanding = map standing_view c.loop-thread.standings.items in
    record {
      counted = ap (λ (n : ℕ). n + 1) c.loop-thread.invariant.counted;
      told = λ unit w s h range.
          ap (λ (l : List ThreadStatus). map standing_view l) c.in_ok-push.ensures.items
          ∙ map-append standing_view c.loop-thread.standings.items (c.standing_of.result ∷ [])
          ∙ ap (λ (x : ThreadStanding). told ++ x ∷ []) c.standing_of.ensures
          ∙ standing_more unit w c.args.state.now s h range told i (c.loop-thread.k + 1) c.thread-item.result c.classes-classes.result.now c.waits-waits.result counted at c.classes-classes.ensures.classes (c.waits-waits.ensures unit w s h range)
          (c.loop-thread.invariant.told unit w s h range)
          ∙ ap (λ (n : ℕ). take n (standings_of w.classes s)) next;
    }

pub returns : goal.returns
returns c = λ unit w s h range.
    let past = subst (λ (l : List Thread). length l ≤ c.loop-thread.thread-index) c.deref-thread-items.ensures.value c.loop-thread-test.false in
    standings_all unit w c.args.state.now s h range (map standing_view c.loop-thread.standings.items) c.loop-thread.thread-index past (c.loop-thread.invariant.told unit w s h range)
