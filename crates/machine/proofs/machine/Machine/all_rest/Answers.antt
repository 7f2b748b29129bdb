use Rattle.std.proofs.Common.{◌≡◌, ℕ, suc, ◌+◌, ◌≤◌, List, length, refl, sym, ap, ◌∙◌, subst, arith}
use Rattle.std.specs.Prelude.{slice_get, not}
use Rattle.std.proofs.lemmas.Bool.{or_from, or_right}
use Rattle.std.proofs.lemmas.Option.{slice_get_read}
use Rattle.machine_threads.specs.declared.thread.Thread.{Thread}
use Rattle.machine.proofs.Standings.{all_resting, ended_more, goes_on, none_rest, rest_more}
use Rattle.machine.proofs.machine.Machine.all_rest.Goals as goal
use Rattle.machine.proofs.machine.Machine.all_rest.Goals.{else-is_unfinished-via-then-is_unfinished+else-not-waits, else-is_unfinished-via-else-is_unfinished}

pub loop-thread-init : goal.loop-thread-init
loop-thread-init c = record { counted = refl; rest = none_rest _ _ _ _ _ _ _ c.self.invariant c.args.self.now c.self.view_is }

pub returns-then-not-waits : goal.returns-then-not-waits
returns-then-not-waits c =
    let i = c.loop-thread.thread-index in
    let ts = c.deref-thread-items.result.now in
    let at = ap (λ (l : List Thread). slice_get l i) (sym c.deref-thread-items.ensures.value) ∙ slice_get_read ts (length ts) i c.thread-item.result refl c.loop-thread-test.true c.thread-item.is in
    goes_on _ _ _ _ _ _ _ c.self.invariant c.args.self.now c.self.view_is (c.loop-thread.k + 1) i c.thread-item.result (omega (arith, c.loop-thread.invariant.counted)) at c.waits.result c.waits.ensures
    (or_from _ c.waits.result (ap not (sym c.is_unfinished.ensures ∙ c.if-is_unfinished.true)) c.if-not-waits.true)

pub loop-thread-preserved : goal.loop-thread-preserved
loop-thread-preserved c =
    let i = c.loop-thread.thread-index in
    let ts = c.deref-thread-items.result.now in
    let at = ap (λ (l : List Thread). slice_get l i) (sym c.deref-thread-items.ensures.value) ∙ slice_get_read ts (length ts) i c.thread-item.result refl c.loop-thread-test.true c.thread-item.is in
    let counted : c.loop-thread.k + 1 ≡ suc i = omega (arith, c.loop-thread.invariant.counted) in
    record {
      counted = ap (λ (n : ℕ). n + 1) c.loop-thread.invariant.counted;
      rest = elim c.else-is_unfinished.branch [
        | else-is_unfinished-via-then-is_unfinished+else-not-waits w ↦
            rest_more _ _ _ _ _ _ _ c.self.invariant c.args.self.now c.self.view_is (c.loop-thread.k + 1) i c.thread-item.result counted at w.waits.result w.waits.ensures (or_right _ w.waits.result w.if-not-waits.false) c.loop-thread.invariant.rest
        | else-is_unfinished-via-else-is_unfinished w ↦
            ended_more _ _ _ _ _ _ _ c.self.invariant c.args.self.now c.self.view_is (c.loop-thread.k + 1) i c.thread-item.result counted at (sym c.is_unfinished.ensures ∙ w.if-is_unfinished.false) c.loop-thread.invariant.rest
      ];
    }

pub returns : goal.returns
returns c =
    let past = subst (λ (l : List Thread). length l ≤ c.loop-thread.thread-index) c.deref-thread-items.ensures.value c.loop-thread-test.false in
    all_resting _ _ _ _ _ _ _ c.self.invariant c.args.self.now c.self.view_is c.loop-thread.thread-index past c.loop-thread.invariant.rest
