use Rattle.std.proofs.Common.{◌≡◌, ℕ, ◌+◌, ◌≤◌, ◌<◌, ◌++◌, ◌∷◌, [], List, length, map, take, refl, sym, ap, ◌∙◌, subst, arith}
use Rattle.std.specs.Prelude.{slice_get}
use Rattle.std.proofs.lemmas.List.{map-append}
use Rattle.std.proofs.lemmas.Option.{slice_get_read}
use Rattle.class_rules.specs.Class.{Classes}
use Rattle.std.specs.Option.{option_map}
use Rattle.report.specs.declared.thread_status.ThreadStatus.{ThreadStatus}
use Rattle.report.specs.ThreadStatus.{standing_view}
use Rattle.semantics.specs.Report.{ThreadStanding}
use Rattle.machine_threads.specs.declared.thread.Thread.{Thread}
use Rattle.machine.specs.Run.{InState, standings_in}
use Rattle.semantics.specs.EventViews.{stop_view}
use Rattle.semantics.specs.ReportOf.{standing_at}
use Rattle.machine.proofs.Standings.{all_standings, no_standings, standing_more}
use Rattle.machine.proofs.machine.Machine.standings.Goals as goal

pub loop-thread-init : goal.loop-thread-init
loop-thread-init c = record {
  counted = refl;
  few = ap length c.new-standings.ensures;
  told = subst (λ (l : List ThreadStatus). InState c.args.self.now (λ s. map standing_view l ≡ take 0 (standings_in c.args.self.now.world.classes s))) (sym c.new-standings.ensures) (no_standings _ _ _ _ _ _ _ c.self.invariant c.args.self.now c.self.view_is);
}

pub push-requires : goal.push-requires
push-requires c =
    let many = ap length c.deref-thread-items.ensures.value in
    let few : length c.loop-thread.standings.items < 8 = omega (arith, many, c.loop-thread.invariant.few, c.loop-thread-test.true, c.self.invariant.few) in
    (omega arith, few)

pub loop-thread-preserved : goal.loop-thread-preserved
loop-thread-preserved c =
    let i = c.loop-thread.thread-index in
    let inside = c.self.inside in
    let ts = c.deref-thread-items.result.now in
    let at = ap (λ (l : List Thread). slice_get l i) (sym c.deref-thread-items.ensures.value) ∙ slice_get_read ts (length ts) i c.thread-item.result refl c.loop-thread-test.true c.thread-item.is in
    let told : List ThreadStanding = map standing_view c.loop-thread.standings.items in
    let more =
    standing_more _ _ _ _ _ _ _ c.self.invariant c.args.self.now c.self.view_is (c.loop-thread.k + 1) i c.thread-item.result (omega (arith, c.loop-thread.invariant.counted)) at c.waits-waits.result c.waits-waits.ensures told c.loop-thread.invariant.told in
    let same : map standing_view c.push.new.self.items ≡ told ++ standing_at inside.world.classes c.waits-waits.result (option_map stop_view inside.stop) (c.loop-thread.k + 1) c.thread-item.result.ending ∷ [] =
    ap (λ (l : List ThreadStatus). map standing_view l) c.push.ensures.items
    ∙ map-append standing_view c.loop-thread.standings.items (c.standing_of.result ∷ [])
    ∙ ap (λ (x : ThreadStanding). told ++ x ∷ []) (c.standing_of.ensures ∙ ap (λ (n : ℕ). standing_at c.classes.result.now c.waits-waits.result (option_map stop_view inside.stop) n c.thread-item.result.ending) c.from.ensures ∙ ap (λ (classes : Classes). standing_at classes c.waits-waits.result (option_map stop_view inside.stop) (c.loop-thread.k + 1) c.thread-item.result.ending) c.classes.ensures.classes) in
    record {
      counted = ap (λ (n : ℕ). n + 1) c.loop-thread.invariant.counted;
      few = c.push.ensures.len ∙ ap (λ (n : ℕ). n + 1) c.loop-thread.invariant.few;
      told = subst (λ (l : List ThreadStanding). InState c.args.self.now (λ s. l ≡ take (i + 1) (standings_in c.args.self.now.world.classes s))) (sym same) more;
    }

pub returns : goal.returns
returns c =
    let past = subst (λ (l : List Thread). length l ≤ c.loop-thread.thread-index) c.deref-thread-items.ensures.value c.loop-thread-test.false in
    all_standings _ _ _ _ _ _ _ c.self.invariant c.args.self.now c.self.view_is (map standing_view c.loop-thread.standings.items) c.loop-thread.thread-index past c.loop-thread.invariant.told
