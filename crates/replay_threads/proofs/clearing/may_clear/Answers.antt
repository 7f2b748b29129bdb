use Rattle.std.proofs.Common.{◌+◌, ◌++◌, Bool, List, ℕ, filter, length, sym, ap, ◌∙◌, arith}
use Rattle.std.specs.Prelude.{not}
use Rattle.std.specs.List.{list_all, list_any}
use Rattle.reachability.specs.Marks.{is_marked}
use Rattle.semantics.specs.World.{World}
use Rattle.semantics.specs.declared.object_id.ObjectId.{ObjectId}
use Rattle.semantics.specs.Reachable.{is_in}
use Rattle.semantics.specs.Views.{names_of}
use Rattle.replay_arguments.specs.Shares.{shared_view}
use Rattle.replay_threads.specs.declared.thread.Thread.{Thread}
use Rattle.replay_threads.specs.Rows.{root_names}
use Rattle.replay_threads.proofs.ClearingLemmas.{by_marks, unheld, unrising}
use Rattle.replay_threads.proofs.clearing.may_clear.Goals as goal

pub returns-then-not-are_rising : goal.returns-then-not-are_rising
returns-then-not-are_rising c = λ unit w s h. unrising unit w c.args.state.now s h (names_of c.args.names.now) (sym c.if-not-are_rising.ensures)

pub returns-then-not-all_among : goal.returns-then-not-all_among
returns-then-not-all_among c =
    λ unit w s h.
    let names = names_of c.args.names.now in
    unheld unit w c.args.state.now s h names (names_of c.in_ok-held.held.items) c.in_ok-held.ensures (ap (λ (l : List ObjectId). list_all (is_in (names_of l)) names) (sym c.deref.ensures.value) ∙ sym c.if-not-all_among.ensures)

pub returns : goal.returns
returns c =
    λ unit w s h.
    let m = c.args.state.now in
    let names = names_of c.args.names.now in
    let held = names_of c.in_ok-held.held.items in
    let among = ap (λ (l : List ObjectId). list_all (is_in (names_of l)) names) (sym c.deref.ensures.value) ∙ sym c.if-not-all_among.ensures in
    let rooted = c.in_ok-from.ensures ∙ ap (λ (ts : List Thread). root_names (shared_view m.shared) ts) c.deref-2.ensures.value in
    let from_is =
    ap names_of c.deref-4.ensures.value
    ∙ c.in_ok-add_beside.ensures
    ∙ ap (λ (l : List ObjectId). names_of c.in_ok-from.from.items ++ filter (λ n. not (is_in names n)) (names_of l)) c.deref-3.ensures.value
    ∙ ap (λ (l : List ℕ). l ++ filter (λ n. not (is_in names n)) held) rooted in
    ap not c.some_marked.ensures
    ∙ ap (λ (l : List Bool). not (list_any (is_marked l) names)) c.deref-5.ensures.value
    ∙ by_marks unit w m s h names held (names_of c.deref-4.result.now) (c.made_before.result + length c.objects.result.now) c.in_ok-reached.reached.items (sym c.if-not-are_rising.ensures) c.in_ok-held.ensures among from_is
    (omega (arith, c.made_before.ensures.count, ap (λ os. length os) c.objects.ensures.objects, ap (λ (v : World). length v.classes) h.world, ap (λ (v : World). length v.objects) h.world)) c.in_ok-reached.ensures
