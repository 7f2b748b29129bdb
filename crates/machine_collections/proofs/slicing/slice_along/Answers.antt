use Rattle.std.proofs.Common.{◌≡◌, ◌≤◌, ℕ, length, List, refl, sym, ap, ◌∙◌, subst, arith}
use Rattle.std.specs.Prelude.{IsSome}
use Rattle.heap.specs.Heap.{Space, bare}
use Rattle.compact.specs.Reach.{IsClosed}
use Rattle.compact.specs.Slices.{HasMarked}
use Rattle.semantics.specs.Views.{names_of}
use Rattle.machine_scenes.specs.declared.store.Store.{Store}
use Rattle.machine_collections.specs.Roots.{root_places}
use Rattle.machine_collections.specs.Slices.{AreSliced}
use Rattle.machine_collections.proofs.PutTogether.{cleared_of, referred_of}
use Rattle.machine_collections.proofs.slicing.slice_along.Goals as goal
use Rattle.machine_collections.proofs.slicing.slice_along.Goals.{In-Some}

pub mark_waiting-requires-clause-closed : goal.mark_waiting-requires-clause-closed
mark_waiting-requires-clause-closed c = subst IsClosed (sym c.lend_table.ensures.same) c.requires.referred.closed

marked : (c : In-Some) → HasMarked c.args.store.now.heap c.mark_waiting.new.heap (root_places c.args.store.now c.args.threads.now) c.in-Some.marked
marked c =
    let roots = root_places c.args.store.now c.args.threads.now in
    subst (λ (x : Space). HasMarked x c.mark_waiting.new.heap roots c.in-Some.marked) c.lend_table.ensures.same (c.in-Some.ensures.part roots)

pub slice_rest-cleared-requires-clause-referred : goal.slice_rest-cleared-requires-clause-referred
slice_rest-cleared-requires-clause-referred c =
    let h = marked (goal.at.slice_rest-cleared-requires-clause-referred c).In-Some in
    referred_of c.args.store.now c.args.threads.now c.mark_waiting.new.heap (sym (ap bare h.heap)) c.requires.referred

pub slice_rest-cleared-requires-clause-begun : goal.slice_rest-cleared-requires-clause-begun
slice_rest-cleared-requires-clause-begun c = (c.args.store.now.heap, marked (goal.at.slice_rest-cleared-requires-clause-begun c).In-Some)

pub slice_rest-cleared-requires-clause-under_way : goal.slice_rest-cleared-requires-clause-under_way
slice_rest-cleared-requires-clause-under_way c =
    let h = marked (goal.at.slice_rest-cleared-requires-clause-under_way c).In-Some in
    subst (λ (x : Space). IsSome x.marking) (sym h.heap) refl

pub slice_rest-cleared-requires-clause-count : goal.slice_rest-cleared-requires-clause-count
slice_rest-cleared-requires-clause-count c =
    let h = marked (goal.at.slice_rest-cleared-requires-clause-count c).In-Some in
    ap (λ (l : List ℕ). length l) c.deref_mut.ensures.value ∙ c.in_ok-to.ensures.count ∙ sym (ap (λ (x : Space). x.cells) h.heap)

pub slice_rest-cleared-requires-clause-limit : goal.slice_rest-cleared-requires-clause-limit
slice_rest-cleared-requires-clause-limit c =
    let h = marked (goal.at.slice_rest-cleared-requires-clause-limit c).In-Some in
    let cells = ap (λ (x : Space). x.cells) h.heap in
    omega (arith, cells, c.in_ok-to.ensures.limit)

pub returns-clause-ok : goal.returns-clause-ok
returns-clause-ok c =
    let after = c.slice_rest-cleared.new.store in
    let rest = c.slice_rest-cleared.ensures.sliced c.args.store.now.heap (marked (goal.at.returns-clause-ok c).In-Some) in
    subst (λ (x : Space). let y : Store = record after { heap = x } in AreSliced c.args.store.now c.args.threads.now y c.slice_rest-cleared.new.threads) (sym c.put_table-2.ensures) rest

pub returns-clause-cleared : goal.returns-clause-cleared
returns-clause-cleared c =
    let h = marked (goal.at.returns-clause-cleared c).In-Some in
    cleared_of c.mark_waiting.new.heap c.args.store.now.heap c.args.store.now.statics.items c.args.store.now.weaks c.slice_rest-cleared.new.store.weaks (names_of c.slice_rest-cleared.result.items) (ap bare h.heap) c.slice_rest-cleared.ensures.cleared
