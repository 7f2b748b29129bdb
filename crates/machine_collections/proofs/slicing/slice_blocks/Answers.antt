use Rattle.std.proofs.Common.{◌≡◌, ap, subst}
use Rattle.std.specs.Prelude.{OnOk}
use Rattle.heap.specs.Heap.{Space}
use Rattle.machine_scenes.specs.declared.store.Store.{Store}
use Rattle.machine_collections.specs.Slices.{AreSliced}
use Rattle.machine_collections.proofs.slicing.slice_blocks.Goals as goal

pub returns-in-None-clause-ok : goal.returns-in-None-clause-ok
returns-in-None-clause-ok c =
    let store = c.args.store.now in
    let same : record store { heap = c.mark_on.new.heap } ≡ store = ap (λ (t : Space). let s : Store = record store { heap = t } in s) (c.mark_on.ensures.no c.if-mark_on.false) in
    subst (λ (s : Store). OnOk c.slice_from_roots.result (AreSliced s c.args.threads.now c.slice_from_roots.new.store c.slice_from_roots.new.threads)) same c.slice_from_roots.ensures.ok

pub returns-in-Some-clause-ok : goal.returns-in-Some-clause-ok
returns-in-Some-clause-ok c =
    let store = c.args.store.now in
    let same : record store { heap = c.mark_on.new.heap } ≡ store = ap (λ (t : Space). let s : Store = record store { heap = t } in s) (c.mark_on.ensures.no c.if-mark_on.false) in
    subst (λ (s : Store). OnOk c.slice_along.result (AreSliced s c.args.threads.now c.slice_along.new.store c.slice_along.new.threads)) same c.slice_along.ensures.ok
