use Rattle.std.proofs.Common.{◌≡◌, None, sym, ◌∙◌}
use Rattle.heap.specs.Heap.{Space}
use Rattle.compact.specs.Slices as compact
use Rattle.semantics.specs.Views.{names_of}
use Rattle.tables.specs.Weaks.{weak_places}
use Rattle.machine_collections.specs.Roots.{root_places}
use Rattle.machine_collections.proofs.PutTogether.{as_many_weak, cleared_told, ended_of, left_of_listed, no_marks, sliced_along, sliced_whole, some_marks}
use Rattle.machine_collections.proofs.slicing.slice_rest.Goals as goal
use Rattle.machine_collections.proofs.slicing.slice_rest.Goals.{In-None}

unmarked : (c : In-None) → c.slice_on.new.heap.marking ≡ None
unmarked c = no_marks c.slice_on.new.heap.marking (sym c.marked.ensures ∙ c.in-None.is)

-- what was ended, since a heap from which on so many blocks were marked
ended : (c : In-None) (s : Space) → compact.HasMarked s c.args.store.now.heap (root_places c.args.store.now c.args.threads.now) c.args.marked → compact.HasEnded s c.slice_on.new.heap (root_places c.args.store.now c.args.threads.now) c.slice_on.new.roots.places.items (weak_places c.args.store.now.weaks) c.slice_on.new.weak.places.items
ended c s h =
    let g = c.fill_all.new.gathered in
    ended_of s c.args.store.now c.args.threads.now c.slice_on.new.heap c.slice_on.new.roots.places.items c.slice_on.new.weak.places.items (unmarked c)
    (left_of_listed s c.args.store.now c.args.threads.now c.slice_on.new.heap c.slice_on.new.roots.places.items c.slice_on.new.weak.places.items g.roots.places.items g.weak.places.items c.fill_all.ensures.roots c.fill_all.ensures.weak
    (c.slice_on.ensures.sliced s (rw (sym c.fill_all.ensures.roots) at h)))

pub put_all-requires-clause-roots : goal.put_all-requires-clause-roots
put_all-requires-clause-roots c =
    let e = ended (goal.at.put_all-requires-clause-roots c).In-None c.requires.begun.0 c.requires.begun.1 in
    (e.same.same.to, e.same.same.places)

pub put_all-requires-clause-weak : goal.put_all-requires-clause-weak
put_all-requires-clause-weak c =
    as_many_weak c.requires.begun.0 c.args.store.now c.args.threads.now c.slice_on.new.heap c.slice_on.new.roots.places.items c.slice_on.new.weak.places.items
    (ended (goal.at.put_all-requires-clause-weak c).In-None c.requires.begun.0 c.requires.begun.1)

pub returns-in-Some-clause-sliced : goal.returns-in-Some-clause-sliced
returns-in-Some-clause-sliced c = λ s h.
    let g = c.fill_all.new.gathered in
    let m = some_marks c.slice_on.new.heap.marking c.in-Some.field-0 (sym c.marked.ensures ∙ c.in-Some.is) in
    sliced_along s c.args.store.now c.args.threads.now c.slice_on.new.heap c.slice_on.new.roots.places.items c.slice_on.new.weak.places.items m.0 m.1
    (left_of_listed s c.args.store.now c.args.threads.now c.slice_on.new.heap c.slice_on.new.roots.places.items c.slice_on.new.weak.places.items g.roots.places.items g.weak.places.items c.fill_all.ensures.roots c.fill_all.ensures.weak
    (c.slice_on.ensures.sliced s (rw (sym c.fill_all.ensures.roots) at h)))

pub returns-in-None-clause-sliced : goal.returns-in-None-clause-sliced
returns-in-None-clause-sliced c = λ s h.
    let a = (goal.at.returns-in-None-clause-sliced c).In-None in
    let e = ended a s h in
    sliced_whole s c.args.store.now c.args.threads.now c.slice_on.new.heap c.slice_on.new.roots.places.items c.slice_on.new.weak.places.items (unmarked a) e c.put_all.new.store c.put_all.new.threads
    (c.put_all.ensures.moved e.same.same.to e.same.same.places) c.put_all.ensures.weaks c.fill_all.ensures.stacked

pub returns-in-None-clause-cleared : goal.returns-in-None-clause-cleared
returns-in-None-clause-cleared c =
    let store = c.args.store.now in
    cleared_told store.heap store.weaks c.put_all.new.store.weaks store.statics.items c.fill_all.new.gathered.objects.items (names_of c.put_all.result.items) c.requires.referred.weaks c.fill_all.ensures.named c.put_all.ensures.cleared
