use Rattle.std.proofs.Common.{◌≡◌, None, sym, ◌∙◌}
use Rattle.compact.specs.Slices as compact
use Rattle.semantics.specs.Views.{names_of}
use Rattle.tables.specs.Weaks.{weak_places}
use Rattle.machine_collections.specs.Roots.{root_places}
use Rattle.machine_collections.proofs.PutTogether.{cleared_told, ended_of, left_of_listed, no_marks, sliced_whole}
use Rattle.machine_collections.proofs.slicing.slice_from_roots.Goals as goal
use Rattle.machine_collections.proofs.slicing.slice_from_roots.Goals.{In-None}

-- where no marking is under way then, the slice ended it
unmarked : (c : In-None) → c.slice.new.heap.marking ≡ None
unmarked c = no_marks c.slice.new.heap.marking (sym c.marked.ensures ∙ c.in-None.is)

ended : (c : In-None) → compact.HasEnded c.args.store.now.heap c.slice.new.heap (root_places c.args.store.now c.args.threads.now) c.slice.new.roots.places.items (weak_places c.args.store.now.weaks) c.slice.new.weak.places.items
ended c =
    let s = c.args.store.now.heap in
    let g = c.in_ok-gathered.gathered in
    ended_of s c.args.store.now c.args.threads.now c.slice.new.heap c.slice.new.roots.places.items c.slice.new.weak.places.items (unmarked c)
    (left_of_listed s c.args.store.now c.args.threads.now c.slice.new.heap c.slice.new.roots.places.items c.slice.new.weak.places.items g.roots.places.items g.weak.places.items c.in_ok-gathered.ensures.roots c.in_ok-gathered.ensures.weak
    c.in_ok-slice.ensures.ok)

pub returns-in-None-clause-ok : goal.returns-in-None-clause-ok
returns-in-None-clause-ok c =
    let a = (goal.at.returns-in-None-clause-ok c).In-None in
    let e = ended a in
    sliced_whole c.args.store.now.heap c.args.store.now c.args.threads.now c.slice.new.heap c.slice.new.roots.places.items c.slice.new.weak.places.items (unmarked a) e c.put_all.new.store c.put_all.new.threads
    (c.put_all.ensures.moved e.same.same.to e.same.same.places) c.put_all.ensures.weaks c.in_ok-gathered.ensures.stacked

pub returns-in-None-clause-cleared : goal.returns-in-None-clause-cleared
returns-in-None-clause-cleared c =
    let store = c.args.store.now in
    cleared_told store.heap store.weaks c.put_all.new.store.weaks store.statics.items c.in_ok-gathered.gathered.objects.items (names_of c.put_all.result.items) c.requires.weaks c.in_ok-gathered.ensures.named c.put_all.ensures.cleared
