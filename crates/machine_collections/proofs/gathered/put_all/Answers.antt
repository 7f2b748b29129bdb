use Rattle.std.proofs.Common.{List, Option, arith, length, ap, ◌∙◌, subst}
use Rattle.semantics.specs.Views.{names_of}
use Rattle.semantics.specs.declared.object_id.ObjectId.{ObjectId}
use Rattle.machine_scenes.specs.Statics.{StaticReference}
use Rattle.machine_collections.specs.Clearing.{ListsCleared}
use Rattle.machine_collections.proofs.gathered.put_all.Goals as goal

pub list_cleared-requires-clause-count : goal.list_cleared-requires-clause-count
list_cleared-requires-clause-count c =
    let back = c.put_back.ensures.moved c.requires.roots.0 c.requires.roots.1 in
    let first = ap (λ (l : List (Option ObjectId)). length l) c.deref.ensures.value in
    let second = ap (λ (l : List StaticReference). length l) c.deref-2.ensures.value in
    let still = ap (λ v. length v.items) back.moved.statics in
    omega (arith, first, second, still, c.requires.objects)

pub returns-clause-moved : goal.returns-clause-moved
returns-clause-moved c = λ to h.
    let back = c.put_back.ensures.moved to h in
    record {
      moved = record { heap = back.moved.heap; loaded = back.moved.loaded; births = back.moved.births; statics = back.moved.statics; globals = back.moved.globals; elements = back.moved.elements; views = back.moved.views; monitors = back.moved.monitors };
      follow = back.follow;
    }

pub returns-clause-cleared : goal.returns-clause-cleared
returns-clause-cleared c =
    let back = c.put_back.ensures.moved c.requires.roots.0 c.requires.roots.1 in
    let names = names_of c.list_cleared.new.cleared.items in
    let now = c.put_weak.new.weaks in
    subst (λ (l : List (Option ObjectId)). ListsCleared l now c.args.store.now.statics.items names) c.deref.ensures.value
    (subst (λ (l : List StaticReference). ListsCleared c.deref.result.now now l names) (c.deref-2.ensures.value ∙ ap (λ v. v.items) back.moved.statics) c.list_cleared.ensures)
