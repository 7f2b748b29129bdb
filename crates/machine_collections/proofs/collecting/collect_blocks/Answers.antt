use Rattle.std.proofs.Common.{◌≡◌, ℕ, List, [], ◌∷◌, Option, arith, length, refl, sym, ap, ◌∙◌, subst}
use Rattle.heap.specs.Heap.{Space}
use Rattle.compact.specs.Reach as compact
use Rattle.compact.specs.Reach.{IsKept}
use Rattle.compact.specs.Same.{IsSameWeakly}
use Rattle.semantics.specs.Views.{names_of}
use Rattle.tables.specs.Weaks.{weak_places}
use Rattle.machine_collections.specs.Roots.{root_places}
use Rattle.machine_collections.proofs.PutTogether.{cleared_told, moved_together}
use Rattle.machine_collections.proofs.collecting.collect_blocks.Goals as goal
use Rattle.machine_collections.proofs.collecting.collect_blocks.Goals.{In_ok-collect_weak}

-- ---- where there are no weak references

no_place : (weaks : List (Option (Option ℕ))) → length weaks ≡ 0 → weaks ≡ []
no_place [] h = refl
no_place (w ∷ weaks) h = absurd (cc)

pub collect_strongly-requires-clause-none : goal.collect_strongly-requires-clause-none
collect_strongly-requires-clause-none c = no_place c.args.store.now.weaks (omega (arith, c.len.ensures, c.if-len-eq0.true))

-- ---- where there are some

pub collect_weak-requires-clause-weak : goal.collect_weak-requires-clause-weak
collect_weak-requires-clause-weak c = subst (λ (l : List (Option ℕ)). compact.AreAddresses c.args.store.now.heap l) (sym c.in_ok-gathered.ensures.weak) c.requires.weaks

-- what the collector left
left : (c : In_ok-collect_weak) → IsSameWeakly (IsKept c.args.store.now.heap (root_places c.args.store.now c.args.threads.now)) c.args.store.now.heap c.collect_weak.new.heap (root_places c.args.store.now c.args.threads.now) c.collect_weak.new.roots.places.items (weak_places c.args.store.now.weaks) c.collect_weak.new.weak.places.items
left c =
    let s = c.args.store.now.heap in
    let g = c.in_ok-gathered.gathered in
    subst (λ (l : List (Option ℕ)). IsSameWeakly (IsKept s l) s c.collect_weak.new.heap l c.collect_weak.new.roots.places.items (weak_places c.args.store.now.weaks) c.collect_weak.new.weak.places.items) c.in_ok-gathered.ensures.roots
    (subst (λ (l : List (Option ℕ)). IsSameWeakly (IsKept s g.roots.places.items) s c.collect_weak.new.heap g.roots.places.items c.collect_weak.new.roots.places.items l c.collect_weak.new.weak.places.items) c.in_ok-gathered.ensures.weak c.in_ok-collect_weak.ensures.ok)

pub returns-clause-ok : goal.returns-clause-ok
returns-clause-ok c =
    let a = (goal.at.returns-clause-ok c).In_ok-collect_weak in
    let store = c.args.store.now in
    moved_together (IsKept store.heap (root_places store c.args.threads.now)) store c.args.threads.now c.collect_weak.new.heap c.collect_weak.new.roots.places.items c.collect_weak.new.weak.places.items (left a) c.put_all.new.store c.put_all.new.threads
    (c.put_all.ensures.moved (left a).same.to (left a).same.places) c.put_all.ensures.weaks c.in_ok-gathered.ensures.stacked

pub returns-clause-cleared : goal.returns-clause-cleared
returns-clause-cleared c =
    let store = c.args.store.now in
    cleared_told store.heap store.weaks c.put_all.new.store.weaks store.statics.items c.in_ok-gathered.gathered.objects.items (names_of c.put_all.result.items) c.requires.weaks c.in_ok-gathered.ensures.named c.put_all.ensures.cleared

pub returns-clause-none : goal.returns-clause-none
returns-clause-none c =
    let a = (goal.at.returns-clause-none c).In_ok-collect_weak in
    let back = c.put_all.ensures.moved (left a).same.to (left a).same.places in
    let heap : c.put_all.new.store.heap ≡ c.collect_weak.new.heap = back.moved.heap in
    ap (λ (t : Space). t.marking) heap ∙ c.in_ok-collect_weak.ensures.none
