use Rattle.std.proofs.Common.{◌≡◌, ℕ, List, Option, refl, sym, ap, ◌∙◌, subst}
use Rattle.heap.specs.Heap.{Space}
use Rattle.compact.specs.Reach.{IsKept}
use Rattle.compact.specs.Same.{IsSame, MovesBy}
use Rattle.machine_collections.specs.Roots.{root_places}
use Rattle.machine_collections.proofs.PutWeaks.{none_followed}
use Rattle.machine_collections.proofs.collecting.collect_strongly.Goals as goal
use Rattle.machine_collections.proofs.collecting.collect_strongly.Goals.{After-put_back}

-- what the collector left
same : (c : After-put_back) → IsSame (IsKept c.args.store.now.heap (root_places c.args.store.now c.args.threads.now)) c.args.store.now.heap c.collect.new.heap (root_places c.args.store.now c.args.threads.now) c.collect.new.roots.places.items
same c =
    let s = c.args.store.now.heap in
    subst (λ (l : List (Option ℕ)). IsSame (IsKept s l) s c.collect.new.heap l c.collect.new.roots.places.items) c.in_ok-roots.ensures.places c.in_ok-collect.ensures.ok

pub returns-clause-ok : goal.returns-clause-ok
returns-clause-ok c =
    let left = same (goal.at.returns-clause-ok c).After-put_back in
    let s = c.args.store.now.heap in
    let places = root_places c.args.store.now c.args.threads.now in
    let back = c.put_back.ensures.moved left.to left.places in
    record {
      to = left.to;
      blocks = subst (λ (t : Space). MovesBy (IsKept s places) left.to s t) (sym back.moved.heap) left.blocks;
      moved = record { heap = refl; loaded = back.moved.loaded; births = back.moved.births; statics = back.moved.statics; globals = back.moved.globals; elements = back.moved.elements; views = back.moved.views; monitors = back.moved.monitors };
      weaks = none_followed (IsKept s places) left.to c.args.store.now.weaks c.put_back.new.store.weaks c.requires.none (c.put_back.ensures.weaks ∙ c.requires.none);
      follow = back.follow;
      stacked = c.in_ok-roots.ensures.stacked;
    }

pub returns-clause-weaks : goal.returns-clause-weaks
returns-clause-weaks c = c.put_back.ensures.weaks ∙ c.requires.none

pub returns-clause-none : goal.returns-clause-none
returns-clause-none c =
    let left = same (goal.at.returns-clause-none c).After-put_back in
    let back = c.put_back.ensures.moved left.to left.places in
    let heap : c.put_back.new.store.heap ≡ c.collect.new.heap = back.moved.heap in
    ap (λ (t : Space). t.marking) heap ∙ c.in_ok-collect.ensures.none
