use Rattle.std.proofs.Common.{ℕ, ◌+◌, ◌≤◌, ◌++◌, List, Option, length, drop, refl, sym, ap, ◌∙◌, arith, append_assoc, append-nil}
use Rattle.std.specs.Prelude.{flat_map}
use Rattle.std.proofs.lemmas.List.Concat.{flat_map-cons}
use Rattle.std.proofs.lemmas.Option.{slice_get_read, slice_get_within}
use Rattle.base.proofs.Lists.{drop_next, drop_past}
use Rattle.machine_collections.specs.Roots.{ThreadIsStacked, thread_places}
use Rattle.machine_collections.proofs.Counts.{counted_all, counted_next}
use Rattle.machine_collections.proofs.RootNames.{holds_more}
use Rattle.machine_collections.proofs.roots.push_threads.Goals as goal

pub push_thread-requires : goal.push_thread-requires
push_thread-requires c =
    let xs = c.args.threads.now in
    let i = c.loop-thread.thread-index in
    let x = c.thread-item.result in
    let next = counted_next thread_places xs i x (slice_get_read xs (length xs) i x refl c.loop-thread-test.true c.thread-item.is) in
    omega (arith, next, c.loop-thread.invariant.len, c.loop-thread.invariant.capacity, c.requires)

pub loop-thread-preserved : goal.loop-thread-preserved
loop-thread-preserved c =
    let xs = c.args.threads.now in
    let i = c.loop-thread.thread-index in
    let x = c.thread-item.result in
    let places = c.loop-thread.places.items in
    let at = slice_get_read xs (length xs) i x refl c.loop-thread-test.true c.thread-item.is in
    let next = counted_next thread_places xs i x at in
    let further = flat_map thread_places (drop (i + 1) xs) in
    record {
      places = ap (λ (l : List (Option ℕ)). l ++ further) c.push_thread.ensures.places ∙ append_assoc places (thread_places x) further
          ∙ ap (λ (l : List (Option ℕ)). places ++ l) (sym (ap (flat_map thread_places) (drop_next xs i x at) ∙ flat_map-cons thread_places x (drop (i + 1) xs))) ∙ c.loop-thread.invariant.places;
      len = omega (arith, next, c.loop-thread.invariant.len, c.push_thread.ensures.len);
      capacity = c.push_thread.ensures.capacity ∙ c.loop-thread.invariant.capacity;
      stacked = holds_more ThreadIsStacked xs i x at c.push_thread.ensures.stacked c.loop-thread.invariant.stacked;
    }

pub returns-clause-places : goal.returns-clause-places
returns-clause-places c =
    let places = c.loop-thread.places.items in
    sym (ap (λ (l : List (Option ℕ)). places ++ l) (ap (flat_map thread_places) (drop_past c.args.threads.now c.loop-thread.thread-index c.loop-thread-test.false)) ∙ append-nil places) ∙ c.loop-thread.invariant.places

pub returns-clause-len : goal.returns-clause-len
returns-clause-len c =
    let none = counted_all thread_places c.args.threads.now c.loop-thread.thread-index c.loop-thread-test.false in
    omega (arith, none, c.loop-thread.invariant.len)

pub returns-clause-stacked : goal.returns-clause-stacked
returns-clause-stacked c = λ i x e.
    let less = slice_get_within c.args.threads.now i x e in
    let past : length c.args.threads.now ≤ c.loop-thread.thread-index = c.loop-thread-test.false in
    c.loop-thread.invariant.stacked i x (omega (arith, less, past)) e
