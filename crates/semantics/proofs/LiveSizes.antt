-- The reachable objects take no more cells than all objects together.
use Rattle.std.specs.Prelude.{◌≡◌, ℕ, zero, suc, ◌+◌, ◌<◌, ◌≤◌, Bool, List, [], ◌∷◌, ◌++◌, length, filter, sum_by, slice_get, take, Some, refl}
use Rattle.std.proofs.Common.{◌∙◌, ap, arith}
use Rattle.std.proofs.lemmas.Bool.{cond_both}
use Rattle.std.proofs.lemmas.List.Sums.{sum_by-cons, sum_by-append}
use Rattle.std.proofs.lemmas.List.{take_all}
use Rattle.semantics.specs.Heap.{Heap}
use Rattle.semantics.specs.Object.{Object, size, sizes}
use Rattle.semantics.specs.Reachable.{from_one, is_in, roots, reachable, live_size, size_at}
use Rattle.semantics.specs.State.{State}
use Rattle.semantics.specs.World.{World}
use Rattle.semantics.proofs.ReachableLemmas.{closed_rising, IsRising}

-- some of them take no more than all
sum-filter : (f : ℕ → ℕ) (p : ℕ → Bool) (xs : List ℕ) → sum_by f (filter p xs) ≤ sum_by f xs
sum-filter f p [] = omega arith
sum-filter f p (x ∷ xs) =
    let rest = sum-filter f p xs in
    let here = sum_by-cons f x xs in
    cond_both (p x) (x ∷ filter p xs) (filter p xs) (λ (l : List ℕ). sum_by f l ≤ sum_by f (x ∷ xs))
    (λ e. omega (arith, rest, here, sum_by-cons f x (filter p xs)))
    (λ e. omega (arith, rest, here))

get_below : (heap : Heap) (i : ℕ) → i < length heap → (o : Object) × (slice_get heap i ≡ Some o)
get_below [] i less = absurd (omega arith)
get_below (o ∷ heap) zero less = (o, refl)
get_below (o ∷ heap) (suc i) less = get_below heap i (omega arith)

take_more : (heap : Heap) (i : ℕ) (o : Object) → slice_get heap i ≡ Some o → take (suc i) heap ≡ take i heap ++ o ∷ []
take_more [] i o h = absurd (cc)
take_more (x ∷ heap) zero o h = let same : x ≡ o = cc in ap (λ (y : Object). y ∷ []) same
take_more (x ∷ heap) (suc i) o h = ap (λ (l : Heap). x ∷ l) (take_more heap i o h)

-- the objects with the first names
first_sizes : (heap : Heap) (k : ℕ) → k ≤ length heap → sum_by (size_at heap) (from_one k) ≡ sizes (take k heap)
first_sizes heap zero within = refl
first_sizes heap (suc k) within =
    let o = get_below heap k (omega (arith, within)) in
    let here : size_at heap (suc k) ≡ size o.0 = rw o.1 refl in
    let before = first_sizes heap k (omega (arith, within)) in
    let names = sum_by-append (size_at heap) (from_one k) (suc k ∷ []) in
    let objects = sum_by-append size (take k heap) (o.0 ∷ []) in
    let same = ap sizes (take_more heap k o.0 o.1) in
    omega (arith, here, before, names, objects, same)

all_sizes : (heap : Heap) → sum_by (size_at heap) (from_one (length heap)) ≡ sizes heap
all_sizes heap = first_sizes heap (length heap) (omega arith) ∙ ap sizes (take_all (length heap) heap (omega arith))

pub live_within : (w : World) (s : State) → live_size w s ≤ sizes s.shared.heap
live_within w s =
    let heap : Heap = s.shared.heap in
    let r : IsRising heap (reachable w s) = closed_rising (length heap) heap (is_in (roots w s)) in
    let some = sum-filter (size_at heap) r.0 (from_one (length heap)) in
    let same = ap (sum_by (size_at heap)) r.1 in
    omega (arith, some, same, all_sizes heap)
