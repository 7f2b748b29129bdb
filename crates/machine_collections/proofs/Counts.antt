-- How many places lists have that are put together.
use Rattle.std.proofs.Common.{◌≡◌, ℕ, ◌+◌, ◌≤◌, List, length, drop, ap, ◌∙◌, length-append, arith, Some}
use Rattle.std.specs.Prelude.{flat_map, slice_get}
use Rattle.std.proofs.lemmas.List.Concat.{flat_map-cons}
use Rattle.base.proofs.Lists.{drop_next, drop_past}

-- from a place on, by one element and those after it
pub counted_next : {A B : Type 0} (f : A → List B) (xs : List A) (i : ℕ) (x : A) → slice_get xs i ≡ Some x → length (flat_map f (drop i xs)) ≡ length (f x) + length (flat_map f (drop (i + 1) xs))
counted_next {B = B} f xs i x at = ap (λ (l : List B). length l) (ap (flat_map f) (drop_next xs i x at) ∙ flat_map-cons f x (drop (i + 1) xs)) ∙ length-append (f x) (flat_map f (drop (i + 1) xs))

-- past the last
pub counted_all : {A B : Type 0} (f : A → List B) (xs : List A) (i : ℕ) → length xs ≤ i → length (flat_map f (drop i xs)) ≡ 0
counted_all {B = B} f xs i past = ap (λ l. length (flat_map f l)) (drop_past xs i past)

-- the places that are still to come
pub left_next : {A : Type 0} (xs : List A) (i : ℕ) (x : A) → slice_get xs i ≡ Some x → length (drop i xs) ≡ 1 + length (drop (i + 1) xs)
left_next {A} xs i x at = let next = ap (λ (l : List A). length l) (drop_next xs i x at) in omega (arith, next)

pub left_none : {A : Type 0} (xs : List A) (i : ℕ) → length xs ≤ i → length (drop i xs) ≡ 0
left_none {A} xs i past = ap (λ (l : List A). length l) (drop_past xs i past)
