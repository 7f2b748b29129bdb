-- A list that is made of another one, element by element.
use Rattle.std.proofs.Common.{◌≡◌, ℕ, ◌+◌, ◌≤◌, List, [], ◌∷◌, ◌++◌, length, map, take, Some, sym, ap, ◌∙◌}
use Rattle.std.specs.Prelude.{slice_get}
use Rattle.std.proofs.lemmas.List.{map-append, take_all, take_more}
use Rattle.std.proofs.lemmas.Option.{get_or_from_slice_get, slice_get_within}

-- what was made of the elements up to one, and of that one
pub mapped_more : {A B C : Type 0} (view : A → C) (f : B → C) (made : List A) (a : A) (xs : List B) (i : ℕ) (x : B) → slice_get xs i ≡ Some x → view a ≡ f x → map view made ≡ map f (take i xs) → map view (made ++ a ∷ []) ≡ map f (take (i + 1) xs)
mapped_more view f made a xs i x at same so_far =
    map-append view made (a ∷ [])
    ∙ (λ k. so_far k ++ same k ∷ [])
    ∙ sym (ap (map f) (take_more xs i x (slice_get_within xs i x at) ∙ ap (λ y. take i xs ++ y ∷ []) (get_or_from_slice_get xs i x x at)) ∙ map-append f (take i xs) (x ∷ []))

-- and of all
pub mapped_all : {B C : Type 0} (f : B → C) (made : List C) (xs : List B) (i : ℕ) → length xs ≤ i → made ≡ map f (take i xs) → made ≡ map f xs
mapped_all f made xs i past so_far = so_far ∙ ap (map f) (take_all i xs past)
