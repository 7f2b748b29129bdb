-- Lists that are numbered, and taken one place after the other.
use Rattle.std.proofs.Common.{◌≡◌, ℕ, zero, suc, ◌+◌, List, [], ◌∷◌, ◌++◌, take, Some, ap, ◌∙◌, arith}
use Rattle.std.specs.Prelude.{slice_get}
use Rattle.std.specs.List.{enumerate_from}

pub numbered_at : {X : Type 0} (xs : List X) (n i : ℕ) (x : X) → slice_get xs i ≡ Some x → slice_get (enumerate_from n xs) i ≡ Some (n + i, x)
numbered_at [] n i x h = absurd (cc)
numbered_at (y ∷ xs) n zero x h =
    let same : y ≡ x = cc in
    let place : n ≡ n + 0 = omega arith in
    λ j. Some (place j, same j)
numbered_at (y ∷ xs) n (suc i) x h =
    let place : n + 1 + i ≡ n + suc i = omega arith in
    numbered_at xs (n + 1) i x h ∙ ap (λ (k : ℕ). Some (k, x)) place

pub taken_more : {X : Type 0} (xs : List X) (i : ℕ) (x : X) → slice_get xs i ≡ Some x → take (suc i) xs ≡ take i xs ++ x ∷ []
taken_more [] i x h = absurd (cc)
taken_more (y ∷ xs) zero x h = let same : y ≡ x = cc in ap (λ z. z ∷ []) same
taken_more (y ∷ xs) (suc i) x h = ap (λ l. y ∷ l) (taken_more xs i x h)
