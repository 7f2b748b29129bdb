-- What is at the places of a list, each element seen by a function.
use Rattle.std.proofs.Common.{◌≡◌, ℕ, zero, suc, ◌<◌, List, [], ◌∷◌, length, get_or, set, map, refl, ap, arith}

pub set_there : {X Y : Type 0} (f : X → Y) (xs : List X) (k : ℕ) (x : X) (d : Y) → k < length xs → get_or (map f (set xs k x)) k d ≡ f x
set_there f [] k x d h = absurd (omega arith)
set_there f (y ∷ xs) zero x d h = refl
set_there f (y ∷ xs) (suc k) x d h = set_there f xs k x d (omega arith)

pub set_elsewhere : {X Y : Type 0} (f : X → Y) (xs : List X) (k i : ℕ) (x : X) (d : Y) → (i ≡ k → ⊥) → get_or (map f (set xs k x)) i d ≡ get_or (map f xs) i d
set_elsewhere f [] k i x d h = refl
set_elsewhere f (y ∷ xs) zero zero x d h = absurd (h refl)
set_elsewhere f (y ∷ xs) zero (suc i) x d h = refl
set_elsewhere f (y ∷ xs) (suc k) zero x d h = refl
set_elsewhere f (y ∷ xs) (suc k) (suc i) x d h = set_elsewhere f xs k i x d (λ e. h (ap suc e))
