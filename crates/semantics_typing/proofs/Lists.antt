-- Lists with another element, or more.
use Rattle.std.proofs.Common.{◌≡◌, ◌≢◌, ◌⊎◌, inl, inr, ℕ, zero, suc, Bool, true, false, List, [], ◌∷◌, ◌++◌, length, take, drop, Some, refl, ap, subst, arith, if◌then◌else◌}
use Rattle.std.specs.Prelude.{slice_get, slice_set, find}
use Rattle.std.specs.List.{AllByRecursion, AllZip}

-- an element of a list with another one at a place
pub get_set : {A : Type 0} (xs : List A) (i j : ℕ) (x y : A) → slice_get (slice_set xs i x) j ≡ Some y → (slice_get xs j ≡ Some y) ⊎ ((i ≡ j) × (x ≡ y))
get_set [] i j x y h = inl h
get_set (z ∷ xs) zero zero x y h = inr (refl, cc)
get_set (z ∷ xs) zero (suc j) x y h = inl h
get_set (z ∷ xs) (suc i) zero x y h = inl h
get_set (z ∷ xs) (suc i) (suc j) x y h = elim (get_set xs i j x y h) [ inl old ↦ inl old | inr new ↦ inr (ap suc new.0, new.1) ]

pub set_there : {A : Type 0} (xs : List A) (i : ℕ) (x y : A) → slice_get xs i ≡ Some x → slice_get (slice_set xs i y) i ≡ Some y
set_there [] i x y h = absurd (cc)
set_there (z ∷ xs) zero x y h = refl
set_there (z ∷ xs) (suc i) x y h = set_there xs i x y h

pub set_elsewhere : {A : Type 0} (xs : List A) (i j : ℕ) (y : A) → i ≢ j → slice_get (slice_set xs i y) j ≡ slice_get xs j
set_elsewhere [] i j y h = refl
set_elsewhere (z ∷ xs) zero zero y h = absurd (h refl)
set_elsewhere (z ∷ xs) zero (suc j) y h = refl
set_elsewhere (z ∷ xs) (suc i) zero y h = refl
set_elsewhere (z ∷ xs) (suc i) (suc j) y h = set_elsewhere xs i j y (λ e. h (ap suc e))

-- an element of a list with one more
pub get_last : {A : Type 0} (xs : List A) (y x : A) (i : ℕ) → slice_get (xs ++ y ∷ []) i ≡ Some x → (slice_get xs i ≡ Some x) ⊎ ((i ≡ length xs) × (y ≡ x))
get_last [] y x zero h = inr (refl, cc)
get_last [] y x (suc i) h = absurd (cc)
get_last (z ∷ xs) y x zero h = inl h
get_last (z ∷ xs) y x (suc i) h = elim (get_last xs y x i h) [ inl old ↦ inl old | inr new ↦ inr (omega (arith, new.0), new.1) ]

-- ---- what holds of each element

pub all_get : {A : Type 0} (P : A → Type 0) (xs : List A) (i : ℕ) (x : A) → AllByRecursion P xs → slice_get xs i ≡ Some x → P x
all_get P [] i x h e = absurd (cc)
all_get P (y ∷ xs) zero x h e = let same : y ≡ x = cc in subst P same h.0
all_get P (y ∷ xs) (suc i) x h e = all_get P xs i x h.1 e

-- what is at a place of the second of two lists has its match in the first
pub zip_at : {A B : Type 0} (P : A → B → Type 0) (xs : List A) (ys : List B) (i : ℕ) (y : B) → AllZip P xs ys → slice_get ys i ≡ Some y → (x : A) × (slice_get xs i ≡ Some x) × P x y
zip_at P [] [] i y h e = absurd (cc)
zip_at P [] (z ∷ ys) i y h e = absurd h
zip_at P (x ∷ xs) [] i y h e = absurd h
zip_at P (x ∷ xs) (z ∷ ys) zero y h e = let same : z ≡ y = cc in (x, refl, subst (P x) same h.0)
zip_at P (x ∷ xs) (z ∷ ys) (suc i) y h e = zip_at P xs ys i y h.1 e

pub all_set : {A : Type 0} (P : A → Type 0) (xs : List A) (i : ℕ) (x : A) → AllByRecursion P xs → P x → AllByRecursion P (slice_set xs i x)
all_set P [] i x h new = tt
all_set P (y ∷ xs) zero x h new = (new, h.1)
all_set P (y ∷ xs) (suc i) x h new = (h.0, all_set P xs i x h.1 new)

pub all_append : {A : Type 0} (P : A → Type 0) (xs ys : List A) → AllByRecursion P xs → AllByRecursion P ys → AllByRecursion P (xs ++ ys)
all_append P [] ys h g = g
all_append P (x ∷ xs) ys h g = (h.0, all_append P xs ys h.1 g)

pub all_take : {A : Type 0} (P : A → Type 0) (i : ℕ) (xs : List A) → AllByRecursion P xs → AllByRecursion P (take i xs)
all_take P zero xs h = tt
all_take P (suc i) [] h = tt
all_take P (suc i) (x ∷ xs) h = (h.0, all_take P i xs h.1)

pub all_drop : {A : Type 0} (P : A → Type 0) (i : ℕ) (xs : List A) → AllByRecursion P xs → AllByRecursion P (drop i xs)
all_drop P zero xs h = h
all_drop P (suc i) [] h = tt
all_drop P (suc i) (x ∷ xs) h = all_drop P i xs h.1

pub all_later : {A : Type 0} (P Q : A → Type 0) (xs : List A) → ((x : A) → P x → Q x) → AllByRecursion P xs → AllByRecursion Q xs
all_later P Q [] f h = tt
all_later P Q (x ∷ xs) f h = (f x h.0, all_later P Q xs f h.1)

-- ---- what is found

pub found_at : {A : Type 0} (p : A → Bool) (xs : List A) (x : A) → find p xs ≡ Some x → (i : ℕ) × (slice_get xs i ≡ Some x)
found_at p [] x h = absurd (cc)
found_at p (y ∷ xs) x h = by_test (p y) h (found_at p xs x)
  where
    by_test : (b : Bool) → (if b then Some y else find p xs) ≡ Some x → (find p xs ≡ Some x → (i : ℕ) × (slice_get xs i ≡ Some x)) → (i : ℕ) × (slice_get (y ∷ xs) i ≡ Some x)
    by_test true e later = (0, e)
    by_test false e later = let at = later e in (suc at.0, at.1)
