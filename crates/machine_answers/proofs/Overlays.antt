-- A list that is laid over another.
use Rattle.std.proofs.Common.{◌≡◌, ℕ, zero, suc, ◌+◌, ◌<◌, ◌≤◌, List, [], ◌∷◌, ◌++◌, length, map, take, drop, Some, refl, sym, ap, ◌∙◌, arith}
use Rattle.std.specs.Prelude.{slice_get, slice_set}
use Rattle.machine_answers.specs.Copies.{overlaid}

overlaid_empty : {A : Type 0} (i : ℕ) (new : List A) → overlaid [] i new ≡ []
overlaid_empty zero [] = refl
overlaid_empty zero (n ∷ new) = refl
overlaid_empty (suc i) new = refl

pub overlaid_nothing : {A : Type 0} (xs : List A) (i : ℕ) → overlaid xs i [] ≡ xs
overlaid_nothing xs zero = refl
overlaid_nothing [] (suc i) = refl
overlaid_nothing (x ∷ xs) (suc i) = ap (λ l. x ∷ l) (overlaid_nothing xs i)

pub length_overlaid : {A : Type 0} (xs : List A) (i : ℕ) (new : List A) → length (overlaid xs i new) ≡ length xs
length_overlaid xs zero [] = refl
length_overlaid [] zero (n ∷ new) = refl
length_overlaid (x ∷ xs) zero (n ∷ new) = ap suc (length_overlaid xs zero new)
length_overlaid [] (suc i) new = refl
length_overlaid (x ∷ xs) (suc i) new = ap suc (length_overlaid xs i new)

-- one more is laid over
pub overlaid_more : {A : Type 0} (xs : List A) (i : ℕ) (new : List A) (k p : ℕ) (w : A) → p ≡ i + k → slice_get new k ≡ Some w → slice_set (overlaid xs i (take k new)) p w ≡ overlaid xs i (take (suc k) new)
overlaid_more [] i new k p w e at = ap (λ l. slice_set l p w) (overlaid_empty i (take k new)) ∙ sym (overlaid_empty i (take (suc k) new))
overlaid_more (x ∷ xs) zero [] k p w e at = absurd (cc)
overlaid_more (x ∷ xs) zero (n ∷ new) zero zero w e at = let same : w ≡ n = cc in ap (λ y. y ∷ xs) same
overlaid_more (x ∷ xs) zero (n ∷ new) zero (suc p) w e at = absurd (omega (arith, e))
overlaid_more (x ∷ xs) zero (n ∷ new) (suc k) zero w e at = absurd (omega (arith, e))
overlaid_more (x ∷ xs) zero (n ∷ new) (suc k) (suc p) w e at = ap (λ l. n ∷ l) (overlaid_more xs zero new k p w (omega (arith, e)) at)
overlaid_more (x ∷ xs) (suc i) new k zero w e at = absurd (omega (arith, e))
overlaid_more (x ∷ xs) (suc i) new k (suc p) w e at = ap (λ l. x ∷ l) (overlaid_more xs i new k p w (omega (arith, e)) at)

-- what is laid over
pub get_within : {A : Type 0} (xs : List A) (i : ℕ) (new : List A) (k p : ℕ) → p ≡ i + k → k < length new → p < length xs → slice_get (overlaid xs i new) p ≡ slice_get new k
get_within [] i new k p e below inside = absurd (omega (arith, inside))
get_within (x ∷ xs) zero [] k p e below inside = absurd (omega (arith, below))
get_within (x ∷ xs) zero (n ∷ new) zero zero e below inside = refl
get_within (x ∷ xs) zero (n ∷ new) zero (suc p) e below inside = absurd (omega (arith, e))
get_within (x ∷ xs) zero (n ∷ new) (suc k) zero e below inside = absurd (omega (arith, e))
get_within (x ∷ xs) zero (n ∷ new) (suc k) (suc p) e below inside = get_within xs zero new k p (omega (arith, e)) (omega (arith, below)) (omega (arith, inside))
get_within (x ∷ xs) (suc i) new k zero e below inside = absurd (omega (arith, e))
get_within (x ∷ xs) (suc i) new k (suc p) e below inside = get_within xs i new k p (omega (arith, e)) below (omega (arith, inside))

-- and what is beside it
pub get_outside : {A : Type 0} (xs : List A) (i : ℕ) (new : List A) (p : ℕ) → ((k : ℕ) → k < length new → p ≡ i + k → ⊥) → slice_get (overlaid xs i new) p ≡ slice_get xs p
get_outside xs zero [] p out = refl
get_outside [] zero (n ∷ new) p out = refl
get_outside (x ∷ xs) zero (n ∷ new) zero out = absurd (out 0 (omega arith) (omega arith))
get_outside (x ∷ xs) zero (n ∷ new) (suc p) out = get_outside xs zero new p (λ k below e. out (suc k) (omega (arith, below)) (omega (arith, e)))
get_outside [] (suc i) new p out = refl
get_outside (x ∷ xs) (suc i) new zero out = refl
get_outside (x ∷ xs) (suc i) new (suc p) out = get_outside xs i new p (λ k below e. out k below (omega (arith, e)))

-- where the list goes as far
pub overlaid_is : {A : Type 0} (xs : List A) (i : ℕ) (new : List A) (m : ℕ) → m ≡ i + length new → m ≤ length xs → overlaid xs i new ≡ take i xs ++ new ++ drop m xs
overlaid_is xs zero [] zero e inside = refl
overlaid_is xs zero [] (suc m) e inside = absurd (omega (arith, e))
overlaid_is [] zero (n ∷ new) m e inside = absurd (omega (arith, e, inside))
overlaid_is (x ∷ xs) zero (n ∷ new) zero e inside = absurd (omega (arith, e))
overlaid_is (x ∷ xs) zero (n ∷ new) (suc m) e inside = ap (λ l. n ∷ l) (overlaid_is xs zero new m (omega (arith, e)) (omega (arith, inside)))
overlaid_is [] (suc i) new m e inside = absurd (omega (arith, e, inside))
overlaid_is (x ∷ xs) (suc i) new zero e inside = absurd (omega (arith, e))
overlaid_is (x ∷ xs) (suc i) new (suc m) e inside = ap (λ l. x ∷ l) (overlaid_is xs i new m (omega (arith, e)) (omega (arith, inside)))

-- over a list that is as long
pub overlaid_whole : {A : Type 0} (xs new : List A) → length new ≡ length xs → overlaid xs 0 new ≡ new
overlaid_whole [] [] e = refl
overlaid_whole [] (n ∷ new) e = absurd (omega (arith, e))
overlaid_whole (x ∷ xs) [] e = absurd (omega (arith, e))
overlaid_whole (x ∷ xs) (n ∷ new) e = ap (λ l. n ∷ l) (overlaid_whole xs new (omega (arith, e)))

pub map_overlaid : {A B : Type 0} (f : A → B) (xs : List A) (i : ℕ) (new : List A) → map f (overlaid xs i new) ≡ overlaid (map f xs) i (map f new)
map_overlaid f xs zero [] = refl
map_overlaid f [] zero (n ∷ new) = refl
map_overlaid f (x ∷ xs) zero (n ∷ new) = ap (λ l. f n ∷ l) (map_overlaid f xs zero new)
map_overlaid f [] (suc i) new = refl
map_overlaid f (x ∷ xs) (suc i) new = ap (λ l. f x ∷ l) (map_overlaid f xs i new)

-- ---- parts of a list

pub get_drop : {A : Type 0} (xs : List A) (start k p : ℕ) → p ≡ start + k → slice_get (drop start xs) k ≡ slice_get xs p
get_drop xs zero k p e = ap (slice_get xs) (let same : k ≡ p = omega (arith, e) in same)
get_drop [] (suc start) k p e = refl
get_drop (x ∷ xs) (suc start) k zero e = absurd (omega (arith, e))
get_drop (x ∷ xs) (suc start) k (suc p) e = get_drop xs start k p (omega (arith, e))

get_take : {A : Type 0} (xs : List A) (n k : ℕ) → k < n → slice_get (take n xs) k ≡ slice_get xs k
get_take xs zero k below = absurd (omega (arith, below))
get_take [] (suc n) k below = refl
get_take (x ∷ xs) (suc n) zero below = refl
get_take (x ∷ xs) (suc n) (suc k) below = get_take xs n k (omega (arith, below))

-- an element of n from a start on
pub get_part : {A : Type 0} (xs : List A) (start n k : ℕ) → k < n → slice_get (take n (drop start xs)) k ≡ slice_get xs (start + k)
get_part xs start n k below = get_take (drop start xs) n k below ∙ get_drop xs start k (start + k) refl
