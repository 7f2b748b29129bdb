-- Lists by their places.
use Rattle.std.proofs.Common.{◌≡◌, ◌≢◌, ℕ, zero, suc, ◌+◌, ◌-◌, ◌<◌, ◌≤◌, Bool, true, List, [], ◌∷◌, ◌++◌, length, get_or, map, take, drop, Some, None, refl, sym, ap, ◌∙◌, arith}
use Rattle.std.specs.Prelude.{slice_get, slice_set}
use Rattle.std.specs.List.{Contains, list_all}
use Rattle.std.specs.Option.{option_map}
use Rattle.std.proofs.lemmas.Bool.{and_parts}
use Rattle.std.proofs.lemmas.List.{drop_more, take_more}
use Rattle.std.proofs.lemmas.Option.{get_or_from_slice_get, slice_get-get_or, slice_get-map, slice_get_within}

-- ---- two lists, one behind the other

pub get_left : {A : Type 0} (xs ys : List A) (i : ℕ) → i < length xs → slice_get (xs ++ ys) i ≡ slice_get xs i
get_left [] ys i h = absurd (omega arith)
get_left (x ∷ xs) ys zero h = refl
get_left (x ∷ xs) ys (suc i) h = get_left xs ys i (omega arith)

pub get_right : {A : Type 0} (xs ys : List A) (i : ℕ) → length xs ≤ i → slice_get (xs ++ ys) i ≡ slice_get ys (i - length xs)
get_right [] ys i h = let same : i ≡ i - 0 = omega arith in ap (slice_get ys) same
get_right (x ∷ xs) ys zero h = absurd (omega arith)
get_right (x ∷ xs) ys (suc i) h = let same : i - length xs ≡ suc i - suc (length xs) = omega arith in get_right xs ys i (omega arith) ∙ ap (slice_get ys) same

pub get_front : {A : Type 0} (xs ys : List A) (i : ℕ) (x : A) → slice_get xs i ≡ Some x → slice_get (xs ++ ys) i ≡ Some x
get_front xs ys i x at = get_left xs ys i (slice_get_within xs i x at) ∙ at

-- ---- each element

pub get_map : {A B : Type 0} (f : A → B) (xs : List A) (i : ℕ) (x : A) → slice_get xs i ≡ Some x → slice_get (map f xs) i ≡ Some (f x)
get_map f xs i x at = slice_get-map f xs i ∙ ap (option_map f) at

pub all_at : {A : Type 0} (holds : A → Bool) (xs : List A) (i : ℕ) (x : A) → list_all holds xs ≡ true → slice_get xs i ≡ Some x → holds x ≡ true
all_at holds [] i x all at = absurd (cc)
all_at holds (y ∷ xs) zero x all at = let is : y ≡ x = cc in ap holds (sym is) ∙ (and_parts (holds y) (list_all holds xs) all).0
all_at holds (y ∷ xs) (suc i) x all at = all_at holds xs i x (and_parts (holds y) (list_all holds xs) all).1 at

-- ---- what is in a list

pub Contains-from_get : {A : Type 0} (xs : List A) (i : ℕ) (x : A) → slice_get xs i ≡ Some x → Contains xs x
Contains-from_get xs i x at = (i, slice_get_within xs i x at, get_or_from_slice_get xs i x x at)

pub get-from_contains : {A : Type 0} (xs : List A) (x : A) (there : Contains xs x) → slice_get xs there.0 ≡ Some x
get-from_contains {A = A} xs x there = slice_get-get_or xs there.0 x there.1 ∙ ap (λ (y : A). Some y) there.2

pub none_in : {A : Type 0} (x : A) → Contains [] x → ⊥
none_in x there = let within : there.0 < 0 = there.1 in absurd (omega arith)

-- ---- an element that is set

pub get_set_same : {A : Type 0} (xs : List A) (i : ℕ) (x : A) → i < length xs → slice_get (slice_set xs i x) i ≡ Some x
get_set_same [] i x h = absurd (omega arith)
get_set_same (y ∷ xs) zero x h = refl
get_set_same (y ∷ xs) (suc i) x h = get_set_same xs i x (omega arith)

pub get_set_other : {A : Type 0} (xs : List A) (i j : ℕ) (x : A) → j ≢ i → slice_get (slice_set xs i x) j ≡ slice_get xs j
get_set_other [] i j x other = refl
get_set_other (y ∷ xs) zero zero x other = absurd (other refl)
get_set_other (y ∷ xs) zero (suc j) x other = refl
get_set_other (y ∷ xs) (suc i) zero x other = refl
get_set_other (y ∷ xs) (suc i) (suc j) x other = get_set_other xs i j x (λ e. other (ap suc e))

-- what is there already stays
pub set_same : {A : Type 0} (xs : List A) (i : ℕ) (x : A) → slice_get xs i ≡ Some x → slice_set xs i x ≡ xs
set_same [] i x at = refl
set_same (y ∷ xs) zero x at = let same : x ≡ y = cc in ap (λ z. z ∷ xs) same
set_same (y ∷ xs) (suc i) x at = ap (λ zs. y ∷ zs) (set_same xs i x at)

-- ---- up to an element, and from it on

pub take_next : {A : Type 0} (xs : List A) (i : ℕ) (x : A) → slice_get xs i ≡ Some x → take (i + 1) xs ≡ take i xs ++ x ∷ []
take_next xs i x at = take_more xs i x (slice_get_within xs i x at) ∙ ap (λ y. take i xs ++ y ∷ []) (get_or_from_slice_get xs i x x at)

pub drop_next : {A : Type 0} (xs : List A) (i : ℕ) (x : A) → slice_get xs i ≡ Some x → drop i xs ≡ x ∷ drop (i + 1) xs
drop_next xs i x at = drop_more xs i x (slice_get_within xs i x at) ∙ ap (λ y. y ∷ drop (i + 1) xs) (get_or_from_slice_get xs i x x at)

pub drop_none : {A : Type 0} (xs : List A) (i : ℕ) → slice_get xs i ≡ None → drop i xs ≡ []
drop_none [] zero at = refl
drop_none [] (suc i) at = refl
drop_none (x ∷ xs) zero at = absurd (cc)
drop_none (x ∷ xs) (suc i) at = drop_none xs i at

pub drop_past : {A : Type 0} (xs : List A) (i : ℕ) → length xs ≤ i → drop i xs ≡ []
drop_past [] zero past = refl
drop_past [] (suc i) past = refl
drop_past (x ∷ xs) zero past = absurd (omega arith)
drop_past (x ∷ xs) (suc i) past = drop_past xs i (omega (arith, past))

-- the item that a loop is at
pub item_here : {A : Type 0} (items : List A) (i : ℕ) (x y : A) → i < length items → x ≡ get_or items i x → x ≡ y → drop i items ≡ y ∷ drop (i + 1) items
item_here items i x y below at is = drop_more items i x below ∙ ap (λ z. z ∷ drop (i + 1) items) (sym at ∙ is)
