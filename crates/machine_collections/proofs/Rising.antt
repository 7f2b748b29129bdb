-- Lists that rise: two with the same members are one.
use Rattle.std.proofs.Common.{◌≡◌, ℕ, zero, suc, ◌+◌, ◌<◌, ◌≤◌, Bool, true, false, List, [], ◌∷◌, ◌++◌, refl, sym, ap, ◌∙◌, subst, arith, ⊎_elim}
use Rattle.std.specs.Prelude.{filter, slice_index}
use Rattle.std.specs.List.Sorted.{IsStrictlyIncreasing}
use Rattle.std.proofs.lemmas.Bool.{both_ways, cond_both, false≢true}
use Rattle.semantics.specs.Reachable.{from_one}
use Rattle.semantics.proofs.ReachableLemmas.{In, in_cases, in_head, in_tail}
use Rattle.semantics.proofs.WeakLaws.{in_from_one}

-- each of these is greater than the one before it, and the first than another number
abbrev pub RiseFrom : ℕ → List ℕ → Type 0
RiseFrom low [] = Unit {0}
RiseFrom low (n ∷ names) = (low < n) × RiseFrom n names

-- numbers of which each is below the next rise from one below them
rise_by : (low n : ℕ) (names : List ℕ) → low < n → IsStrictlyIncreasing (n ∷ names) → RiseFrom low (n ∷ names)
rise_by low n [] less h = (less, tt)
rise_by low n (m ∷ names) less h =
    (less, rise_by n m names (h 0 (omega arith)) (λ k within. let next : suc k + 1 ≡ suc (k + 1) = omega arith in subst (λ (j : ℕ). slice_index (n ∷ m ∷ names) (suc k) < slice_index (n ∷ m ∷ names) j) next (h (suc k) (omega (arith, within)))))

pub rise_from : (low : ℕ) (names : List ℕ) → IsStrictlyIncreasing names → ((n : ℕ) → In names n → low < n) → RiseFrom low names
rise_from low [] h all = tt
rise_from low (n ∷ names) h all = rise_by low n names (all n (in_head n names)) h

-- each member is greater than what they rise from
pub above : (low : ℕ) (xs : List ℕ) (n : ℕ) → RiseFrom low xs → In xs n → low < n
above low [] n h k = absurd (false≢true k)
above low (x ∷ xs) n h k =
    let first : low < x = h.0 in
    ⊎_elim
    (λ (e : x ≡ n). omega (arith, first, e))
    (λ (l : In xs n). let later : x < n = above x xs n h.1 l in omega (arith, first, later))
    (in_cases x xs n k)

-- they rise from any lower number
pub lower : (low from : ℕ) (xs : List ℕ) → low ≤ from → RiseFrom from xs → RiseFrom low xs
lower low from [] le h = h
lower low from (x ∷ xs) le h = let first : from < x = h.0 in (omega (arith, le, first), h.1)

-- those that pass a test rise
pub rise_filter : (p : ℕ → Bool) (low : ℕ) (xs : List ℕ) → RiseFrom low xs → RiseFrom low (filter p xs)
rise_filter p low [] h = h
rise_filter p low (x ∷ xs) h =
    let first : low < x = h.0 in
    let rest = rise_filter p x xs h.1 in
    cond_both (p x) (x ∷ filter p xs) (filter p xs) (λ (l : List ℕ). RiseFrom low l)
    (λ e. (first, rest))
    (λ e. lower low x (filter p xs) (omega (arith, first)) rest)

-- what passes a test, and is a member, is one of those that do
pub in_passed : (p : ℕ → Bool) (xs : List ℕ) (n : ℕ) → p n ≡ true → In xs n → In (filter p xs) n
in_passed p [] n e k = k
in_passed p (x ∷ xs) n e k =
    cond_both (p x) (x ∷ filter p xs) (filter p xs) (λ (l : List ℕ). In l n)
    (λ t.
    ⊎_elim
    (λ (q : x ≡ n). subst (λ (z : ℕ). In (z ∷ filter p xs) n) (sym q) (in_head n (filter p xs)))
    (λ (l : In xs n). in_tail x (filter p xs) n (in_passed p xs n e l))
    (in_cases x xs n k))
    (λ t.
    ⊎_elim
    (λ (q : x ≡ n). absurd (both_ways (p n) (subst (λ (z : ℕ). p z ≡ false) q t) e))
    (λ (l : In xs n). in_passed p xs n e l)
    (in_cases x xs n k))

-- and the other way round
pub from_passed : (p : ℕ → Bool) (xs : List ℕ) (n : ℕ) → In (filter p xs) n → (p n ≡ true) × In xs n
from_passed p [] n k = absurd (false≢true k)
from_passed p (x ∷ xs) n k =
    cond_both (p x) (x ∷ filter p xs) (filter p xs) (λ (l : List ℕ). In l n → (p n ≡ true) × In (x ∷ xs) n)
    (λ t l.
    ⊎_elim
    (λ (q : x ≡ n). (subst (λ (z : ℕ). p z ≡ true) q t, subst (λ (z : ℕ). In (z ∷ xs) n) (sym q) (in_head n xs)))
    (λ (r : In (filter p xs) n). let further = from_passed p xs n r in (further.0, in_tail x xs n further.1))
    (in_cases x (filter p xs) n l))
    (λ t l. let further = from_passed p xs n l in (further.0, in_tail x xs n further.1))
    k

-- with a greater one behind them they rise
rise_behind : (low : ℕ) (xs : List ℕ) (y : ℕ) → RiseFrom low xs → low < y → ((n : ℕ) → In xs n → n < y) → RiseFrom low (xs ++ y ∷ [])
rise_behind low [] y h less all = (less, tt)
rise_behind low (x ∷ xs) y h less all = (h.0, rise_behind x xs y h.1 (all x (in_head x xs)) (λ n k. all n (in_tail x xs n k)))

-- the same members are the same lists
pub one_rising : (low from : ℕ) (xs ys : List ℕ) → RiseFrom low xs → RiseFrom from ys → ((n : ℕ) → In xs n → In ys n) → ((n : ℕ) → In ys n → In xs n) → xs ≡ ys
one_rising low from [] [] h k there back = refl
one_rising low from [] (y ∷ ys) h k there back = absurd (false≢true (back y (in_head y ys)))
one_rising low from (x ∷ xs) [] h k there back = absurd (false≢true (there x (in_head x xs)))
one_rising low from (x ∷ xs) (y ∷ ys) h k there back =
    let same : x ≡ y = first in
    let rest = one_rising x y xs ys h.1 k.1 later earlier in
    ap (λ (n : ℕ). n ∷ xs) same ∙ ap (λ (l : List ℕ). y ∷ l) rest
  where
    first : x ≡ y
    first =
        ⊎_elim
        (λ (e : y ≡ x). sym e)
        (λ (l : In ys x).
        ⊎_elim
        (λ (e : x ≡ y). e)
        (λ (r : In xs y). let up : y < x = above y ys x k.1 l in let down : x < y = above x xs y h.1 r in absurd (omega (arith, up, down)))
        (in_cases x xs y (back y (in_head y ys))))
        (in_cases y ys x (there x (in_head x xs)))

    later : (n : ℕ) → In xs n → In ys n
    later n l =
        let up : x < n = above x xs n h.1 l in
        ⊎_elim
        (λ (e : y ≡ n). absurd (omega (arith, up, e, first)))
        (λ (r : In ys n). r)
        (in_cases y ys n (there n (in_tail x xs n l)))

    earlier : (n : ℕ) → In ys n → In xs n
    earlier n l =
        let up : y < n = above y ys n k.1 l in
        ⊎_elim
        (λ (e : x ≡ n). absurd (omega (arith, up, e, first)))
        (λ (r : In xs n). r)
        (in_cases x xs n (back n (in_tail y ys n l)))

-- ---- the numbers from one on

pub from_one_rises : (count : ℕ) → RiseFrom 0 (from_one count)
from_one_rises zero = tt
from_one_rises (suc count) = rise_behind 0 (from_one count) (suc count) (from_one_rises count) (omega arith) (λ n k. let less = in_from_one count n k in omega (arith, less))
