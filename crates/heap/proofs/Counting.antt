-- How many marks there are, against a list of what they are for.
use Rattle.std.proofs.Common.{◌≡◌, ℕ, zero, suc, ◌+◌, ◌<◌, ◌≤◌, Bool, true, false, cond, List, [], ◌∷◌, length, get_or, set, refl, sym, ap, ◌∙◌, subst, arith, ⊎_elim, inl, inr, ◌⊎◌}
use Rattle.std.specs.List.{Contains}
use Rattle.std.proofs.lemmas.Bool.{cases_eq, cases_lt, both_ways}
use Rattle.std.proofs.lemmas.List.{get_or_past, get_or-set_same, get_or-set_other, length-set}
use Rattle.base.proofs.Lists.{none_in}
use Rattle.heap.specs.Marks.{is_kept}
use Rattle.heap.specs.Marking.{unmarked}

kept_within : (ms : List Bool) (a : ℕ) → is_kept ms a ≡ true → a < length ms
kept_within ms a k =
    ⊎_elim
    (λ (l : a < length ms). l)
    (λ (l : length ms ≤ a). absurd (both_ways (is_kept ms a) (get_or_past ms a false l) k))
    (cases_lt a (length ms))

-- a mark that is taken away
unmarked-unset : (ms : List Bool) (a : ℕ) → is_kept ms a ≡ true → unmarked (set ms a false) ≡ unmarked ms + 1
unmarked-unset [] a k = absurd (both_ways (is_kept [] a) (get_or_past [] a false (omega arith)) k)
unmarked-unset (m ∷ ms) zero k =
    let e : m ≡ true = k in
    let now : cond {A = ℕ} m 0 1 ≡ 0 = ap (λ (b : Bool). cond {A = ℕ} b 0 1) e in
    omega arith
unmarked-unset (m ∷ ms) (suc a) k =
    let rest : unmarked (set ms a false) ≡ unmarked ms + 1 = unmarked-unset ms a k in
    omega arith

all_unmarked : (ms : List Bool) → ((a : ℕ) → is_kept ms a ≡ true → ⊥) → length ms ≤ unmarked ms
all_unmarked [] none = omega arith
all_unmarked (true ∷ ms) none = absurd (none 0 refl)
all_unmarked (false ∷ ms) none =
    let rest = all_unmarked ms (λ a k. none (suc a) k) in
    omega arith

in_rest : (x y : ℕ) (xs : List ℕ) (k : ℕ) → k < length (x ∷ xs) → get_or (x ∷ xs) k y ≡ y → (x ≡ y → ⊥) → Contains xs y
in_rest x y xs zero l e ne = absurd (ne e)
in_rest x y xs (suc k) l e ne = (k, omega arith, e)

-- a marked place that f takes to x, if there is one below a bound
sought : (ms : List Bool) (f : ℕ → ℕ) (x n : ℕ) → ((a : ℕ) × (is_kept ms a ≡ true) × (f a ≡ x)) ⊎ ((a : ℕ) → a < n → is_kept ms a ≡ true → f a ≡ x → ⊥)
sought ms f x zero = inr (λ a l k e. absurd (omega arith))
sought ms f x (suc n) =
    ⊎_elim
    (λ (found : (a : ℕ) × (is_kept ms a ≡ true) × (f a ≡ x)). inl found)
    (λ (none : (a : ℕ) → a < n → is_kept ms a ≡ true → f a ≡ x → ⊥).
    ⊎_elim
    (λ (e : f n ≡ x). by_mark e none (is_kept ms n) refl)
    (λ (ne : f n ≡ x → ⊥). inr (λ a l k e. ⊎_elim
    (λ (same : a ≡ n). ne (subst (λ i. f i ≡ x) same e))
    (λ (other : a ≡ n → ⊥). none a (omega arith) k e)
    (cases_eq a n)))
    (cases_eq (f n) x))
    (sought ms f x n)
  where
    by_mark : f n ≡ x → ((a : ℕ) → a < n → is_kept ms a ≡ true → f a ≡ x → ⊥) → (b : Bool) → is_kept ms n ≡ b → ((a : ℕ) × (is_kept ms a ≡ true) × (f a ≡ x)) ⊎ ((a : ℕ) → a < suc n → is_kept ms a ≡ true → f a ≡ x → ⊥)
    by_mark e none true m = inl (n, m, e)
    by_mark e none false m = inr (λ a l k q. ⊎_elim
        (λ (same : a ≡ n). both_ways (is_kept ms n) m (subst (λ i. is_kept ms i ≡ true) same k))
        (λ (other : a ≡ n → ⊥). none a (omega arith) k q)
        (cases_eq a n))

-- Where each marked place has one of its own in a list, the list is no shorter than there are marks.
pub marks_fit : (xs : List ℕ) (ms : List Bool) (f : ℕ → ℕ) → ((a : ℕ) → is_kept ms a ≡ true → Contains xs (f a)) → ((a b : ℕ) → is_kept ms a ≡ true → is_kept ms b ≡ true → f a ≡ f b → a ≡ b) → length ms ≤ unmarked ms + length xs
marks_fit [] ms f there apart =
    let none = all_unmarked ms (λ a k. none_in (f a) (there a k)) in
    omega arith
marks_fit (x ∷ xs) ms f there apart =
    ⊎_elim
    (λ (found : (a : ℕ) × (is_kept ms a ≡ true) × (f a ≡ x)).
    let still : (b : ℕ) → is_kept (set ms found.0 false) b ≡ true → (is_kept ms b ≡ true) × (b ≡ found.0 → ⊥) = λ b k. ⊎_elim
    (λ (e : b ≡ found.0). absurd (both_ways (is_kept (set ms found.0 false) found.0) (get_or-set_same ms found.0 false false (kept_within ms found.0 found.1)) (subst (λ i. is_kept (set ms found.0 false) i ≡ true) e k)))
    (λ (ne : b ≡ found.0 → ⊥). (sym (get_or-set_other ms found.0 b false false ne) ∙ k, ne))
    (cases_eq b found.0) in
    let less = unmarked-unset ms found.0 found.1 in
    let count = length-set ms found.0 false in
    let rest = marks_fit xs (set ms found.0 false) f
    (λ b k. let at = there b (still b k).0 in in_rest x (f b) xs at.0 at.1 at.2 (λ e. (still b k).1 (apart b found.0 (still b k).0 found.1 (sym e ∙ sym found.2))))
    (λ b c k m e. apart b c (still b k).0 (still c m).0 e) in
    omega arith)
    (λ (none : (a : ℕ) → a < length ms → is_kept ms a ≡ true → f a ≡ x → ⊥).
    let rest = marks_fit xs ms f
    (λ b k. let at = there b k in in_rest x (f b) xs at.0 at.1 at.2 (λ e. none b (kept_within ms b k) k (sym e)))
    apart in
    omega arith)
    (sought ms f x (length ms))
