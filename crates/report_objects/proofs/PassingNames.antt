-- The names of the objects that a report shows, counted up from the first.
use Rattle.std.specs.Prelude.{◌≡◌, ℕ, zero, suc, ◌+◌, ◌-◌, ◌<◌, ◌≤◌, Bool, true, false, cond, nat_lt, List, [], ◌∷◌, ◌++◌, length, filter, refl}
use Rattle.std.proofs.Common.{sym, ◌∙◌, ap, arith, subst, ⊎_elim}
use Rattle.std.proofs.lemmas.Bool.{cases_lt, cond_both, le-ltb, lt-ltb}
use Rattle.semantics.specs.Reachable.{from_one, reachable, Reachable}
use Rattle.semantics.specs.ReportOf.{shown}
use Rattle.semantics.specs.State.{State}
use Rattle.semantics.specs.World.{World}
use Rattle.semantics.proofs.ShownNames as source
use Rattle.semantics.proofs.ShownNames.{Tells, from_listed}
use Rattle.semantics.proofs.ReachableLemmas.{In, in_cases, in_head, in_tail}
use Rattle.report_objects.specs.Rows.{count_from, passing}

-- ---- the names from one to before another

one_more : (k c : ℕ) → count_from k c ++ (k + c) ∷ [] ≡ count_from k (suc c)
one_more k zero = let e : k + zero ≡ k = omega arith in ap (λ n. n ∷ []) e
one_more k (suc c) = let e : k + suc c ≡ suc k + c = omega arith in ap (λ n. k ∷ (count_from (suc k) c ++ n ∷ [])) e ∙ ap (λ l. k ∷ l) (one_more (suc k) c)

from_one_is : (n : ℕ) → from_one n ≡ count_from 1 n
from_one_is zero = refl
from_one_is (suc n) =
    let e : suc n ≡ 1 + n = omega arith in
    ap (λ l. l ++ suc n ∷ []) (from_one_is n) ∙ ap (λ m. count_from 1 n ++ m ∷ []) e ∙ one_more 1 n

pub passing-kept : (test : ℕ → Bool) (k end : ℕ) → k < end → test k ≡ true → passing test k end ≡ k ∷ passing test (k + 1) end
unfolding passing
passing-kept test k end h e =
    let count : end - k ≡ suc (end - (k + 1)) = omega arith in
    let next : suc k ≡ k + 1 = omega arith in
    ap (λ c. filter test (count_from k c)) count
    ∙ ap (λ b. cond b (k ∷ filter test (count_from (suc k) (end - (k + 1)))) (filter test (count_from (suc k) (end - (k + 1))))) e
    ∙ ap (λ m. k ∷ filter test (count_from m (end - (k + 1)))) next

pub passing-left : (test : ℕ → Bool) (k end : ℕ) → k < end → test k ≡ false → passing test k end ≡ passing test (k + 1) end
unfolding passing
passing-left test k end h e =
    let count : end - k ≡ suc (end - (k + 1)) = omega arith in
    let next : suc k ≡ k + 1 = omega arith in
    ap (λ c. filter test (count_from k c)) count
    ∙ ap (λ b. cond b (k ∷ filter test (count_from (suc k) (end - (k + 1)))) (filter test (count_from (suc k) (end - (k + 1))))) e
    ∙ ap (λ m. filter test (count_from m (end - (k + 1)))) next

pub passing-end : (test : ℕ → Bool) (k end : ℕ) → end ≤ k → passing test k end ≡ []
unfolding passing
passing-end test k end h = let none : end - k ≡ 0 = omega arith in ap (λ c. filter test (count_from k c)) none

-- ---- those above a number

kept_above : (m k : ℕ) (b : Bool) (rest : List ℕ) → m < k → filter (λ x. nat_lt m x) rest ≡ rest → filter (λ x. nat_lt m x) (cond b (k ∷ rest) rest) ≡ cond b (k ∷ rest) rest
kept_above m k true rest h e = ap (λ t. cond t (k ∷ filter (λ x. nat_lt m x) rest) (filter (λ x. nat_lt m x) rest)) (lt-ltb m k h) ∙ ap (λ l. k ∷ l) e
kept_above m k false rest h e = e

all_above : (m : ℕ) (test : ℕ → Bool) (k c : ℕ) → m < k → filter (λ x. nat_lt m x) (filter test (count_from k c)) ≡ filter test (count_from k c)
all_above m test k zero h = refl
all_above m test k (suc c) h = kept_above m k (test k) (filter test (count_from (suc k) c)) h (all_above m test (suc k) c (omega arith))

left_below : (m k : ℕ) (b : Bool) (rest : List ℕ) → k ≤ m → filter (λ x. nat_lt m x) (cond b (k ∷ rest) rest) ≡ filter (λ x. nat_lt m x) rest
left_below m k true rest h = ap (λ t. cond t (k ∷ filter (λ x. nat_lt m x) rest) (filter (λ x. nat_lt m x) rest)) (le-ltb m k h)
left_below m k false rest h = refl

some_above : (m : ℕ) (test : ℕ → Bool) (k c : ℕ) → k ≤ m + 1 → filter (λ x. nat_lt m x) (filter test (count_from k c)) ≡ filter test (count_from (m + 1) (k + c - (m + 1)))
some_above m test k zero h = let none : k + zero - (m + 1) ≡ 0 = omega arith in sym (ap (λ c. filter test (count_from (m + 1) c)) none)
some_above m test k (suc c) h =
    ⊎_elim
    (λ (low : k < m + 1).
    let count : suc k + c - (m + 1) ≡ k + suc c - (m + 1) = omega arith in
    left_below m k (test k) (filter test (count_from (suc k) c)) (omega arith)
    ∙ some_above m test (suc k) c (omega arith)
    ∙ ap (λ n. filter test (count_from (m + 1) n)) count)
    (λ (high : m + 1 ≤ k).
    let same : k ≡ m + 1 = omega arith in
    let count : suc c ≡ k + suc c - (m + 1) = omega arith in
    all_above m test k (suc c) (omega arith)
    ∙ ap (λ n. filter test (count_from n (suc c))) same
    ∙ ap (λ n. filter test (count_from (m + 1) n)) count)
    (cases_lt k (m + 1))

-- ---- the rows

-- the objects that are shown have the names that pass, after those of the class objects and the OutOfMemoryError object
pub shown_are : (w : World) (s : State) (test : ℕ → Bool) → Tells w s test → shown w s ≡ passing test (length w.classes + 2) (length s.shared.heap + 1)
unfolding passing
shown_are w s test h =
    let count : 1 + length s.shared.heap - (length w.classes + 1 + 1) ≡ length s.shared.heap + 1 - (length w.classes + 2) = omega arith in
    let first : length w.classes + 1 + 1 ≡ length w.classes + 2 = omega arith in
    source.shown_are w s test h
    ∙ ap (λ l. filter (λ n. nat_lt (length w.classes + 1) n) (filter test l)) (from_one_is (length s.shared.heap))
    ∙ some_above (length w.classes + 1) test 1 (length s.shared.heap) (omega arith)
    ∙ ap (λ n. filter test (count_from (length w.classes + 1 + 1) n)) count
    ∙ ap (λ n. filter test (count_from n (length s.shared.heap + 1 - (length w.classes + 2)))) first

-- an object that is shown can be reached
pub shown_reachable : (w : World) (s : State) (n : ℕ) → In (shown w s) n → Reachable w s n
shown_reachable w s n h = from_listed w s n (kept_by (λ m. nat_lt (length w.classes + 1) m) (reachable w s) n h)
  where
    kept_by : (p : ℕ → Bool) (xs : List ℕ) (x : ℕ) → In (filter p xs) x → In xs x
    kept_by p [] x k = k
    kept_by p (y ∷ ys) x k =
        cond_both (p y) (y ∷ filter p ys) (filter p ys) (λ l. In l x → In (y ∷ ys) x)
        (λ e l. ⊎_elim (λ (same : y ≡ x). subst (λ z. In (y ∷ ys) z) same (in_head y ys)) (λ (later : In (filter p ys) x). in_tail y ys x (kept_by p ys x later)) (in_cases y (filter p ys) x l))
        (λ e l. in_tail y ys x (kept_by p ys x l))
        k
