-- The computed list of reachable objects is the least set that has the roots and what its members refer to.
use Rattle.std.specs.Prelude.{◌≡◌, ℕ, zero, suc, ◌+◌, ◌<◌, ◌≤◌, Bool, true, false, cond, ◌==◌, ◌⊎◌, List, [], ◌∷◌, ◌++◌, length, filter, flat_map, Contains, slice_index_or, refl}
use Rattle.std.proofs.Common.{sym, ◌∙◌, ap, subst, inl, inr, arith, length-append}
use Rattle.std.proofs.lemmas.Bool.{false≢true, or_left, or_right, or_cases, eqb-true, eq-eqb, eqb-false, cond_both, cases_order, both_ways}
use Rattle.std.proofs.lemmas.List.Folds.{list_any-append}
use Rattle.semantics.specs.World.{World}
use Rattle.semantics.specs.Heap.{Heap}
use Rattle.semantics.specs.Reachable.{from_one, roots, references_of, Reached, FromRoot, FromObject, is_in, rising, grown, closed, reached, reachable, ListsReached}
use Rattle.semantics.specs.State.{State}

-- ---- membership

abbrev pub In : List ℕ → ℕ → Type 0
In xs x = is_in xs x ≡ true

pub in_head : (x : ℕ) (xs : List ℕ) → In (x ∷ xs) x
in_head x xs = or_left (x == x) (is_in xs x) (eq-eqb x x refl)

pub in_tail : (y : ℕ) (xs : List ℕ) (x : ℕ) → In xs x → In (y ∷ xs) x
in_tail y xs x h = or_right (y == x) (is_in xs x) h

pub in_cases : (y : ℕ) (xs : List ℕ) (x : ℕ) → In (y ∷ xs) x → (y ≡ x) ⊎ In xs x
in_cases y xs x h = go (or_cases (y == x) (is_in xs x) h)
  where
    go : ((y == x) ≡ true) ⊎ In xs x → (y ≡ x) ⊎ In xs x
    go (inl e) = inl (eqb-true y x e)
    go (inr k) = inr k

pub in_append_left : (xs ys : List ℕ) (x : ℕ) → In xs x → In (xs ++ ys) x
in_append_left xs ys x h = list_any-append (λ m. m == x) xs ys ∙ or_left (is_in xs x) (is_in ys x) h

pub in_append_right : (xs ys : List ℕ) (x : ℕ) → In ys x → In (xs ++ ys) x
in_append_right xs ys x h = list_any-append (λ m. m == x) xs ys ∙ or_right (is_in xs x) (is_in ys x) h

pub in_append_cases : (xs ys : List ℕ) (x : ℕ) → In (xs ++ ys) x → In xs x ⊎ In ys x
in_append_cases xs ys x h = or_cases (is_in xs x) (is_in ys x) (sym (list_any-append (λ m. m == x) xs ys) ∙ h)

kept : (p : ℕ → Bool) (y : ℕ) (ys : List ℕ) (x : ℕ) → (In ys x → In (filter p ys) x) → (y ≡ x) ⊎ In ys x → In (y ∷ filter p ys) x
kept p y ys x further (inl q) = subst (λ z. In (z ∷ filter p ys) x) (sym q) (in_head x (filter p ys))
kept p y ys x further (inr k) = in_tail y (filter p ys) x (further k)

dropped : (p : ℕ → Bool) (y : ℕ) (ys : List ℕ) (x : ℕ) → (In ys x → In (filter p ys) x) → p x ≡ true → p y ≡ false → (y ≡ x) ⊎ In ys x → In (filter p ys) x
dropped p y ys x further e f (inl q) = absurd (both_ways (p x) (subst (λ z. p z ≡ false) q f) e)
dropped p y ys x further e f (inr k) = further k

pub in_filter : (p : ℕ → Bool) (xs : List ℕ) (x : ℕ) → p x ≡ true → In xs x → In (filter p xs) x
in_filter p [] x e h = h
in_filter p (y ∷ ys) x e h =
    cond_both (p y) (y ∷ filter p ys) (filter p ys) (λ l. In l x)
    (λ t. kept p y ys x (in_filter p ys x e) (in_cases y ys x h))
    (λ f. dropped p y ys x (in_filter p ys x e) e f (in_cases y ys x h))

abbrev Passed : (ℕ → Bool) → List ℕ → ℕ → Type 0
Passed p xs x = (p x ≡ true) × In xs x

was_kept : (p : ℕ → Bool) (y : ℕ) (ys : List ℕ) (x : ℕ) → (In (filter p ys) x → Passed p ys x) → p y ≡ true → (y ≡ x) ⊎ In (filter p ys) x → Passed p (y ∷ ys) x
was_kept p y ys x further e (inl q) = (subst (λ z. p z ≡ true) q e, subst (λ z. In (z ∷ ys) x) (sym q) (in_head x ys))
was_kept p y ys x further e (inr k) = ((further k).0, in_tail y ys x (further k).1)

pub from_filter : (p : ℕ → Bool) (xs : List ℕ) (x : ℕ) → In (filter p xs) x → Passed p xs x
from_filter p [] x h = absurd (false≢true h)
from_filter p (y ∷ ys) x h =
    cond_both (p y) (y ∷ filter p ys) (filter p ys) (λ l. In l x → Passed p (y ∷ ys) x)
    (λ e k. was_kept p y ys x (from_filter p ys x) e (in_cases y (filter p ys) x k))
    (λ e k. ((from_filter p ys x k).0, in_tail y ys x (from_filter p ys x k).1))
    h

in_flat_map : (f : ℕ → List ℕ) (ms : List ℕ) (m x : ℕ) → In ms m → In (f m) x → In (flat_map f ms) x
in_flat_map f [] m x h k = absurd (false≢true h)
in_flat_map f (y ∷ ys) m x h k = go (in_cases y ys m h) (λ h'. in_flat_map f ys m x h' k)
  where
    go : (y ≡ m) ⊎ In ys m → (In ys m → In (flat_map f ys) x) → In (f y ++ flat_map f ys) x
    go (inl q) further = in_append_left (f y) (flat_map f ys) x (subst (λ z. In (f z) x) (sym q) k)
    go (inr h') further = in_append_right (f y) (flat_map f ys) x (further h')

abbrev FromSome : (ℕ → List ℕ) → List ℕ → ℕ → Type 0
FromSome f ms x = (m : ℕ) × In ms m × In (f m) x

from_flat_map : (f : ℕ → List ℕ) (ms : List ℕ) (x : ℕ) → In (flat_map f ms) x → FromSome f ms x
from_flat_map f [] x h = absurd (false≢true h)
from_flat_map f (y ∷ ys) x h = go (in_append_cases (f y) (flat_map f ys) x h) (from_flat_map f ys x)
  where
    go : In (f y) x ⊎ In (flat_map f ys) x → (In (flat_map f ys) x → FromSome f ys x) → FromSome f (y ∷ ys) x
    go (inl k) further = (y, in_head y ys, k)
    go (inr k) further = let r = further k in (r.0, in_tail y ys r.0 r.1, r.2)

-- ---- lengths of filters

bit : Bool → ℕ
bit true = 1
bit false = 0

bit_le : (a b : Bool) → (a ≡ true → b ≡ true) → bit a ≤ bit b
unfolding bit
bit_le true b h = rw (h refl) omega arith
bit_le false b h = omega arith

bit_back : (a b : Bool) → bit b ≤ bit a → b ≡ true → a ≡ true
unfolding bit
bit_back true b h e = refl
bit_back false true h e = absurd (omega (arith, h))
bit_back false false h e = e

length_cond : (b : Bool) (y : ℕ) (ys : List ℕ) → length (cond b (y ∷ ys) ys) ≡ bit b + length ys
unfolding bit
length_cond true y ys = omega arith
length_cond false y ys = omega arith

abbrev Implies : (ℕ → Bool) → (ℕ → Bool) → List ℕ → Type 0
Implies p q xs = (x : ℕ) → In xs x → p x ≡ true → q x ≡ true

filter_length : (p q : ℕ → Bool) (xs : List ℕ) → Implies p q xs → length (filter p xs) ≤ length (filter q xs)
filter_length p q [] h = omega arith
filter_length p q (y ∷ ys) h =
    let rest = filter_length p q ys (λ x k. h x (in_tail y ys x k)) in
    let here = bit_le (p y) (q y) (h y (in_head y ys)) in
    let left = length_cond (p y) y (filter p ys) in
    let right = length_cond (q y) y (filter q ys) in
    omega (arith, rest, here, left, right)

filter_same : (p q : ℕ → Bool) (xs : List ℕ) → Implies p q xs → length (filter q xs) ≤ length (filter p xs) → Implies q p xs
filter_same p q [] h l x k e = absurd (false≢true k)
filter_same p q (y ∷ ys) h l x k e = go (in_cases y ys x k) (λ l'. filter_same p q ys (λ z k'. h z (in_tail y ys z k')) l' x)
  where
    rest : length (filter p ys) ≤ length (filter q ys)
    rest = filter_length p q ys (λ z k'. h z (in_tail y ys z k'))

    here : bit (p y) ≤ bit (q y)
    here = bit_le (p y) (q y) (h y (in_head y ys))

    left : length (filter p (y ∷ ys)) ≡ bit (p y) + length (filter p ys)
    left = length_cond (p y) y (filter p ys)

    right : length (filter q (y ∷ ys)) ≡ bit (q y) + length (filter q ys)
    right = length_cond (q y) y (filter q ys)

    go : (y ≡ x) ⊎ In ys x → (length (filter q ys) ≤ length (filter p ys) → In ys x → q x ≡ true → p x ≡ true) → p x ≡ true
    go (inl r) further = subst (λ z. p z ≡ true) r (bit_back (p y) (q y) (omega (arith, l, left, right, rest)) (subst (λ z. q z ≡ true) (sym r) e))
    go (inr k') further = further (omega (arith, l, left, right, here)) k' e

-- ---- the closure

abbrev names_of : Heap → List ℕ
names_of heap = from_one (length heap)

-- whether a name is among these or what they refer to
abbrev reached_from : Heap → List ℕ → ℕ → Bool
reached_from heap names = is_in (names ++ flat_map (references_of heap) names)

record Saturated (heap : Heap) (names r : List ℕ) : Type 0 where
  bigger : (x : ℕ) → In names x → In r x
  saturated : (m x : ℕ) → In r m → In (references_of heap m) x → In (names_of heap) x → In r x

length_filter_all : (xs : List ℕ) → length (filter (λ x. true) xs) ≡ length xs
length_filter_all [] = refl
length_filter_all (x ∷ xs) = ap suc (length_filter_all xs)

less_from : (a b : ℕ) → a ≤ b → (b ≡ a → ⊥) → a < b
less_from a b h ne = go (cases_order a b)
  where
    go : (a ≡ b) ⊎ ((a < b) ⊎ (b < a)) → a < b
    go (inl e) = absurd (ne (sym e))
    go (inr (inl l)) = l
    go (inr (inr l)) = absurd (omega (arith, h, l))

grows : (heap : Heap) (p : ℕ → Bool) → Implies p (reached_from heap (filter p (names_of heap))) (names_of heap)
grows heap p x k e = in_append_left (filter p (names_of heap)) (flat_map (references_of heap) (filter p (names_of heap))) x (in_filter p (names_of heap) x e k)

refers : (heap : Heap) (p : ℕ → Bool) (m x : ℕ) → In (filter p (names_of heap)) m → In (references_of heap m) x → reached_from heap (filter p (names_of heap)) x ≡ true
refers heap p m x k r = in_append_right (filter p (names_of heap)) (flat_map (references_of heap) (filter p (names_of heap))) x (in_flat_map (references_of heap) (filter p (names_of heap)) m x k r)

stopped : (heap : Heap) (p : ℕ → Bool) → Implies (reached_from heap (filter p (names_of heap))) p (names_of heap) → Saturated heap (filter p (names_of heap)) (filter p (names_of heap))
stopped heap p back = record {
  bigger = λ x k. k;
  saturated = λ m x k r a. in_filter p (names_of heap) x (back x a (refers heap p m x k r)) a;
}

continued : (heap : Heap) (p : ℕ → Bool) (r : List ℕ) → Saturated heap (filter (reached_from heap (filter p (names_of heap))) (names_of heap)) r → Saturated heap (filter p (names_of heap)) r
continued heap p r h = record {
  bigger = λ x k. h.bigger x (in_filter (reached_from heap (filter p (names_of heap))) (names_of heap) x (grows heap p x (from_filter p (names_of heap) x k).1 (from_filter p (names_of heap) x k).0) (from_filter p (names_of heap) x k).1);
  saturated = h.saturated;
}

closed_saturates : (n : ℕ) (heap : Heap) (p : ℕ → Bool) → length (names_of heap) ≤ length (filter p (names_of heap)) + n → Saturated heap (filter p (names_of heap)) (closed n heap (filter p (names_of heap)))
closed_saturates zero heap p h =
    stopped heap p (λ x k e. filter_same p (λ y. true) (names_of heap) (λ y k' e'. refl) (omega (arith, h, length_filter_all (names_of heap))) x k refl)
closed_saturates (suc n) heap p h =
    let names : List ℕ = filter p (names_of heap) in
    let more : List ℕ = filter (reached_from heap names) (names_of heap) in
    cond_both (length more == length names) names (closed n heap more) (λ r. Saturated heap names r)
    (λ e. stopped heap p (filter_same p (reached_from heap names) (names_of heap) (grows heap p) (omega (arith, eqb-true (length more) (length names) e))))
    (λ f. continued heap p (closed n heap more) (closed_saturates n heap (reached_from heap names)
    (omega (arith, h, less_from (length names) (length more) (filter_length p (reached_from heap names) (names_of heap) (grows heap p)) (eqb-false (length more) (length names) f)))))

closed_least : (n : ℕ) (heap : Heap) (Q : ℕ → Type 0) → ((m x : ℕ) → Q m → In (names_of heap) x → In (references_of heap m) x → Q x) → (names : List ℕ) → ((x : ℕ) → In names x → Q x) → (x : ℕ) → In (closed n heap names) x → Q x
closed_least zero heap Q step names all x k = all x k
closed_least (suc n) heap Q step names all x k =
    cond_both (length (grown heap names) == length names) names (closed n heap (grown heap names)) (λ r. In r x → Q x)
    (λ e. all x)
    (λ f. closed_least n heap Q step (grown heap names) more x)
    k
  where
    one : (y : ℕ) → In (names_of heap) y → In names y ⊎ In (flat_map (references_of heap) names) y → Q y
    one y a (inl h) = all y h
    one y a (inr h) = let r = from_flat_map (references_of heap) names y h in step r.0 y (all r.0 r.1) a r.2

    more : (y : ℕ) → In (grown heap names) y → Q y
    more y h = let passed = from_filter (reached_from heap names) (names_of heap) y h in one y passed.1 (in_append_cases names (flat_map (references_of heap) names) y passed.0)

-- ---- order

pub filter_agree_in : (p q : ℕ → Bool) (xs : List ℕ) → ((x : ℕ) → In xs x → p x ≡ q x) → filter p xs ≡ filter q xs
filter_agree_in p q [] h = refl
filter_agree_in p q (y ∷ ys) h =
    let rest = filter_agree_in p q ys (λ x k. h x (in_tail y ys x k)) in
    rw (h y (in_head y ys), rest) refl

-- whether an element passes a test, or is one of those that do
passes_if_kept : (p : ℕ → Bool) (xs : List ℕ) (x : ℕ) → In xs x → is_in (filter p xs) x ≡ p x
passes_if_kept p xs x k = go (p x) refl
  where
    no : p x ≡ false → (b : Bool) → is_in (filter p xs) x ≡ b → b ≡ false
    no e true h = absurd (both_ways (p x) e (from_filter p xs x h).0)
    no e false h = refl

    go : (b : Bool) → p x ≡ b → is_in (filter p xs) x ≡ p x
    go true e = in_filter p xs x e k ∙ sym e
    go false e = no e (is_in (filter p xs) x) refl ∙ sym e

abbrev pub IsRising : Heap → List ℕ → Type 0
IsRising heap r = (p : ℕ → Bool) × (r ≡ filter p (names_of heap))

pub closed_rising : (n : ℕ) (heap : Heap) (p : ℕ → Bool) → IsRising heap (closed n heap (filter p (names_of heap)))
closed_rising zero heap p = (p, refl)
closed_rising (suc n) heap p =
    let names : List ℕ = filter p (names_of heap) in
    cond_both (length (grown heap names) == length names) names (closed n heap (grown heap names)) (λ r. IsRising heap r)
    (λ e. (p, refl))
    (λ f. closed_rising n heap (reached_from heap names))

in_order_from : (heap : Heap) (r : List ℕ) → IsRising heap r → r ≡ rising heap r
in_order_from heap r (p, e) =
    subst (λ l. l ≡ rising heap l) (sym e) (sym (filter_agree_in (is_in (filter p (names_of heap))) p (names_of heap) (passes_if_kept p (names_of heap))))

-- ---- the law

pub to_contains : (xs : List ℕ) (x : ℕ) → In xs x → Contains xs x
to_contains [] x h = absurd (false≢true h)
to_contains (y ∷ ys) x h = go (in_cases y ys x h) (to_contains ys x)
  where
    go : (y ≡ x) ⊎ In ys x → (In ys x → Contains ys x) → Contains (y ∷ ys) x
    go (inl e) further = (0, omega arith, e)
    go (inr k) further = let c = further k in (suc c.0, omega (arith, c.1), c.2)

from_contains : (xs : List ℕ) (x k : ℕ) → k < length xs → slice_index_or xs k x ≡ x → In xs x
from_contains [] x k l e = absurd (omega (arith, l))
from_contains (y ∷ ys) x zero l e = subst (λ z. In (z ∷ ys) x) (sym e) (in_head x ys)
from_contains (y ∷ ys) x (suc k) l e = in_tail y ys x (from_contains ys x k (omega (arith, l)) e)

pub contains_in : (xs : List ℕ) (x : ℕ) → Contains xs x → In xs x
contains_in xs x c = from_contains xs x c.0 c.1 c.2

length-from_one : (n : ℕ) → length (from_one n) ≡ n
length-from_one zero = refl
length-from_one (suc n) = let r = length-from_one n in omega (arith, r, length-append (from_one n) (suc n ∷ []))

module _ (heap : Heap) (from : List ℕ) where
  saturated_roots : Saturated heap (rising heap from) (reached heap from)
  saturated_roots = closed_saturates (length heap) heap (is_in from) (omega (arith, length-from_one (length heap)))

  is_listed : (n : ℕ) → Reached heap from n → In (reached heap from) n
  is_listed n (FromRoot x a c) = saturated_roots.bigger x (in_filter (is_in from) (from_one (length heap)) x (contains_in from x c) (contains_in (from_one (length heap)) x a))
  is_listed n (FromObject m x r a c) = saturated_roots.saturated m x (is_listed m r) (contains_in (references_of heap m) x c) (contains_in (from_one (length heap)) x a)

  from_root : (x : ℕ) → In (rising heap from) x → Reached heap from x
  from_root x k = let passed = from_filter (is_in from) (from_one (length heap)) x k in FromRoot x (to_contains (from_one (length heap)) x passed.1) (to_contains from x passed.0)

  from_object : (m x : ℕ) → Reached heap from m → In (names_of heap) x → In (references_of heap m) x → Reached heap from x
  from_object m x r a k = FromObject m x r (to_contains (from_one (length heap)) x a) (to_contains (references_of heap m) x k)

  -- the computed list has exactly the objects that are reached
  pub reached_lists : ListsReached heap from (reached heap from)
  reached_lists = record {
    sound = λ n c. closed_least (length heap) heap (Reached heap from) from_object (rising heap from) from_root n (contains_in (reached heap from) n c);
    complete = λ n r. to_contains (reached heap from) n (is_listed n r);
    in_order = in_order_from heap (reached heap from) (closed_rising (length heap) heap (is_in from));
  }

-- the same of what is reached from the roots
pub reachable_lists : (w : World) (s : State) → ListsReached s.shared.heap (roots w s) (reachable w s)
reachable_lists w s = reached_lists s.shared.heap (roots w s)
