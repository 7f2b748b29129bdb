-- Roots that are marked one after another.
use Rattle.std.proofs.Common.{◌≡◌, ℕ, zero, suc, ◌+◌, ◌<◌, ◌≤◌, Bool, true, false, cond, List, [], ◌∷◌, ◌++◌, length, get_or, set, Some, None, replicate, refl, sym, ap, ◌∙◌, subst, arith, ⊎_elim, inl, inr, ◌⊎◌, Contains}
use Rattle.std.specs.Prelude.{nat_lt, nat_le, ◌&&◌}
use Rattle.std.proofs.lemmas.Bool.{cases_eq, false≢true}
use Rattle.std.proofs.lemmas.Bool.Decides.{nat_tests}
use Rattle.std.proofs.lemmas.List.{get_or-set_same, get_or-set_other, length-set}
use Rattle.semantics.specs.Reachable.{from_one}
use Rattle.semantics.proofs.ShownRows.{from_one-contains}
use Rattle.semantics.proofs.ReachableLemmas.{In, contains_in, to_contains, in_append_left, in_append_right, in_append_cases}
use Rattle.reachability.specs.Marks.{is_marked}
use Rattle.report_objects.specs.Names.{IsWithin, within, AreRoots}

-- ---- a name among this number of names

pub within_yes : (count n : ℕ) → IsWithin count n → within count (Some n) ≡ Some n
within_yes count n h = ap (λ (b : Bool). cond b (Some n) None) (both (nat_lt 0 n) (nat_le n count) (low n h.0) (high n count h.1))
  where
    both : (a b : Bool) → a ≡ true → b ≡ true → (a && b) ≡ true
    both true b e f = f
    both false b e f = e

    low : (n : ℕ) → 0 < n → nat_lt 0 n ≡ true
    low n h = grind (arith, nat_tests)

    high : (n m : ℕ) → n ≤ m → nat_le n m ≡ true
    high n m h = grind (arith, nat_tests)

pub from_within : (count n m : ℕ) → within count (Some n) ≡ Some m → (n ≡ m) × IsWithin count n
from_within count n m h = go (nat_lt 0 n) (nat_le n count) refl refl h
  where
    low : (n : ℕ) → nat_lt 0 n ≡ true → 0 < n
    low n h = grind (arith, nat_tests)

    high : (n m : ℕ) → nat_le n m ≡ true → n ≤ m
    high n m h = grind (arith, nat_tests)

    go : (a b : Bool) → nat_lt 0 n ≡ a → nat_le n count ≡ b → cond (a && b) (Some n) None ≡ Some m → (n ≡ m) × IsWithin count n
    go true true e f k = (cc, (low n e, high n count f))
    go true false e f k = absurd (cc)
    go false b e f k = absurd (cc)

-- ---- marks

clear : (k n : ℕ) → is_marked (replicate k false) n ≡ false
clear zero n = refl
clear (suc k) zero = refl
clear (suc k) (suc n) = clear k n

long : (k : ℕ) → length (replicate k false) ≡ k
long zero = refl
long (suc k) = ap suc (long k)

pub none_marked : (count : ℕ) (P : ℕ → Type 0) → ((n : ℕ) → P n → ⊥) → AreRoots count P (replicate (count + 1) false)
none_marked count P none = record {
  counted = long (count + 1);
  sound = λ n m. absurd (false≢true (sym (clear (count + 1) n) ∙ m));
  complete = λ n w p. absurd (none n p);
}

-- a further root
pub one_marked : (count : ℕ) (P Q : ℕ → Type 0) (marks : List Bool) (a : ℕ) → AreRoots count P marks → IsWithin count a → Q a → ((n : ℕ) → P n → Q n) → ((n : ℕ) → Q n → (n ≡ a) ⊎ P n) → AreRoots count Q (set marks a true)
one_marked count P Q marks a h w q more back =
    let there : a < length marks = omega (arith, w.1, h.counted) in
    let now : is_marked (set marks a true) a ≡ true = get_or-set_same marks a true false there in
    let kept : (n : ℕ) → is_marked marks n ≡ true → is_marked (set marks a true) n ≡ true = λ n m. ⊎_elim
    (λ (e : n ≡ a). subst (λ k. is_marked (set marks a true) k ≡ true) (sym e) now)
    (λ (ne : n ≡ a → ⊥). get_or-set_other marks a n true false ne ∙ m)
    (cases_eq n a) in
    record {
      counted = length-set marks a true ∙ h.counted;
      sound = λ n m. ⊎_elim
          (λ (e : n ≡ a). (subst (IsWithin count) (sym e) w, subst Q (sym e) q))
          (λ (ne : n ≡ a → ⊥). let was = h.sound n (sym (get_or-set_other marks a n true false ne) ∙ m) in (was.0, more n was.1))
          (cases_eq n a);
      complete = λ n v r. ⊎_elim
          (λ (e : n ≡ a). subst (λ k. is_marked (set marks a true) k ≡ true) (sym e) now)
          (λ (p : P n). kept n (h.complete n v p))
          (back n r);
    }

-- the same roots in other words
pub roots_are : (count : ℕ) (P Q : ℕ → Type 0) (marks : List Bool) → AreRoots count P marks → ((n : ℕ) → IsWithin count n → P n → Q n) → ((n : ℕ) → IsWithin count n → Q n → P n) → AreRoots count Q marks
roots_are count P Q marks h f g = record {
  counted = h.counted;
  sound = λ n m. let was = h.sound n m in (was.0, f n was.0 was.1);
  complete = λ n w q. h.complete n w (g n w q);
}

-- ---- the first names

-- the names below one
abbrev pub IsBelow : ℕ → ℕ → Type 0
IsBelow name n = (0 < n) × (n < name)

pub next_marked : (count name : ℕ) (marks : List Bool) → AreRoots count (IsBelow name) marks → IsWithin count name → AreRoots count (IsBelow (name + 1)) (set marks name true)
next_marked count name marks h w =
    one_marked count (IsBelow name) (IsBelow (name + 1)) marks name h w (w.0, omega arith)
    (λ n p. (p.0, omega (arith, p.1)))
    (λ n q. ⊎_elim
    (λ (e : n ≡ name). inl e)
    (λ (ne : n ≡ name → ⊥). inr (q.0, omega (arith, q.1)))
    (cases_eq n name))

-- ---- other roots

-- a name of an object made at load, or one of the first of these
abbrev pub IsSoFar : (loaded : ℕ) → (names : List ℕ) → (index : ℕ) → ℕ → Type 0
IsSoFar loaded names index n = ((0 < n) × (n ≤ loaded)) ⊎ ((k : ℕ) × (k < index) × (k < length names) × (get_or names k n ≡ n))

default_other : (xs : List ℕ) (k d e : ℕ) → k < length xs → get_or xs k d ≡ get_or xs k e
default_other [] k d e h = absurd (omega arith)
default_other (x ∷ xs) zero d e h = refl
default_other (x ∷ xs) (suc k) d e h = default_other xs k d e (omega arith)

earlier : (loaded : ℕ) (names : List ℕ) (index n : ℕ) → IsSoFar loaded names index n → IsSoFar loaded names (index + 1) n
earlier loaded names index n (inl l) = inl l
earlier loaded names index n (inr c) = inr (c.0, omega (arith, c.1), c.2, c.3)

later : (loaded : ℕ) (names : List ℕ) (index a n : ℕ) → get_or names index 0 ≡ a → IsSoFar loaded names (index + 1) n → (n ≡ a) ⊎ IsSoFar loaded names index n
later loaded names index a n is (inl l) = inr (inl l)
later loaded names index a n is (inr c) =
    ⊎_elim
    (λ (e : c.0 ≡ index). inl (sym c.3 ∙ default_other names c.0 n 0 c.2 ∙ ap (λ k. get_or names k 0) e ∙ is))
    (λ (ne : c.0 ≡ index → ⊥). inr (inr (c.0, omega (arith, c.1), c.2, c.3)))
    (cases_eq c.0 index)

pub name_marked : (count loaded : ℕ) (names : List ℕ) (index a : ℕ) (marks : List Bool) → AreRoots count (IsSoFar loaded names index) marks → index < length names → within count (Some (get_or names index 0)) ≡ Some a → AreRoots count (IsSoFar loaded names (index + 1)) (set marks a true)
name_marked count loaded names index a marks h low found =
    let is = from_within count (get_or names index 0) a found in
    one_marked count (IsSoFar loaded names index) (IsSoFar loaded names (index + 1)) marks a h (subst (IsWithin count) is.0 is.1)
    (inr (index, omega arith, low, default_other names index a 0 low ∙ is.0))
    (earlier loaded names index) (λ n. later loaded names index a n is.0)

pub name_passed : (count loaded : ℕ) (names : List ℕ) (index : ℕ) (marks : List Bool) → AreRoots count (IsSoFar loaded names index) marks → ((a : ℕ) → within count (Some (get_or names index 0)) ≡ Some a → ⊥) → AreRoots count (IsSoFar loaded names (index + 1)) marks
name_passed count loaded names index marks h other =
    roots_are count (IsSoFar loaded names index) (IsSoFar loaded names (index + 1)) marks h
    (λ n w. earlier loaded names index n)
    (λ n w q. ⊎_elim
    (λ (e : n ≡ get_or names index 0). absurd (other n (ap (λ m. within count (Some m)) (sym e) ∙ within_yes count n w)))
    (λ (p : IsSoFar loaded names index n). p)
    (later loaded names index (get_or names index 0) n refl q))

-- ---- all of them

pub from_one-within : (k n : ℕ) → In (from_one k) n → (0 < n) × (n ≤ k)
from_one-within zero n h = absurd (false≢true h)
from_one-within (suc k) n h =
    ⊎_elim
    (λ (l : In (from_one k) n). let r = from_one-within k n l in (r.0, omega (arith, r.1)))
    (λ (l : In (suc k ∷ []) n). let c = to_contains (suc k ∷ []) n l in last c.0 n c.1 c.2)
    (in_append_cases (from_one k) (suc k ∷ []) n h)
  where
    last : (i n : ℕ) → i < 1 → get_or (suc k ∷ []) i n ≡ n → (0 < n) × (n ≤ suc k)
    last zero n l e = (omega (arith, e), omega (arith, e))
    last (suc i) n l e = absurd (omega (arith, l))

pub all_marked : (count loaded : ℕ) (names : List ℕ) (index : ℕ) (marks : List Bool) → AreRoots count (IsSoFar loaded names index) marks → length names ≤ index → AreRoots count (Contains (from_one loaded ++ names)) marks
all_marked count loaded names index marks h past =
    roots_are count (IsSoFar loaded names index) (Contains (from_one loaded ++ names)) marks h
    (λ n w p. to_contains (from_one loaded ++ names) n (there n p))
    (λ n w c. back n (in_append_cases (from_one loaded) names n (contains_in (from_one loaded ++ names) n c)))
  where
    there : (n : ℕ) → IsSoFar loaded names index n → In (from_one loaded ++ names) n
    there n (inl l) = in_append_left (from_one loaded) names n (contains_in (from_one loaded) n (from_one-contains loaded n l.0 l.1))
    there n (inr c) = in_append_right (from_one loaded) names n (contains_in names n (c.0, c.2, c.3))

    back : (n : ℕ) → In (from_one loaded) n ⊎ In names n → IsSoFar loaded names index n
    back n (inl l) = inl (from_one-within loaded n l)
    back n (inr l) = let c = to_contains names n l in inr (c.0, omega (arith, c.1, past), c.1, c.2)
