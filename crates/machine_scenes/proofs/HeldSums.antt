-- What buffers take, where there is one more or one less.
use Rattle.std.proofs.Common.{◌≡◌, ◌≢◌, ℕ, suc, ◌+◌, ◌≤◌, Bool, true, false, cond, eqb, ℤ, List, [], ◌∷◌, ◌++◌, length, Some, refl, sym, ap, ◌∙◌, arith, ⊎_elim, length-append}
use Rattle.std.specs.Prelude.{flat_map, sum_by}
use Rattle.std.specs.Str.{bytes_eq}
use Rattle.std.proofs.lemmas.Bool.Decides.{eqb_tells}
use Rattle.std.proofs.lemmas.List.Sums.{sum_by-cons}
use Rattle.base.specs.Bytes.{Identifier, lookup}
use Rattle.base.specs.declared.element.ElementType.{ElementType}
use Rattle.semantics.specs.CallEffects.{begun_with, freed, with_freed}
use Rattle.semantics.specs.Thread.{Thread, objects_viewed}
use Rattle.semantics.specs.Variable as source
use Rattle.semantics.specs.Variable.{Variable, Variables, Elements, LocalArray, NoBuffer, Copy, View, change, copied_length, viewed}
use Rattle.semantics.proofs.BegunArrays.{begun_length}
use Rattle.machine_scenes.specs.Buffers.{Acquired, SameAcquired, acquired_by, acquired_of, beside, nothing_acquired}
use Rattle.machine_scenes.specs.HeapAgrees.{times}

-- a buffer more is taken
pub record IsMoreBy (b : source.Buffer) (less more : Acquired) : Type 0 where
  pub copied : more.copied ≡ less.copied + (acquired_of b).copied
  pub many : length more.viewed ≡ length less.viewed + length (acquired_of b).viewed
  pub viewed : (n : ℕ) → times n more.viewed ≡ times n less.viewed + times n (acquired_of b).viewed

-- ---- lists

pub times_append : (n : ℕ) (xs ys : List ℕ) → times n (xs ++ ys) ≡ times n xs + times n ys
times_append n [] ys = omega arith
times_append n (x ∷ xs) ys = by_test (eqb n x) (times_append n xs ys)
  where
    by_test : (t : Bool) → times n (xs ++ ys) ≡ times n xs + times n ys → cond t (suc (times n (xs ++ ys))) (times n (xs ++ ys)) ≡ cond t (suc (times n xs)) (times n xs) + times n ys
    by_test true e = omega (arith, e)
    by_test false e = e

-- a name by itself
pub once : (n : ℕ) → times n (n ∷ []) ≡ 1
once n = ⊎_elim (λ (t : (eqb n n ≡ true) × (n ≡ n)). ap (λ (c : Bool). cond c 1 0) t.0) (λ (t : (eqb n n ≡ false) × (n ≡ n → ⊥)). absurd (t.1 refl)) (eqb_tells n n)

pub never : (m n : ℕ) → m ≢ n → times m (n ∷ []) ≡ 0
never m n other = ⊎_elim (λ (t : (eqb m n ≡ true) × (m ≡ n)). absurd (other t.1)) (λ (t : (eqb m n ≡ false) × (m ≡ n → ⊥)). ap (λ (c : Bool). cond c 1 0) t.0) (eqb_tells m n)

pub times_few : (n : ℕ) (xs : List ℕ) → times n xs ≤ length xs
times_few n [] = omega arith
times_few n (x ∷ xs) = by_test (eqb n x) (times_few n xs)
  where
    by_test : (t : Bool) → times n xs ≤ length xs → cond t (suc (times n xs)) (times n xs) ≤ suc (length xs)
    by_test true e = omega arith
    by_test false e = omega arith

-- ---- a thread's variables

module _ (count : Variable → ℕ) where
  abbrev total : Variables → ℕ
  total vs = sum_by (λ (e : Identifier × Variable). count e.1) vs

  sum_changed : (x : Identifier) (f : Variable → Variable) (vs : Variables) (v : Variable) → lookup x vs ≡ Some v → total (change x f vs) + count v ≡ total vs + count (f v)
  sum_changed x f [] v at = absurd (cc)
  sum_changed x f ((y, u) ∷ vs) v at = by_test (bytes_eq x y) (sum_changed x f vs v) at
    where
      by_test : (t : Bool) → (lookup x vs ≡ Some v → total (change x f vs) + count v ≡ total vs + count (f v)) → cond t (Some u) (lookup x vs) ≡ Some v → total (cond t ((y, f u) ∷ vs) ((y, u) ∷ change x f vs)) + count v ≡ total ((y, u) ∷ vs) + count (f v)
      by_test true later e =
          let same : u ≡ v = cc in
          omega (arith, sum_by-cons (λ (e : Identifier × Variable). count e.1) (y, f u) vs, sum_by-cons (λ (e : Identifier × Variable). count e.1) (y, u) vs, ap count same, ap (λ (w : Variable). count (f w)) same)
      by_test false later e =
          omega (arith, later e, sum_by-cons (λ (e : Identifier × Variable). count e.1) (y, u) vs, sum_by-cons (λ (e : Identifier × Variable). count e.1) (y, u) (change x f vs))

-- what views count for
module _ (count : List ℕ → ℕ) (none : count [] ≡ 0) (both : (xs ys : List ℕ) → count (xs ++ ys) ≡ count xs + count ys) where
  all_views : (vs : Variables) → count (flat_map (λ (e : Identifier × Variable). viewed e.1) vs) ≡ sum_by (λ (e : Identifier × Variable). count (viewed e.1)) vs
  all_views [] = none
  all_views (e ∷ vs) =
      both (viewed e.1) (flat_map (λ (e : Identifier × Variable). viewed e.1) vs)
      ∙ ap (λ (k : ℕ). count (viewed e.1) + k) (all_views vs)
      ∙ sym (sum_by-cons (λ (e : Identifier × Variable). count (viewed e.1)) e vs)

  views_changed : (x : Identifier) (f : Variable → Variable) (vs : Variables) (v : Variable) → lookup x vs ≡ Some v
      → count (flat_map (λ (e : Identifier × Variable). viewed e.1) (change x f vs)) + count (viewed v) ≡ count (flat_map (λ (e : Identifier × Variable). viewed e.1) vs) + count (viewed (f v))
  views_changed x f vs v at = omega (arith, all_views (change x f vs), all_views vs, sum_changed (λ (u : Variable). count (viewed u)) x f vs v at)

-- a variable takes what its buffer does
pub copied_of : (t : ElementType) (b : source.Buffer) → copied_length (Elements t b) ≡ (acquired_of b).copied
copied_of t NoBuffer = refl
copied_of t (Copy n zs) = refl
copied_of t (View n) = refl

pub viewed_of : (t : ElementType) (b : source.Buffer) → viewed (Elements t b) ≡ (acquired_of b).viewed
viewed_of t NoBuffer = refl
viewed_of t (Copy n zs) = refl
viewed_of t (View n) = refl

-- one that is no buffer takes nothing before and after
module _ (x : Identifier) (f : Variable → Variable) (lengths_stay : (v : Variable) → copied_length (f v) ≡ copied_length v) (views_stay : (v : Variable) → viewed (f v) ≡ viewed v) where
  same_lengths : (vs : Variables) → total copied_length (change x f vs) ≡ total copied_length vs
  same_lengths [] = refl
  same_lengths ((y, v) ∷ vs) = by_test (bytes_eq x y) (same_lengths vs)
    where
      by_test : (t : Bool) → total copied_length (change x f vs) ≡ total copied_length vs → total copied_length (cond t ((y, f v) ∷ vs) ((y, v) ∷ change x f vs)) ≡ total copied_length ((y, v) ∷ vs)
      by_test true e = sum_by-cons (λ (e : Identifier × Variable). copied_length e.1) (y, f v) vs ∙ ap (λ (n : ℕ). n + total copied_length vs) (lengths_stay v) ∙ sym (sum_by-cons (λ (e : Identifier × Variable). copied_length e.1) (y, v) vs)
      by_test false e = sum_by-cons (λ (e : Identifier × Variable). copied_length e.1) (y, v) (change x f vs) ∙ ap (λ (n : ℕ). copied_length v + n) e ∙ sym (sum_by-cons (λ (e : Identifier × Variable). copied_length e.1) (y, v) vs)

  same_views : (vs : Variables) → flat_map (λ (e : Identifier × Variable). viewed e.1) (change x f vs) ≡ flat_map (λ (e : Identifier × Variable). viewed e.1) vs
  same_views [] = refl
  same_views ((y, v) ∷ vs) = by_test (bytes_eq x y) (same_views vs)
    where
      by_test : (t : Bool) → flat_map (λ (e : Identifier × Variable). viewed e.1) (change x f vs) ≡ flat_map (λ (e : Identifier × Variable). viewed e.1) vs
          → flat_map (λ (e : Identifier × Variable). viewed e.1) (cond t ((y, f v) ∷ vs) ((y, v) ∷ change x f vs)) ≡ flat_map (λ (e : Identifier × Variable). viewed e.1) ((y, v) ∷ vs)
      by_test true e = ap (λ (l : List ℕ). l ++ flat_map (λ (e : Identifier × Variable). viewed e.1) vs) (views_stay v)
      by_test false e = ap (λ (l : List ℕ). viewed v ++ l) e

begun_views : (zs : List ℤ) (v : Variable) → viewed (begun_with zs v) ≡ viewed v
begun_views zs (LocalArray t ys) = refl
begun_views zs v = refl

-- so where a local array begins with other numbers
pub begun_same : (s : Thread) (x : Identifier) (zs : List ℤ) → acquired_by (record s { variables = change x (begun_with zs) s.variables }) ≡ acquired_by s
begun_same s x zs = λ i. record {
  copied = same_lengths x (begun_with zs) (begun_length zs) (begun_views zs) s.variables i;
  viewed = same_views x (begun_with zs) (begun_length zs) (begun_views zs) s.variables i;
}

-- ---- beside others

-- what takes nothing
pub beside_nothing : (others own : Acquired) → SameAcquired (beside others own) (beside others (beside own nothing_acquired))
beside_nothing others own = record {
  copied = omega arith;
  many = omega (arith, length-append others.viewed own.viewed, length-append others.viewed (own.viewed ++ []), length-append own.viewed []);
  viewed = λ n. omega (arith, times_append n others.viewed own.viewed, times_append n others.viewed (own.viewed ++ []), times_append n own.viewed []);
}

-- a buffer of the thread's
pub beside_more : (others own : Acquired) (b : source.Buffer) → IsMoreBy b (beside others own) (beside others (beside own (acquired_of b)))
beside_more others own b = record {
  copied = omega arith;
  many = omega (arith, length-append others.viewed own.viewed, length-append others.viewed (own.viewed ++ (acquired_of b).viewed), length-append own.viewed (acquired_of b).viewed);
  viewed = λ n. omega (arith, times_append n others.viewed own.viewed, times_append n others.viewed (own.viewed ++ (acquired_of b).viewed), times_append n own.viewed (acquired_of b).viewed);
}

-- one that it gives up
pub beside_freed : (others : Acquired) (s : Thread) (x : Identifier) (t : ElementType) (b : source.Buffer) → lookup x s.variables ≡ Some (Elements t b)
    → IsMoreBy b (beside others (beside (acquired_by (with_freed s x)) nothing_acquired)) (beside others (acquired_by s))
beside_freed others s x t b at = record {
  copied = let copied = sum_changed copied_length x freed s.variables (Elements t b) at in omega (arith, copied, copied_of t b);
  many =
      let many = views_changed length refl length-append x freed s.variables (Elements t b) at in
      omega (arith, many, ap length (viewed_of t b), length-append others.viewed (objects_viewed s.variables), length-append others.viewed (objects_viewed (with_freed s x).variables ++ []), length-append (objects_viewed (with_freed s x).variables) []);
  viewed = λ n.
      let often = views_changed (times n) refl (times_append n) x freed s.variables (Elements t b) at in
      omega (arith, often, ap (times n) (viewed_of t b), times_append n others.viewed (objects_viewed s.variables), times_append n others.viewed (objects_viewed (with_freed s x).variables ++ []), times_append n (objects_viewed (with_freed s x).variables) []);
}

-- a view of a variable is among the thread's
pub views_there : (s : Thread) (x : Identifier) (t : ElementType) (n : ℕ) → lookup x s.variables ≡ Some (Elements t (View n)) → objects_viewed s.variables ≢ []
views_there s x t n at none =
    let often = views_changed (times n) refl (times_append n) x freed s.variables (Elements t (View n)) at in
    absurd (omega (arith, often, once n, ap (times n) none))
