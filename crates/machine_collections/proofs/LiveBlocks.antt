-- The reachable objects take no more cells than the blocks that stand for them.
use Rattle.std.proofs.Common.{◌≡◌, ℕ, zero, suc, ◌+◌, ◌≤◌, Bool, true, false, cond, eqb, List, [], ◌∷◌, ◌++◌, length, map, Option, Some, refl, sym, ap, ◌∙◌, subst, arith, ⊎_elim}
use Rattle.std.specs.Prelude.{◌==◌, filter, find, not, sum_by}
use Rattle.std.specs.Option.{option_map, option_map_or}
use Rattle.std.proofs.lemmas.Bool.{cond_both, eq-eqb, false≢true}
use Rattle.std.proofs.lemmas.Bool.Decides.{eqb_tells}
use Rattle.std.proofs.lemmas.List.Sums.{sum_by-cons}
use Rattle.heap.specs.Heap.{Block, Space, IsLaidOut, LieFrom, block_end, block_size, end_from, end_of}
use Rattle.semantics.specs.Heap.{Heap, values_of}
use Rattle.semantics.specs.Object.{Object, ObjectValue}
use Rattle.semantics.specs.Reachable.{Reachable, from_one, is_in, live_size, reachable, size_at}
use Rattle.semantics.specs.State.{State}
use Rattle.semantics.specs.World.{World}
use Rattle.semantics.proofs.ReachableLemmas.{In, in_append_cases, in_cases, in_head, in_tail, reachable_lists, to_contains}
use Rattle.machine_scenes.specs.HeapAgrees.{BlockAgrees, BlocksAgree, IsNamed}
use Rattle.machine_scenes.proofs.HeapLaws.{from_one-bounds}
use Rattle.machine_scenes.proofs.Loaded.{agree_length}
use Rattle.machine_collections.proofs.Rising.{from_passed}

-- ---- lists without repetition

-- no name is there twice
abbrev pub AreApart : List ℕ → Type 0
AreApart [] = Unit {0}
AreApart (x ∷ xs) = (In xs x → ⊥) × AreApart xs

apart_filter : (p : ℕ → Bool) (xs : List ℕ) → AreApart xs → AreApart (filter p xs)
apart_filter p [] h = tt
apart_filter p (x ∷ xs) h =
    cond_both (p x) (x ∷ filter p xs) (filter p xs) (λ l. AreApart l)
    (λ e. (λ k. h.0 (from_passed p xs x k).1, apart_filter p xs h.1))
    (λ e. apart_filter p xs h.1)

apart_push : (xs : List ℕ) (y : ℕ) → AreApart xs → (In xs y → ⊥) → AreApart (xs ++ y ∷ [])
apart_push [] y h other = (λ k. false≢true k, tt)
apart_push (x ∷ xs) y h other = (
  λ k. ⊎_elim
      (λ (l : In xs x). h.0 l)
      (λ (l : In (y ∷ []) x). ⊎_elim (λ (same : y ≡ x). other (subst (λ z. In (x ∷ xs) z) (sym same) (in_head x xs))) (λ (none : In [] x). false≢true none) (in_cases y [] x l))
      (in_append_cases xs (y ∷ []) x k),
  apart_push xs y h.1 (λ k. other (in_tail x xs y k)),
)

from_one_apart : (n : ℕ) → AreApart (from_one n)
from_one_apart zero = tt
from_one_apart (suc n) = apart_push (from_one n) (suc n) (from_one_apart n) (λ k. let b = from_one-bounds n (suc n) (to_contains (from_one n) (suc n) k) in omega (arith, b.1))

-- the names but one
abbrev pub others : ℕ → List ℕ → List ℕ
others n xs = filter (λ x. not (x == n)) xs

none_other : (n : ℕ) (xs : List ℕ) → (In xs n → ⊥) → others n xs ≡ xs
none_other n [] h = refl
none_other n (x ∷ xs) h =
    ⊎_elim
    (λ (t : (eqb x n ≡ true) × (x ≡ n)). absurd (h (subst (λ z. In (x ∷ xs) z) t.1 (in_head x xs))))
    (λ (t : (eqb x n ≡ false) × (x ≡ n → ⊥)).
    ap (λ (b : Bool). cond (not b) (x ∷ others n xs) (others n xs)) t.0 ∙ ap (λ (l : List ℕ). x ∷ l) (none_other n xs (λ k. h (in_tail x xs n k))))
    (eqb_tells x n)

sum_others : (f : ℕ → ℕ) (n : ℕ) (xs : List ℕ) → AreApart xs → sum_by f xs ≤ f n + sum_by f (others n xs)
sum_others f n [] h = omega arith
sum_others f n (x ∷ xs) h =
    let here = sum_by-cons f x xs in
    ⊎_elim
    (λ (t : (eqb x n ≡ true) × (x ≡ n)).
    let rest : others n xs ≡ xs = none_other n xs (λ k. h.0 (subst (λ z. In xs z) (sym t.1) k)) in
    let same : sum_by f (others n (x ∷ xs)) ≡ sum_by f xs = ap (λ (b : Bool). sum_by f (cond (not b) (x ∷ others n xs) (others n xs))) t.0 ∙ ap (sum_by f) rest in
    let first : f x ≡ f n = ap f t.1 in
    omega (arith, here, same, first))
    (λ (t : (eqb x n ≡ false) × (x ≡ n → ⊥)).
    let same : sum_by f (others n (x ∷ xs)) ≡ sum_by f (x ∷ others n xs) = ap (λ (b : Bool). sum_by f (cond (not b) (x ∷ others n xs) (others n xs))) t.0 in
    omega (arith, here, same, sum_by-cons f x (others n xs), sum_others f n xs h.1))
    (eqb_tells x n)

-- one of some, but the first, is among the others
later : (m : ℕ) (ms : List ℕ) (n : ℕ) → not (n == m) ≡ true → In (m ∷ ms) n → In ms n
later m ms n other k =
    ⊎_elim
    (λ (same : m ≡ n). absurd (false≢true (sym (ap not (eq-eqb n m (sym same))) ∙ other)))
    (λ (l : In ms n). l)
    (in_cases m ms n k)

-- ---- blocks

abbrev pub births : List Block → List ℕ
births bs = map (λ (b : Block). b.birth) bs

found_birth : (bs : List Block) (a n : ℕ) → option_map (λ (b : Block). b.birth) (find (λ (b : Block). eqb b.address a) bs) ≡ Some n → In (births bs) n
found_birth [] a n e = absurd (cc)
found_birth (b ∷ bs) a n e = by_test (eqb b.address a) (found_birth bs a n) e
  where
    by_test : (t : Bool) → (option_map (λ (b : Block). b.birth) (find (λ (b : Block). eqb b.address a) bs) ≡ Some n → In (births bs) n)
        → option_map (λ (b : Block). b.birth) (cond t (Some b) (find (λ (b : Block). eqb b.address a) bs)) ≡ Some n → In (b.birth ∷ births bs) n
    by_test true further e = let same : b.birth ≡ n = cc in subst (λ z. In (b.birth ∷ births bs) z) same (in_head b.birth (births bs))
    by_test false further e = in_tail b.birth (births bs) n (further e)

-- an object takes as many cells as its block
pub size_is : (space : Space) (heap : Heap) (b : Block) → BlockAgrees space heap b → size_at heap b.birth ≡ block_size b
size_is space heap b h =
    let values : values_of heap b.birth ≡ h.object.values = ap (λ (o : Option Object). option_map_or (λ (x : Object). x.values) o []) h.is in
    ap (λ (vs : List ObjectValue). 3 + length vs) values ∙ ap (λ (n : ℕ). 3 + n) (sym (agree_length space b.values h.object.values h.values))

-- names of some blocks, none of which is there twice, take no more cells than these
pub names_within : (space : Space) (heap : Heap) (bs : List Block) (names : List ℕ) → BlocksAgree space heap bs → AreApart names → ((n : ℕ) → In names n → In (births bs) n) → sum_by (size_at heap) names ≤ sum_by block_size bs
names_within space heap [] [] h apart within = omega arith
names_within space heap [] (n ∷ names) h apart within = absurd (false≢true (within n (in_head n names)))
names_within space heap (b ∷ bs) names h apart within =
    let rest = names_within space heap bs (others b.birth names) h.1 (apart_filter (λ x. not (x == b.birth)) names apart)
    (λ n k. let r = from_passed (λ x. not (x == b.birth)) names n k in later b.birth (births bs) n r.0 (within n r.1)) in
    omega (arith, rest, sum_others (size_at heap) b.birth names apart, size_is space heap b h.0, sum_by-cons block_size b bs)

-- blocks lie below the end
blocks_below : (from : ℕ) (bs : List Block) (cells : ℕ) → LieFrom from bs cells → from + sum_by block_size bs ≤ end_from from bs
blocks_below from [] cells h = omega arith
blocks_below from (b ∷ bs) cells h =
    let rest = blocks_below (block_end b) bs cells h.1 in
    let low : from ≤ b.address = h.0 in
    omega (arith, rest, low, sum_by-cons block_size b bs)

-- ---- the reachable objects

-- where each that is reachable has a block, they take no more cells than the blocks
pub live_within : (w : World) (s : State) (space : Space) → BlocksAgree space s.shared.heap space.blocks → ((n : ℕ) → Reachable w s n → IsNamed space n) → live_size w s ≤ sum_by block_size space.blocks
live_within w s space agree named =
    let names = reachable w s in
    let heap = s.shared.heap in
    let lists = reachable_lists w s in
    let apart : AreApart names = subst (λ (l : List ℕ). AreApart l) (sym lists.in_order) (apart_filter (is_in names) (from_one (length heap)) (from_one_apart (length heap))) in
    names_within space heap space.blocks names agree apart (λ n k. let t = named n (lists.sound n (to_contains names n k)) in found_birth space.blocks t.0 n t.1)

pub live_below : (w : World) (s : State) (space : Space) → BlocksAgree space s.shared.heap space.blocks → IsLaidOut space → ((n : ℕ) → Reachable w s n → IsNamed space n) → live_size w s ≤ end_of space
live_below w s space agree laid named = omega (arith, live_within w s space agree named, blocks_below 0 space.blocks space.cells laid)
