-- After a collection the blocks take the cells of what can be reached.
use Rattle.std.proofs.Common.{◌≡◌, ◌≢◌, ℕ, suc, ◌+◌, ◌<◌, ◌≤◌, Bool, true, false, cond, eqb, List, [], ◌∷◌, length, get_or, sym, ap, ◌∙◌, subst, arith, ⊎_elim}
use Rattle.std.specs.Prelude.{◌==◌, not, sum_by, AllPairs}
use Rattle.std.proofs.lemmas.Bool.{cond_both, false≢true}
use Rattle.std.proofs.lemmas.Bool.Decides.{eqb_tells}
use Rattle.std.proofs.lemmas.List.Sums.{sum_by-cons}
use Rattle.heap.specs.Heap.{Block, Space, block_size}
use Rattle.semantics.specs.Heap.{Heap}
use Rattle.semantics.specs.Reachable.{live_size, reachable, size_at, Reachable}
use Rattle.semantics.specs.State.{State}
use Rattle.semantics.specs.World.{World}
use Rattle.semantics.proofs.ShownNames.{is_reachable}
use Rattle.semantics.proofs.ReachableLemmas.{In, in_cases, in_head, in_tail}
use Rattle.machine_scenes.specs.HeapAgrees.{BlocksAgree, HeapAgrees, IsNamed}
use Rattle.machine_collections.proofs.LiveBlocks.{AreApart, births, live_within, others, size_is}

-- some names take no more than all
sum_some : (f : ℕ → ℕ) (n : ℕ) (xs : List ℕ) → sum_by f (others n xs) ≤ sum_by f xs
sum_some f n [] = omega arith
sum_some f n (x ∷ xs) =
    let here = sum_by-cons f x xs in
    let rest = sum_some f n xs in
    cond_both (not (x == n)) (x ∷ others n xs) (others n xs) (λ (l : List ℕ). sum_by f l ≤ sum_by f (x ∷ xs))
    (λ e. omega (arith, here, rest, sum_by-cons f x (others n xs)))
    (λ e. omega (arith, here, rest))

-- one of some and the others take no more than all
sum_with : (f : ℕ → ℕ) (n : ℕ) (xs : List ℕ) → In xs n → f n + sum_by f (others n xs) ≤ sum_by f xs
sum_with f n [] h = absurd (false≢true h)
sum_with f n (x ∷ xs) h =
    let here = sum_by-cons f x xs in
    ⊎_elim
    (λ (t : (eqb x n ≡ true) × (x ≡ n)).
    let same : sum_by f (others n (x ∷ xs)) ≡ sum_by f (others n xs) = ap (λ (b : Bool). sum_by f (cond (not b) (x ∷ others n xs) (others n xs))) t.0 in
    let first : f x ≡ f n = ap f t.1 in
    omega (arith, here, same, first, sum_some f n xs))
    (λ (t : (eqb x n ≡ false) × (x ≡ n → ⊥)).
    let same : sum_by f (others n (x ∷ xs)) ≡ sum_by f (x ∷ others n xs) = ap (λ (b : Bool). sum_by f (cond (not b) (x ∷ others n xs) (others n xs))) t.0 in
    let later : In xs n = ⊎_elim (λ (e : x ≡ n). absurd (t.1 e)) (λ (l : In xs n). l) (in_cases x xs n h) in
    omega (arith, here, same, sum_by-cons f x (others n xs), sum_with f n xs later))
    (eqb_tells x n)

-- what isn't the one is among the others
in_others : (n : ℕ) (xs : List ℕ) (m : ℕ) → (m ≡ n → ⊥) → In xs m → In (others n xs) m
in_others n [] m other h = h
in_others n (x ∷ xs) m other h =
    ⊎_elim
    (λ (t : (eqb x n ≡ true) × (x ≡ n)).
    let later : In xs m = ⊎_elim (λ (e : x ≡ m). absurd (other (sym e ∙ t.1))) (λ (l : In xs m). l) (in_cases x xs m h) in
    subst (λ (l : List ℕ). In l m) (sym (ap (λ (b : Bool). cond (not b) (x ∷ others n xs) (others n xs)) t.0)) (in_others n xs m other later))
    (λ (t : (eqb x n ≡ false) × (x ≡ n → ⊥)).
    subst (λ (l : List ℕ). In l m) (sym (ap (λ (b : Bool). cond (not b) (x ∷ others n xs) (others n xs)) t.0))
    (⊎_elim (λ (e : x ≡ m). subst (λ z. In (x ∷ others n xs) z) e (in_head x (others n xs))) (λ (l : In xs m). in_tail x (others n xs) m (in_others n xs m other l)) (in_cases x xs m h)))
    (eqb_tells x n)

-- blocks, no two of one name, take no more than these names
pub blocks_within : (space : Space) (heap : Heap) (bs : List Block) (names : List ℕ) → BlocksAgree space heap bs → AreApart (births bs) → ((n : ℕ) → In (births bs) n → In names n) → sum_by block_size bs ≤ sum_by (size_at heap) names
blocks_within space heap [] names h apart within = omega arith
blocks_within space heap (b ∷ bs) names h apart within =
    let rest = blocks_within space heap bs (others b.birth names) h.1 apart.1
    (λ n k. in_others b.birth names n (λ e. apart.0 (subst (λ z. In (births bs) z) e k)) (within n (in_tail b.birth (births bs) n k))) in
    omega (arith, rest, sum_with (size_at heap) b.birth names (within b.birth (in_head b.birth (births bs))), size_is space heap b h.0, sum_by-cons block_size b bs)

-- no name is there twice
at_place : (bs : List Block) (n : ℕ) → In (births bs) n → (i : ℕ) × (i < length bs) × ((d : Block) → (get_or bs i d).birth ≡ n)
at_place [] n h = absurd (false≢true h)
at_place (b ∷ bs) n h =
    ⊎_elim
    (λ (e : b.birth ≡ n). (0, omega arith, λ d. e))
    (λ (l : In (births bs) n). let r = at_place bs n l in (suc r.0, (let less : r.0 < length bs = r.1 in omega (arith, less)), r.2))
    (in_cases b.birth (births bs) n h)

pub births_apart : (bs : List Block) → AllPairs (λ (b c : Block). b.birth ≢ c.birth) bs → AreApart (births bs)
births_apart [] h = tt
births_apart (b ∷ bs) h = (
  λ k. let r = at_place bs b.birth k in let less : r.0 < length bs = r.1 in h 0 (suc r.0) b (omega arith) (omega (arith, less)) (sym (r.2 b)),
  births_apart bs (λ i j d below within. h (suc i) (suc j) d (omega (arith, below)) (omega (arith, within))),
)

-- ---- what is used

-- where each block can be reached, they take just the cells of what can be reached
pub live_taken : (w : World) (s : State) (space : Space) → HeapAgrees space s.shared.heap → ((n : ℕ) → Reachable w s n → IsNamed space n) → ((n : ℕ) → In (births space.blocks) n → Reachable w s n) → sum_by block_size space.blocks ≡ live_size w s
live_taken w s space h named kept =
    let low = live_within w s space h.blocks named in
    let high = blocks_within space s.shared.heap space.blocks (reachable w s) h.blocks (births_apart space.blocks h.unique) (λ n k. is_reachable w s n (kept n k)) in
    omega (arith, low, high)
