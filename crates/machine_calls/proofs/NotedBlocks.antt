-- A new block, and what is noted before and after it is made.
use Rattle.std.proofs.Common.{◌≡◌, ◌≢◌, ℕ, zero, suc, ◌<◌, Bool, true, false, cond, eqb, List, [], ◌∷◌, ◌++◌, Option, Some, None, refl, sym, ap, ◌∙◌, arith, ⊎_elim}
use Rattle.std.proofs.lemmas.Bool.Decides.{eqb_tells}
use Rattle.std.specs.Prelude.{find, slice_set, if◌then◌else◌, IsSome}
use Rattle.std.specs.Option.{option_map}
use Rattle.std.proofs.lemmas.List.{get_or-set_other}
use Rattle.heap.specs.declared.value.Value.{Value}
use Rattle.heap.specs.declared.value.Value.TheVariants.{Number, Null, Block as Refers}
use Rattle.heap.specs.Heap.{Block, Space, IsAddress, IsLaidOut, block_at, end_of, with_block, with_noted}
use Rattle.heap.specs.Marks.{Marks, is_kept, noted, noted_in, with_new}
use Rattle.heap.proofs.Relocated.{ends_below}
use Rattle.heap.proofs.Spaces.{block_at-kept}

-- what is there lies before the next block
pub is_before : (s : Space) (a : ℕ) → IsLaidOut s → IsAddress s a → a < end_of s
is_before s a laid there = let below = ends_below s a laid there in omega (arith, below)

-- it is there once a further block is
pub address_kept : (s : Space) (b : Block) (a : ℕ) → IsAddress s a → IsAddress (with_block s b) a
address_kept s b a there = by_block (block_at s a) refl there
  where
    by_block : (o : Option Block) → block_at s a ≡ o → IsSome o → IsAddress (with_block s b) a
    by_block None at some = absurd (cc)
    by_block (Some old) at some = rw (block_at-kept s b a old at) refl

-- and so is that block
pub address_new : (s : Space) (b : Block) → IsAddress (with_block s b) b.address
address_new s b = there_in s.blocks
  where
    there_in : (bs : List Block) → IsSome (find (λ (c : Block). eqb c.address b.address) (bs ++ b ∷ []))
    there_in [] = ⊎_elim
        (λ (t : (eqb b.address b.address ≡ true) × (b.address ≡ b.address)). rw t.0 refl)
        (λ (t : (eqb b.address b.address ≡ false) × (b.address ≡ b.address → ⊥)). absurd (t.1 refl))
        (eqb_tells b.address b.address)
    there_in (c ∷ bs) = by_test (eqb c.address b.address) (there_in bs)
      where
        by_test : (t : Bool) → IsSome (find (λ (d : Block). eqb d.address b.address) (bs ++ b ∷ [])) → IsSome (cond t (Some c) (find (λ (d : Block). eqb d.address b.address) (bs ++ b ∷ [])))
        by_test true further = refl
        by_test false further = further

set_both : (ms : List Bool) (i j : ℕ) → slice_set (slice_set ms i true) j true ≡ slice_set (slice_set ms j true) i true
set_both [] i j = refl
set_both (m ∷ ms) zero zero = refl
set_both (m ∷ ms) zero (suc j) = refl
set_both (m ∷ ms) (suc i) zero = refl
set_both (m ∷ ms) (suc i) (suc j) = ap (λ (l : List Bool). m ∷ l) (set_both ms i j)

-- another block is noted, and a new one counts as marked
marks_both : (m : Marks) (a x : ℕ) → x ≢ a → noted (with_new a m) x ≡ with_new a (noted m x)
marks_both m a x other = by_mark (is_kept m.kept x) refl
  where
    -- the marks with this block put on the list
    longer : List Bool → Marks
    longer kept = record { kept = slice_set kept x true; waiting = m.waiting ++ x ∷ []; marked = m.marked }

    same : is_kept (slice_set m.kept a true) x ≡ is_kept m.kept x
    same = get_or-set_other m.kept a x true false other

    by_mark : (t : Bool) → is_kept m.kept x ≡ t → noted (with_new a m) x ≡ with_new a (noted m x)
    by_mark true e =
        ap (λ (b : Bool). if b then with_new a m else longer (slice_set m.kept a true)) (same ∙ e)
        ∙ sym (ap (λ (b : Bool). with_new a (if b then m else longer m.kept)) e)
    by_mark false e =
        ap (λ (b : Bool). if b then with_new a m else longer (slice_set m.kept a true)) (same ∙ e)
        ∙ ap (λ (kept : List Bool). let n : Marks = record { kept = kept; waiting = m.waiting ++ x ∷ []; marked = m.marked } in n) (set_both m.kept a x)
        ∙ sym (ap (λ (b : Bool). with_new a (if b then m else longer m.kept)) e)

-- it is the same whether what a value refers to is noted before a block is made or after it
pub noted_before : (s : Space) (b : Block) (v : Value) → ((x : ℕ) → v ≡ Refers x → x ≢ b.address) → with_noted v (with_block s b) ≡ with_block (with_noted v s) b
noted_before s b v other = ap (λ (o : Option Marks). let t : Space = record s { blocks = s.blocks ++ b ∷ []; marking = o } in t) (both v s.marking other)
  where
    both : (v : Value) (o : Option Marks) → ((x : ℕ) → v ≡ Refers x → x ≢ b.address) → noted_in v (option_map (with_new b.address) o) ≡ option_map (with_new b.address) (noted_in v o)
    both (Number n) o other = refl
    both Null o other = refl
    both (Refers x) None other = refl
    both (Refers x) (Some m) other = ap (λ (n : Marks). Some n) (marks_both m b.address x (other x refl))
