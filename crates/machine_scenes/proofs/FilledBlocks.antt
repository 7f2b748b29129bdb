-- A block whose values are written one after another.
use Rattle.std.proofs.Common.{◌≡◌, ℕ, zero, suc, ◌≤◌, List, [], ◌∷◌, length, replicate, Option, Some, None, refl, sym, ap, ◌∙◌, arith}
use Rattle.std.specs.Prelude.{slice_get, slice_set}
use Rattle.std.specs.Option.{option_map}
use Rattle.heap.specs.declared.value.Value.{Value}
use Rattle.heap.specs.declared.value.Value.TheVariants.{Number, Null, Block as Reference}
use Rattle.heap.specs.Heap.{Block, Space, IsLaidOut, end_of, values_at, fresh_block, with_block, with_noted, with_value}
use Rattle.heap.specs.Marks.{Marks, noted_in, with_new}
use Rattle.machine_scenes.proofs.Loaded.{changed_new, values_new}

-- ---- cells

-- cells of which the first, this number of them, hold these values, and the others NULL
abbrev pub cells_so_far : List Value → ℕ → List Value
cells_so_far [] i = []
cells_so_far (v ∷ vs) zero = Null ∷ cells_so_far vs zero
cells_so_far (v ∷ vs) (suc i) = v ∷ cells_so_far vs i

cells_null : (vs : List Value) → cells_so_far vs 0 ≡ replicate (length vs) Null
cells_null [] = refl
cells_null (v ∷ vs) = ap (λ (l : List Value). Null ∷ l) (cells_null vs)

cells_more : (vs : List Value) (i : ℕ) (v : Value) → slice_get vs i ≡ Some v → slice_set (cells_so_far vs i) i v ≡ cells_so_far vs (suc i)
cells_more [] i v at = absurd (cc)
cells_more (x ∷ vs) zero v at = let same : v ≡ x = cc in ap (λ (y : Value). y ∷ cells_so_far vs zero) same
cells_more (x ∷ vs) (suc i) v at = ap (λ (l : List Value). x ∷ l) (cells_more vs i v at)

pub cells_all : (vs : List Value) (i : ℕ) → length vs ≤ i → cells_so_far vs i ≡ vs
cells_all [] i l = refl
cells_all (v ∷ vs) zero l = absurd (omega arith)
cells_all (v ∷ vs) (suc i) l = ap (λ (l : List Value). v ∷ l) (cells_all vs i (omega arith))

cells_length : (vs : List Value) (i : ℕ) → length (cells_so_far vs i) ≡ length vs
cells_length [] i = refl
cells_length (v ∷ vs) zero = ap suc (cells_length vs zero)
cells_length (v ∷ vs) (suc i) = ap suc (cells_length vs i)

-- ---- the highest block

-- the block of the next object, its first values being written
abbrev pub filled_block : Space → (class birth : ℕ) → List Value → ℕ → Block
filled_block s class birth vs i = record { address = end_of s; class = class; birth = birth; values = cells_so_far vs i; pins = 0 }

pub filled_fresh : (s : Space) (class birth count : ℕ) (vs : List Value) → count ≡ length vs → with_block s (fresh_block (end_of s) class birth count Null) ≡ with_block s (filled_block s class birth vs 0)
filled_fresh s class birth count vs e =
    ap (λ (ws : List Value). let b : Block = record { address = end_of s; class = class; birth = birth; values = ws; pins = 0 } in with_block s b) (ap (λ n. replicate n Null) e ∙ sym (cells_null vs))

-- the next place is there
pub filled_within : (s : Space) (class birth : ℕ) (vs : List Value) (i : ℕ) → IsLaidOut s → length (values_at (with_block s (filled_block s class birth vs i)) (end_of s)) ≡ length vs
filled_within s class birth vs i laid = ap (λ (l : List Value). length l) (values_new s (filled_block s class birth vs i) laid refl) ∙ cells_length vs i

-- one value more, and what it refers to is noted
pub filled_noted : (s : Space) (class birth : ℕ) (vs : List Value) (i : ℕ) (v : Value) → IsLaidOut s → slice_get vs i ≡ Some v
    → with_value (with_block s (filled_block s class birth vs i)) (end_of s) i v ≡ with_noted v (with_block s (filled_block s class birth vs (suc i)))
filled_noted s class birth vs i v laid at =
    ap (with_noted v)
    (changed_new s (filled_block s class birth vs i) (λ b. record b { values = slice_set b.values i v }) laid refl refl
    ∙ ap (λ (ws : List Value). let b : Block = record { address = end_of s; class = class; birth = birth; values = ws; pins = 0 } in with_block s b) (cells_more vs i v at))

-- the marking once the block is there
abbrev pub marking_with : Space → Option Marks
marking_with s = option_map (with_new (end_of s)) s.marking

-- one value more, where there is nothing to note: the value doesn't refer to anything, or no marking is under way
pub filled_more : (s : Space) (class birth : ℕ) (vs : List Value) (i : ℕ) (v : Value) → IsLaidOut s → slice_get vs i ≡ Some v → noted_in v (marking_with s) ≡ marking_with s
    → with_value (with_block s (filled_block s class birth vs i)) (end_of s) i v ≡ with_block s (filled_block s class birth vs (suc i))
filled_more s class birth vs i v laid at quiet =
    filled_noted s class birth vs i v laid at
    ∙ ap (λ (o : Option Marks). let t : Space = record (with_block s (filled_block s class birth vs (suc i))) { marking = o } in t) quiet

pub quiet_unmarked : (s : Space) (v : Value) → s.marking ≡ None → noted_in v (marking_with s) ≡ marking_with s
quiet_unmarked s v none = ap (noted_in v) all ∙ of_none v ∙ sym all
  where
    all : marking_with s ≡ None
    all = ap (option_map (with_new (end_of s))) none

    of_none : (v : Value) → noted_in v None ≡ None
    of_none (Number n) = refl
    of_none Null = refl
    of_none (Reference a) = refl
