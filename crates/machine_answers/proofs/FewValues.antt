-- No object has more values than there are cells.
use Rattle.std.proofs.Common.{◌≡◌, ℕ, ◌<◌, ◌≤◌, ◌^◌, true, false, eqb, List, [], ◌∷◌, length, arith, ⊎_elim}
use Rattle.std.specs.Prelude.{find}
use Rattle.std.specs.Option.{option_map_or}
use Rattle.std.proofs.lemmas.Bool.Decides.{eqb_tells}
use Rattle.heap.specs.declared.value.Value.{Value}
use Rattle.heap.specs.Heap.{Block, Space, block_end, LieFrom, IsLaidOut, values_at}
use Rattle.heap.proofs.Layouts.{begins_within}

-- the values of a block
values_of : List Block → ℕ → List Value
values_of bs a = option_map_or (λ (b : Block). b.values) (find (λ (b : Block). eqb b.address a) bs) []

-- a block's values are in the heap's cells
within_cells : (from : ℕ) (bs : List Block) (cells a : ℕ) → LieFrom from bs cells → length (values_of bs a) ≤ cells
unfolding values_of
within_cells from [] cells a h = omega arith
within_cells from (b ∷ bs) cells a h =
    let fits : block_end b ≤ cells = begins_within (block_end b) bs cells h.1 in
    let later = within_cells (block_end b) bs cells a h.1 in
    ⊎_elim
    (λ (t : (eqb b.address a ≡ true) × (b.address ≡ a)). rw t.0 (omega arith))
    (λ (t : (eqb b.address a ≡ false) × (b.address ≡ a → ⊥)). rw t.0 later)
    (eqb_tells b.address a)

-- which are few
pub few_values : (s : Space) (a : ℕ) → IsLaidOut s → s.cells ≤ 1048576 → length (values_at s a) < 2 ^ 31
unfolding values_of
few_values s a laid_out limit =
    let within : length (values_at s a) ≤ s.cells = within_cells 0 s.blocks s.cells a laid_out in
    omega arith
