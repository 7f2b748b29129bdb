-- A marking that goes on between calls.
use Rattle.std.specs.Prelude.{◌≡◌, ℕ, ◌+◌, ◌≤◌, Bool, true, cond, List, [], ◌∷◌, length, slice_get, Option, Some, None, IfSome}
use Rattle.std.specs.List.{Contains}
use Rattle.heap.specs.declared.value.Value.{Value}
use Rattle.heap.specs.declared.value.Value.TheVariants.{Block as Reference}
use Rattle.heap.specs.Cells.{space_in, IsStored}
use Rattle.heap.specs.Heap.{Space, IsAddress, values_at}
use Rattle.heap.specs.Marks.{Marks, is_kept}

-- how many cells have no mark
abbrev pub unmarked : List Bool → ℕ
unmarked [] = 0
unmarked (m ∷ ms) = cond m 0 1 + unmarked ms

-- no more was put on the list than is kept, and it has room for a block in each cell
pub record HasRoom (kept : List Bool) (list : List ℕ) (taken capacity : ℕ) : Type 0 where
  pub few : length list + unmarked kept ≤ length kept
  pub room : length kept ≤ capacity
  pub within : taken ≤ length list

-- what the block at an address refers to is kept
abbrev pub IsMarked : Space → List Bool → ℕ → Type 0
IsMarked s kept a = (place b : ℕ) → slice_get (values_at s a) place ≡ Some (Reference b) → is_kept kept b ≡ true

-- The marking is one of this heap: just blocks are kept, and each of them that doesn't wait on the list is marked.
pub record IsUnderWay (s : Space) (m : Marks) : Type 0 where
  pub count : length m.kept ≡ s.cells
  pub blocks : (a : ℕ) → is_kept m.kept a ≡ true → IsAddress s a
  pub waits : (a : ℕ) → Contains m.waiting a → is_kept m.kept a ≡ true
  pub each : (a : ℕ) → is_kept m.kept a ≡ true → ¬ (Contains m.waiting a) → IsMarked s m.kept a

-- the blocks lie in the cells, and a marking that is under way is one of them
pub record IsHeld (cells : List Value) (pins starts : List ℕ) (end capacity : ℕ) (marking : Option Marks) : Type 0 where
  pub stored : IsStored cells pins starts end capacity
  pub under_way : IfSome marking (IsUnderWay (space_in cells pins starts))

-- A marking goes on: what it keeps it still keeps, and no more is marked. None begins, and none is given up.
abbrev pub MarkingStays : (before after : Option Marks) → Type 0
MarkingStays None None = Unit {0}
MarkingStays None (Some n) = ⊥
MarkingStays (Some m) None = ⊥
MarkingStays (Some m) (Some n) = (n.marked ≡ m.marked) × ((a : ℕ) → is_kept m.kept a ≡ true → is_kept n.kept a ≡ true)
