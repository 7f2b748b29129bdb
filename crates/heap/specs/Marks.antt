-- Which blocks a marking keeps.
use Rattle.std.specs.Prelude.{ℕ, Bool, true, false, List, [], ◌∷◌, ◌++◌, slice_index_or, slice_set, Option, if◌then◌else◌}
use Rattle.std.specs.Option.{option_map}
use Rattle.heap.specs.declared.value.Value.{Value}
use Rattle.heap.specs.declared.value.Value.TheVariants.{Number, Null, Block as Reference}

-- the mark of a block, by its address
abbrev pub is_kept : List Bool → ℕ → Bool
is_kept kept a = slice_index_or kept a false

-- which blocks are kept, by their addresses; those whose references have still to be kept, in their order; and how many were marked
pub record Marks : Type 0 where
  pub kept : List Bool
  pub waiting : List ℕ
  pub marked : ℕ

-- with a block kept, and on the list where it wasn't kept before
abbrev pub noted : Marks → ℕ → Marks
noted m a = if is_kept m.kept a then m else record { kept = slice_set m.kept a true; waiting = m.waiting ++ a ∷ []; marked = m.marked }

-- with a new block kept, which counts as marked
abbrev pub with_new : ℕ → Marks → Marks
with_new a m = record m { kept = slice_set m.kept a true }

-- with the block noted that a value refers to, if it refers to one and a marking is under way
abbrev pub noted_in : Value → Option Marks → Option Marks
noted_in (Number n) o = o
noted_in Null o = o
noted_in (Reference a) o = option_map (λ m. noted m a) o
