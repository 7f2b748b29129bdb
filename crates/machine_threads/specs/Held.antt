-- How a cell holds a value, where the objects that are made lie at these addresses.
use Rattle.std.specs.Prelude.{ℕ, ◌-◌, List, Some, None, slice_index_or}
use Rattle.std.specs.Int.{w32, cast_unsigned}
use Rattle.heap.specs.declared.value.Value.{Value}
use Rattle.heap.specs.declared.value.Value.TheVariants.{Number as Word, Null, Block as Address}
use Rattle.semantics.specs.Object.{ObjectValue, Number, Refers}

-- an object by its address
abbrev pub held_value : (addresses : List ℕ) → ObjectValue → Value
held_value addresses (Number z) = Word (cast_unsigned w32 z)
held_value addresses (Refers None) = Null
held_value addresses (Refers (Some n)) = Address (slice_index_or addresses (n - 1) 0)
