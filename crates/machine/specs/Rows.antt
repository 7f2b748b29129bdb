-- The objects that blocks stand for, read off the blocks.
use Rattle.std.specs.Prelude.{◌≡◌, ℕ, List, [], ◌∷◌, length, map, Option, Some, None, slice_get}
use Rattle.std.specs.Option.{option_map_or}
use Rattle.std.specs.Int.{w32, cast_signed}
use Rattle.heap.specs.declared.value.Value.{Value}
use Rattle.heap.specs.declared.value.Value.TheVariants.{Number as Word, Null, Block as Address}
use Rattle.heap.specs.Heap.{Space, IsAddress, class_at, name_at, values_at}
use Rattle.machine_scenes.specs.HeapAgrees.{IsNamed}
use Rattle.semantics.specs.Heap.{Heap, object_at}
use Rattle.semantics.specs.Object.{Object, ObjectValue, Number, Refers}

-- what a cell holds: an address refers to the object of its block
abbrev pub value_in : Space → Value → ObjectValue
value_in space (Word word) = Number (cast_signed w32 word)
value_in space Null = Refers None
value_in space (Address a) = Refers (name_at space a)

-- the object of the block at an address
abbrev pub object_of : Space → ℕ → Object
object_of space a = record { class = option_map_or (λ c. c) (class_at space a) 0; values = map (value_in space) (values_at space a) }

-- the object of a name, by the address of its block; nothing is known of one whose block is gone
abbrev pub object_in : Space → Option ℕ → Object
object_in space None = record { class = 0; values = [] }
object_in space (Some a) = object_of space a

-- the heap of the definitions, by the addresses of its objects in the order of their names
abbrev pub heap_of : Space → List (Option ℕ) → Heap
heap_of space addresses = map (object_in space) addresses

-- an address is that of a block
abbrev pub IsThere : Space → Value → Type 0
IsThere space (Word word) = Unit {0}
IsThere space Null = Unit {0}
IsThere space (Address a) = IsAddress space a

-- each address among these
abbrev pub AreThere : Space → List Value → Type 0
AreThere space [] = Unit {0}
AreThere space (v ∷ values) = IsThere space v × AreThere space values

-- each of these is the address of a block, and so is each among its values
abbrev pub AreBlocks : Space → List (Option ℕ) → Type 0
AreBlocks space addresses = (i a : ℕ) → slice_get addresses i ≡ Some (Some a) → IsAddress space a × AreThere space (values_at space a)

-- there are as many objects as in another heap, and each that has a block is the same
pub record AreSeen (space : Space) (objects seen : Heap) : Type 0 where
  pub count : length seen ≡ length objects
  pub same : (n : ℕ) → IsNamed space n → object_at seen n ≡ object_at objects n
