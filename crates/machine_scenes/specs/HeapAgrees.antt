-- How a heap of blocks stands for a heap of the source. A block's birth number is the name of its object, wherever it lies.
use Rattle.std.specs.Prelude.{◌≡◌, ℕ, suc, ◌+◌, ◌==◌, if◌then◌else◌, List, [], ◌∷◌, length, slice_get, Option, Some, None, FitsSigned}
use Rattle.std.specs.Int.{w32, cast_unsigned}
use Rattle.heap.specs.declared.value.Value.{Value}
use Rattle.heap.specs.declared.value.Value.TheVariants.{Number as Word, Null, Block as Address}
use Rattle.heap.specs.Heap.{Block, Space, IsLaidOut, name_at, pins_at, AreNamesUnique}
use Rattle.heap.specs.Layout.{layout_of}
use Rattle.semantics.specs.Object.{Object, ObjectValue, Number, Refers, Reference}
use Rattle.semantics.specs.Heap.{Heap, object_at}
use Rattle.tables.specs.References.{references_in}
use Rattle.machine_scenes.specs.Layouts.{laid_from}

-- ---- references and values

-- an address or none stands for a reference
abbrev pub ReferenceAgrees : Space → Option ℕ → Reference → Type 0
ReferenceAgrees space None None = Unit {0}
ReferenceAgrees space None (Some n) = ⊥
ReferenceAgrees space (Some a) None = ⊥
ReferenceAgrees space (Some a) (Some n) = name_at space a ≡ Some n

-- what a cell holds stands for a value: a number by its two's complement, NULL for NULL, an address for the object of its block
abbrev pub ValueAgrees : Space → Value → ObjectValue → Type 0
ValueAgrees space (Word word) (Number z) = FitsSigned w32 z × (word ≡ cast_unsigned w32 z)
ValueAgrees space (Word word) (Refers r) = ⊥
ValueAgrees space Null (Number z) = ⊥
ValueAgrees space Null (Refers r) = ReferenceAgrees space None r
ValueAgrees space (Address a) (Number z) = ⊥
ValueAgrees space (Address a) (Refers r) = ReferenceAgrees space (Some a) r

-- value by value
abbrev pub ValuesAgree : Space → List Value → List ObjectValue → Type 0
ValuesAgree space [] [] = Unit {0}
ValuesAgree space [] (v ∷ values) = ⊥
ValuesAgree space (held ∷ rest) [] = ⊥
ValuesAgree space (held ∷ rest) (v ∷ values) = ValueAgrees space held v × ValuesAgree space rest values

-- address by address, what the objects there are named
abbrev pub NamesAgree : Space → List ℕ → List ℕ → Type 0
NamesAgree space [] [] = Unit {0}
NamesAgree space [] (n ∷ names) = ⊥
NamesAgree space (a ∷ addresses) [] = ⊥
NamesAgree space (a ∷ addresses) (n ∷ names) = (name_at space a ≡ Some n) × NamesAgree space addresses names

-- how often a name is among these
abbrev pub times : ℕ → List ℕ → ℕ
times n [] = 0
times n (m ∷ names) = let further = times n names in if n == m then suc further else further

-- the references in slots are those of the source, which have no order there
pub record SlotsAgree (space : Space) (slots : List (Option ℕ)) (source_names : List ℕ) : Type 0 where
  pub names : List ℕ
  pub agree : NamesAgree space (references_in slots) names
  pub same : (n : ℕ) → times n names ≡ times n source_names

-- ---- blocks

-- a block has the class and the values of the object of its birth number
pub record BlockAgrees (space : Space) (heap : Heap) (b : Block) : Type 0 where
  pub object : Object
  pub is : object_at heap b.birth ≡ Some object
  pub class : b.class ≡ object.class
  pub values : ValuesAgree space b.values object.values

-- block by block
abbrev pub BlocksAgree : Space → Heap → List Block → Type 0
BlocksAgree space heap [] = Unit {0}
BlocksAgree space heap (b ∷ blocks) = BlockAgrees space heap b × BlocksAgree space heap blocks

-- some block has this name
abbrev pub IsNamed : Space → ℕ → Type 0
IsNamed space n = (a : ℕ) × (name_at space a ≡ Some n)

-- The blocks stand for objects of the source's heap, out of which nothing is ever taken: no two for one object. The block of an
-- object may be gone. Those that can still be reached have theirs: what refers to them agrees, and so does what blocks refer to.
pub record HeapAgrees (space : Space) (heap : Heap) : Type 0 where
  pub blocks : BlocksAgree space heap space.blocks
  pub unique : AreNamesUnique space

-- ---- the objects made at load

-- The addresses of the objects named 1, 2 and so on. These objects stay for ever, so each has its place in this table.
pub record IsTable (space : Space) (addresses : List ℕ) (count : ℕ) : Type 0 where
  pub counted : length addresses ≡ count
  pub named : (i a : ℕ) → slice_get addresses i ≡ Some a → name_at space a ≡ Some (i + 1)

-- These objects have been made, one after another from the lowest cell on, and nothing else.
pub record AreMade (space : Space) (addresses : List ℕ) (objects : Heap) : Type 0 where
  pub agree : HeapAgrees space objects
  pub table : IsTable space addresses (length objects)
  pub laid_out : IsLaidOut space
  pub laid : layout_of space ≡ laid_from 1 0 objects
  pub unpinned : (a : ℕ) → pins_at space a ≡ 0
  pub unmarked : space.marking ≡ None
