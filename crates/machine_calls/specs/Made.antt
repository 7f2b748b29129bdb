-- A new object in memory.
use Rattle.std.specs.Prelude.{◌≡◌, ℕ, ◌+◌, ◌<◌, ◌≤◌, List, length, slice_index_or, Option, Some, None}
use Rattle.class_rules.specs.Class.{Classes}
use Rattle.class_rules.specs.declared.class_id.ClassId.{ClassId}
use Rattle.semantics.specs.Object.{object_size}
use Rattle.heap.specs.Heap.{Block, Space, IsAddress, end_of, left_of, with_block, with_noted}
use Rattle.heap.specs.declared.value.Value.{Value}
use Rattle.heap.specs.declared.value.Value.TheVariants.{Null, Block as Refers}
use Rattle.machine_answers.specs.declared.answer.Answer.{Answer}
use Rattle.machine_answers.specs.declared.answer.Answer.TheVariants as answer
use Rattle.machine_scenes.specs.declared.new_object.New.{New}
use Rattle.machine_scenes.specs.declared.new_object.New.TheVariants.{Fresh, Array, Text, Exception}
use Rattle.machine_scenes.specs.declared.store.Store.{Store}
use Rattle.machine_scenes.specs.NewObjects.{IsOfBytes, cells_of_new, class_of_new, values_of_exception, values_of_new}

-- the next block, after all others
abbrev pub next_block : Space → (class birth : ℕ) → List Value → Block
next_block space class birth values = record { address = end_of space; class = class; birth = birth; values = values; pins = 0 }

-- The heap with a further block, where it has room, and else as it was. While a marking is under way what this value refers to is noted
-- before.
abbrev pub Allocates : (noted : Value) → Space → (class birth : ℕ) → List Value → Space → Option ℕ → Type 0
Allocates noted old class birth values new None = (new ≡ old) × (left_of old < object_size (length values))
Allocates noted old class birth values new (Some a) = (new ≡ with_block (with_noted noted old) (next_block old class birth values))
    × (object_size (length values) ≤ left_of old) × (a ≡ end_of old)

-- the only value of a new object that can be a reference: that of an array's elements, and the message of an exception that has one
abbrev pub noted_of_new : Classes → New → Value
noted_of_new classes (Array array) = array.value
noted_of_new classes (Exception class message) = slice_index_or (values_of_exception classes class.number message) 0 Null
noted_of_new classes new = Null

-- what a new object is to refer to is there
abbrev pub RefersThere : Space → New → Type 0
RefersThere space (Array array) = (a : ℕ) → array.value ≡ Refers a → IsAddress space a
RefersThere space (Exception class message) = IsAddress space message
RefersThere space new = Unit {0}

-- the block of a new object in a store
abbrev pub new_block : Classes → (texts : List (List ℕ)) → Store → New → Block
new_block classes texts store new = next_block store.heap (class_of_new new) (store.births + 1) (values_of_new classes texts new)

-- the store with a new object
pub record HasMade (classes : Classes) (texts : List (List ℕ)) (before : Store) (new : New) (after : Store) (a : ℕ) : Type 0 where
  pub room : cells_of_new classes texts new ≤ left_of before.heap
  pub bytes : IsOfBytes texts new
  pub address : a ≡ end_of before.heap
  pub heap : after.heap ≡ with_block (with_noted (noted_of_new classes new) before.heap) (new_block classes texts before new)
  pub loaded : after.loaded ≡ before.loaded
  pub births : after.births ≡ before.births + 1
  pub statics : after.statics ≡ before.statics
  pub globals : after.globals ≡ before.globals
  pub weaks : after.weaks ≡ before.weaks
  pub elements : after.elements ≡ before.elements
  pub views : after.views ≡ before.views
  pub monitors : after.monitors ≡ before.monitors

-- a new object, where it has room, and else the store as it was
abbrev pub Makes : Classes → (texts : List (List ℕ)) → Store → New → Store → Option ℕ → Type 0
Makes classes texts before new after None = (after ≡ before) × (left_of before.heap < cells_of_new classes texts new)
Makes classes texts before new after (Some a) = HasMade classes texts before new after a

-- the cells that an answer takes, where a call has these texts
abbrev pub cells_of : Classes → (texts : List (List ℕ)) → Answer → ℕ
cells_of classes texts (answer.Makes new) = cells_of_new classes texts new
cells_of classes texts (answer.Throws class) = cells_of_new classes texts (Fresh class)
cells_of classes texts (answer.Raises class place) = cells_of_new classes texts (Text place) + cells_of_new classes texts (Fresh class)
cells_of classes texts a = 0

-- a new string of a text and a new exception with it as message, where both have room, and else the store as it was
abbrev pub Raises : Classes → (texts : List (List ℕ)) → Store → (class : ClassId) → (place : ℕ) → Store → Option ℕ → Type 0
Raises classes texts before class place after None = (after ≡ before) × (left_of before.heap < cells_of classes texts (answer.Raises class place))
Raises classes texts before class place after (Some a) =
    (between : Store) × (message : ℕ) × HasMade classes texts before (Text place) between message
    × HasMade classes texts between (Exception class message) after a
