-- What the slots of a call hold at its entry.
use Rattle.std.specs.Prelude.{◌≡◌, ℕ, ◌+◌, ◌-◌, ◌<◌, ◌≤◌, List, [], ◌∷◌, ◌++◌, length, map, filter_map, replicate, slice_get, suc, vec_capacity, Option, Some, None}
use Rattle.base.specs.Limits.{most_names}
use Rattle.heap.specs.declared.value.Value.{Value}
use Rattle.heap.specs.declared.value.Value.TheVariants.{Number as Word, Null, Block as Address}
use Rattle.world_values.specs.Views.{object_value_view}
use Rattle.code.specs.Depth.{Listing}
use Rattle.code_meaning.specs.Lowered.{Lowered}
use Rattle.machine_scenes.specs.declared.activation.Activation.{Activation}
use Rattle.machine_scenes.specs.declared.buffer.Buffer.TheVariants as held
use Rattle.tables.specs.Locals.{LocalTable}
use Rattle.tables.specs.References.{references_in}
use Rattle.machine_threads.specs.Held.{held_value}
use Rattle.machine_threads.specs.declared.thread.Entering.{Entering}
use Rattle.machine_threads.specs.declared.thread.PendingCall.{PendingCall}

-- ---- what a call is given

-- the word of a number
abbrev pub given_word : Value → Option ℕ
given_word (Word n) = Some n
given_word Null = None
given_word (Address a) = None

-- where a reference leads; NULL leads nowhere
abbrev pub given_address : Value → Option (Option ℕ)
given_address (Word n) = None
given_address Null = Some None
given_address (Address a) = Some (Some a)

-- the code has slots for the class and these arguments
pub record HasRoomFor (code : Listing) (arguments : List Value) : Type 0 where
  pub numbers : length (filter_map given_word arguments) ≤ code.slots.numbers
  pub references : length (filter_map given_address arguments) < code.slots.references

-- the vectors of a call can hold the slots of this code without more memory, and its table has a frame
pub record HasMemoryFor (code : Listing) (call : Activation) : Type 0 where
  pub numbers : code.slots.numbers ≤ vec_capacity call.slots.numbers
  pub references : code.slots.references ≤ vec_capacity call.slots.references
  pub fields : code.slots.field_ids ≤ vec_capacity call.slots.fields
  pub buffers : code.slots.buffers ≤ vec_capacity call.slots.buffers
  pub frames : 0 < length call.locals.frames

-- a call of a world as it is entered: the same function and class, and each argument as a cell would hold it
pub record IsEnteringOf (loaded : List ℕ) (next : PendingCall) (entering : Entering) : Type 0 where
  pub function : entering.function ≡ next.function
  pub class : entering.class ≡ next.class
  pub arguments : entering.arguments.items ≡ map (held_value loaded) (map object_value_view next.arguments.items)

-- ---- slots

-- this number of slots, the first of which hold the numbers among the arguments; the others hold 0
pub record IsNumbersOf (count : ℕ) (arguments : List Value) (slots : List ℕ) : Type 0 where
  pub counted : length slots ≡ count
  pub more : List ℕ
  pub given : slots ≡ filter_map given_word arguments ++ more
  pub others : more ≡ replicate (length more) 0

-- this number of addresses, the first of which are those of the class and of the references among the arguments; the others are NULL
pub record IsReferencesOf (count : ℕ) (loaded : List ℕ) (class : ℕ) (arguments : List Value) (slots : List (Option ℕ)) : Type 0 where
  pub counted : length slots ≡ count
  pub more : ℕ
  pub given : slots ≡ slice_get loaded (class - 1) ∷ filter_map given_address arguments ++ replicate more None

-- a table of one frame, with references to the objects at these addresses but NULL, and room for 16 more
abbrev pub entry_locals : List (Option ℕ) → LocalTable
entry_locals addresses =
    let given = references_in addresses in
    record { frames = record { capacity = length given + 16; first = 0 } ∷ []; slots = map (λ a. Some a) given }

-- their keys, from a place on
abbrev pub keys_from : ℕ → List (Option ℕ) → List (Option ℕ)
keys_from place [] = []
keys_from place (None ∷ rest) = None ∷ keys_from place rest
keys_from place (Some a ∷ rest) = Some place ∷ keys_from (suc place) rest

-- a table of one frame with room for this many references, and none yet
abbrev pub first_frame : ℕ → LocalTable
first_frame capacity = record { frames = record { capacity = capacity; first = 0 } ∷ []; slots = [] }

-- the references of a call before its first instruction: their table, and this number of slots, of which the first hold their keys
pub record AreEntryReferences (count : ℕ) (loaded : List ℕ) (class : ℕ) (arguments : List Value) (locals : LocalTable)
    (keys : List (Option ℕ)) : Type 0 where
  pub addresses : List (Option ℕ)
  pub given : IsReferencesOf count loaded class arguments addresses
  pub made : locals ≡ entry_locals addresses
  pub held : keys ≡ keys_from 0 addresses

-- a call with this code before its first instruction
pub record BeginsIn (code : Listing) (loaded : List ℕ) (next : Entering) (activation : Activation) : Type 0 where
  pub function : activation.function ≡ next.function
  pub place : activation.place ≡ 0
  pub stack : activation.stack ≡ []
  pub numbers : IsNumbersOf code.slots.numbers next.arguments.items activation.slots.numbers.items
  pub addresses : List (Option ℕ)
  pub given : IsReferencesOf code.slots.references loaded next.class.number next.arguments.items addresses
  pub locals : activation.locals ≡ entry_locals addresses
  pub references : activation.slots.references.items ≡ keys_from 0 addresses
  pub fields : activation.slots.fields.items ≡ replicate code.slots.field_ids None
  pub buffers : activation.slots.buffers.items ≡ replicate code.slots.buffers held.Null

-- a call of a program before its first instruction
pub record Begins (p : Lowered) (loaded : List ℕ) (next : Entering) (activation : Activation) : Type 0 where
  pub code : Listing
  pub of_function : slice_get p.codes next.function ≡ Some code
  pub begins : BeginsIn code loaded next activation

-- the class of a call is among this number of objects, and its code has room for its arguments
pub record IsReady (p : Lowered) (made : ℕ) (next : Entering) : Type 0 where
  pub class : (0 < next.class.number) × (next.class.number ≤ made)
  pub few : length next.arguments.items ≤ most_names
  pub code : Listing
  pub of_function : slice_get p.codes next.function ≡ Some code
  pub room : HasRoomFor code next.arguments.items
