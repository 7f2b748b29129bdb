-- What is done to an element of a buffer.
use Rattle.std.specs.Prelude.{◌≡◌, ℕ, ◌+◌, Bool, true, false, List, [], ◌∷◌, map, Option, Some, None}
use Rattle.std.specs.Int.{w32, cast_signed, cast_unsigned}
use Rattle.heap.specs.Heap.{Space, IsAddress, with_value}
use Rattle.heap.specs.declared.value.Value.TheVariants.{Number}
use Rattle.tables.specs.Elements.{written}
use Rattle.machine_scenes.specs.declared.activation.Activation.{Activation}
use Rattle.machine_scenes.specs.declared.buffer.Buffer.{Buffer}
use Rattle.machine_scenes.specs.declared.buffer.Buffer.TheVariants as held
use Rattle.machine_scenes.specs.declared.store.Store.{Store}
use Rattle.semantics.specs.declared.trap.Trap.TheVariants.{OutOfRange}
use Rattle.machine_answers.specs.BufferChanges.{numbers_at}
use Rattle.machine_answers.specs.Copies.{words_at}
use Rattle.semantics.specs.declared.event.Event.{Event}
use Rattle.semantics.specs.declared.event.Event.TheVariants.{Quiet, Trapped}
use Rattle.machine_steps.specs.Moved.{HasMoved}
use Rattle.machine_threads.specs.SlotsHold.{values_in}

-- the elements of a buffer, as words; NULL has none
abbrev pub words_held : Store → Buffer → List ℕ
words_held store held.Null = []
words_held store (held.Copy key) = map (λ z. cast_unsigned w32 z) (numbers_at store.elements key)
words_held store (held.View a) = words_at store.heap a

-- a view is of a block
abbrev pub IsOfBlock : Space → Buffer → Type 0
IsOfBlock space (held.View a) = IsAddress space a
IsOfBlock space b = Unit {0}

-- the call goes on after the instruction with these operands
abbrev pub GoesOnWith : (stack : List ℕ) → (activation after : Activation) → Event → Type 0
GoesOnWith stack activation after seen = HasMoved activation after (activation.place + 1) stack (values_in activation) × (seen ≡ Quiet)

-- a trap on this line leaves the call as it was
abbrev pub TrapsPast : (line : ℕ) → (activation after : Activation) → Event → Type 0
TrapsPast line activation after seen = (after ≡ activation) × (seen ≡ Trapped OutOfRange line)

-- an element, if it is there, takes the place of its index on the stack, below which these words are
abbrev pub LoadsElement : (line : ℕ) → (stack : List ℕ) → (element : Option ℕ) → (activation after : Activation) → Event → Type 0
LoadsElement line stack (Some word) activation after seen = GoesOnWith (word ∷ stack) activation after seen
LoadsElement line stack None activation after seen = TrapsPast line activation after seen

-- the store with another word at an index of a buffer
abbrev pub with_word : Store → Buffer → (index word : ℕ) → Store
with_word store held.Null index word = store
with_word store (held.Copy key) index word = record store { elements = written store.elements key index (cast_signed w32 word) }
with_word store (held.View a) index word = record store { heap = with_value store.heap a index (Number word) }

-- an element of a buffer is written, if it is there
abbrev pub StoresElement : (line : ℕ) → (stack : List ℕ) → (inside : Bool) → Store → Buffer → (index word : ℕ)
    → (after : Store) → (activation after_call : Activation) → Event → Type 0
StoresElement line stack true store b index word after activation after_call seen =
    (after ≡ with_word store b index word) × GoesOnWith stack activation after_call seen
StoresElement line stack false store b index word after activation after_call seen =
    (after ≡ store) × TrapsPast line activation after_call seen
