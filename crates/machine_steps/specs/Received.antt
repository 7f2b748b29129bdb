-- What a call in progress is after what a function gives is put where it belongs.
use Rattle.std.specs.Prelude.{◌≡◌, ℕ, ◌+◌, ◌<◌, ◌==◌, true, List, [], ◌∷◌, length, slice_set, Option, Some, None}
use Rattle.std.specs.Option.{option_map}
use Rattle.code.specs.Effect.{truth_word}
use Rattle.code.specs.declared.instr.Target.{Target}
use Rattle.code.specs.declared.instr.Target.TheVariants.{Number, Local, FieldId, MethodId, Static, Buffer, Test}
use Rattle.code.specs.declared.instr.Operand.{Operand}
use Rattle.code.specs.declared.instr.Operand.TheVariants.{IsCopy}
use Rattle.jni.specs.declared.kinds.ResultKind.{ResultKind}
use Rattle.jni.specs.declared.kinds.ResultKind.TheVariants.{NewLocal}
use Rattle.machine_answers.specs.declared.answer.Given.{Given}
use Rattle.machine_answers.specs.declared.answer.Given.TheVariants as given
use Rattle.machine_scenes.specs.declared.handle.Handle.{Handle}
use Rattle.machine_scenes.specs.declared.handle.Handle.TheVariants as handle
use Rattle.machine_scenes.specs.declared.activation.Activation.{Activation}
use Rattle.machine_scenes.specs.declared.buffer.Buffer.{Buffer as HeldBuffer}
use Rattle.machine_scenes.specs.declared.buffer.Buffer.TheVariants as held
use Rattle.tables.specs.Locals.{LocalTable, IsMade, has_room}
use Rattle.machine_scenes.specs.Statics.{StaticReference}

-- the stack, on which the test of an `if` finds the truth whether a number is 0
abbrev pub stack_with : Target → Given → List ℕ
stack_with Test (given.Number word) = truth_word (word == 0) ∷ []
stack_with target g = []

-- the number slots with what is given in the target
abbrev pub numbers_with : Target → Given → List ℕ → List ℕ
numbers_with (Number i) (given.Number word) numbers = slice_set numbers i word
numbers_with target g numbers = numbers

-- the slot of the flag for `isCopy`, an operand at this place, if there is one
abbrev pub told_slot : Option Operand → Option ℕ
told_slot (Some (IsCopy i)) = Some i
told_slot o = None

-- the number slots once the flag in this slot, if there is one, tells a buffer that is given and is a copy from a view
abbrev pub told_with : (told : Option ℕ) → Given → List ℕ → List ℕ
told_with (Some i) (given.Buffer (held.Copy key)) numbers = slice_set numbers i 1
told_with (Some i) (given.Buffer (held.View a)) numbers = slice_set numbers i 0
told_with told g numbers = numbers

-- a function of this kind of result makes a local reference of what is given, if it isn't NULL, and this is its key
abbrev pub MakesLocal : ResultKind → Given → (before : LocalTable) → (key : Option ℕ) → (after : LocalTable) → Type 0
MakesLocal NewLocal (given.Reference (Some a)) before key after = (place : ℕ) × (key ≡ Some place) × IsMade before place a after
MakesLocal kind g before key after = (key ≡ None) × (after ≡ before)

-- the slots of references with a key in the target
abbrev pub references_with : Target → (key : Option ℕ) → List (Option ℕ) → List (Option ℕ)
references_with (Local i) key references = slice_set references i key
references_with target key references = references

-- the slots of field IDs and method IDs with it
abbrev pub fields_with : Target → Given → List (Option Handle) → List (Option Handle)
fields_with (FieldId i) (given.FieldId h) fields = slice_set fields i (option_map handle.Field h)
fields_with (MethodId i) (given.MethodId h) fields = slice_set fields i (option_map handle.Method h)
fields_with target g fields = fields

-- the slots of buffers with it
abbrev pub buffers_with : Target → Given → List HeldBuffer → List HeldBuffer
buffers_with (Buffer element i) (given.Buffer b) buffers = slice_set buffers i b
buffers_with target g buffers = buffers

-- the statics with it
abbrev pub statics_with : Target → Given → List StaticReference → List StaticReference
statics_with (Static i) (given.Global s) statics = slice_set statics i s
statics_with target g statics = statics

-- the target's slot is among this number of slots of numbers
abbrev pub HasNumber : Target → ℕ → Type 0
HasNumber (Number i) count = i < count
HasNumber target count = Unit {0}

-- among this number of slots of references
abbrev pub HasReference : Target → ℕ → Type 0
HasReference (Local i) count = i < count
HasReference target count = Unit {0}

-- among this number of slots of field IDs and method IDs
abbrev pub HasField : Target → ℕ → Type 0
HasField (FieldId i) count = i < count
HasField (MethodId i) count = i < count
HasField target count = Unit {0}

-- among this number of slots of buffers
abbrev pub HasBuffer : Target → ℕ → Type 0
HasBuffer (Buffer element i) count = i < count
HasBuffer target count = Unit {0}

-- among this number of statics
abbrev pub HasStatic : Target → ℕ → Type 0
HasStatic (Static i) count = i < count
HasStatic target count = Unit {0}

-- the target's slot is there
abbrev pub HasTarget : Target → Activation → Type 0
HasTarget target activation = HasNumber target (length activation.slots.numbers.items)
    × HasReference target (length activation.slots.references.items) × HasField target (length activation.slots.fields.items)
    × HasBuffer target (length activation.slots.buffers.items)

-- the slot of the flag for `isCopy`, if there is one, is among this number of slots of numbers
abbrev pub HasTold : (told : Option ℕ) → ℕ → Type 0
HasTold (Some i) count = i < count
HasTold None count = Unit {0}

-- a local reference, where a function of this kind of result puts one, has room in the current frame
abbrev pub HasRoom : ResultKind → LocalTable → Type 0
HasRoom NewLocal locals = has_room locals ≡ true
HasRoom kind locals = Unit {0}

-- the call goes on after the instruction, with what is given where it belongs, once `isCopy` has been told
pub record Receives (target : Target) (kind : ResultKind) (told : Option ℕ) (g : Given) (activation after : Activation) : Type 0 where
  pub function : after.function ≡ activation.function
  pub place : after.place ≡ activation.place + 1
  pub stack : after.stack ≡ stack_with target g
  pub numbers : after.slots.numbers.items ≡ numbers_with target g (told_with told g activation.slots.numbers.items)
  pub key : Option ℕ
  pub makes : MakesLocal kind g activation.locals key after.locals
  pub references : after.slots.references.items ≡ references_with target key activation.slots.references.items
  pub fields : after.slots.fields.items ≡ fields_with target g activation.slots.fields.items
  pub buffers : after.slots.buffers.items ≡ buffers_with target g activation.slots.buffers.items
