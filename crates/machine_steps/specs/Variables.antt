-- Variables that can be NULL.
use Rattle.std.specs.Prelude.{ℕ, ◌<◌, Bool, true, false, is_none, List, slice_get, slice_set, Option, None}
use Rattle.code.specs.declared.instr.NullableVariable.{NullableVariable}
use Rattle.code.specs.declared.instr.NullableVariable.TheVariants.{Local, Static, FieldId, Buffer}
use Rattle.machine_scenes.specs.declared.buffer.Buffer.{Buffer as HeldBuffer}
use Rattle.machine_scenes.specs.declared.buffer.Buffer.TheVariants as held
use Rattle.machine_scenes.specs.Statics.{StaticReference}
use Rattle.semantics.specs.declared.static_reference.StaticReference.TheVariants.{Empty}
use Rattle.machine_scenes.specs.declared.handle.Handle.{Handle}
use Rattle.machine_scenes.specs.Given.{held_in}
use Rattle.machine_threads.specs.SlotsHold.{SlotValues}
use Rattle.machine_scenes.specs.Statics.{References, static_at}
use Rattle.machine_scenes.specs.declared.references.Held.{Held}
use Rattle.machine_scenes.specs.declared.references.Held.TheVariants as held_by
use Rattle.machine_answers.specs.WorkedOut.{buffer_there}

-- whether a buffer is NULL
abbrev pub is_null_buffer : HeldBuffer → Bool
is_null_buffer held.Null = true
is_null_buffer b = false

-- whether a static is NULL, which a weak reference isn't by being cleared
abbrev pub is_empty_held : Held → Bool
is_empty_held held_by.Empty = true
is_empty_held h = false

-- whether a variable is NULL
abbrev pub is_null : References → List (Option Handle) → List HeldBuffer → NullableVariable → Bool
is_null references fields buffers (Local i) = is_none (held_in (slice_get references.keys i))
is_null references fields buffers (Static i) = is_empty_held (static_at references i)
is_null references fields buffers (FieldId i) = is_none (held_in (slice_get fields i))
is_null references fields buffers (Buffer i) = is_null_buffer (buffer_there buffers i)

-- a variable has its slot among these numbers of them
abbrev pub HasSlot : (references fields buffers statics : ℕ) → NullableVariable → Type 0
HasSlot references fields buffers statics (Local i) = i < references
HasSlot references fields buffers statics (Static i) = i < statics
HasSlot references fields buffers statics (FieldId i) = i < fields
HasSlot references fields buffers statics (Buffer i) = i < buffers

-- the slots of references with NULL in a variable
abbrev pub nulled_references : NullableVariable → List (Option ℕ) → List (Option ℕ)
nulled_references (Local i) references = slice_set references i None
nulled_references v references = references

-- the slots of field IDs with NULL in a variable
abbrev pub nulled_fields : NullableVariable → List (Option Handle) → List (Option Handle)
nulled_fields (FieldId i) fields = slice_set fields i None
nulled_fields v fields = fields

-- the slots of buffers with NULL in a variable
abbrev pub nulled_buffers : NullableVariable → List HeldBuffer → List HeldBuffer
nulled_buffers (Buffer i) buffers = slice_set buffers i held.Null
nulled_buffers v buffers = buffers

-- the slots with NULL in a variable
abbrev pub nulled_slots : NullableVariable → SlotValues → SlotValues
nulled_slots v slots = record slots {
  keys = nulled_references v slots.keys;
  handles = nulled_fields v slots.handles;
  buffers = nulled_buffers v slots.buffers;
}

-- the statics with NULL in a variable
abbrev pub nulled_statics : NullableVariable → List StaticReference → List StaticReference
nulled_statics (Static i) statics = slice_set statics i Empty
nulled_statics v statics = statics
