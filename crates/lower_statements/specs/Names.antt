-- Slots and names in memory.
use Rattle.std.specs.Prelude.{map}
use Rattle.base.specs.Bytes.{ByName}
use Rattle.lower_statements.specs.declared.names.Slot.{Slot as SlotInMemory}
use Rattle.code_meaning.specs.Layout.{Slot, Known}

-- a slot with its type
abbrev pub slot_view : SlotInMemory → Slot
slot_view s = record { ty = s.ty; index = s.index }

-- the names that are known, with their slots
abbrev pub known_view : ByName SlotInMemory → Known
known_view known = map (λ k. (k.0, slot_view k.1)) known
