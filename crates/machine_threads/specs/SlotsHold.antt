-- What the slots of a call hold, and what it stands for.
use Rattle.std.specs.Prelude.{ℕ, ◌≤◌, List, length, Option, FitsSigned}
use Rattle.std.specs.Int.{w32}
use Rattle.std.specs.List.{AllByRecursion}
use Rattle.base.specs.Limits.{most_copied}
use Rattle.syntax.specs.Tree.{SourceUnit}
use Rattle.class_rules.specs.Class.{Classes}
use Rattle.heap.specs.Heap.{Space}
use Rattle.semantics.specs.Object.{Reference}
use Rattle.semantics.specs.Variable as source
use Rattle.code_meaning.specs.Slots as meant
use Rattle.code_meaning.specs.Slots.{Slots}
use Rattle.machine_scenes.specs.declared.activation.Activation.{Activation}
use Rattle.machine_scenes.specs.declared.handle.Handle.{Handle}
use Rattle.machine_scenes.specs.FieldIds.{HandlesAgree}
use Rattle.machine_scenes.specs.Locals.{KeysAgree}
use Rattle.tables.specs.Elements.{OwnedNumbers}
use Rattle.tables.specs.Locals.{LocalTable}
use Rattle.machine_scenes.specs.Buffers.{BuffersAgree}
use Rattle.machine_scenes.specs.declared.buffer.Buffer.{Buffer}

-- numbers, keys, the handles of field IDs and method IDs, and buffers, as they lie in slots
pub record SlotValues : Type 0 where
  pub numbers : List ℕ
  pub keys : List (Option ℕ)
  pub handles : List (Option Handle)
  pub buffers : List Buffer

-- what the slots of a call hold
abbrev pub values_in : Activation → SlotValues
values_in activation = record {
  numbers = activation.slots.numbers.items;
  keys = activation.slots.references.items;
  handles = activation.slots.fields.items;
  buffers = activation.slots.buffers.items;
}

-- what the slots of references, of field IDs and method IDs, and of buffers stand for, with the levels of the references that are variables' own
pub record Meant : Type 0 where
  pub references : List Reference
  pub owners : List (Option ℕ)
  pub fields : List (Option meant.Handle)
  pub buffers : List source.Buffer

-- the same with the numbers in slots, as the source's variables are shown
abbrev pub slots_of : Activation → Meant → Slots
slots_of activation meant = record {
  numbers = activation.slots.numbers.items;
  references = meant.references;
  owners = meant.owners;
  fields = meant.fields;
  buffers = meant.buffers;
}

-- a copy has at most as many numbers as all copies may have together, each in the range of a `jint`
abbrev pub IsSmallCopy : source.Buffer → Type 0
IsSmallCopy (source.Copy n zs) = (length zs ≤ most_copied) × AllByRecursion (FitsSigned w32) zs
IsSmallCopy b = Unit {0}

-- the values in the slots of a call of a unit whose copied lists have this owner, with this table of local references and all copied lists,
-- stand for these
pub record SlotsHold (unit : SourceUnit) (classes : Classes) (space : Space) (copies : List (Option OwnedNumbers))
    (owner : ℕ) (locals : LocalTable) (slots : SlotValues) (meant : Meant) : Type 0 where
  pub keys : KeysAgree space locals slots.keys meant.references meant.owners
  pub fields : HandlesAgree unit classes slots.handles meant.fields
  pub buffers : BuffersAgree space copies owner slots.buffers meant.buffers
  pub small : AllByRecursion IsSmallCopy meant.buffers
