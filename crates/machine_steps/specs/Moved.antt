-- How an instruction moves a call on.
use Rattle.std.specs.Prelude.{◌≡◌, ℕ, ◌+◌, ◌-◌, ◌≤◌, ◌<◌, ◌^◌, List, Some}
use Rattle.code.specs.Effect.{plain_of}
use Rattle.code.specs.declared.instr.Instr.{Instr}
use Rattle.code.specs.declared.instr.Plain.{Plain}
use Rattle.code.specs.declared.instr.Plain.TheVariants as plain
use Rattle.code_meaning.specs.Does.{trap_of}
use Rattle.machine_scenes.specs.declared.activation.Activation.{Activation}
use Rattle.semantics.specs.declared.trap.Trap.{Trap}
use Rattle.machine_threads.specs.SlotsHold.{SlotValues, values_in}
use Rattle.semantics.specs.declared.event.Event.{Event}
use Rattle.semantics.specs.declared.event.Event.TheVariants as event

-- the call is at a place, with these operands, and with these values in slots, and its table as it was
pub record HasMoved (activation after : Activation) (to : ℕ) (words : List ℕ) (slots : SlotValues) : Type 0 where
  pub function : after.function ≡ activation.function
  pub place : after.place ≡ to
  pub stack : after.stack ≡ words
  pub numbers : after.slots.numbers.items ≡ slots.numbers
  pub references : after.slots.references.items ≡ slots.keys
  pub fields : after.slots.fields.items ≡ slots.handles
  pub buffers : after.slots.buffers.items ≡ slots.buffers
  pub locals : after.locals ≡ activation.locals

-- the place that a path leads to; a trap stays
abbrev pub end_of_path : (place : ℕ) → Plain → ℕ
end_of_path place plain.Next = place + 1
end_of_path place (plain.Skip n) = place + 1 + n
end_of_path place (plain.Back n) = place - n
end_of_path place (plain.Trap trap line) = place

-- what is seen of a path
abbrev pub PathIsSeen : Plain → Event → Type 0
PathIsSeen (plain.Trap trap line) e = (t : Trap) × (t ≡ trap_of trap) × (e ≡ event.Trapped t line)
PathIsSeen path e = e ≡ event.Quiet

-- it prints nothing
abbrev pub IsSilent : Event → Type 0
IsSilent (event.PrintedNumber z) = ⊥
IsSilent e = Unit {0}

-- a path leads to a place that a word can hold
abbrev pub IsReachable : (place : ℕ) → Plain → Type 0
IsReachable place plain.Next = place + 1 < 2 ^ 64
IsReachable place (plain.Skip n) = place + 1 + n < 2 ^ 64
IsReachable place (plain.Back n) = n ≤ place
IsReachable place (plain.Trap trap line) = Unit {0}

-- what an instruction on the stack and the number slots alone did to a call
pub record MovesPlainly (i : Instr) (activation after : Activation) (seen : Event) : Type 0 where
  pub path : Plain
  pub stack : List ℕ
  pub numbers : List ℕ
  pub is : plain_of i activation.stack activation.slots.numbers.items ≡ Some (path, stack, numbers)
  pub moved : HasMoved activation after (end_of_path activation.place path) stack (record (values_in activation) { numbers = numbers })
  pub path_seen : PathIsSeen path seen
