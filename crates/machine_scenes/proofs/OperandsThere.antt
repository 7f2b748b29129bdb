-- What an operand at a place gives is there.
use Rattle.std.proofs.Common.{◌≡◌, ℕ, zero, suc, List, [], ◌∷◌, Option, Some}
use Rattle.std.specs.Prelude.{IsSome}
use Rattle.class_rules.specs.Class.{Classes}
use Rattle.classes.specs.FieldViews.{field_of}
use Rattle.classes.specs.declared.class.FieldHandle.{FieldHandle}
use Rattle.code.specs.declared.instr.Operand.{Operand}
use Rattle.heap.specs.Heap.{Space, IsAddress}
use Rattle.machine_scenes.specs.declared.handle.Handle.{Handle}
use Rattle.machine_scenes.specs.Statics.{References}
use Rattle.machine_scenes.specs.Given.{AreAddresses, AreHandles, field_at, operand_at, operand_of}

-- an address that the operand at a place gives
pub address_of : (space : Space) (references : References) (operands : List Operand) (i : ℕ) → AreAddresses space references operands → (a : ℕ) → operand_at references (operand_of operands i) ≡ Some a → IsAddress space a
address_of space references [] i h a e = absurd (cc)
address_of space references (o ∷ operands) zero h a e = h.0 a e
address_of space references (o ∷ operands) (suc i) h a e = address_of space references operands i h.1 a e

-- the handle that the operand at a place gives
pub handle_of : (classes : Classes) (fields : List (Option Handle)) (operands : List Operand) (i : ℕ) → AreHandles classes fields operands → (h : FieldHandle) → field_at fields (operand_of operands i) ≡ Some h → IsSome (field_of classes h)
handle_of classes fields [] i are h e = absurd (cc)
handle_of classes fields (o ∷ operands) zero are h e = are.0 h e
handle_of classes fields (o ∷ operands) (suc i) are h e = handle_of classes fields operands i are.1 h e
