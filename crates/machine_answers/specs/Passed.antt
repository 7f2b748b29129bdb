-- What a call of a method passes to it, by what is in memory.
use Rattle.std.specs.Prelude.{ℕ, List, [], ◌∷◌}
use Rattle.code.specs.declared.instr.Operand.{Operand}
use Rattle.code.specs.declared.instr.Operand.TheVariants as operand
use Rattle.heap.specs.declared.value.Value.{Value}
use Rattle.heap.specs.declared.value.Value.TheVariants as value
use Rattle.machine_answers.specs.WorkedOut.{held_reference}
use Rattle.machine_scenes.specs.Given.{operand_at}
use Rattle.machine_scenes.specs.Statics.{References}

-- what operands give, of which numbers take these words in order
abbrev pub passed_in : References → List Operand → (words : List ℕ) → List Value
passed_in references [] words = []
passed_in references (operand.Number ∷ operands) [] = value.Number 0 ∷ passed_in references operands []
passed_in references (operand.Number ∷ operands) (word ∷ words) = value.Number word ∷ passed_in references operands words
passed_in references (o ∷ operands) words = held_reference (operand_at references o) ∷ passed_in references operands words
