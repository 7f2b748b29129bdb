use Rattle.std.proofs.Common.{◌≡◌, ◌≤◌, ◌++◌, drop, length}
use Rattle.std.specs.Prelude.{vec_capacity, vec_len}
use Rattle.machine_answers.specs.Passed.{passed_in}
use Rattle.machine_answers.proofs.passed.push_values.Given as goal

-- what is left to give comes after what is there, and has room
abbrev pub invariant-loop-operand : goal.invariant-loop-operand
invariant-loop-operand l = record {
  given : passed_in l.references l.operands l.words ≡ l.values.items ++ passed_in l.references (drop l.operand-index l.operands) l.left;
  counted : vec_len l.values ≡ l.operand-index;
  room : length l.operands ≤ vec_capacity l.values;
}
