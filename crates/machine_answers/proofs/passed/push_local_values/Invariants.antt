use Rattle.std.proofs.Common.{◌≡◌, ◌≤◌, ◌++◌, List, drop, length}
use Rattle.std.specs.Prelude.{vec_capacity, vec_len}
use Rattle.machine_answers.specs.Passed.{passed_in}
use Rattle.machine_scenes.specs.Statics.{References}
use Rattle.machine_scenes.specs.declared.references.Held.{Held}
use Rattle.machine_answers.proofs.passed.push_local_values.Given as goal

-- what is left to give comes after what is there, whatever statics hold, and has room
abbrev pub invariant-loop-operand : goal.invariant-loop-operand
invariant-loop-operand l =
    let references : List Held → References = λ statics. record {
      keys = l.activation.slots.references.items;
      locals = l.activation.locals;
      statics = statics;
    } in
    record {
      given : (statics : List Held)
          → passed_in (references statics) l.operands l.words
          ≡ l.values.items ++ passed_in (references statics) (drop l.operand-index l.operands) l.left;
      counted : vec_len l.values ≡ l.operand-index;
      capacity : vec_capacity l.values ≡ vec_capacity l.initial.values;
      room : length l.operands ≤ vec_capacity l.values;
    }
