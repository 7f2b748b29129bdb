use Rattle.std.proofs.Common.{◌≡◌, ◌++◌, length, map}
use Rattle.types.specs.Faults.{fault_of}
use Rattle.program_check.specs.AllFaults.{entry_of, of_type_rule}
use Rattle.program_check.proofs.faults.told_types.Given as goal

-- the faults so far, and those that are still to come
abbrev pub invariant-loop-fault : goal.invariant-loop-fault
invariant-loop-fault l = map entry_of l.faults.items ++ map of_type_rule (map fault_of l.left.rest.items) ≡ map of_type_rule (map fault_of l.fn.found.items)

abbrev pub decreases-loop-fault : goal.decreases-loop-fault
decreases-loop-fault l = length l.left.rest.items
