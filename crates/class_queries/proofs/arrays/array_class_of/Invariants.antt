use Rattle.std.proofs.Common.{ℕ, ◌+◌, ◌<◌, false}
use Rattle.class_rules.specs.Class.{array_name, class_name}
use Rattle.class_queries.proofs.ArrayClasses.{IsNamed}
use Rattle.class_queries.proofs.arrays.array_class_of.Given as goal

abbrev pub invariant-loop-place : goal.invariant-loop-place
invariant-loop-place l = (k : ℕ) → k < l.place → IsNamed l.classes (array_name (class_name l.classes l.fn.class.number)) (k + 1) false
