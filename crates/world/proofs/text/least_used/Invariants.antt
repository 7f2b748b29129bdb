use Rattle.std.proofs.Common.{◌≡◌, ◌+◌, sum_by, take}
use Rattle.class_rules.specs.BuiltIns.{built_ins}
use Rattle.world.proofs.WorldCells.{class_cells}
use Rattle.world.proofs.text.least_used.Given as goal

abbrev pub invariant-loop-place : goal.invariant-loop-place
invariant-loop-place l = l.used ≡ 4 + sum_by class_cells (take l.place built_ins)
