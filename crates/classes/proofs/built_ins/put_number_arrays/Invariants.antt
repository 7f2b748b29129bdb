use Rattle.std.proofs.Common.{◌≡◌, ◌++◌, map, take}
use Rattle.classes.specs.BuiltInList.{listed_number_array}
use Rattle.classes.proofs.built_ins.put_number_arrays.Given as goal

abbrev pub invariant-loop-array : goal.invariant-loop-array
invariant-loop-array l = l.classes ≡ l.initial.classes ++ take l.array-index (map listed_number_array l.arrays)
