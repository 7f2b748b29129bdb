use Rattle.std.proofs.Common.{◌≡◌, ◌++◌, map, take}
use Rattle.classes.specs.BuiltInList.{listed_class}
use Rattle.classes.proofs.built_ins.put_built_ins.Given as goal

abbrev pub invariant-loop-built_in : goal.invariant-loop-built_in
invariant-loop-built_in l = l.classes ≡ l.initial.classes ++ take l.built_in-index (map listed_class l.built_ins)
