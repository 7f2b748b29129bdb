use Rattle.std.proofs.Common.{◌≡◌, ◌++◌, map, take}
use Rattle.classes.specs.BuiltInList.{listed_class, array_classes}
use Rattle.classes.proofs.built_ins.put_object_arrays.Given as goal

abbrev pub invariant-loop-place : goal.invariant-loop-place
invariant-loop-place l = l.classes ≡ l.initial.classes ++ take l.place (array_classes (map listed_class l.built_ins))
