use Rattle.std.proofs.Common.{◌≡◌, ◌++◌, ◌-◌, length}
use Rattle.class_rules.specs.Class.{ancestry, ancestry_within}
use Rattle.classes.proofs.layout_fields.path_to.Given as goal

abbrev pub invariant-loop : goal.invariant-loop
invariant-loop l = record {
  whole : l.ancestors ++ ancestry_within (l.end - l.counter) l.classes l.ancestor.number ≡ ancestry l.classes l.fn.class.number;
  many : length l.ancestors ≡ l.counter;
}
