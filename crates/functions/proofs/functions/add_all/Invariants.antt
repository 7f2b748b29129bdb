use Rattle.std.proofs.Common.{◌≡◌, ◌≤◌, length, take}
use Rattle.syntax.specs.Parts.{functions_of}
use Rattle.syntax.specs.Views.{unit_tree}
use Rattle.functions.specs.Numbers.{FindsAll}
use Rattle.functions.proofs.functions.add_all.Given as goal

abbrev pub invariant-loop-item : goal.invariant-loop-item
invariant-loop-item l = record {
  few : l.number ≤ l.item-index;
  counted : l.number ≡ length (functions_of (unit_tree (take l.item-index l.items)));
  finds : FindsAll 0 (functions_of (unit_tree (take l.item-index l.items))) l.by_name;
}
