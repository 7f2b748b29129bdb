use Rattle.std.proofs.Common.{◌≡◌, ◌++◌, drop, map}
use Rattle.std.specs.List.{AllByRecursion}
use Rattle.syntax.specs.Views.{item_tree}
use Rattle.region_states.specs.NewNames.{ItemOnce}
use Rattle.regions.specs.Findings.{fault_of, items_faults}
use Rattle.regions.proofs.walk.gather_each.Given as goal

abbrev pub invariant-loop-item : goal.invariant-loop-item
invariant-loop-item l = record {
  once : AllByRecursion ItemOnce (map item_tree (drop l.item-index l.items));
  told : map fault_of l.faults.items ++ items_faults (map item_tree (drop l.item-index l.items)) ≡ map fault_of l.fn.faults.items ++ items_faults (map item_tree l.items);
}
