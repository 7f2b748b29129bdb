use Rattle.std.proofs.Common.{◌≡◌, drop, map}
use Rattle.std.specs.List.{AllByRecursion}
use Rattle.syntax.specs.Views.{item_tree}
use Rattle.region_states.specs.NewNames.{ItemOnce}
use Rattle.regions.specs.Findings.{items_fault}
use Rattle.regions.proofs.walk.check_each.Given as goal

abbrev pub invariant-loop-item : goal.invariant-loop-item
invariant-loop-item l = record {
  once : AllByRecursion ItemOnce (map item_tree (drop l.item-index l.items));
  finds : items_fault (map item_tree (drop l.item-index l.items)) ≡ items_fault (map item_tree l.items);
}
