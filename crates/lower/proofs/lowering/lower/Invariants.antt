use Rattle.std.proofs.Common.{drop, map}
use Rattle.syntax.specs.Views.{item_tree}
use Rattle.lower.proofs.ItemSteps.{AreLeft}
use Rattle.lower.proofs.lowering.lower.Given as goal

abbrev pub invariant-loop-item : goal.invariant-loop-item
invariant-loop-item l = AreLeft (map item_tree l.item-items) l.names.known (map item_tree (drop l.item-index l.item-items)) l.codes.items
