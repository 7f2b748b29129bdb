use Rattle.std.proofs.Common.{drop, map}
use Rattle.syntax.specs.Views.{item_tree}
use Rattle.type_rules.specs.TypeRules.{item_places}
use Rattle.types.specs.Faults.{found}
use Rattle.types.proofs.KeptLemmas.{IsLeft}
use Rattle.types.proofs.items.UnitCheck.check_items.Given as goal

abbrev pub invariant-loop-item : goal.invariant-loop-item
invariant-loop-item l =
    IsLeft l.fn.self.faults l.self.faults (found (item_places l.fn.self.names.items l.fn.self.known (map item_tree l.items)))
    (found (item_places l.self.names.items l.self.known (map item_tree (drop l.item-index l.items))))
