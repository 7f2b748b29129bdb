use Rattle.std.proofs.Common.{◌≡◌, drop}
use Rattle.syntax.specs.Views.{unit_tree}
use Rattle.semantics.specs.Load.{asks_methods}
use Rattle.class_queries.proofs.asked_methods.asks_methods.Given as goal

abbrev pub invariant-loop-item : goal.invariant-loop-item
invariant-loop-item l = asks_methods (unit_tree l.items) ≡ asks_methods (unit_tree (drop l.item-index l.items))
