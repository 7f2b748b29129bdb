use Rattle.std.proofs.Common.{◌≡◌, drop, map}
use Rattle.std.specs.List.{list_any}
use Rattle.syntax.specs.Views.{item_tree}
use Rattle.code_meaning.specs.Length.{is_long}
use Rattle.step_counts.proofs.length.has_long_function.Given as goal

abbrev pub invariant-loop-item : goal.invariant-loop-item
invariant-loop-item l = list_any is_long (map item_tree (drop l.item-index l.item-items)) ≡ list_any is_long (map item_tree l.item-items)
