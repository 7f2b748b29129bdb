use Rattle.std.proofs.Common.{◌≤◌, drop, map}
use Rattle.syntax.specs.Views.{item_tree}
use Rattle.lower_parallel.proofs.Walks.{AreLeft}
use Rattle.lower_parallel.proofs.share.lower_share.Given as goal

abbrev pub invariant-loop-item : goal.invariant-loop-item
invariant-loop-item g l = AreLeft l.workers l.worker (map item_tree l.item-items) l.names.known l.number (map item_tree (drop l.item-index l.item-items)) l.codes.items × (l.number ≤ l.item-index)
