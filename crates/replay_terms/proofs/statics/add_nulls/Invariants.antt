use Rattle.std.proofs.Common.{◌≡◌, drop}
use Rattle.syntax.specs.Views.{unit_tree}
use Rattle.semantics.specs.Start.{null_statics}
use Rattle.replay_terms.specs.Views.{assign_all}
use Rattle.replay_terms.proofs.statics.add_nulls.Given as goal

abbrev pub invariant-loop-item : goal.invariant-loop-item
invariant-loop-item l = assign_all (null_statics (unit_tree (drop l.item-index l.items))) l.statics ≡ assign_all (null_statics (unit_tree l.items)) l.fn.statics
