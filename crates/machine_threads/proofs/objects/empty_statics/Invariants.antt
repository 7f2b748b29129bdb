use Rattle.std.proofs.Common.{◌≡◌, ◌++◌, drop, length, replicate}
use Rattle.syntax.specs.Parts.{statics_of}
use Rattle.syntax.specs.Views.{unit_tree}
use Rattle.semantics.specs.declared.static_reference.StaticReference.TheVariants.{Empty}
use Rattle.machine_threads.proofs.objects.empty_statics.Given as goal

abbrev pub invariant-loop-item : goal.invariant-loop-item
invariant-loop-item l = l.statics.items ++ replicate (length (statics_of (unit_tree (drop l.item-index l.items)))) Empty ≡ replicate (length (statics_of (unit_tree l.items))) Empty
