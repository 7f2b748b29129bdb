use Rattle.std.proofs.Common.{◌≡◌, ◌++◌, drop}
use Rattle.semantics.specs.Views.{names_of}
use Rattle.machine_collections.specs.Roots.{pinned_names}
use Rattle.machine_collections.proofs.roots.push_viewed.Given as goal

abbrev pub invariant-loop-place : goal.invariant-loop-place
invariant-loop-place l = names_of l.names.items ++ pinned_names (drop l.place l.heap.blocks) ≡ names_of l.fn.names.items ++ pinned_names l.heap.blocks
