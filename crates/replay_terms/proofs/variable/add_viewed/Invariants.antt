use Rattle.std.proofs.Common.{◌≡◌, ◌++◌, drop}
use Rattle.std.specs.Prelude.{flat_map}
use Rattle.indexmap.specs.IndexMap.{values}
use Rattle.semantics.specs.Views.{names_of}
use Rattle.replay_terms.specs.Views.{viewed_by}
use Rattle.replay_terms.proofs.variable.add_viewed.Given as goal

abbrev pub invariant-loop-place : goal.invariant-loop-place
invariant-loop-place l = names_of l.names.items ++ flat_map viewed_by (drop l.place (values l.contents)) ≡ names_of l.fn.names.items ++ flat_map viewed_by (values l.contents)
