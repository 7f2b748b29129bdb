use Rattle.std.proofs.Common.{◌≡◌, ◌++◌, map, drop}
use Rattle.tables.specs.References.{references_in}
use Rattle.semantics.specs.Views.{names_of}
use Rattle.machine_scenes.specs.Given.{object_there}
use Rattle.machine_collections.proofs.roots.root_names.Given as goal

abbrev pub invariant-loop-place : goal.invariant-loop-place
invariant-loop-place l = names_of l.names.items ++ map (object_there l.heap) (references_in (drop l.place l.roots.places.items)) ≡ map (object_there l.heap) (references_in l.roots.places.items)
