use Rattle.std.proofs.Common.{◌≡◌, map, take}
use Rattle.class_rules.specs.Class.{Field}
use Rattle.semantics.specs.World.{initial}
use Rattle.world_values.specs.Views.{object_value_view}
use Rattle.class_queries.proofs.first_values.initial_values.Given as goal

abbrev pub invariant-loop-place : goal.invariant-loop-place
invariant-loop-place l = map object_value_view l.values.items ≡ map (λ (f : Field). initial f.type) (take l.place l.fields)
