use Rattle.std.proofs.Common.{◌≡◌, ◌++◌, length, map}
use Rattle.class_rules.specs.Fields.{FieldId, layout}
use Rattle.semantics.specs.World.{initial}
use Rattle.world_values.specs.Views.{object_value_view}
use Rattle.class_queries.proofs.first_values.fresh_values.Given as goal

-- what the fields so far hold, and those that are still to come
abbrev pub invariant-loop-id : goal.invariant-loop-id
invariant-loop-id l =
    map object_value_view l.values.items ++ map (λ (f : FieldId). initial f.field.type) l.fields
    ≡ map (λ (f : FieldId). initial f.field.type) (layout l.classes l.fn.class.number)

abbrev pub decreases-loop-id : goal.decreases-loop-id
decreases-loop-id l = length l.fields
