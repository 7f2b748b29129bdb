use Rattle.std.proofs.Common.{◌≡◌, map, drop}
use Rattle.std.specs.List.{list_all}
use Rattle.classes.specs.Views.{field_type_view}
use Rattle.world_lines.specs.LineViews.{value_view}
use Rattle.world.specs.Gathered.{can_hold}
use Rattle.world.proofs.rules.all_can_hold.Given as goal

-- the values so far can be held
abbrev pub invariant-loop-value : goal.invariant-loop-value
invariant-loop-value l =
    list_all (can_hold l.classes l.names (field_type_view l.field_type)) (map value_view (drop l.value-index l.values))
    ≡ list_all (can_hold l.classes l.names (field_type_view l.field_type)) (map value_view l.values)
