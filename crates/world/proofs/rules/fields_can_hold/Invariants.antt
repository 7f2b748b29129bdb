use Rattle.std.proofs.Common.{◌≡◌, map}
use Rattle.world.specs.Gathered.{each_can_hold}
use Rattle.world_lines.specs.LineViews.{value_view}
use Rattle.world_values.specs.WorldRules.{layout_types}
use Rattle.world.proofs.PlacesOfValues.{from_here}
use Rattle.world.proofs.rules.fields_can_hold.Given as goal

-- the values so far can be held
abbrev pub invariant-loop-value : goal.invariant-loop-value
invariant-loop-value l =
    from_here l.classes l.names value_view l.values l.value-index l.fields
    ≡ each_can_hold l.classes l.names (layout_types l.classes l.fn.class.number) (map value_view l.values)
