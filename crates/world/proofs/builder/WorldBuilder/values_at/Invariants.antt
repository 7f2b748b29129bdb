use Rattle.std.proofs.Common.{◌≡◌, map, take}
use Rattle.world.specs.Gathered.{value_at}
use Rattle.world_lines.specs.LineViews.{value_view}
use Rattle.world_values.specs.Views.{object_value_view}
use Rattle.world.proofs.builder.WorldBuilder.values_at.Given as goal

abbrev pub invariant-loop-value : goal.invariant-loop-value
invariant-loop-value l = map object_value_view l.held.items ≡ map (value_at l.self.classes l.self.names) (map value_view (take l.value-index l.values))
