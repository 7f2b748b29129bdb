use Rattle.std.proofs.Common.{◌≡◌, map, drop}
use Rattle.world_lines.specs.LineViews.{value_view}
use Rattle.world_values.specs.WorldRules.{layout_types, each_in_range}
use Rattle.world_lines.proofs.NumbersInRange.{types_of}
use Rattle.world_lines.proofs.rules.fields_in_range.Given as goal

-- the values so far are in range
abbrev pub invariant-loop-value : goal.invariant-loop-value
invariant-loop-value l =
    each_in_range (types_of l.fields) (map value_view (drop l.value-index l.values))
    ≡ each_in_range (layout_types l.classes l.fn.class.number) (map value_view l.values)
