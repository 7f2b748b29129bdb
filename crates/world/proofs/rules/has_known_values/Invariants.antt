use Rattle.std.proofs.Common.{◌≡◌, map, drop}
use Rattle.std.specs.List.{list_all}
use Rattle.world_lines.specs.LineContents.{written_values}
use Rattle.world_lines.specs.LineViews.{value_view, line_view}
use Rattle.world.specs.Gathered.{is_known}
use Rattle.world.proofs.rules.has_known_values.Given as goal

-- the values so far are known
abbrev pub invariant-loop-value : goal.invariant-loop-value
invariant-loop-value l = list_all (is_known l.classes l.names) (map value_view (drop l.value-index l.values)) ≡ list_all (is_known l.classes l.names) (written_values (line_view l.line))
