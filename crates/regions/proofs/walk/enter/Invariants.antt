use Rattle.std.proofs.Common.{◌≡◌, ◌≤◌, length, drop, map}
use Rattle.std.specs.Prelude.{filter_map}
use Rattle.syntax.specs.Views.{parameter_tree}
use Rattle.region_rules.specs.RegionStates.{parameter_state}
use Rattle.regions.proofs.walk.enter.Given as goal

abbrev pub invariant-loop-left : goal.invariant-loop-left
invariant-loop-left l = record {
  within : l.left ≤ length l.f.parameters.items;
  variables : l.state.variables ≡ filter_map parameter_state (map parameter_tree (drop l.left l.f.parameters.items));
  frames : l.state.frames ≡ 1;
}

abbrev pub decreases-loop-left : goal.decreases-loop-left
decreases-loop-left l = l.left
