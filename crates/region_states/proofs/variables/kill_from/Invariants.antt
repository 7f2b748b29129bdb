use Rattle.std.proofs.Common.{◌≡◌, ◌++◌, drop, take, map, length}
use Rattle.region_rules.specs.RegionStates.{killed_from}
use Rattle.region_states.specs.StatesInMemory.{variable_state}
use Rattle.region_states.proofs.variables.kill_from.Given as goal

abbrev pub invariant-loop-i : goal.invariant-loop-i
invariant-loop-i l = record {
  done : map variable_state l.variables.items ≡ map (killed_from l.level.number) (take l.i (map variable_state l.initial.variables.items)) ++ drop l.i (map variable_state l.initial.variables.items);
  long : length l.variables.items ≡ length l.initial.variables.items;
}
