use Rattle.std.proofs.Common.{◌≡◌, drop, map}
use Rattle.std.specs.List.{list_any}
use Rattle.region_rules.specs.RegionRules.{is_level}
use Rattle.region_rules.specs.RegionStates.{state_of}
use Rattle.region_states.specs.StatesInMemory.{is_holder, variable_state}
use Rattle.region_states.specs.StatesInMemory.{has_young_array}
use Rattle.region_states.proofs.states.FlowState.has_young_array.Given as goal

abbrev pub invariant-loop-v : goal.invariant-loop-v
invariant-loop-v l =
    list_any (is_holder (λ held. is_level l.self.frames (state_of l.self held.1))) (map variable_state (drop l.v-index l.v-items)) ≡ has_young_array l.self
