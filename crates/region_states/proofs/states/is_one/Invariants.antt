use Rattle.std.proofs.Common.{◌≡◌, drop, map, Some}
use Rattle.std.specs.List.{list_any}
use Rattle.region_states.specs.StatesInMemory.{condition_holds, variable_state}
use Rattle.region_states.proofs.states.is_one.Given as goal

abbrev pub invariant-loop-v : goal.invariant-loop-v
invariant-loop-v l =
    list_any (λ v. condition_holds l.condition (Some v)) (map variable_state (drop l.v-index l.variables)) ≡ list_any (λ v. condition_holds l.condition (Some v)) (map variable_state l.variables)
