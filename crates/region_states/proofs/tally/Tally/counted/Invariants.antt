use Rattle.std.proofs.Common.{◌≡◌, ◌+◌, drop, map}
use Rattle.region_states.specs.declared.states.Condition.{Condition}
use Rattle.region_states.specs.StatesInMemory.{variable_state, how_many, meets, number_of}
use Rattle.region_states.proofs.tally.Tally.counted.Given as goal

abbrev pub invariant-loop-v : goal.invariant-loop-v
invariant-loop-v l =
    (q : Condition) → number_of l.tally q + how_many (meets q) (map variable_state (drop l.v-index l.variables)) ≡ how_many (meets q) (map variable_state l.variables)
