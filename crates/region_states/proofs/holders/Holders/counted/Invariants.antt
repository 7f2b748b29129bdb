use Rattle.std.proofs.Common.{◌≡◌, ◌+◌, drop, map}
use Rattle.base.specs.Bytes.{Identifier}
use Rattle.region_states.specs.StatesInMemory.{variable_state, holders, count_of}
use Rattle.region_states.proofs.holders.Holders.counted.Given as goal

abbrev pub invariant-loop-v : goal.invariant-loop-v
invariant-loop-v l =
    (x : Identifier) → count_of l.counts x + holders x (map variable_state (drop l.v-index l.variables)) ≡ holders x (map variable_state l.variables)
