use Rattle.std.proofs.Common.{List, ap, ap₂}
use Rattle.region_rules.specs.RegionStates.{RegionState}
use Rattle.region_states.specs.SameStates.{NamedState}
use Rattle.region_states.specs.StatesInMemory.{variables_value}
use Rattle.region_states.proofs.states.FlowState.clear.Goals as goal

pub returns : goal.returns
returns c =
    ap (λ (vs : List NamedState). let s : RegionState = record { variables = vs; frames = 1 } in s) (ap₂ variables_value c.truncate.ensures.first c.truncate-2.ensures.items)
