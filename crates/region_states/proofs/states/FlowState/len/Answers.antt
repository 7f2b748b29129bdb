use Rattle.std.proofs.Common.{List, length, sym, ap, ◌∙◌}
use Rattle.base.specs.Bytes.{Identifier}
use Rattle.region_rules.specs.RegionStates.{RegionState}
use Rattle.region_states.specs.StatesInMemory.{names_of}
use Rattle.region_states.proofs.StateLemmas.{names_of_value}
use Rattle.region_states.proofs.states.FlowState.len.Goals as goal

pub returns : goal.returns
returns c =
    c.len.ensures
    ∙ ap (λ (names : List Identifier). length names) (sym (names_of_value c.self.inside.names c.self.inside.facts c.self.invariant.0))
    ∙ ap (λ (s : RegionState). length (names_of s)) c.self.view_is
