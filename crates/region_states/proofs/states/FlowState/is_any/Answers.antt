use Rattle.std.proofs.Common.{Some, map, nat_lt, sym, ap, ◌∙◌}
use Rattle.region_rules.specs.RegionStates.{RegionState, VariableState}
use Rattle.region_states.specs.StatesInMemory.{any_asked, condition_holds, variable_state}
use Rattle.region_states.proofs.HolderLemmas.{some_are}
use Rattle.region_states.proofs.ScopeLemmas.{any_is}
use Rattle.region_states.proofs.StateLemmas.{all_known}
use Rattle.region_states.proofs.states.FlowState.is_any.Goals as goal

pub returns : goal.returns
returns c =
    let asked = λ (v : VariableState). condition_holds c.args.condition (Some v) in
    c.is_any.ensures
    ∙ ap (nat_lt 0) (c.self.invariant.2.1 c.args.condition)
    ∙ some_are asked (map variable_state c.self.inside.facts.variables.items)
    ∙ sym (any_is asked c.self.inside.names (map variable_state c.self.inside.facts.variables.items) (all_known c.self.inside.names c.self.inside.facts c.self.invariant.0))
    ∙ ap (λ (s : RegionState). any_asked c.args.condition s) c.self.view_is
