use Rattle.std.proofs.Common.{List, map, sym, ap, ◌∙◌}
use Rattle.std.specs.List.{list_any}
use Rattle.region_states.specs.declared.states.VariableState.{VariableState as VariableStateInMemory}
use Rattle.region_rules.specs.RegionRules.{is_level}
use Rattle.region_rules.specs.RegionStates.{RegionState, VariableState, state_of}
use Rattle.region_states.specs.SameStates.{NamedState}
use Rattle.region_states.specs.StatesInMemory.{is_holder, variable_state}
use Rattle.region_states.proofs.ScopeLemmas.{any_is}
use Rattle.region_states.proofs.StateLemmas.{all_known}
use Rattle.region_states.proofs.states.FlowState.has_young_array.Goals as goal

pub loop-v-init : goal.loop-v-init
loop-v-init c =
    let now = c.args.self.now in
    let facts = c.self.inside.facts in
    let young = λ (v : VariableState). is_holder (λ held. is_level now.frames (state_of now held.1)) v in
    ap (λ (vs : List VariableStateInMemory). list_any young (map variable_state vs)) c.deref-v-items.ensures.value
    ∙ sym (any_is young c.self.inside.names (map variable_state facts.variables.items) (all_known c.self.inside.names facts c.self.invariant.0))
    ∙ ap (λ (s : RegionState). list_any (λ (v : NamedState). young v.1) s.variables) c.self.view_is
