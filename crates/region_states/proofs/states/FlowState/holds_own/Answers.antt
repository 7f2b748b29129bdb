use Rattle.std.proofs.Common.{List, Some, map, drop, length, sym, ap, ◌∙◌, arith}
use Rattle.std.specs.List.{list_any}
use Rattle.std.proofs.lemmas.List.{drop-map}
use Rattle.base.specs.Bytes.{Identifier}
use Rattle.region_states.specs.declared.states.VariableState.{VariableState as VariableStateInMemory}
use Rattle.region_rules.specs.RegionRules.{is_held}
use Rattle.region_rules.specs.RegionStates.{RegionState, VariableState}
use Rattle.region_states.specs.StatesInMemory.{variable_state}
use Rattle.region_states.specs.StatesInMemory.{holds_other}
use Rattle.region_states.proofs.LeaveLemmas.{others_are}
use Rattle.region_states.proofs.StateLemmas.{all_known, names_at}
use Rattle.region_states.proofs.states.FlowState.holds_own.Goals as goal

pub is_one_after-requires : goal.is_one_after-requires
is_one_after-requires c =
    let now = names_at c.self.inside.names c.self.inside.facts c.args.self.now c.self.invariant.0 c.self.view_is in
    omega (arith, c.requires, ap (λ (ns : List Identifier). length ns) now, c.self.invariant.0, ap (λ (vs : List VariableStateInMemory). length vs) c.deref.ensures.value)

pub returns : goal.returns
returns c = λ outer is grows.
    let names = c.self.inside.names in
    let items = c.self.inside.facts.variables.items in
    let now = names_at names c.self.inside.facts c.args.self.now c.self.invariant.0 c.self.view_is in
    let held = λ (v : VariableState). is_held (Some v) in
    c.is_one_after.ensures
    ∙ ap (λ (vs : List VariableStateInMemory). list_any held (map variable_state (drop c.args.count vs))) c.deref.ensures.value
    ∙ ap (λ (vs : List VariableState). list_any held vs) (sym (drop-map variable_state c.args.count items))
    ∙ sym (others_are outer grows.0 names (map variable_state items) c.args.count c.self.invariant.1 (all_known names c.self.inside.facts c.self.invariant.0) (sym now ∙ grows.1) is held)
    ∙ ap (λ (s : RegionState). holds_other outer s) c.self.view_is
