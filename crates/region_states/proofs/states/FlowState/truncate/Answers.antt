use Rattle.std.proofs.Common.{ℕ, List, map, take, length, min, sym, ap, ap₂, ◌∙◌}
use Rattle.std.proofs.Math.Seq.{take-append_seam}
use Rattle.std.proofs.lemmas.List.{take-map, length-take}
use Rattle.base.specs.Bytes.{Identifier}
use Rattle.std.specs.Prelude.{reverse}
use Rattle.std.specs.List.{zip}
use Rattle.region_states.specs.declared.states.VariableState.{VariableState as VariableStateInMemory}
use Rattle.region_rules.specs.RegionStates.{RegionState, VariableState}
use Rattle.region_rules.specs.Regions.{left}
use Rattle.region_states.specs.SameStates.{NamedState}
use Rattle.region_states.specs.StatesInMemory.{variable_state, variables_value, names_of}
use Rattle.region_states.proofs.LeaveLemmas.{left_is}
use Rattle.region_states.proofs.StateLemmas.{all_known, names_at, names_of_value}
use Rattle.region_states.proofs.states.FlowState.truncate.Goals as goal

pub returns-clause-left : goal.returns-clause-left
returns-clause-left c = λ outer is grows.
    let names = c.self.inside.names in
    let items = c.self.inside.facts.variables.items in
    let now = names_at names c.self.inside.facts c.args.self.now c.self.invariant.0 c.self.view_is in
    let first = c.truncate.ensures.first ∙ ap₂ (λ (n : ℕ) (ns : List Identifier). take n ns) is (sym now ∙ grows.1) ∙ take-append_seam (names_of outer) grows.0 in
    ap (λ (n : ℕ). let s : RegionState = record { variables = variables_value c.truncate.new.self c.truncate-2.new.self.variables.items; frames = n } in s) c.truncate-2.ensures.frames
    ∙ ap (λ (vs : List NamedState). let s : RegionState = record { variables = vs; frames = c.self.inside.facts.frames } in s)
    (ap₂ variables_value first c.truncate-2.ensures.known
    ∙ ap (λ (vs : List VariableState). reverse (zip (names_of outer) vs)) (sym (take-map variable_state c.args.count items))
    ∙ sym (left_is outer grows.0 names (map variable_state items) c.args.count c.self.invariant.1 (all_known names c.self.inside.facts c.self.invariant.0) (sym now ∙ grows.1) is))
    ∙ ap (λ (s : RegionState). left outer s) c.self.view_is

pub returns-clause-names : goal.returns-clause-names
returns-clause-names c = λ outer is grows.
    let names = c.self.inside.names in
    let items = c.self.inside.facts.variables.items in
    let now = names_at names c.self.inside.facts c.args.self.now c.self.invariant.0 c.self.view_is in
    let first = c.truncate.ensures.first ∙ ap₂ (λ (n : ℕ) (ns : List Identifier). take n ns) is (sym now ∙ grows.1) ∙ take-append_seam (names_of outer) grows.0 in
    let long =
    ap (λ (vs : List VariableStateInMemory). length vs) c.truncate-2.ensures.known ∙ length-take c.args.count items ∙ ap (min c.args.count) c.self.invariant.0
    ∙ sym (length-take c.args.count names) ∙ ap (λ (ns : List Identifier). length ns) (sym c.truncate.ensures.first) in
    names_of_value c.truncate.new.self c.truncate-2.new.self long ∙ first
