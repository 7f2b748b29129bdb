use Rattle.std.proofs.Common.{List, ◌&&◌, ◌==◌, length, map, sym, ap, ap₂, ◌∙◌}
use lib.Pointwise.{pointwise}
use Rattle.base.specs.Bytes.{Identifier}
use Rattle.region_states.specs.declared.states.VariableState.{VariableState as VariableStateInMemory}
use Rattle.region_states.specs.SameStates.{same_variable, same_state}
use Rattle.region_states.specs.StatesInMemory.{variable_state, state_value}
use Rattle.region_states.proofs.Same.{same_known, no_more}
use Rattle.region_states.proofs.StateLemmas.{all_known, names_at}
use Rattle.region_states.proofs.states.FlowState.is_as_saved.Goals as goal

pub returns-then-are_same : goal.returns-then-are_same
returns-then-are_same c = λ other saved same.
    let names = c.self.inside.names in
    let facts = c.self.inside.facts in
    let now = names_at names facts c.args.self.now c.self.invariant.0 c.self.view_is in
    let long = saved.0 ∙ ap (λ (ns : List Identifier). length ns) (same ∙ now) in
    ap (λ b. b && c.args.saved.now.frames == facts.frames)
    (c.if-are_same.ensures ∙ ap₂ (λ (a b : List VariableStateInMemory). pointwise same_variable (map variable_state a) (map variable_state b)) c.deref.ensures.value c.deref-2.ensures.value)
    ∙ same_known names (map variable_state c.args.saved.now.variables.items) (map variable_state facts.variables.items) c.args.saved.now.frames facts.frames (all_known names c.args.saved.now long) (all_known names facts c.self.invariant.0)
    ∙ ap₂ same_state (ap (λ (ns : List Identifier). state_value ns c.args.saved.now) (sym (same ∙ now)) ∙ saved.1) c.self.view_is

pub returns-else-are_same : goal.returns-else-are_same
returns-else-are_same c = λ other saved same.
    let names = c.self.inside.names in
    let facts = c.self.inside.facts in
    let now = names_at names facts c.args.self.now c.self.invariant.0 c.self.view_is in
    let long = saved.0 ∙ ap (λ (ns : List Identifier). length ns) (same ∙ now) in
    no_more c.are_same.result (c.args.saved.now.frames == facts.frames) c.if-are_same.false
    ∙ ap (λ b. b && c.args.saved.now.frames == facts.frames)
    (c.are_same.ensures ∙ ap₂ (λ (a b : List VariableStateInMemory). pointwise same_variable (map variable_state a) (map variable_state b)) c.deref.ensures.value c.deref-2.ensures.value)
    ∙ same_known names (map variable_state c.args.saved.now.variables.items) (map variable_state facts.variables.items) c.args.saved.now.frames facts.frames (all_known names c.args.saved.now long) (all_known names facts c.self.invariant.0)
    ∙ ap₂ same_state (ap (λ (ns : List Identifier). state_value ns c.args.saved.now) (sym (same ∙ now)) ∙ saved.1) c.self.view_is
