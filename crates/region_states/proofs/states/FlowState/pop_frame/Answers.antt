use Rattle.std.proofs.Common.{ℕ, List, length, map, sym, ap, ap₂, ◌∙◌, arith}
use Rattle.std.specs.Prelude.{reverse}
use Rattle.std.specs.List.{zip}
use Rattle.region_rules.specs.RegionStates.{RegionState, VariableState, after_pop, killed_from}
use Rattle.region_states.specs.SameStates.{NamedState}
use Rattle.region_states.specs.declared.states.VariableState.{VariableState as VariableStateInMemory}
use Rattle.region_states.specs.StatesInMemory.{variable_state, holders, how_many, meets}
use Rattle.std.proofs.lemmas.List.{length-map}
use Rattle.region_states.proofs.HolderLemmas.{all_killed_held}
use Rattle.region_states.proofs.ScopeLemmas.{changed_each}
use Rattle.region_states.proofs.states.FlowState.pop_frame.Goals as goal

pub returns : goal.returns
returns c =
    let names = c.self.inside.names in
    let facts = c.self.inside.facts in
    ap₂ (λ (vs : List NamedState) (n : ℕ). let s : RegionState = record { variables = vs; frames = n } in s)
    (ap (λ (vs : List VariableState). reverse (zip names vs))
    c.kill_from.ensures
    ∙ sym (changed_each (killed_from facts.frames) names (map variable_state facts.variables.items)))
    c.saturating_sub-self-inside.ensures
    ∙ ap after_pop c.self.view_is

pub invariant_of-self : goal.invariant_of-self
invariant_of-self c =
    let items = c.self.inside.facts.variables.items in
    let level = c.self.inside.facts.frames in
    let known = map variable_state items in (
      sym (length-map c.kill_from.new.variables.items variable_state)
          ∙ ap (λ (vs : List VariableState). length vs) c.kill_from.ensures
          ∙ length-map known (killed_from level)
          ∙ length-map items variable_state
          ∙ c.self.invariant.0,
      c.self.invariant.1,
      (
        λ x. c.self.invariant.2.0 x ∙ sym (ap (λ (vs : List VariableState). holders x vs) c.kill_from.ensures ∙ all_killed_held x level known),
        λ q. c.counted-self-inside.ensures q ∙ ap (λ (vs : List VariableStateInMemory). how_many (meets q) (map variable_state vs)) c.deref.ensures.value,
      ),
    )

pub counted-self-inside-requires : goal.counted-self-inside-requires
counted-self-inside-requires c =
    let variables = c.kill_from.new.variables in
    omega (arith, ap (λ (vs : List VariableStateInMemory). length vs) c.deref.ensures.value, variables.ok.0, variables.ok.1, variables.small)
