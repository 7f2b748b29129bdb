use Rattle.std.proofs.Common.{List, length, map, sym, ap, ap₂, ◌∙◌, arith}
use Rattle.base.specs.Bytes.{Identifier}
use Rattle.region_states.specs.declared.states.VariableState.{VariableState as VariableStateInMemory}
use Rattle.region_rules.specs.RegionStates.{RegionState}
use Rattle.region_states.specs.StatesInMemory.{variable_state, variables_value, holders, how_many, meets}
use Rattle.region_states.proofs.StateLemmas.{names_at}
use Rattle.region_states.proofs.states.FlowState.save.Goals as goal

pub returns : goal.returns
returns c =
    let names = names_at c.self.inside.names c.self.inside.facts c.args.self.now c.self.invariant.0 c.self.view_is in
    let items = c.in_ok-variables.ensures.items ∙ c.deref.ensures.value in (
      ap (λ (vs : List VariableStateInMemory). length vs) items ∙ c.self.invariant.0 ∙ ap (λ (ns : List Identifier). length ns) (sym names),
      ap₂ (λ (ns : List Identifier) (vs : List VariableStateInMemory). let s : RegionState = record { variables = variables_value ns vs; frames = c.self.inside.facts.frames } in s) names items ∙ c.self.view_is,
      (
        λ x.
            c.in_ok-holders.ensures x
            ∙ ap (λ (vs : List VariableStateInMemory). holders x (map variable_state vs)) (c.deref-2.ensures.value ∙ sym items),
        λ q. c.self.invariant.2.1 q ∙ ap (λ (vs : List VariableStateInMemory). how_many (meets q) (map variable_state vs)) (sym items),
      ),
    )

pub counted-requires : goal.counted-requires
counted-requires c =
    let variables = c.self.inside.facts.variables in
    omega (arith, ap (λ (vs : List VariableStateInMemory). length vs) c.deref-2.ensures.value, variables.ok.0, variables.ok.1, variables.small)
