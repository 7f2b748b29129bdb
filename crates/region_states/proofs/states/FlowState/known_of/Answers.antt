use Rattle.std.proofs.Common.{map, sym, ap, ◌∙◌}
use Rattle.std.specs.Option.{option_and_then}
use Rattle.std.specs.List.{slice_get}
use Rattle.region_rules.specs.RegionStates.{RegionState, state_of}
use Rattle.region_states.specs.StatesInMemory.{variable_state}
use Rattle.region_states.proofs.ScopeLemmas.{lookup_is}
use Rattle.region_states.proofs.StateLemmas.{all_known, known_at, within}
use Rattle.region_states.proofs.states.FlowState.known_of.Goals as goal

pub returns-in-Some : goal.returns-in-Some
returns-in-Some c =
    let names = c.self.inside.names in
    let items = c.self.inside.facts.variables.items in
    let x = c.args.name.now in
    sym (
    lookup_is x names (map variable_state items) c.self.invariant.1 (all_known names c.self.inside.facts c.self.invariant.0)
    ∙ ap (option_and_then (slice_get (map variable_state items))) (sym c.in-Some.ensures)
    ∙ known_at items c.in-Some.number c.index.result.now (within x names items c.in-Some.number c.self.invariant.0 c.in-Some.ensures) c.index.ensures)
    ∙ ap (λ (s : RegionState). state_of s x) c.self.view_is

pub returns-in-None : goal.returns-in-None
returns-in-None c =
    let names = c.self.inside.names in
    let items = c.self.inside.facts.variables.items in
    let x = c.args.name.now in
    sym (
    lookup_is x names (map variable_state items) c.self.invariant.1 (all_known names c.self.inside.facts c.self.invariant.0)
    ∙ ap (option_and_then (slice_get (map variable_state items))) (sym c.in-None.ensures))
    ∙ ap (λ (s : RegionState). state_of s x) c.self.view_is
