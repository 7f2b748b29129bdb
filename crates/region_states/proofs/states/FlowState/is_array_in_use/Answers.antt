use Rattle.std.proofs.Common.{map, nat_lt, sym, ap, ◌∙◌, bytes_eq}
use Rattle.region_rules.specs.RegionStates.{RegionState}
use Rattle.region_states.specs.StatesInMemory.{is_holder, is_of, holds_of, variable_state}
use Rattle.region_states.proofs.HolderLemmas.{some_are}
use Rattle.region_states.proofs.ScopeLemmas.{any_is}
use Rattle.region_states.proofs.StateLemmas.{all_known}
use Rattle.region_states.proofs.states.FlowState.is_array_in_use.Goals as goal

pub returns : goal.returns
returns c =
    let x = c.args.name.now in
    let facts = c.self.inside.facts in
    let known = map variable_state facts.variables.items in
    ap (nat_lt 0) (c.count.ensures ∙ c.self.invariant.2.0 x)
    ∙ some_are (is_of x) known
    ∙ sym (any_is (is_holder (λ held. bytes_eq held.1 x)) c.self.inside.names known (all_known c.self.inside.names facts c.self.invariant.0))
    ∙ ap (λ (s : RegionState). holds_of x s) c.self.view_is
