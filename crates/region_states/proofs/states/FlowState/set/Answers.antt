use Rattle.std.proofs.Common.{List, map, sym, ap, ◌∙◌, arith}
use Rattle.std.proofs.Math.ListN.{length-set}
use Rattle.std.specs.Option.{option_map}
use Rattle.region_states.specs.VariableChanges.{get_value, set_from}
use Rattle.region_rules.specs.RegionStates.{RegionState, VariableState, with_changed}
use Rattle.region_states.specs.SameStates.{NamedState}
use Rattle.region_states.specs.StatesInMemory.{variable_state, is_of, meets}
use Rattle.region_states.proofs.HolderLemmas.{many_set, one_at, few}
use Rattle.region_states.proofs.ScopeLemmas.{changed_none}
use Rattle.region_states.proofs.StateLemmas.{changed_known, within}
use Rattle.region_states.proofs.states.FlowState.set.Goals as goal

pub forget-requires : goal.forget-requires
forget-requires c = λ x.
    let items = c.self.inside.facts.variables.items in
    let lt = within c.args.name.now c.self.inside.names items c.in-Some.number c.self.invariant.0 c.in-Some.ensures in
    let among = one_at (is_of x) items c.in-Some.number c.index-old.result.now lt c.index-old.ensures in
    omega (arith, among, c.in_ok-note-in-Some.ensures.ok x, c.self.invariant.2.0 x)

pub invariant_of-self-in-Some : goal.invariant_of-self-in-Some
invariant_of-self-in-Some c =
    let items = c.self.inside.facts.variables.items in
    let old = c.index-old.result.now in
    let new = c.set_to-known.result in
    let n = c.in-Some.number in
    let lt = within c.args.name.now c.self.inside.names items n c.self.invariant.0 c.in-Some.ensures in (
      length-set items n new ∙ c.self.invariant.0,
      c.self.invariant.1,
      (
        λ x.
            let changed = many_set (is_of x) items n old new lt c.index-old.ensures in
            omega (arith, changed, c.in_ok-note-in-Some.ensures.ok x, c.forget.ensures x, c.self.invariant.2.0 x),
        λ q. let changed = many_set (meets q) items n old new lt c.index-old.ensures in omega (arith, changed, c.replace.ensures q, c.self.invariant.2.1 q),
      ),
    )

pub returns-in_ok-note-in-Some : goal.returns-in_ok-note-in-Some
returns-in_ok-note-in-Some c =
    let names = c.self.inside.names in
    let items = c.self.inside.facts.variables.items in
    let change = λ (v : VariableState). set_from (option_map get_value c.args.get) v in
    ap (λ (vs : List NamedState). let s : RegionState = record { variables = vs; frames = c.self.inside.facts.frames } in s)
    (changed_known names items c.args.name.now change c.in-Some.number c.index-old.result.now c.set_to-known.result c.self.invariant.1 c.self.invariant.0 c.in-Some.ensures c.index-old.ensures c.set_to-known.ensures)
    ∙ ap (λ (s : RegionState). with_changed s c.args.name.now change) c.self.view_is

pub returns-in-None : goal.returns-in-None
returns-in-None c =
    let names = c.self.inside.names in
    let items = c.self.inside.facts.variables.items in
    let change = λ (v : VariableState). set_from (option_map get_value c.args.get) v in
    sym c.self.view_is
    ∙ ap (λ (vs : List NamedState). let s : RegionState = record { variables = vs; frames = c.self.inside.facts.frames } in s)
    (sym (changed_none change c.args.name.now names (map variable_state items) c.self.invariant.1 c.in-None.ensures))
    ∙ ap (λ (s : RegionState). with_changed s c.args.name.now change) c.self.view_is

pub note-requires : goal.note-requires
note-requires c = λ x.
    let variables = c.self.inside.facts.variables in
    omega (arith, few (is_of x) variables.items, c.self.invariant.2.0 x, variables.ok.0, variables.ok.1, variables.small)

pub replace-requires-clause-among : goal.replace-requires-clause-among
replace-requires-clause-among c = λ q.
    let items = c.self.inside.facts.variables.items in
    let lt = within c.args.name.now c.self.inside.names items c.in-Some.number c.self.invariant.0 c.in-Some.ensures in
    let among = one_at (meets q) items c.in-Some.number c.index-old.result.now lt c.index-old.ensures in
    omega (arith, among, c.self.invariant.2.1 q)

pub replace-requires-clause-few : goal.replace-requires-clause-few
replace-requires-clause-few c = λ q.
    let variables = c.self.inside.facts.variables in
    omega (arith, few (meets q) variables.items, c.self.invariant.2.1 q, variables.ok.0, variables.ok.1, variables.small)
