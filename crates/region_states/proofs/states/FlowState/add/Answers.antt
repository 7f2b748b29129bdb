use Rattle.std.proofs.Common.{ℕ, ◌+◌, List, [], ◌∷◌, map, length, bytes_eq, sym, ap, ap₂, ◌∙◌, arith, length-append}
use Rattle.std.specs.List.{list_any}
use Rattle.base.specs.Bytes.{Identifier}
use Rattle.region_rules.specs.RegionStates.{RegionState, with_new}
use Rattle.region_states.specs.SameStates.{NamedState}
use Rattle.region_states.specs.StatesInMemory.{variable_state, variables_value, how_many, is_of, meets}
use Rattle.region_states.specs.declared.states.VariableState.{VariableState as VariableStateInMemory}
use Rattle.region_states.proofs.HolderLemmas.{many_push, few}
use Rattle.region_states.proofs.StateLemmas.{names_at, pushed_known}
use Rattle.region_states.proofs.states.FlowState.add.Goals as goal

pub returns-in-Ok : goal.returns-in-Ok
returns-in-Ok c =
    let names = c.self.inside.names in
    let items = c.self.inside.facts.variables.items in
    ap (λ (vs : List NamedState). let s : RegionState = record { variables = vs; frames = c.self.inside.facts.frames } in s)
    (ap₂ variables_value c.in-Ok.ensures.name c.in-Ok.ensures.known ∙ pushed_known names items c.args.name.now c.args.known c.self.invariant.0)
    ∙ ap (λ (s : RegionState). with_new s c.args.name.now (variable_state c.args.known)) c.self.view_is

pub push-requires : goal.push-requires
push-requires c =
    let now = names_at c.self.inside.names c.self.inside.facts c.args.self.now c.self.invariant.0 c.self.view_is in
    ap (λ (names : List Identifier). list_any (bytes_eq c.args.name.now) names) (sym now) ∙ c.requires

pub invariant_of-self-in-Ok : goal.invariant_of-self-in-Ok
invariant_of-self-in-Ok c =
    let names = c.self.inside.names in
    let items = c.self.inside.facts.variables.items in (
      ap (λ (vs : List VariableStateInMemory). length vs) c.in-Ok.ensures.known
          ∙ length-append items (c.args.known ∷ [])
          ∙ ap (λ (n : ℕ). n + 1) c.self.invariant.0
          ∙ sym (length-append names (c.args.name.now ∷ []))
          ∙ sym (ap (λ (ns : List Identifier). length ns) c.in-Ok.ensures.name),
      c.in-Ok.ensures.distinct,
      (
        λ x.
            let pushed = ap (λ (vs : List VariableStateInMemory). how_many (is_of x) (map variable_state vs)) c.in-Ok.ensures.known in
            omega (arith, pushed, many_push (is_of x) items c.args.known, c.in_ok-note.ensures.ok x, c.self.invariant.2.0 x),
        λ q.
            let pushed = ap (λ (vs : List VariableStateInMemory). how_many (meets q) (map variable_state vs)) c.in-Ok.ensures.known in
            omega (arith, pushed, many_push (meets q) items c.args.known, c.note-in-Ok.ensures q, c.self.invariant.2.1 q),
      ),
    )

pub note-requires : goal.note-requires
note-requires c = λ x.
    let variables = c.self.inside.facts.variables in
    omega (arith, few (is_of x) variables.items, c.self.invariant.2.0 x, variables.ok.0, variables.ok.1, variables.small)

pub note-requires-in-Ok : goal.note-requires-in-Ok
note-requires-in-Ok c = λ q.
    let variables = c.self.inside.facts.variables in
    omega (arith, few (meets q) variables.items, c.self.invariant.2.1 q, variables.ok.0, variables.ok.1, variables.small)
