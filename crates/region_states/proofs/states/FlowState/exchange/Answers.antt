use Rattle.std.proofs.Common.{List, length, sym, ap, ap₂, ◌∙◌, subst}
use Rattle.base.specs.Bytes.{Identifier}
use Rattle.region_states.specs.declared.states.Facts.{Facts}
use Rattle.region_states.specs.StatesInMemory.{state_value, HasCounts}
use Rattle.region_states.proofs.StateLemmas.{names_at}
use Rattle.region_states.proofs.states.FlowState.exchange.Goals as goal

pub invariant_of-self : goal.invariant_of-self
invariant_of-self c =
    let names = names_at c.self.inside.names c.self.inside.facts c.args.self.now c.self.invariant.0 c.self.view_is in
    (ap (λ (f : Facts). length f.variables.items) c.swap.ensures.x_after ∙ c.requires.long ∙ ap (λ (ns : List Identifier). length ns) names, c.self.invariant.1, subst HasCounts (sym c.swap.ensures.x_after) c.requires.counted)

pub returns-clause-after : goal.returns-clause-after
returns-clause-after c = λ other saved same.
    let names = names_at c.self.inside.names c.self.inside.facts c.args.self.now c.self.invariant.0 c.self.view_is in
    ap₂ state_value (sym (same ∙ names)) c.swap.ensures.x_after ∙ saved.1

pub returns-clause-before : goal.returns-clause-before
returns-clause-before c =
    let names = names_at c.self.inside.names c.self.inside.facts c.args.self.now c.self.invariant.0 c.self.view_is in (
      ap (λ (f : Facts). length f.variables.items) c.swap.ensures.y_after ∙ c.self.invariant.0 ∙ ap (λ (ns : List Identifier). length ns) (sym names),
      ap₂ state_value names c.swap.ensures.y_after ∙ c.self.view_is,
      subst HasCounts (sym c.swap.ensures.y_after) c.self.invariant.2,
    )
