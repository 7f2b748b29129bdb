use Rattle.std.proofs.Common.{◌≡◌, List, refl, sym, subst, ap, ◌∙◌, rules}
use Rattle.std.proofs.lemmas.List.{with_items_is, places}
use Rattle.std.specs.Vec.{with_items}
use Rattle.semantics.specs.Effect.{is_ready}
use Rattle.replay_arguments.specs.Shares.{shared_view, sight_in}
use Rattle.replay_terms.specs.Views.{operands_view}
use Rattle.replay_terms.specs.declared.operand.Operand.{Operand}
use Rattle.replay_terms.specs.declared.operand.Operands.{Operands}
use Rattle.replay_terms.specs.declared.operand.Operands.TheVariants as all
use Rattle.replay_steps.specs.Calls.{ReducesFirst, ReducesListed}
use Rattle.replay_steps.proofs.Invocations.{all_ready, last_steps, listed_steps}
use Rattle.replay_steps.proofs.SameLists.{same_list}
use Rattle.replay_steps.proofs.invoke.reduce_operands.Goals as goal

pub returns-in-Given-clause-step : goal.returns-in-Given-clause-step
returns-in-Given-clause-step c =
    let sight = sight_in (shared_view c.args.shared.now) c.args.variables.now in
    (ap (λ (os : Operands). is_ready sight.number (operands_view os)) c.in-Given.is ∙ all_ready sight.number c.in-Given.field-0.now, refl)

pub returns-in-Last-clause-step : goal.returns-in-Last-clause-step
returns-in-Last-clause-step c =
    let sight = sight_in (shared_view c.args.shared.now) c.args.variables.now in
    let new = c.reduce_term.new.t in
    subst (λ (os : Operands). ReducesFirst sight os c.reduce_term.result (all.Last c.in-Last.field-0 new)) (sym c.in-Last.is)
    (last_steps sight c.in-Last.field-0 c.in-Last.number new c.reduce_term.result c.reduce_term.ensures.step)

pub returns-in-Listed-clause-step : goal.returns-in-Listed-clause-step
returns-in-Listed-clause-step c =
    let sight = sight_in (shared_view c.args.shared.now) c.args.variables.now in
    let took = c.reduce_first.result in
    let new = c.reduce_first.new.operands in
    let step = subst (λ (os : List Operand). ReducesListed sight os took new) c.deref_mut.ensures.value c.reduce_first.ensures.step in
    let old = c.in-Listed.operands in
    let w = with_items old new in
    let items : w.items ≡ new = with_items_is old new (search (rules, places)) in
    rw c.in-Listed.is (listed_steps sight old w took (λ same. same_list old w.items w.ok same) (subst (λ (os : List Operand). ReducesListed sight old.items took os) (sym items) step))
