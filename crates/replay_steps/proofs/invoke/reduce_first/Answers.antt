use Rattle.std.proofs.Common.{◌≡◌, ◌+◌, true, List, length, map, refl, sym, ◌∙◌, subst, arith}
use Rattle.std.specs.Prelude.{slice_set}
use Rattle.std.proofs.lemmas.Option.{slice_get_read}
use Rattle.replay_terms.specs.declared.operand.Operand.{Operand}
use Rattle.replay_steps.specs.Calls.{ReducesListed, ReducesOne}
use Rattle.semantics.specs.Effect.{is_ready}
use Rattle.replay_terms.specs.Views.{operand_view}
use Rattle.replay_arguments.specs.Shares.{shared_view, sight_in}
use Rattle.replay_tasks.specs.Tasks.{OperandInRange}
use Rattle.replay_steps.proofs.Invocations.{first_step, none_step, none_first, AreGiven}
use Rattle.replay_tasks.proofs.RangeLemmas.{operand_at, operand_set}
use Rattle.replay_steps.proofs.invoke.reduce_first.Goals as goal

pub loop-place-init : goal.loop-place-init
loop-place-init c = (refl, λ i o low there. absurd (omega (arith, low)), c.requires)

pub reduce_one-reduction-requires : goal.reduce_one-reduction-requires
reduce_one-reduction-requires c =
    let os = c.loop-place.operands in
    let at = slice_get_read os (length os) c.loop-place.place c.index-operands-place.result refl (omega (arith, c.loop-place-test.true, c.loop-place.auto.operands)) c.index-operands-place.is in
    subst OperandInRange c.index-operands-place.is (operand_at os c.loop-place.place c.index-operands-place.result c.loop-place.invariant.2 at)

pub returns-then-is_some-clause-step : goal.returns-then-is_some-clause-step
returns-then-is_some-clause-step c =
    let sight = sight_in (shared_view c.args.shared.now) c.args.variables.now in
    let os = c.loop-place.operands in
    let o = c.index-operands-place.result in
    let took = c.reduce_one-reduction.result in
    let new = c.reduce_one-reduction.new.operand in
    let at = slice_get_read os (length os) c.loop-place.place o refl (omega (arith, c.loop-place-test.true, c.loop-place.auto.operands)) c.index-operands-place.is in
    let step = subst (λ (p : Operand). ReducesOne sight p took new) (sym c.index-operands-place.is) c.reduce_one-reduction.ensures.step in
    subst (λ (xs : List Operand). ReducesListed sight xs took (slice_set os c.loop-place.place new)) c.loop-place.invariant.0
    (first_step sight os c.loop-place.place o new took (sym c.is_some.ensures ∙ c.if-is_some.true) at c.loop-place.invariant.1 step)

pub returns-then-is_some-clause-numbers : goal.returns-then-is_some-clause-numbers
returns-then-is_some-clause-numbers c = operand_set c.loop-place.operands c.loop-place.place c.reduce_one-reduction.new.operand c.loop-place.invariant.2 c.reduce_one-reduction.ensures.numbers

pub loop-place-preserved : goal.loop-place-preserved
loop-place-preserved c =
    let sight = sight_in (shared_view c.args.shared.now) c.args.variables.now in
    let os = c.loop-place.operands in
    let o = c.index-operands-place.result in
    let took = c.reduce_one-reduction.result in
    let new = c.reduce_one-reduction.new.operand in
    let at = slice_get_read os (length os) c.loop-place.place o refl (omega (arith, c.loop-place-test.true, c.loop-place.auto.operands)) c.index-operands-place.is in
    let step = subst (λ (p : Operand). ReducesOne sight p took new) (sym c.index-operands-place.is) c.reduce_one-reduction.ensures.step in
    let kept = none_step sight os c.loop-place.place o new took (sym c.is_some.ensures ∙ c.if-is_some.false) at c.loop-place.invariant.1 step in (
      kept.0 ∙ c.loop-place.invariant.0,
      subst (λ (xs : List Operand). AreGiven sight xs (c.loop-place.place + 1)) (sym kept.0) kept.1,
      operand_set os c.loop-place.place new c.loop-place.invariant.2 c.reduce_one-reduction.ensures.numbers,
    )

pub returns-clause-step : goal.returns-clause-step
returns-clause-step c =
    let sight = sight_in (shared_view c.args.shared.now) c.args.variables.now in
    let os = c.loop-place.operands in
    let none = none_first sight os (λ i o low there. c.loop-place.invariant.1 i o (omega (arith, low, c.loop-place-test.false, c.loop-place.auto.operands)) there) in
    (subst (λ (xs : List Operand). is_ready sight.number (map operand_view xs) ≡ true) c.loop-place.invariant.0 none.0, c.loop-place.invariant.0)

pub returns-clause-numbers : goal.returns-clause-numbers
returns-clause-numbers c = c.loop-place.invariant.2
