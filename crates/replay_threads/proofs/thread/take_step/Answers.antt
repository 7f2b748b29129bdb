use Rattle.std.proofs.Common.{List, refl, subst}
use Rattle.std.proofs.lemmas.Result.{IfOk-weaker}
use Rattle.syntax.specs.Views.{unit_tree}
use Rattle.syntax.specs.declared.unit.Item.{Item}
use Rattle.replay_threads.specs.Threads.{TakesTurn}
use Rattle.replay_arguments.specs.Shares.{shared_view}
use Rattle.replay_terms.specs.Views.{in_use_view}
use Rattle.replay_threads.proofs.ThreadLemmas.{ended_range, ended_step, range_begun}
use Rattle.replay_threads.proofs.thread.take_step.Goals as goal

pub end_step-requires-clause-callers : goal.end_step-requires-clause-callers
end_step-requires-clause-callers c = c.requires.range.callers

pub end_step-requires-clause-work : goal.end_step-requires-clause-work
end_step-requires-clause-work c = c.in_ok-outcome.ensures.range

pub returns-clause-step : goal.returns-clause-step
returns-clause-step c = IfOk-weaker c.end_step.result _ _ (λ took ends.
    let turn = c.args.turn in
    subst (λ (items : List Item). TakesTurn (unit_tree items) turn (shared_view c.args.shared.now) c.args.thread.now took (shared_view c.end_step.new.shared) c.end_step.new.thread) c.requires.unit (λ s h live.
    ended_step (unit_tree turn.unit.now) turn.classes.now (in_use_view turn.in_use) turn.thread turn.refused (shared_view c.args.shared.now) (shared_view c.advance.new.shared) c.args.thread.now c.in-Some.activation c.advance.new.activation c.advance.new.pending s c.in-Some.is h c.in_ok-outcome.outcome took (shared_view c.end_step.new.shared) c.end_step.new.thread ends c.in_ok-outcome.ensures.step)) c.end_step.ensures

pub returns-clause-range : goal.returns-clause-range
returns-clause-range c = IfOk-weaker c.end_step.result _ _ (λ took ends.
    ended_range c.args.turn.thread (shared_view c.advance.new.shared) (shared_view c.end_step.new.shared) _ c.in_ok-outcome.outcome took c.end_step.new.thread ends
    (range_begun c.args.thread.now _ refl c.in_ok-outcome.ensures.range c.requires.range)) c.end_step.ensures
