use Rattle.std.proofs.Common.{◌≡◌, false, Option, Some, None, sym, refl, ◌∙◌, subst}
use Rattle.std.specs.Prelude.{is_some}
use Rattle.std.proofs.lemmas.Result.{IfOk-weaker}
use Rattle.base.proofs.Options.{none_there}
use Rattle.replay_arguments.specs.Shares.{shared_view}
use Rattle.replay_threads.specs.Threads.{WorkInRange}
use Rattle.replay_threads.proofs.AttemptedSteps.{field_attempted}
use Rattle.replay_threads.proofs.ThreadLemmas.{range_begun}
use Rattle.replay_threads.proofs.thread.try_field.Goals as goal

pub attempt_field-requires-clause-range : goal.attempt_field-requires-clause-range
attempt_field-requires-clause-range c = subst WorkInRange c.in-Some.is c.requires.range.work

pub returns-in-Some-clause-step : goal.returns-in-Some-clause-step
returns-in-Some-clause-step c =
    let t = c.args.thread.now in
    let none = none_there t.pending (sym c.is_some.ensures ∙ c.if-is_some.false) in
    IfOk-weaker c.attempt_field.result _ _ (λ took does.
    field_attempted c.args.classes.now (shared_view c.args.shared.now) (shared_view c.attempt_field.new.shared) t c.in-Some.activation c.attempt_field.new.activation c.in-Some.is none took does) c.attempt_field.ensures.step

pub returns-in-Some-clause-range : goal.returns-in-Some-clause-range
returns-in-Some-clause-range c = IfOk-weaker c.attempt_field.result _ _ (λ took range. range_begun c.args.thread.now _ refl range c.requires.range) c.attempt_field.ensures.range
