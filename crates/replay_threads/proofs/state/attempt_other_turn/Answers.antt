use Rattle.std.proofs.Common.{length, ap, refl, subst}
use Rattle.std.proofs.lemmas.Option.{slice_get_read}
use Rattle.std.proofs.lemmas.Result.{IfOk-weaker}
use Rattle.syntax.specs.Tree.{SourceUnit}
use Rattle.syntax.specs.Views.{unit_tree}
use Rattle.replay_arguments.specs.Shares.{shared_view}
use Rattle.replay_threads.specs.Threads.{AttemptsCalling}
use Rattle.replay_threads.proofs.AttemptedSteps.{call_turn_attempted}
use Rattle.replay_threads.proofs.StateLemmas.{range_at, range_set}
use Rattle.replay_threads.proofs.state.attempt_other_turn.Goals as goal

pub try_call-requires-clause-range : goal.try_call-requires-clause-range
try_call-requires-clause-range c =
    let ts = c.args.state.now.threads.items in
    let at = slice_get_read ts (length ts) c.args.stepper.place c.index_mut.result.now refl c.requires.live.there c.index_mut.ensures.value in
    range_at ts c.args.stepper.place c.index_mut.result.now c.requires.range at

pub returns-clause-step : goal.returns-clause-step
returns-clause-step c =
    let m = c.args.state.now in
    let ts = m.threads.items in
    let t = c.index_mut.result.now in
    let at = slice_get_read ts (length ts) c.args.stepper.place t refl c.requires.live.there c.index_mut.ensures.value in
    IfOk-weaker c.try_call.result _ _ (λ took does.
    call_turn_attempted m c.args.stepper.thread c.args.stepper.place t c.try_call.new.thread c.try_call.new.shared c.requires.range at c.requires.live _ c.classes.result.now c.classes.ensures.classes (unit_tree c.args.functions.now) took
    (subst (λ (unit : SourceUnit). AttemptsCalling unit c.classes.result.now c.args.stepper.thread (shared_view m.shared) t took (shared_view c.try_call.new.shared) c.try_call.new.thread) (ap unit_tree c.items.ensures) does)) c.try_call.ensures.step

pub returns-clause-range : goal.returns-clause-range
returns-clause-range c =
    IfOk-weaker c.try_call.result _ _ (λ took range. range_set c.args.state.now.threads.items c.args.stepper.place c.try_call.new.thread c.requires.range range) c.try_call.ensures.range
