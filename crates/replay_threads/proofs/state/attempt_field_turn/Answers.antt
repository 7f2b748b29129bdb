use Rattle.std.proofs.Common.{length, refl}
use Rattle.std.proofs.lemmas.Option.{slice_get_read}
use Rattle.std.proofs.lemmas.Result.{IfOk-weaker}
use Rattle.replay_threads.proofs.AttemptedSteps.{field_turn_attempted}
use Rattle.replay_threads.proofs.StateLemmas.{range_at, range_set}
use Rattle.replay_threads.proofs.state.attempt_field_turn.Goals as goal

pub try_field-requires-clause-range : goal.try_field-requires-clause-range
try_field-requires-clause-range c =
    let ts = c.args.state.now.threads.items in
    let at = slice_get_read ts (length ts) c.args.place c.index_mut.result.now refl c.requires.there c.index_mut.ensures.value in
    range_at ts c.args.place c.index_mut.result.now c.requires.range at

pub returns-clause-step : goal.returns-clause-step
returns-clause-step c =
    let m = c.args.state.now in
    let ts = m.threads.items in
    let t = c.index_mut.result.now in
    let at = slice_get_read ts (length ts) c.args.place t refl c.requires.there c.index_mut.ensures.value in
    IfOk-weaker c.try_field.result _ _ (λ took does. λ k live.
    field_turn_attempted m k c.args.place t c.try_field.new.thread c.try_field.new.shared c.requires.range at live _ c.classes-classes.result.now c.classes-classes.ensures.classes took does) c.try_field.ensures.step

pub returns-clause-range : goal.returns-clause-range
returns-clause-range c =
    IfOk-weaker c.try_field.result _ _ (λ took range. range_set c.args.state.now.threads.items c.args.place c.try_field.new.thread c.requires.range range) c.try_field.ensures.range
