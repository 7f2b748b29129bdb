use Rattle.std.proofs.Common.{length, refl, arith}
use Rattle.std.proofs.lemmas.Option.{slice_get_read}
use Rattle.replay_threads.specs.States.{copied_in, viewed_in}
use Rattle.replay_threads.proofs.BufferLemmas.{in_use_so, none_past}
use Rattle.replay_threads.proofs.StateLemmas.{range_at}
use Rattle.replay_threads.proofs.state.buffers_in_use.Goals as goal

pub taken_by-taken-requires : goal.taken_by-taken-requires
taken_by-taken-requires c =
    let ts = c.args.threads.now in
    range_at ts c.loop-thread.thread-index c.thread-item.result c.requires
    (slice_get_read ts (length ts) c.loop-thread.thread-index c.thread-item.result refl c.loop-thread-test.true c.thread-item.is)

pub returns : goal.returns
returns c =
    let ts = c.args.threads.now in
    let none = none_past copied_in viewed_in ts c.loop-thread.thread-index c.loop-thread-test.false in
    in_use_so ts c.loop-thread.copied c.loop-thread.views (omega (arith, c.loop-thread.invariant.0, none.0)) (omega (arith, c.loop-thread.invariant.1, none.1))
