use Rattle.std.proofs.Common.{length, refl, arith}
use Rattle.std.proofs.lemmas.Option.{slice_get_read}
use Rattle.machine_collections.specs.Roots.{thread_places}
use Rattle.machine_collections.proofs.Counts.{counted_all, counted_next}
use Rattle.machine_collections.proofs.counting.count_threads.Goals as goal

pub loop-thread-preserved : goal.loop-thread-preserved
loop-thread-preserved c =
    let ts = c.args.threads.now in
    let i = c.loop-thread.thread-index in
    let x = c.thread-item.result in
    let next = counted_next thread_places ts i x (slice_get_read ts (length ts) i x refl c.loop-thread-test.true c.thread-item.is) in
    omega (arith, next, c.loop-thread.invariant, c.in_ok-count_thread.ensures, c.in_ok-count.ensures)

pub returns : goal.returns
returns c =
    let all = counted_all thread_places c.args.threads.now c.loop-thread.thread-index c.loop-thread-test.false in
    omega (arith, all, c.loop-thread.invariant)
