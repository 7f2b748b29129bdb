use Rattle.std.proofs.Common.{length, refl, ap, arith}
use Rattle.machine_scenes.specs.declared.activation.Activation.{Activation}
use Rattle.std.proofs.lemmas.Option.{slice_get_read}
use Rattle.machine_collections.specs.Roots.{call_places}
use Rattle.machine_collections.proofs.Counts.{counted_all, counted_next}
use Rattle.machine_collections.proofs.counting.count_callers.Goals as goal

pub loop-caller-preserved : goal.loop-caller-preserved
loop-caller-preserved c =
    let calls = c.args.callers.now in
    let i = c.loop-caller.caller-index in
    let x = c.caller-item.result in
    let next = counted_next call_places calls i x (slice_get_read calls (length calls) i x refl c.loop-caller-test.true c.caller-item.is) in
    let same = ap (λ (call : Activation). length (call_places call)) c.get.ensures in
    omega (arith, next, same, c.loop-caller.invariant, c.len.ensures.count, c.in_ok-count.ensures)

pub returns : goal.returns
returns c =
    let all = counted_all call_places c.args.callers.now c.loop-caller.caller-index c.loop-caller-test.false in
    omega (arith, all, c.loop-caller.invariant)
