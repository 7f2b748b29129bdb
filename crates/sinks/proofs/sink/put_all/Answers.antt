use Rattle.std.proofs.Common.{◌≡◌, ◌++◌, take}
use Rattle.std.proofs.lemmas.List.{take-append-drop}
use Rattle.sinks.proofs.Puts.{goes_on}
use Rattle.sinks.specs.Sink.{AppendsText}
use Rattle.sinks.proofs.sink.put_all.Goals as goal

pub loop-rest-preserved : goal.loop-rest-preserved
loop-rest-preserved g c =
    let rest = c.loop-rest.rest.now in
    let n = c.in_ok-taken.taken in
    let w = g.S.Sink.written in
    let put : AppendsText (w c.loop-rest.sink) (w c.put.new.self) (take n rest) = record { bytes = c.in_ok-taken.ensures.taken; failures = c.in_ok-taken.ensures.same } in
    let cut : rest ≡ take n rest ++ c.split_at.result.1.now = cc (take-append-drop n rest) in
    goes_on (w c.args.sink.now) (w c.loop-rest.sink) (w c.put.new.self) c.args.bytes.now rest (take n rest) c.split_at.result.1.now c.loop-rest.invariant cut put
