use Rattle.std.proofs.Common.{length}
use Rattle.sinks.proofs.Puts.{PutSoFar}
use Rattle.sinks.proofs.sink.put_all.Given as goal

abbrev pub invariant-loop-rest : goal.invariant-loop-rest
invariant-loop-rest g l =
    PutSoFar (g.S.Sink.written l.initial.sink) (g.S.Sink.written l.sink) l.bytes l.rest

abbrev pub decreases-loop-rest : goal.decreases-loop-rest
decreases-loop-rest g l = length l.rest
