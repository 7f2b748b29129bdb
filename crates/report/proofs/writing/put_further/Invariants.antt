use Rattle.std.proofs.Common.{drop}
use Rattle.report.specs.RunText.{further_text}
use Rattle.sinks.proofs.Puts.{PutSoFar}
use Rattle.report.proofs.writing.put_further.Given as goal

abbrev pub invariant-loop-name : goal.invariant-loop-name
invariant-loop-name g l =
    PutSoFar (g.S.Sink.written l.initial.sink) (g.S.Sink.written l.sink) (further_text l.names) (further_text (drop l.name-index l.names))
