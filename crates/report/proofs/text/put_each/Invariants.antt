use Rattle.std.proofs.Common.{drop}
use Rattle.std.specs.List.{flat_map}
use Rattle.sinks.proofs.Puts.{PutSoFar}
use Rattle.report.proofs.text.put_each.Given as goal

abbrev pub invariant-loop-value : goal.invariant-loop-value
invariant-loop-value g l =
    PutSoFar (g.S.Sink.written l.initial.sink) (g.S.Sink.written l.sink) (flat_map g.T.Text.text l.values) (flat_map g.T.Text.text (drop l.value-index l.values))
