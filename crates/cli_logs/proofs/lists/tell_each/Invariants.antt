use Rattle.std.proofs.Common.{◌≡◌}
use Rattle.cli_logs.proofs.lists.tell_each.Given as goal

abbrev pub invariant-loop-fault : goal.invariant-loop-fault
invariant-loop-fault g l = record {
  kept : (g.E.Sink.written l.err).failures ≡ (g.E.Sink.written l.initial.err).failures;
  same : l.lines ≡ l.program;
}
