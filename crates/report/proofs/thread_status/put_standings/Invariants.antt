use Rattle.std.proofs.Common.{◌≡◌, drop, map}
use Rattle.std.specs.List.{flat_map, enumerate_from}
use Rattle.report.specs.ReportText.{thread_line}
use Rattle.report.specs.ThreadStatus.{standing_view}
use Rattle.sinks.proofs.Puts.{PutSoFar}
use Rattle.report.proofs.thread_status.put_standings.Given as goal

abbrev pub invariant-loop-standing : goal.invariant-loop-standing
invariant-loop-standing g l = record {
  put : PutSoFar (g.S.Sink.written l.initial.sink) (g.S.Sink.written l.sink) (flat_map thread_line (enumerate_from 1 (map standing_view l.standings)))
      (flat_map thread_line (drop l.standing-index (enumerate_from 1 (map standing_view l.standings))));
  thread : l.thread ≡ l.standing-index;
}
