use Rattle.report.specs.Shown.{row_lines}
use Rattle.sinks.proofs.Puts.{PutSoFar}
use Rattle.report_objects.specs.Rows.{marked_rows}
use Rattle.report_objects.proofs.rows.put_rows.Given as goal

abbrev pub invariant-loop-number : goal.invariant-loop-number
invariant-loop-number g l =
    PutSoFar (g.S.Sink.written l.initial.sink) (g.S.Sink.written l.sink) (row_lines (marked_rows l.classes (g.O.Objects.heap l.objects) l.reached l.first l.end))
    (row_lines (marked_rows l.classes (g.O.Objects.heap l.objects) l.reached l.number l.end))
