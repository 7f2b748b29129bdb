use Rattle.std.proofs.Common.{drop, map}
use Rattle.semantics.specs.Heap.{values_of}
use Rattle.semantics.specs.ReportOf.{shown_value}
use Rattle.sinks.proofs.Puts.{PutSoFar}
use Rattle.report_objects.proofs.RowTexts.{values_text}
use Rattle.report_objects.proofs.row.put_values.Given as goal

abbrev pub invariant-loop-index : goal.invariant-loop-index
invariant-loop-index g l =
    PutSoFar (g.S.Sink.written l.initial.sink) (g.S.Sink.written l.sink) (values_text (map (shown_value l.classes) (values_of (g.O.Objects.heap l.objects) l.name.number)))
    (values_text (map (shown_value l.classes) (drop l.index (values_of (g.O.Objects.heap l.objects) l.name.number))))
