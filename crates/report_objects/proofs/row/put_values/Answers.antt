use Rattle.std.proofs.Common.{◌++◌, subst}
use Rattle.std.specs.Prelude.{codes}
use Rattle.std.proofs.lemmas.Result.{err_from_is_err_and}
use Rattle.semantics.specs.Heap.{values_of}
use Rattle.semantics.specs.Report.{ShownValue}
use Rattle.report.specs.ReportText.{shown_text}
use Rattle.sinks.specs.Sink.{AppendsText, StopsWithin}
use Rattle.sinks.proofs.Puts.{goes_on, stops}
use Rattle.semantics.specs.Views.{object_value_view}
use Rattle.report_objects.proofs.RowTexts.{value_at}
use Rattle.report_objects.proofs.row.put_values.Goals as goal

pub returns-in_err-put_value : goal.returns-in_err-put_value
returns-in_err-put_value g c =
    let p = err_from_is_err_and c.from_residual.result c.from_residual.ensures.1 in
    let at = value_at c.args.classes.now (values_of (g.O.Objects.heap c.args.objects.now) c.args.name.number) c.loop-index.index (object_value_view c.value-value.result) c.value-value.ensures in
    let item = subst (λ (v : ShownValue). StopsWithin (g.S.Sink.written c.loop-index.sink) (g.S.Sink.written c.put_value.new.sink) (codes " " ++ shown_text v)) c.shown.ensures c.in_err-put_value.ensures in
    rw p.1 (stops _ _ _ _ _ _ _ c.loop-index.invariant at item)

pub loop-index-preserved : goal.loop-index-preserved
loop-index-preserved g c =
    let at = value_at c.args.classes.now (values_of (g.O.Objects.heap c.args.objects.now) c.args.name.number) c.loop-index.index (object_value_view c.value-value.result) c.value-value.ensures in
    let item = subst (λ (v : ShownValue). AppendsText (g.S.Sink.written c.loop-index.sink) (g.S.Sink.written c.put_value.new.sink) (codes " " ++ shown_text v)) c.shown.ensures c.in_ok-put_value.ensures in
    goes_on _ _ _ _ _ _ _ c.loop-index.invariant at item
