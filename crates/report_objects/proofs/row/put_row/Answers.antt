use Rattle.std.proofs.Common.{ap, ◌∙◌, map}
use Rattle.std.proofs.lemmas.Result.{err_from_is_err_and}
use Rattle.class_rules.specs.Class.{class_name}
use Rattle.semantics.specs.Heap.{values_of}
use Rattle.semantics.specs.ReportOf.{shown_value}
use Rattle.report_objects.proofs.RowTexts.{row_written, head_stops, values_stop}
use Rattle.report_objects.proofs.row.put_row.Goals as goal

pub returns-in_err-put_row_head : goal.returns-in_err-put_row_head
returns-in_err-put_row_head g c =
    let p = err_from_is_err_and c.from_residual.result c.from_residual.ensures.1 in
    let class = c.name-class.ensures ∙ ap (class_name c.args.classes.now) c.class_of.ensures in
    rw p.1 (head_stops (g.S.Sink.written c.args.sink.now) (g.S.Sink.written c.put_row_head.new.sink) c.args.name.number _ _ (map (shown_value c.args.classes.now) (values_of (g.O.Objects.heap c.args.objects.now) c.args.name.number)) class c.in_err-put_row_head.ensures)

pub returns-in_err-put_values : goal.returns-in_err-put_values
returns-in_err-put_values g c =
    let p = err_from_is_err_and c.from_residual-in_err-put_values.result c.from_residual-in_err-put_values.ensures.1 in
    let class = c.name-class.ensures ∙ ap (class_name c.args.classes.now) c.class_of.ensures in
    rw p.1 (values_stop (g.S.Sink.written c.args.sink.now) (g.S.Sink.written c.put_row_head.new.sink) (g.S.Sink.written c.put_values.new.sink) c.args.name.number _ _ (map (shown_value c.args.classes.now) (values_of (g.O.Objects.heap c.args.objects.now) c.args.name.number)) class c.in_ok-put_row_head.ensures c.in_err-put_values.ensures)

pub returns : goal.returns
returns g c =
    let class = c.name-class.ensures ∙ ap (class_name c.args.classes.now) c.class_of.ensures in
    row_written (g.S.Sink.written c.args.sink.now) (g.S.Sink.written c.put_row_head.new.sink) (g.S.Sink.written c.put_values.new.sink) (g.S.Sink.written c.put_row_end.new.sink) c.put_row_end.result c.args.name.number _ _ (map (shown_value c.args.classes.now) (values_of (g.O.Objects.heap c.args.objects.now) c.args.name.number)) class c.in_ok-put_row_head.ensures c.in_ok-put_values.ensures c.put_row_end.ensures
