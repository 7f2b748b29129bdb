use Rattle.std.proofs.Common.{◌≡◌, List, ℕ, subst, true, false}
use Rattle.std.proofs.lemmas.Result.{err_from_is_err_and}
use Rattle.report.specs.Shown.{row_lines}
use Rattle.sinks.proofs.Puts.{PutSoFar, goes_on, stops, is_all}
use Rattle.reachability.specs.Marks.{is_marked}
use Rattle.report_objects.specs.Rows.{marked_rows}
use Rattle.report_objects.proofs.RowTexts.{marked_next, unmarked_next, rows_end}
use Rattle.report_objects.proofs.rows.put_rows.Goals as goal
use Rattle.report_objects.proofs.rows.put_rows.Goals.{then-reached-number+in_ok-put_row, else-reached-number}

pub returns-in_err-put_row : goal.returns-in_err-put_row
returns-in_err-put_row g c =
    let p = err_from_is_err_and c.from_residual.result c.from_residual.ensures.1 in
    let marked : is_marked c.args.reached.now c.loop-number.number ≡ true = c.if-reached-number.true in
    let at = marked_next c.args.classes.now (g.O.Objects.heap c.args.objects.now) c.args.reached.now c.loop-number.number c.args.end c.loop-number-test.true marked in
    rw p.1 (stops _ _ _ _ _ _ _ c.loop-number.invariant at c.in_err-put_row.ensures)

pub loop-number-preserved : goal.loop-number-preserved
loop-number-preserved g c =
    elim c.if-reached-number.branch [
      | then-reached-number+in_ok-put_row w ↦
          let marked : is_marked c.args.reached.now c.loop-number.number ≡ true = w.if-reached-number.true in
          let at = marked_next c.args.classes.now (g.O.Objects.heap c.args.objects.now) c.args.reached.now c.loop-number.number c.args.end c.loop-number-test.true marked in
          rw w.sink-is (goes_on _ _ _ _ _ _ _ c.loop-number.invariant at w.in_ok-put_row.ensures)
      | else-reached-number w ↦
          let clear : is_marked c.args.reached.now c.loop-number.number ≡ false = w.if-reached-number.false in
          let at = unmarked_next c.args.classes.now (g.O.Objects.heap c.args.objects.now) c.args.reached.now c.loop-number.number c.args.end c.loop-number-test.true clear in
          rw w.sink-is (subst (λ (rest : List ℕ). PutSoFar (g.S.Sink.written c.args.sink.now) (g.S.Sink.written c.loop-number.sink) (row_lines (marked_rows c.args.classes.now (g.O.Objects.heap c.args.objects.now) c.args.reached.now c.args.first c.args.end)) rest) at c.loop-number.invariant)
    ]

pub returns : goal.returns
returns g c = is_all _ _ _ _ c.loop-number.invariant (rows_end c.args.classes.now (g.O.Objects.heap c.args.objects.now) c.args.reached.now c.loop-number.number c.args.end c.loop-number-test.false)
