use Rattle.std.proofs.Common.{◌++◌}
use Rattle.std.specs.List.{flat_map}
use Rattle.std.proofs.lemmas.Result.{err_from_is_err_and}
use Rattle.report.specs.ReportText.{printed_line, thread_line}
use Rattle.report.specs.Shown.{row_lines}
use Rattle.sinks.proofs.Puts.{AppendsText-then, Writes-then, StopsWithin-more, StopsWithin-then}
use Rattle.report.proofs.ReportLemmas.{numbered, report_text-with}
use Rattle.report.proofs.writing.write_report.Goals as goal

pub returns-in_err-put_each : goal.returns-in_err-put_each
returns-in_err-put_each g c =
    let p = err_from_is_err_and c.from_residual.result c.from_residual.ensures.1 in
    let rows = g.R.Rows.rows c.args.rows.now in
    rw (p.1, report_text-with c.args.printed.now c.args.standings.now rows)
    (StopsWithin-more _ _ (flat_map printed_line c.args.printed.now ++ flat_map thread_line (numbered c.args.standings.now)) (row_lines rows)
    (StopsWithin-more _ _ (flat_map printed_line c.args.printed.now) (flat_map thread_line (numbered c.args.standings.now)) c.in_err-put_each.ensures))

pub returns-in_err-put_standings : goal.returns-in_err-put_standings
returns-in_err-put_standings g c =
    let p = err_from_is_err_and c.from_residual-in_err-put_standings.result c.from_residual-in_err-put_standings.ensures.1 in
    let rows = g.R.Rows.rows c.args.rows.now in
    rw (p.1, report_text-with c.args.printed.now c.args.standings.now rows)
    (StopsWithin-more _ _ (flat_map printed_line c.args.printed.now ++ flat_map thread_line (numbered c.args.standings.now)) (row_lines rows)
    (StopsWithin-then _ _ _ (flat_map printed_line c.args.printed.now) (flat_map thread_line (numbered c.args.standings.now)) c.in_ok-put_each.ensures c.in_err-put_standings.ensures))

pub returns : goal.returns
returns g c =
    let rows = g.R.Rows.rows c.args.rows.now in
    rw (report_text-with c.args.printed.now c.args.standings.now rows)
    (Writes-then _ _ _ _ (flat_map printed_line c.args.printed.now ++ flat_map thread_line (numbered c.args.standings.now)) (row_lines rows)
    (AppendsText-then _ _ _ (flat_map printed_line c.args.printed.now) (flat_map thread_line (numbered c.args.standings.now)) c.in_ok-put_each.ensures c.in_ok-put_standings.ensures)
    c.put.ensures)
