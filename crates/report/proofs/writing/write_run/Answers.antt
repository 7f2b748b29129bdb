use Rattle.std.proofs.lemmas.Result.{err_from_is_err_and}
use Rattle.report.specs.ReportText.{report_text}
use Rattle.report.specs.Shown.{report_with}
use Rattle.semantics.specs.JournalText.{journal_line}
use Rattle.sinks.proofs.Puts.{AppendsText-then, StopsWithin-then, StopsWithin-more, Writes-flushed}
use Rattle.report.proofs.writing.write_run.Goals as goal

pub returns-in_err-write_report-clause-text : goal.returns-in_err-write_report-clause-text
returns-in_err-write_report-clause-text g c =
    let p = err_from_is_err_and c.from_residual.result c.from_residual.ensures.1 in
    rw p.1 (StopsWithin-more _ _ (report_text (report_with c.args.printed.now c.args.standings.now (g.R.Rows.rows c.args.rows.now))) (journal_line (g.E.Entries.entries c.args.entries.now)) c.in_err-write_report.ensures)

pub returns-in_err-write_journal-clause-text : goal.returns-in_err-write_journal-clause-text
returns-in_err-write_journal-clause-text g c =
    let p = err_from_is_err_and c.from_residual-in_err-write_journal.result c.from_residual-in_err-write_journal.ensures.1 in
    rw p.1 (StopsWithin-then _ _ _ (report_text (report_with c.args.printed.now c.args.standings.now (g.R.Rows.rows c.args.rows.now))) (journal_line (g.E.Entries.entries c.args.entries.now)) c.in_ok-write_report.ensures c.in_err-write_journal.ensures)

pub returns-clause-text : goal.returns-clause-text
returns-clause-text g c =
    Writes-flushed _ _ _ c.flush.result _
    (AppendsText-then _ _ _ (report_text (report_with c.args.printed.now c.args.standings.now (g.R.Rows.rows c.args.rows.now))) (journal_line (g.E.Entries.entries c.args.entries.now)) c.in_ok-write_report.ensures c.in_ok-write_journal.ensures)
    c.flush.ensures.kept c.flush.ensures.same c.flush.ensures.failed
