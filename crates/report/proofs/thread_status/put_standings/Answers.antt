use Rattle.std.proofs.Common.{rules}
use Rattle.std.proofs.lemmas.Result.{err_from_is_err_and}
use Rattle.sinks.proofs.Puts.{goes_on, stops, is_all}
use Rattle.report.proofs.ReportLemmas.{standings_at, standings_past}
use Rattle.report.proofs.thread_status.put_standings.Goals as goal

pub returns-in_err-put_standing : goal.returns-in_err-put_standing
returns-in_err-put_standing g c =
    let p = err_from_is_err_and c.from_residual.result c.from_residual.ensures.1 in
    rw p.1 (stops _ _ _ _ _ _ _ c.loop-standing.invariant.put (standings_at c.args.standings.now c.loop-standing.standing-index c.loop-standing.thread _ c.loop-standing-test.true c.loop-standing.invariant.thread) c.in_err-put_standing.ensures)

pub loop-standing-preserved : goal.loop-standing-preserved
loop-standing-preserved g c = record {
  put = goes_on _ _ _ _ _ _ _ c.loop-standing.invariant.put (standings_at c.args.standings.now c.loop-standing.standing-index c.loop-standing.thread _ c.loop-standing-test.true c.loop-standing.invariant.thread) c.in_ok-put_standing.ensures;
  thread = search rules;
}

pub returns : goal.returns
returns g c = is_all _ _ _ _ c.loop-standing.invariant.put (standings_past c.args.standings.now c.loop-standing.standing-index c.loop-standing-test.false)
