use Rattle.std.proofs.Common.{◌++◌, subst}
use Rattle.std.specs.Prelude.{codes, decimal}
use Rattle.std.proofs.lemmas.Result.{err_from_is_err_and}
use Rattle.report.specs.RunText.{further_text}
use Rattle.report.proofs.ReportLemmas.{clearing_is, no_clearing_is, Writes-both}
use Rattle.sinks.specs.Sink.{StopsWithin, Writes}
use Rattle.sinks.proofs.Puts.{StopsWithin-more}
use Rattle.report.proofs.writing.put_clearing.Goals as goal

pub returns-in_err-put_name-in-Some : goal.returns-in_err-put_name-in-Some
returns-in_err-put_name-in-Some g c =
    let p = err_from_is_err_and c.from_residual.result c.from_residual.ensures.1 in
    let more = c.in-Some.further.now in
    rw p.1 (subst (StopsWithin _ _) (clearing_is c.args.names.now c.in-Some.first.now more c.in-Some.ensures.cases.0)
    (StopsWithin-more _ _ (codes " ~" ++ decimal c.in-Some.first.now.number) (further_text more) c.in_err-put_name-in-Some.ensures))

pub returns-in_ok-put_name-in-Some : goal.returns-in_ok-put_name-in-Some
returns-in_ok-put_name-in-Some g c =
    Writes-both _ _ _ _ (codes " ~" ++ decimal c.in-Some.first.now.number) (further_text c.in-Some.further.now) _ c.in_ok-put_name-in-Some.ensures c.put_further.ensures (clearing_is c.args.names.now c.in-Some.first.now c.in-Some.further.now c.in-Some.ensures.cases.0)

pub returns-in-None : goal.returns-in-None
returns-in-None g c = subst (Writes _ _ _) (no_clearing_is c.args.names.now c.in-None.ensures.cases) c.put_all.ensures
