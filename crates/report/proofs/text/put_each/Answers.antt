use Rattle.std.proofs.lemmas.Result.{err_from_is_err_and}
use Rattle.sinks.proofs.Puts.{goes_on, stops, flat_map-at}
use Rattle.report.proofs.text.put_each.Goals as goal

pub returns-in_err-put : goal.returns-in_err-put
returns-in_err-put g c =
    let p = err_from_is_err_and c.from_residual.result c.from_residual.ensures.1 in
    let at = flat_map-at g.T.Text.text c.args.values.now c.loop-value.value-index c.value-item.result c.loop-value-test.true in
    let item = rw c.value-item.is at c.in_err-put.ensures in
    rw p.1 (stops _ _ _ _ _ _ _ c.loop-value.invariant at item)

pub loop-value-preserved : goal.loop-value-preserved
loop-value-preserved g c =
    let at = flat_map-at g.T.Text.text c.args.values.now c.loop-value.value-index c.value-item.result c.loop-value-test.true in
    let item = rw c.value-item.is at c.in_ok-put.ensures in
    goes_on _ _ _ _ _ _ _ c.loop-value.invariant at item
