use Rattle.std.proofs.Common.{◌++◌}
use Rattle.std.specs.Prelude.{codes, decimal}
use Rattle.std.proofs.lemmas.Result.{err_from_is_err_and}
use Rattle.semantics.specs.declared.object_id.ObjectId.{ObjectId}
use Rattle.sinks.proofs.Puts.{goes_on, stops, flat_map-at}
use Rattle.report.proofs.writing.put_further.Goals as goal

pub returns-in_err-put_name : goal.returns-in_err-put_name
returns-in_err-put_name g c =
    let p = err_from_is_err_and c.from_residual.result c.from_residual.ensures.1 in
    let at = flat_map-at (λ (n : ObjectId). codes "," ++ decimal n.number) c.args.names.now c.loop-name.name-index _ c.loop-name-test.true in
    rw p.1 (stops _ _ _ _ _ _ _ c.loop-name.invariant at c.in_err-put_name.ensures)

pub loop-name-preserved : goal.loop-name-preserved
loop-name-preserved g c =
    let at = flat_map-at (λ (n : ObjectId). codes "," ++ decimal n.number) c.args.names.now c.loop-name.name-index _ c.loop-name-test.true in
    goes_on _ _ _ _ _ _ _ c.loop-name.invariant at c.in_ok-put_name.ensures
