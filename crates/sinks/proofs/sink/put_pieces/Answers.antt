use Rattle.std.proofs.lemmas.Result.{err_from_is_err_and}
use Rattle.sinks.proofs.Puts.{goes_on, stops, flat_map-at}
use Rattle.sinks.proofs.sink.put_pieces.Goals as goal

pub returns-in_err-put_all : goal.returns-in_err-put_all
returns-in_err-put_all g c =
    let p = err_from_is_err_and c.from_residual.result c.from_residual.ensures.1 in
    let at = flat_map-at (λ p. p.now) c.args.pieces.now c.loop-piece.piece-index _ c.loop-piece-test.true in
    rw p.1 (stops _ _ _ _ _ _ _ c.loop-piece.invariant at c.in_err-put_all.ensures)

pub loop-piece-preserved : goal.loop-piece-preserved
loop-piece-preserved g c =
    let at = flat_map-at (λ p. p.now) c.args.pieces.now c.loop-piece.piece-index _ c.loop-piece-test.true in
    goes_on _ _ _ _ _ _ _ c.loop-piece.invariant at c.in_ok-put_all.ensures
