use Rattle.std.proofs.Common.{drop}
use Rattle.std.specs.List.{flat_map}
use Rattle.sinks.proofs.Puts.{PutSoFar}
use Rattle.sinks.proofs.sink.put_pieces.Given as goal

abbrev pub invariant-loop-piece : goal.invariant-loop-piece
invariant-loop-piece g l =
    PutSoFar (g.S.Sink.written l.initial.sink) (g.S.Sink.written l.sink) (flat_map (λ p. p.now) l.pieces) (flat_map (λ p. p.now) (drop l.piece-index l.pieces))
