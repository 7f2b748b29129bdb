use Rattle.std.specs.Prelude.{slice_index}
use Rattle.heap.specs.Values.{AreForwardedWords, IsCopied}
use Rattle.heap.proofs.cells.forward_cells.Given as goal

abbrev pub invariant-loop-place : goal.invariant-loop-place
invariant-loop-place l = record {
  words : AreForwardedWords (slice_index l.to) l.fn.kinds l.fn.words l.words l.from l.place l.target;
  kinds : IsCopied l.fn.kinds l.kinds l.from l.place l.target;
}
