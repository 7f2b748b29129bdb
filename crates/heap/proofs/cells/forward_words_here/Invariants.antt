use Rattle.std.specs.Prelude.{slice_index}
use Rattle.heap.specs.Values.{AreForwardedWords}
use Rattle.heap.proofs.cells.forward_words_here.Given as goal

abbrev pub invariant-loop-place : goal.invariant-loop-place
invariant-loop-place l = AreForwardedWords (slice_index l.to) l.kinds l.fn.words l.words l.from l.place l.from
