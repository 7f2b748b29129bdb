use Rattle.std.specs.Prelude.{slice_index}
use Rattle.heap.specs.Heap.{IsLaidOut}
use Rattle.compact.proofs.Packing.{IsPlacing}
use Rattle.compact.proofs.placing.place_in_order.Given as goal

abbrev pub invariant-loop-place : goal.invariant-loop-place
invariant-loop-place l = record {
  laid_out : IsLaidOut l.heap;
  placing : IsPlacing l.heap l.kept (slice_index l.to) l.place l.next 0;
}
