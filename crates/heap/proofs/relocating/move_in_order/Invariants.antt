use Rattle.std.specs.Prelude.{slice_index}
use Rattle.heap.specs.Cells.{space_in}
use Rattle.heap.proofs.Ordered.{IsMovingInOrder}
use Rattle.heap.proofs.relocating.move_in_order.Given as goal

abbrev pub invariant-loop-place : goal.invariant-loop-place
invariant-loop-place l = IsMovingInOrder (space_in l.fn.cells l.fn.pins l.fn.starts) l.fn.cells l.fn.pins l.fn.kept (slice_index l.to) l.fn.starts l.place l.cells l.pins l.starts l.kept l.listed
