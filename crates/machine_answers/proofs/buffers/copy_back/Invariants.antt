use Rattle.std.proofs.Common.{◌≡◌, map, take}
use Rattle.std.specs.Int.{w32, cast_unsigned}
use Rattle.heap.specs.Heap.{with_changed}
use Rattle.machine_answers.specs.BufferChanges.{numbers_at}
use Rattle.machine_answers.specs.Copies.{overlay}
use Rattle.machine_answers.proofs.buffers.copy_back.Given as goal

abbrev pub invariant-loop-place : goal.invariant-loop-place
invariant-loop-place l = l.heap ≡ with_changed l.fn.heap l.object (overlay 0 (take l.place (map (cast_unsigned w32) (numbers_at l.elements l.key))))
