use Rattle.std.proofs.Common.{◌≡◌, take}
use Rattle.heap.specs.Heap.{with_changed}
use Rattle.machine_answers.specs.Copies.{overlay, words_from}
use Rattle.machine_answers.proofs.copies.copy_in.Given as goal

abbrev pub invariant-loop-place : goal.invariant-loop-place
invariant-loop-place l = l.heap ≡ with_changed l.fn.heap l.region.object (overlay l.region.start (take l.place (words_from l.numbers l.region)))
