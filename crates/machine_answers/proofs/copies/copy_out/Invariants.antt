use Rattle.std.proofs.Common.{◌≡◌, take}
use Rattle.machine_answers.specs.Copies.{overlaid, words_of}
use Rattle.machine_answers.proofs.copies.copy_out.Given as goal

abbrev pub invariant-loop-place : goal.invariant-loop-place
invariant-loop-place l = l.numbers ≡ overlaid l.fn.numbers l.region.slot (take l.place (words_of l.heap l.region))
