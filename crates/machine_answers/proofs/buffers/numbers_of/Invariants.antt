use Rattle.std.proofs.Common.{◌≡◌, map, take}
use Rattle.std.specs.Int.{w32, cast_signed}
use Rattle.machine_answers.specs.Copies.{words_at}
use Rattle.machine_answers.proofs.buffers.numbers_of.Given as goal

abbrev pub invariant-loop-place : goal.invariant-loop-place
invariant-loop-place l = l.numbers.items ≡ take l.place (map (cast_signed w32) (words_at l.heap l.object))
