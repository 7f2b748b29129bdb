use Rattle.std.proofs.Common.{◌≡◌, ◌++◌, drop, map, take}
use Rattle.replay_terms.specs.Views.{held_number}
use Rattle.replay_terms.proofs.variable.begin.Given as goal

abbrev pub invariant-loop-place : goal.invariant-loop-place
invariant-loop-place l = l.numbers ≡ map held_number (take l.place l.values) ++ drop l.place l.fn.numbers
