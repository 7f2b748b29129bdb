use Rattle.std.proofs.Common.{◌≡◌, take}
use Rattle.replay_terms.proofs.name.is_same_short.Given as goal

abbrev pub invariant-loop-place : goal.invariant-loop-place
invariant-loop-place l = take l.place l.name ≡ take l.place l.other
