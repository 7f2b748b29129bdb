use Rattle.std.proofs.Common.{◌≡◌, ◌-◌, take}
use Rattle.replay_terms.proofs.name.is_same.Given as goal

abbrev pub invariant-loop-place : goal.invariant-loop-place
invariant-loop-place l = take l.place l.name ≡ take l.place l.other

abbrev pub decreases-loop-place : goal.decreases-loop-place
decreases-loop-place l = l.last - l.place
