use Rattle.std.proofs.Common.{◌≤◌}
use Rattle.nearest.proofs.nearest.shared_front.Given as goal

abbrev pub invariant-loop-i : goal.invariant-loop-i
invariant-loop-i l = l.shared ≤ l.i
