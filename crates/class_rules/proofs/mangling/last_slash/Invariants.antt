use Rattle.std.proofs.Common.{◌≡◌, ◌≤◌, drop, length, None}
use Rattle.class_rules.specs.Mangling.{split_last}
use Rattle.class_rules.proofs.mangling.last_slash.Given as goal

abbrev pub invariant-loop-end : goal.invariant-loop-end
invariant-loop-end l = (l.end ≤ length l.path) × (split_last (drop l.end l.path) ≡ None)

abbrev pub decreases-loop-end : goal.decreases-loop-end
decreases-loop-end l = l.end
