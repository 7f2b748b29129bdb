use Rattle.std.proofs.Common.{◌≡◌, ◌-◌, ◌++◌, drop, reverse, length}
use Rattle.replay_objects.proofs.names.add_reversed.Given as goal

abbrev pub invariant-loop-done : goal.invariant-loop-done
invariant-loop-done l = l.all.items ≡ l.fn.all.items ++ reverse (drop (length l.names - l.done) l.names)
