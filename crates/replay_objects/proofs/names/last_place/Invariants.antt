use Rattle.std.proofs.Common.{◌-◌, length}
use Rattle.replay_objects.proofs.FrameLemmas.{AreOthers}
use Rattle.replay_objects.proofs.names.last_place.Given as goal

abbrev pub invariant-loop-done : goal.invariant-loop-done
invariant-loop-done l = AreOthers l.name.number l.names (length l.names - l.done)
