use Rattle.std.proofs.Common.{◌≡◌, ◌+◌, length, take}
use Rattle.semantics.specs.World.{loaded_objects}
use Rattle.replay_objects.proofs.loaded.make_objects.Given as goal

abbrev pub invariant-loop-object : goal.invariant-loop-object
invariant-loop-object l = l.store ≡ take (length l.world.classes + 1 + l.object-index) (loaded_objects l.world)
