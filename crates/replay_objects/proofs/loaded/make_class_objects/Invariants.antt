use Rattle.std.proofs.Common.{◌≡◌, take}
use Rattle.semantics.specs.World.{loaded_objects}
use Rattle.replay_objects.proofs.loaded.make_class_objects.Given as goal

abbrev pub invariant-loop-place : goal.invariant-loop-place
invariant-loop-place l = l.store ≡ take l.place (loaded_objects l.world)
