use Rattle.std.proofs.Common.{◌≡◌, take}
use Rattle.semantics.specs.World.{loaded_objects}
use Rattle.machine_scenes.specs.HeapAgrees.{AreMade}
use Rattle.machine_threads.proofs.objects.make_class_objects.Given as goal

abbrev pub invariant-loop-place : goal.invariant-loop-place
invariant-loop-place l = record {
  made : AreMade l.heap l.loaded.items (take l.place (loaded_objects l.world));
  cells : l.heap.cells ≡ l.world.cells;
}
