use Rattle.std.proofs.Common.{◌≡◌, ◌+◌, length, take}
use Rattle.semantics.specs.World.{loaded_objects}
use Rattle.machine_scenes.specs.HeapAgrees.{AreMade}
use Rattle.machine_threads.proofs.objects.make_objects.Given as goal

abbrev pub invariant-loop-object : goal.invariant-loop-object
invariant-loop-object l = record {
  made : AreMade l.heap l.loaded.items (take (length l.world.classes + 1 + l.object-index) (loaded_objects l.world));
  cells : l.heap.cells ≡ l.world.cells;
}
