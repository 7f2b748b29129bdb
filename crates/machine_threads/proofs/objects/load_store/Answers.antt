use Rattle.std.proofs.Common.{◌≡◌, length, arith}
use Rattle.heap.specs.Heap.{end_of}
use Rattle.heap.proofs.Layouts.{ends_within}
use Rattle.semantics.specs.Object.{sizes}
use Rattle.semantics.specs.World.{loaded_objects}
use Rattle.machine_scenes.proofs.Loaded.{made_end}
use Rattle.world_values.proofs.LoadedWorlds.{few_objects}
use Rattle.machine_threads.proofs.objects.load_store.Goals as goal

pub overflow_cast-births : goal.overflow_cast-births
overflow_cast-births c =
    let w = c.args.world.now in
    let made = c.in_ok-loaded.ensures.made in
    let space = c.load_objects.new.heap in
    let counted : length c.in_ok-loaded.loaded.items ≡ length (loaded_objects w) = made.table.counted in
    let filled : end_of space ≡ sizes (loaded_objects w) = made_end space c.in_ok-loaded.loaded.items (loaded_objects w) made in
    let within = ends_within 0 space.blocks space.cells made.laid_out in
    omega (arith, counted, filled, within, few_objects (loaded_objects w), c.cells-2.ensures.cells, c.cells-2.ensures.limit, c.len-births.ensures)
