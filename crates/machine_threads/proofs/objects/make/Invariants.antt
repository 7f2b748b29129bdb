use Rattle.std.proofs.Common.{◌≡◌, ◌+◌, length, map}
use Rattle.heap.specs.Heap.{with_block}
use Rattle.world_values.specs.Views.{object_value_view}
use Rattle.machine_threads.specs.Held.{held_value}
use Rattle.machine_scenes.proofs.FilledBlocks.{filled_block}
use Rattle.machine_threads.proofs.objects.make.Given as goal

abbrev pub invariant-loop-place : goal.invariant-loop-place
invariant-loop-place l = l.heap ≡ with_block l.fn.heap (filled_block l.fn.heap l.fn.class.number (length l.fn.loaded.items + 1) (map (held_value l.fn.loaded.items) (map object_value_view l.values)) l.place)
