use Rattle.std.proofs.Common.{◌≡◌, drop}
use Rattle.class_rules.specs.Fields.{layout}
use Rattle.heap.specs.Heap.{with_block}
use Rattle.machine_scenes.specs.NewObjects.{initial_values}
use Rattle.machine_scenes.proofs.FilledBlocks.{filled_block}
use Rattle.machine_calls.proofs.make.allocate_fresh.Given as goal

abbrev pub invariant-loop-place : goal.invariant-loop-place
invariant-loop-place l = record {
  filled : l.heap ≡ with_block l.fn.heap (filled_block l.fn.heap l.fn.class.number l.birth (initial_values l.fn.classes l.fn.class.number) l.place);
  left : drop l.place (layout l.classes l.fn.class.number) ≡ l.fields;
}
