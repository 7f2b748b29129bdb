use Rattle.std.proofs.Common.{◌≡◌, ℕ, ◌<◌, Some}
use Rattle.std.specs.Prelude.{slice_get}
use Rattle.heap.specs.Heap.{with_block}
use Rattle.class_rules.specs.BuiltIns.{string_class}
use Rattle.machine_scenes.specs.NewObjects.{units}
use Rattle.machine_scenes.proofs.FilledBlocks.{filled_block}
use Rattle.machine_calls.proofs.make.allocate_text.Given as goal

abbrev pub invariant-loop-place : goal.invariant-loop-place
invariant-loop-place l =
    (l.heap ≡ with_block l.fn.heap (filled_block l.fn.heap string_class l.birth (units l.bytes) l.place))
    × ((i b : ℕ) → i < l.place → slice_get l.bytes i ≡ Some b → b < 256)
