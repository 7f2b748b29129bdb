use Rattle.std.proofs.Common.{◌≡◌, map, take}
use Rattle.semantics.specs.Heap.{number_in}
use Rattle.semantics.specs.Views.{object_value_view}
use Rattle.replay_objects.proofs.store.numbers_in.Given as goal

abbrev pub invariant-loop-value : goal.invariant-loop-value
invariant-loop-value l = l.numbers.items ≡ map number_in (map object_value_view (take l.value-index l.values))
