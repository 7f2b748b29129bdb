use Rattle.std.proofs.Common.{◌≡◌, ◌++◌, drop, map, take}
use Rattle.semantics.specs.Views.{object_value_view}
use Rattle.replay_objects.specs.Stores.{as_number}
use Rattle.replay_objects.proofs.store.forget_references.Given as goal

abbrev pub invariant-loop-value : goal.invariant-loop-value
invariant-loop-value l = let old = map object_value_view l.fn.values in map object_value_view l.values ≡ map as_number (take l.value-index old) ++ drop l.value-index old
