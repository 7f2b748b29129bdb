use Rattle.std.proofs.Common.{◌≡◌, ◌+◌, ◌++◌, drop, map, take}
use Rattle.semantics.specs.Object.{Number}
use Rattle.semantics.specs.Views.{object_value_view}
use Rattle.replay_objects.proofs.store.write_numbers.Given as goal

abbrev pub invariant-loop-place : goal.invariant-loop-place
invariant-loop-place l = let old = map object_value_view l.fn.values in map object_value_view l.values ≡ take l.start old ++ map Number (take l.place l.numbers) ++ drop (l.start + l.place) old
