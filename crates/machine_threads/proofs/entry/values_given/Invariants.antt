use Rattle.std.proofs.Common.{◌≡◌, map, take}
use Rattle.world_values.specs.Views.{object_value_view}
use Rattle.machine_threads.specs.Held.{held_value}
use Rattle.machine_threads.proofs.entry.values_given.Given as goal

abbrev pub invariant-loop-argument : goal.invariant-loop-argument
invariant-loop-argument l = l.values.items ≡ map (held_value l.loaded) (map object_value_view (take l.argument-index l.arguments))
