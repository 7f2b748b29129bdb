use Rattle.std.proofs.Common.{◌≡◌, map, take}
use Rattle.std.specs.Prelude.{pos}
use Rattle.semantics.specs.Object.{Number}
use Rattle.world_values.specs.Views.{object_value_view}
use Rattle.replay_objects.proofs.new.units.Given as goal

abbrev pub invariant-loop-byte : goal.invariant-loop-byte
invariant-loop-byte l = map object_value_view l.values.items ≡ map (λ b. Number (pos b)) (take l.byte-index l.bytes)
