use Rattle.std.proofs.Common.{◌≡◌, map, take, pos}
use Rattle.semantics.specs.Object.{Number}
use Rattle.world_values.specs.Views.{object_value_view}
use Rattle.world.proofs.additions.units.Given as goal

abbrev pub invariant-loop-byte : goal.invariant-loop-byte
invariant-loop-byte l = map object_value_view l.units.items ≡ map (λ b. Number (pos b)) (take l.byte-index l.text)
