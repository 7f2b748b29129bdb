use Rattle.std.proofs.Common.{◌≡◌, ◌+◌, drop, length}
use Rattle.std.specs.Prelude.{flat_map}
use Rattle.machine_collections.specs.Roots.{call_places}
use Rattle.machine_collections.proofs.counting.count_callers.Given as goal

abbrev pub invariant-loop-caller : goal.invariant-loop-caller
invariant-loop-caller l = l.count + length (flat_map call_places (drop l.caller-index l.callers)) ≡ length (flat_map call_places l.callers)
