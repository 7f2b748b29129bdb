use Rattle.std.proofs.Common.{◌≡◌, ◌+◌, ◌++◌, drop, length}
use Rattle.std.specs.Prelude.{vec_capacity, vec_len}
use Rattle.monitors.specs.Monitors.{addresses}
use Rattle.machine_collections.proofs.roots.push_monitors.Given as goal

abbrev pub invariant-loop-place : goal.invariant-loop-place
invariant-loop-place l = record {
  places : l.places.items ++ drop l.place (addresses l.monitors) ≡ l.fn.places.items ++ addresses l.monitors;
  len : vec_len l.places + length (drop l.place (addresses l.monitors)) ≡ vec_len l.fn.places + length (addresses l.monitors);
  capacity : vec_capacity l.places ≡ vec_capacity l.fn.places;
}
