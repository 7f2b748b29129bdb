use Rattle.std.proofs.Common.{◌≡◌, ℕ, map}
use Rattle.std.specs.Option.{option_map}
use Rattle.compact.proofs.Fronts.{front}
use Rattle.monitors.specs.Monitors.{addresses, held}
use Rattle.machine_collections.specs.Moving.{AreMovedAt}
use Rattle.machine_collections.proofs.roots.put_monitors.Given as goal

abbrev pub invariant-loop-place : goal.invariant-loop-place
invariant-loop-place l = record {
  held : map held l.monitors ≡ map held l.fn.monitors;
  moved : (to : ℕ → ℕ) → AreMovedAt to (addresses l.fn.monitors) l.roots.places.items l.from → addresses l.monitors ≡ front (option_map to) l.place (addresses l.fn.monitors);
}
