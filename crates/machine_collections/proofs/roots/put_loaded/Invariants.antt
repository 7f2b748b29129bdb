use Rattle.std.proofs.Common.{◌≡◌, ℕ}
use Rattle.compact.proofs.Fronts.{front}
use Rattle.machine_collections.specs.Moving.{AreMovedAt}
use Rattle.machine_collections.specs.Roots.{loaded_places}
use Rattle.machine_collections.proofs.roots.put_loaded.Given as goal

abbrev pub invariant-loop-place : goal.invariant-loop-place
invariant-loop-place l = (to : ℕ → ℕ) → AreMovedAt to (loaded_places l.fn.loaded) l.roots.places.items 0 → l.loaded ≡ front to l.place l.fn.loaded
