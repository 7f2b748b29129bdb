use Rattle.std.proofs.Common.{◌≡◌, ℕ, map}
use Rattle.compact.proofs.Fronts.{front}
use Rattle.compact.specs.Same.{moved_value}
use Rattle.machine_collections.specs.Moving.{AreMovedAt}
use Rattle.machine_collections.specs.Roots.{argument_place}
use Rattle.machine_collections.proofs.roots.put_arguments.Given as goal

abbrev pub invariant-loop-place : goal.invariant-loop-place
invariant-loop-place l = (to : ℕ → ℕ) → AreMovedAt to (map argument_place l.fn.arguments) l.roots.places.items l.from → l.arguments ≡ front (moved_value to) l.place l.fn.arguments
