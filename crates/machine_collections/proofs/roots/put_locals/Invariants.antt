use Rattle.std.proofs.Common.{◌≡◌, ℕ}
use Rattle.std.specs.Option.{option_map}
use Rattle.compact.proofs.Fronts.{front}
use Rattle.machine_collections.specs.Moving.{AreMovedAt}
use Rattle.machine_collections.proofs.roots.put_locals.Given as goal

abbrev pub invariant-loop-place : goal.invariant-loop-place
invariant-loop-place l = (to : ℕ → ℕ) → AreMovedAt to l.fn.locals.slots l.roots.places.items l.from → l.locals ≡ record l.fn.locals { slots = front (option_map to) l.place l.fn.locals.slots }
