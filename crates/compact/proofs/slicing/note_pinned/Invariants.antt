use Rattle.std.proofs.Common.{◌≡◌, ℕ, ◌<◌, true, Some}
use Rattle.std.specs.Prelude.{slice_get}
use Rattle.heap.specs.Heap.{pins_at, addresses}
use Rattle.heap.specs.Marks.{is_kept}
use Rattle.compact.specs.Marks.{Adds}
use Rattle.compact.proofs.slicing.note_pinned.Given as goal

abbrev pub invariant-loop-place : goal.invariant-loop-place
invariant-loop-place l = record {
  adds : Adds (λ x. 0 < pins_at l.heap x) l.fn.marking.kept l.fn.marking.waiting l.marking.kept l.marking.waiting;
  seen : (k a : ℕ) → k < l.place → slice_get (addresses l.heap) k ≡ Some a → 0 < pins_at l.heap a → is_kept l.marking.kept a ≡ true;
  marked : l.marking.marked ≡ l.fn.marking.marked;
}
