use Rattle.std.proofs.Common.{◌≡◌, ℕ, ◌<◌, true, Some}
use Rattle.std.specs.Prelude.{slice_get}
use Rattle.heap.specs.declared.value.Value.TheVariants.{Block as Reference}
use Rattle.heap.specs.Heap.{values_at}
use Rattle.heap.specs.Marks.{is_kept}
use Rattle.compact.specs.Reach.{Refers}
use Rattle.compact.specs.Marks.{Adds}
use Rattle.compact.proofs.slicing.note_references.Given as goal

abbrev pub invariant-loop-place : goal.invariant-loop-place
invariant-loop-place l = record {
  adds : Adds (Refers l.heap l.a) l.fn.marking.kept l.fn.marking.waiting l.marking.kept l.marking.waiting;
  seen : (k b : ℕ) → k < l.place → slice_get (values_at l.heap l.a) k ≡ Some (Reference b) → is_kept l.marking.kept b ≡ true;
  marked : l.marking.marked ≡ l.fn.marking.marked;
}
