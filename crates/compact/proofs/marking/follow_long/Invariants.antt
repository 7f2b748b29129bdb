use Rattle.std.proofs.Common.{◌≡◌, ℕ, ◌-◌, ◌<◌, ◌≤◌, true, length, Some}
use Rattle.std.specs.Prelude.{slice_get}
use Rattle.heap.specs.declared.value.Value.TheVariants.{Block as Reference}
use Rattle.heap.specs.Heap.{values_at}
use Rattle.heap.specs.Marks.{is_kept}
use Rattle.compact.specs.Reach.{Refers}
use Rattle.compact.specs.Marks.{Adds}
use Rattle.compact.proofs.marking.follow_long.Given as goal

abbrev pub invariant-values : goal.invariant-values
invariant-values l = record {
  within : l.place ≤ length (values_at l.heap l.a);
  adds : Adds (Refers l.heap l.a) l.fn.marks l.fn.list.items l.marks l.list.items;
  seen : (k b : ℕ) → k < l.place → slice_get (values_at l.heap l.a) k ≡ Some (Reference b) → is_kept l.marks b ≡ true;
}

abbrev pub decreases-values : goal.decreases-values
decreases-values l = length (values_at l.heap l.a) - l.place
