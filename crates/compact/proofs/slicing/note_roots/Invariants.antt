use Rattle.std.proofs.Common.{◌≡◌, ℕ, ◌<◌, true, Some}
use Rattle.std.specs.Prelude.{slice_get}
use Rattle.std.specs.List.{Contains}
use Rattle.heap.specs.Marks.{is_kept}
use Rattle.compact.specs.Marks.{Adds}
use Rattle.compact.proofs.slicing.note_roots.Given as goal

abbrev pub invariant-loop-place : goal.invariant-loop-place
invariant-loop-place g l = record {
  adds : Adds (λ x. Contains (g.R.Roots.roots l.roots) (Some x)) l.fn.marking.kept l.fn.marking.waiting l.marking.kept l.marking.waiting;
  seen : (k a : ℕ) → k < l.place → slice_get (g.R.Roots.roots l.roots) k ≡ Some (Some a) → is_kept l.marking.kept a ≡ true;
  marked : l.marking.marked ≡ l.fn.marking.marked;
}
