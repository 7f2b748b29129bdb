use Rattle.std.proofs.Common.{◌≡◌, ◌+◌, ◌-◌, ◌≤◌, ℕ, true, length}
use Rattle.heap.specs.Marks.{is_kept}
use Rattle.heap.specs.Marking.{IsUnderWay}
use Rattle.compact.proofs.slicing.mark_listed.Given as goal

abbrev pub invariant-turns : goal.invariant-turns
invariant-turns l = record {
  under_way : IsUnderWay l.heap l.marking;
  count : l.marking.marked ≡ l.fn.marking.marked + l.more;
  waits : length l.fn.marking.waiting ≤ length l.marking.waiting + l.more;
  within : l.more ≤ 64;
  stays : (a : ℕ) → is_kept l.fn.marking.kept a ≡ true → is_kept l.marking.kept a ≡ true;
}

abbrev pub decreases-turns : goal.decreases-turns
decreases-turns l = 64 - l.more
