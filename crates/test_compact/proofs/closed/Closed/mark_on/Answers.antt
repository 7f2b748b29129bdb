use Rattle.std.proofs.Common.{◌≡◌, Bool, true, false, refl, sym, ap}
use Rattle.heap.specs.Heap.{Space, bare}
use Rattle.compact.specs.Slices.{MarksOn}
use Rattle.compact.proofs.Going.{addresses_of, closed_of}
use Rattle.test_compact.proofs.closed.Closed.mark_on.Goals as goal

-- nothing but the marking changes
same_blocks : (s t : Space) (b : Bool) → (b ≡ true → MarksOn s t) → (b ≡ false → t ≡ s) → bare s ≡ bare t
same_blocks s t true did none = let h = did refl in sym (ap bare h.heap)
same_blocks s t false did none = sym (ap bare (none refl))

pub invariant_of-self : goal.invariant_of-self
invariant_of-self c =
    let old = c.args.self.now in
    let same = same_blocks old.heap c.mark_on.new.heap c.mark_on.result c.mark_on.ensures.yes c.mark_on.ensures.no in
    record {
      closed = closed_of old.heap c.mark_on.new.heap same old.closed;
      rooted = addresses_of old.heap c.mark_on.new.heap old.roots.places.items same old.rooted;
      followed = addresses_of old.heap c.mark_on.new.heap old.weak.places.items same old.followed;
    }
