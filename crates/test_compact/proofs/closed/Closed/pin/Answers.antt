use Rattle.std.proofs.Common.{◌+◌, sym, subst}
use Rattle.heap.specs.Heap.{Space, pins_at}
use Rattle.compact.specs.Reach.{IsClosed, AreAddresses}
use Rattle.test_compact.proofs.Closures.{closed_with_pins, pins_named}
use Rattle.test_compact.proofs.closed.Closed.pin.Goals as goal

pub invariant_of-self : goal.invariant_of-self
invariant_of-self c =
    let old = c.args.self.now in
    let n = pins_at old.heap c.in-Some.address + 1 in
    record {
      closed = subst (λ (s : Space). IsClosed s) (sym c.pin.ensures) (closed_with_pins old.heap c.in-Some.address n old.closed);
      rooted = subst (λ (s : Space). AreAddresses s old.roots.places.items) (sym c.pin.ensures) (pins_named old.heap c.in-Some.address n old.roots.places.items old.rooted);
      followed = subst (λ (s : Space). AreAddresses s old.weak.places.items) (sym c.pin.ensures) (pins_named old.heap c.in-Some.address n old.weak.places.items old.followed);
    }
