use Rattle.std.proofs.Common.{sym, subst}
use Rattle.heap.specs.Heap.{Space}
use Rattle.compact.specs.Reach.{IsClosed, AreAddresses}
use Rattle.test_compact.proofs.Closures.{closed_with_value, value_named}
use Rattle.test_compact.proofs.closed.Closed.set.Goals as goal

pub invariant_of-self : goal.invariant_of-self
invariant_of-self c =
    let old = c.args.self.now in
    let a = c.in-Some.address in
    let v = c.value_of-value.result in
    record {
      closed = subst (λ (s : Space). IsClosed s) (sym c.set.ensures) (closed_with_value old.heap a c.args.index v c.value_of-value.ensures old.closed);
      rooted = subst (λ (s : Space). AreAddresses s old.roots.places.items) (sym c.set.ensures) (value_named old.heap a c.args.index v old.roots.places.items old.rooted);
      followed = subst (λ (s : Space). AreAddresses s old.weak.places.items) (sym c.set.ensures) (value_named old.heap a c.args.index v old.weak.places.items old.followed);
    }

pub set-requires-clause-target : goal.set-requires-clause-target
set-requires-clause-target c some b e = c.value_of-value.ensures b e
