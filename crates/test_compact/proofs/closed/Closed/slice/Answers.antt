use Rattle.test_compact.proofs.Closures.{closed_by_answer, named_by_answer}
use Rattle.test_compact.proofs.closed.Closed.slice.Goals as goal

pub invariant_of-self : goal.invariant_of-self
invariant_of-self c =
    let old = c.args.self.now in
    let e = c.slice.ensures in
    record {
      closed = closed_by_answer old.heap c.slice.new.heap c.slice.result e.closed e.heap old.closed;
      rooted = named_by_answer old.heap c.slice.new.heap old.roots.places.items c.slice.new.roots.places.items c.slice.result e.addresses e.heap e.roots old.rooted;
      followed = named_by_answer old.heap c.slice.new.heap old.weak.places.items c.slice.new.weak.places.items c.slice.result e.weak_addresses e.heap e.weak old.followed;
    }
