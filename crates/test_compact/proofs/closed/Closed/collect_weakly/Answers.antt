use Rattle.test_compact.proofs.Closures.{closed_by_answer, named_by_answer}
use Rattle.test_compact.proofs.closed.Closed.collect_weakly.Goals as goal

pub invariant_of-self : goal.invariant_of-self
invariant_of-self c =
    let old = c.args.self.now in
    let e = c.collect_weak.ensures in
    record {
      closed = closed_by_answer old.heap c.collect_weak.new.heap c.collect_weak.result e.closed e.heap old.closed;
      rooted = named_by_answer old.heap c.collect_weak.new.heap old.roots.places.items c.collect_weak.new.roots.places.items c.collect_weak.result e.addresses e.heap e.roots old.rooted;
      followed = named_by_answer old.heap c.collect_weak.new.heap old.weak.places.items c.collect_weak.new.weak.places.items c.collect_weak.result e.weak_addresses e.heap e.weak old.followed;
    }
