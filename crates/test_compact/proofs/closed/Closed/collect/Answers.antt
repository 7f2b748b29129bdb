use Rattle.std.proofs.Common.{ℕ, List, Option, sym, subst}
use Rattle.compact.specs.Reach.{AreAddresses}
use Rattle.test_compact.proofs.Closures.{closed_by_answer, named_by_answer, none_named}
use Rattle.test_compact.proofs.closed.Closed.collect.Goals as goal

pub invariant_of-self : goal.invariant_of-self
invariant_of-self c =
    let old = c.args.self.now in
    let e = c.collect.ensures in
    record {
      closed = closed_by_answer old.heap c.collect.new.heap c.collect.result e.closed e.heap old.closed;
      rooted = named_by_answer old.heap c.collect.new.heap old.roots.places.items c.collect.new.roots.places.items c.collect.result e.addresses e.heap e.roots old.rooted;
      followed = subst (λ (l : List (Option ℕ)). AreAddresses c.collect.new.heap l) (sym c.clear.ensures.items) (none_named c.collect.new.heap);
    }
