use Rattle.std.proofs.Common.{ℕ}
use Rattle.heap.specs.Heap.{Space, fresh_block, with_block, with_noted}
use Rattle.compact.specs.Reach.{IsClosed, AreAddresses}
use Rattle.test_compact.proofs.Closures.{by_room, closed_noted, closed_with_block, still_named}
use Rattle.test_compact.proofs.closed.Closed.make.Goals as goal

pub invariant_of-self : goal.invariant_of-self
invariant_of-self c =
    let old = c.args.self.now in
    let v = c.value_of-fill.result in
    let noted : Space = with_noted v old.heap in
    let more : ℕ → Space = λ a. with_block noted (fresh_block a 1 c.args.birth c.args.len v) in
    record {
      closed = by_room (λ (s : Space). IsClosed s) old.heap c.alloc.new.self more c.alloc.result c.alloc.ensures.block c.alloc.ensures.err old.closed (λ a. closed_with_block noted a 1 c.args.birth c.args.len v (closed_noted old.heap v old.closed) c.value_of-fill.ensures);
      rooted = by_room (λ (s : Space). AreAddresses s old.roots.places.items) old.heap c.alloc.new.self more c.alloc.result c.alloc.ensures.block c.alloc.ensures.err old.rooted (λ a. still_named noted (fresh_block a 1 c.args.birth c.args.len v) old.roots.places.items old.rooted);
      followed = by_room (λ (s : Space). AreAddresses s old.weak.places.items) old.heap c.alloc.new.self more c.alloc.result c.alloc.ensures.block c.alloc.ensures.err old.followed (λ a. still_named noted (fresh_block a 1 c.args.birth c.args.len v) old.weak.places.items old.followed);
    }

pub alloc-requires : goal.alloc-requires
alloc-requires c some b e = c.value_of-fill.ensures b e
