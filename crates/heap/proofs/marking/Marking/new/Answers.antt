use Rattle.std.proofs.Common.{arith}
use Rattle.heap.proofs.Marked.{few_unmarked}
use Rattle.heap.proofs.marking.Marking.new.Goals as goal

pub invariant_of-result : goal.invariant_of-result
invariant_of-result c =
    let few = few_unmarked c.args.kept.items in
    rw c.in_ok-list.ensures.items (record {
      few = omega (arith, few);
      room = omega (arith, c.in_ok-list.ensures.capacity, c.args.kept.ok);
      within = omega arith;
    })
