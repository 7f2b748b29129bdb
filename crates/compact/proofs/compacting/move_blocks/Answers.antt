use Rattle.std.specs.Prelude.{slice_index}
use Rattle.compact.proofs.Packing.{in_order}
use Rattle.compact.proofs.compacting.move_blocks.Goals as goal

pub relocate_in_order-requires-clause-order : goal.relocate_in_order-requires-clause-order
relocate_in_order-requires-clause-order c = in_order c.args.heap.now c.args.kept.now (slice_index c.args.to.now) c.requires.packing (c.requires.loose c.if-loose.true)
