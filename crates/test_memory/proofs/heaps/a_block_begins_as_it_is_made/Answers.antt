use Rattle.std.proofs.Common.{refl}
use Rattle.test_memory.proofs.heaps.a_block_begins_as_it_is_made.Goals as goal

pub number-requires : goal.number-requires
number-requires g c = (9, rw (c.in_ok-block.ensures.block, c.in_ok-block.ensures.address, c.in_ok-heap.ensures) refl)
