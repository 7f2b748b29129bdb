use Rattle.std.proofs.Common.{◌≡◌, length}
use Rattle.machine.proofs.BlockObjects.{ArePlaced}
use Rattle.machine.proofs.rows.named_blocks.Given as goal

abbrev pub invariant-loop-place : goal.invariant-loop-place
invariant-loop-place l = record {
  counted : length l.addresses.items ≡ l.births;
  placed : ArePlaced l.heap l.addresses.items l.place;
}
