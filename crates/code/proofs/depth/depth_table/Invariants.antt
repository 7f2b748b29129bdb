use Rattle.std.proofs.Common.{◌≡◌, ℕ, ◌<◌, ◌≤◌, length, slice_index, Some}
use Rattle.code.specs.Depth.{depth_at}
use Rattle.code.proofs.depth.depth_table.Given as goal

abbrev pub invariant-loop-instr : goal.invariant-loop-instr
invariant-loop-instr l = record {
  limit : l.depth ≤ 64;
  here : depth_at l.instrs l.instr-index ≡ Some l.depth;
  places : length l.table.items ≡ l.instr-index;
  words : (place : ℕ) → place < l.instr-index → depth_at l.instrs place ≡ Some (slice_index l.table.items place);
}
