use Rattle.std.proofs.Common.{◌≡◌, ℕ, ◌<◌, slice_index, Some}
use Rattle.std.specs.Prelude.{slice_get}
use Rattle.code.specs.declared.instr.Instr.{Instr}
use Rattle.code.specs.Depth.{Lands}
use Rattle.code.proofs.depth.jumps_land.Given as goal

abbrev pub invariant-loop-place : goal.invariant-loop-place
invariant-loop-place l = (k : ℕ) (i : Instr) → k < l.place → slice_get l.instrs k ≡ Some i → Lands l.instrs k (slice_index l.table k) i
