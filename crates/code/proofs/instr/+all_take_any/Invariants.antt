use Rattle.std.proofs.Common.{length}
use Rattle.code.proofs.instr.+all_take_any.Given as goal

abbrev pub decreases-all_take_any : goal.decreases-all_take_any
decreases-all_take_any l = length l.parameters.now
