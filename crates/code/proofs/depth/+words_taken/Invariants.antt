use Rattle.std.proofs.Common.{length}
use Rattle.code.proofs.depth.+words_taken.Given as goal

abbrev pub decreases-words_taken : goal.decreases-words_taken
decreases-words_taken l = length l.operands.now
