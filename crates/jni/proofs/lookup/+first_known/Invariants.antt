use Rattle.std.proofs.Common.{length}
use Rattle.jni.proofs.lookup.+first_known.Given as goal

abbrev pub decreases-first_known : goal.decreases-first_known
decreases-first_known l = length l.functions.now
