use Rattle.std.proofs.Common.{length}
use Rattle.replay_arguments.proofs.check.+some_missing.Given as goal

abbrev pub decreases-some_missing : goal.decreases-some_missing
decreases-some_missing l = length l.parameters.now
