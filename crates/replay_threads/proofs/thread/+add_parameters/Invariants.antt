use Rattle.std.proofs.Common.{length}
use Rattle.replay_threads.proofs.thread.+add_parameters.Given as goal

abbrev pub decreases-add_parameters : goal.decreases-add_parameters
decreases-add_parameters l = length l.parameters.now
