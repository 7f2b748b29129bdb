use Rattle.std.proofs.Common.{length}
use Rattle.replay_threads.proofs.thread.+add_references.Given as goal

abbrev pub decreases-add_references : goal.decreases-add_references
decreases-add_references l = length l.arguments.now
