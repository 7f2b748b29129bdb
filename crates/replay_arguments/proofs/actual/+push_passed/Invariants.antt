use Rattle.std.proofs.Common.{length, ◌-◌}
use Rattle.replay_terms.specs.Views.{operands_view}
use Rattle.replay_arguments.proofs.actual.+push_passed.Given as goal

abbrev pub decreases-push_passed : goal.decreases-push_passed
decreases-push_passed l = length (operands_view l.operands.now) - l.place
