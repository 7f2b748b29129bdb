use Rattle.std.proofs.Common.{◌≡◌, drop, map}
use Rattle.syntax.specs.Views.{argument_tree}
use Rattle.region_rules.specs.RegionStates.{has_commit}
use Rattle.region_states.proofs.calls.has_commit.Given as goal

abbrev pub invariant-loop-argument : goal.invariant-loop-argument
invariant-loop-argument l = has_commit (map argument_tree (drop l.argument-index l.arguments)) ≡ has_commit (map argument_tree l.arguments)
