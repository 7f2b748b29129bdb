use Rattle.std.proofs.Common.{◌≡◌, drop}
use Rattle.std.specs.List.{list_all}
use Rattle.semantics.specs.Reachable.{is_in}
use Rattle.semantics.specs.Views.{names_of}
use Rattle.replay_threads.proofs.clearing.all_among.Given as goal

abbrev pub invariant-loop-name : goal.invariant-loop-name
invariant-loop-name l = list_all (is_in (names_of l.held)) (names_of (drop l.name-index l.names)) ≡ list_all (is_in (names_of l.held)) (names_of l.names)
