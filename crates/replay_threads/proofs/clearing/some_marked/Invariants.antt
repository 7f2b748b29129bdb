use Rattle.std.proofs.Common.{◌≡◌, drop}
use Rattle.std.specs.List.{list_any}
use Rattle.reachability.specs.Marks.{is_marked}
use Rattle.semantics.specs.Views.{names_of}
use Rattle.replay_threads.proofs.clearing.some_marked.Given as goal

abbrev pub invariant-loop-name : goal.invariant-loop-name
invariant-loop-name l = list_any (is_marked l.marks) (names_of (drop l.name-index l.names)) ≡ list_any (is_marked l.marks) (names_of l.names)
