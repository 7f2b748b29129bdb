use Rattle.std.proofs.Common.{◌≡◌, ◌++◌, drop, filter}
use Rattle.std.specs.Prelude.{not}
use Rattle.semantics.specs.Reachable.{is_in}
use Rattle.semantics.specs.Views.{names_of}
use Rattle.replay_threads.proofs.clearing.add_beside.Given as goal

abbrev pub invariant-loop-name : goal.invariant-loop-name
invariant-loop-name l =
    names_of l.from.items ++ filter (λ n. not (is_in (names_of l.names) n)) (names_of (drop l.name-index l.held))
    ≡ names_of l.fn.from.items ++ filter (λ n. not (is_in (names_of l.names) n)) (names_of l.held)
