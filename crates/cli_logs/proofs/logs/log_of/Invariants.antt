use Rattle.std.proofs.Common.{ℕ, List, drop}
use Rattle.cli_logs.proofs.PassLemmas.{PassSoFar}
use Rattle.cli_logs.proofs.logs.log_of.Given as goal

abbrev pub invariant-loop-name : goal.invariant-loop-name
invariant-loop-name g l =
    PassSoFar (g.F.Files.gives l.initial.files) l.names (drop l.name-index l.names) l.status
    × ((other bytes : List ℕ) → g.F.Files.gives l.files other bytes → g.F.Files.gives l.initial.files other bytes)
