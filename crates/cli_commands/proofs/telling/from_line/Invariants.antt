use Rattle.std.proofs.Common.{◌≡◌, length}
use Rattle.cli_commands.specs.Telling.{from_line}
use Rattle.cli_commands.proofs.telling.from_line.Given as goal

abbrev pub invariant-loop-left : goal.invariant-loop-left
invariant-loop-left l = from_line l.left l.rest ≡ from_line l.line l.text

abbrev pub decreases-loop-left : goal.decreases-loop-left
decreases-loop-left l = length l.rest
