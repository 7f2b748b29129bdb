use Rattle.std.proofs.Common.{◌≡◌, ◌++◌, ◌-◌, ◌≤◌, length}
use Rattle.cli_commands.specs.Telling.{shown_line}
use Rattle.cli_commands.proofs.telling.shown_line.Given as goal

abbrev pub invariant-loop-rest : goal.invariant-loop-rest
invariant-loop-rest l = (length l.shown.items ≤ 160) × (l.shown.items ++ shown_line (160 - length l.shown.items) l.rest ≡ shown_line 160 l.text)

abbrev pub decreases-loop-rest : goal.decreases-loop-rest
decreases-loop-rest l = length l.rest
