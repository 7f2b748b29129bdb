use Rattle.std.proofs.Common.{◌≡◌, ◌+◌, ◌<◌, ◌^◌, length}
use Rattle.world_schedules.specs.Split.{parts_left}
use Rattle.world.specs.LinesLeft.{lines_left}
use Rattle.world.proofs.text.next_line.Given as goal

-- lines that are passed over are empty
abbrev pub invariant-loop-line : goal.invariant-loop-line
invariant-loop-line l = record {
  left : lines_left l.number l.lines ≡ lines_left l.initial.number l.initial.lines;
  few : l.number + length (parts_left l.lines) < 2 ^ 64;
}
