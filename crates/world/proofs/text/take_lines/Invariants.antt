use Rattle.std.proofs.Common.{◌≡◌, ◌+◌, ◌<◌, ◌^◌, length}
use Rattle.world_schedules.specs.Split.{parts_left}
use Rattle.world.specs.Gathered.{all_read}
use Rattle.world.specs.GatheredViews.{gathered_of}
use Rattle.world.specs.LinesLeft.{lines_left}
use Rattle.world.proofs.text.take_lines.Given as goal

-- with what is gathered the lines that are left make what all of them make
abbrev pub invariant-loop-line : goal.invariant-loop-line
invariant-loop-line l = record {
  reading : all_read (gathered_of l.builder) l.last (lines_left l.number l.lines) ≡ all_read (gathered_of l.fn.builder) l.first (lines_left l.first l.fn.lines);
  few : l.number + length (parts_left l.lines) < 2 ^ 64;
}

abbrev pub decreases-loop-line : goal.decreases-loop-line
decreases-loop-line l = length (lines_left l.number l.lines)
