-- The lines of a text that are left.
use Rattle.std.specs.Prelude.{ℕ, ◌+◌, List, filter}
use Rattle.std.specs.List.{enumerate_from}
use Rattle.base.specs.Bytes.{is_some_byte}
use Rattle.world_schedules.specs.declared.split.Split.{Split}
use Rattle.world_schedules.specs.Split.{parts_left}

-- those that aren't empty, with their numbers, after the line of this number
abbrev pub lines_left : ℕ → Split → List (ℕ × List ℕ)
lines_left number lines = filter (λ (l : ℕ × List ℕ). is_some_byte l.1) (enumerate_from (number + 1) (parts_left lines))
