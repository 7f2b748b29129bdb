-- Schedules: in which order the threads step.
use Rattle.std.specs.Prelude.{List}
use Rattle.semantics.specs.declared.schedule.ScheduleWord.{ScheduleWord}

-- whose turn it is
abbrev pub Schedule : Type 0
Schedule = List ScheduleWord
