-- The errors of lowering, other texts, loading, a full journal, a report and a replay, as errors of a run.
use Rattle.std.specs.Prelude.{ℕ}
use Rattle.lower.specs.declared.fault.LowerError.{LowerError}
use Rattle.lower.specs.declared.fault.LowerError.TheVariants as lowering
use Rattle.program_check.specs.Errors.{too_long}
use Rattle.world_schedules.specs.declared.fault.ReadError.{ReadError}
use Rattle.world_schedules.specs.declared.fault.ReadError.TheVariants as reading
use Rattle.world_schedules.specs.Rule.{rule_number}
use Rattle.machine_threads.specs.declared.fault.LoadFault.{LoadFault}
use Rattle.machine_threads.specs.declared.fault.LoadFault.TheVariants as loading
use Rattle.machine.specs.declared.fault.RunFault.{RunFault}
use Rattle.machine.specs.declared.fault.RunFault.TheVariants as running
use Rattle.machine.specs.declared.fault.ReportFault.{ReportFault}
use Rattle.machine.specs.declared.fault.ReportFault.TheVariants as reporting
use Rattle.replay.specs.declared.fault.ReplayError.{ReplayError}
use Rattle.replay.specs.declared.fault.ReplayError.TheVariants as replaying
use Rattle.places.specs.declared.place.Place.TheVariants.{Line, Entry}
use Rattle.program_check.specs.declared.fault.RunError.{RunError}
use Rattle.program_check.specs.declared.fault.RunError.TheVariants.{Memory, Fault, Writer}
use Rattle.places.specs.declared.place.Text.{Text}
use Rattle.places.specs.declared.place.Text.TheVariants as which

abbrev pub of_lower : LowerError → RunError
of_lower lowering.Memory = Memory
of_lower lowering.TooLong = too_long

-- the text is the one that was read
abbrev pub of_reading : Text → ReadError → RunError
of_reading text reading.Memory = Memory
of_reading text (reading.Fault fault) = Fault (rule_number fault.rule) (Line text fault.line)

-- a call on this line of a world doesn't go with the program
abbrev pub does_not_fit : ℕ → RunError
does_not_fit line = Fault 82 (Line which.World line)

abbrev pub of_load : LoadFault → RunError
of_load loading.Memory = Memory
of_load (loading.DoesNotFit line) = does_not_fit line

-- that a journal is full has no line
abbrev pub of_run : RunFault → RunError
of_run running.Memory = Memory
of_run running.Full = Fault 92 (Line which.Program 0)

abbrev pub of_report : ReportFault → RunError
of_report reporting.Memory = Memory
of_report reporting.Sink = Writer

abbrev pub of_replay : ReplayError → RunError
of_replay replaying.Memory = Memory
of_replay (replaying.DoesNotFit line) = does_not_fit line
of_replay (replaying.Impossible entry) = Fault 91 (Entry entry)
of_replay replaying.Writer = Writer
