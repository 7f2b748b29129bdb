-- Where a trap stopped a run, as it is told.
use Rattle.semantics.specs.State.{Stop}
use Rattle.semantics.specs.Value.{trap_number}
use Rattle.replay.specs.declared.trap_at.TrapAt.{TrapAt}

-- the number and the line of a trap
abbrev pub trap_at : Stop → TrapAt
trap_at stop = record { number = trap_number stop.trap; line = stop.line }
