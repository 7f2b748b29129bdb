-- What stopped a run, as it is held in memory, and what is noted of a step.
use Rattle.std.specs.Prelude.{ℕ, List, [], ◌∷◌, ◌++◌, Option, Some}
use Rattle.semantics.specs.declared.event.Event.{Event}
use Rattle.semantics.specs.declared.event.Event.TheVariants.{Quiet, PrintedNumber, Trapped}
use Rattle.semantics.specs.declared.event.Stop.{Stop}
use Rattle.semantics.specs.declared.printed.Printed as printed
use Rattle.semantics.specs.State as state

-- the trap that stopped a run
abbrev pub stop_view : Stop → state.Stop
stop_view stop = record { thread = stop.thread; trap = stop.trap; line = stop.line }

-- the numbers printed after a step of thread k
abbrev pub printed_after : List printed.Printed → (k : ℕ) → Event → List printed.Printed
printed_after numbers k Quiet = numbers
printed_after numbers k (PrintedNumber z) = numbers ++ record { thread = k; number = z } ∷ []
printed_after numbers k (Trapped trap line) = numbers

-- the trap that stopped the run, after a step of thread k
abbrev pub stop_after : Option Stop → (k : ℕ) → Event → Option Stop
stop_after stop k Quiet = stop
stop_after stop k (PrintedNumber z) = stop
stop_after stop k (Trapped trap line) = Some (record { thread = k; trap = trap; line = line })
