-- The report of a state.
use Rattle.std.specs.Prelude.{ℕ, ◌+◌, ◌==◌, nat_le, nat_lt, Bool, true, false, if◌then◌else◌, List, length, filter, map, Option, Some, None}
use Rattle.std.specs.List.{enumerate_from}
use Rattle.class_rules.specs.Class.{Classes, class_name}
use Rattle.semantics.specs.Object.{ObjectValue, Number, Refers}
use Rattle.semantics.specs.Report.{ThreadStanding, HasTrapped, HasEnded, IsUncaught, IsBlocked, IsRunning, ShownValue, ShownNumber, ShownNull, ShownClass, ShownObject, ShownRow, Report}
use Rattle.semantics.specs.World.{World}
use Rattle.semantics.specs.Heap.{Heap, class_of, values_of}
use Rattle.semantics.specs.Reachable.{reachable}
use Rattle.semantics.specs.State.{Stop, State}
use Rattle.semantics.specs.Step.{is_blocked}
use Rattle.semantics.specs.declared.event.Ending.{Ending}
use Rattle.semantics.specs.declared.event.Ending.TheVariants.{Unfinished, Ended, Uncaught}
use Rattle.semantics.specs.Thread.{Thread}
use Rattle.semantics.specs.Value.{trap_number}

-- the standing of a thread that didn't trap
abbrev pub standing_by_ending : Classes → (blocked : Bool) → Ending → ThreadStanding
standing_by_ending classes blocked Ended = HasEnded
standing_by_ending classes blocked (Uncaught c) = IsUncaught (class_name classes c.number)
standing_by_ending classes true Unfinished = IsBlocked
standing_by_ending classes false Unfinished = IsRunning

-- the standing of thread k; only the one that stopped the machine trapped
abbrev pub standing_at : Classes → (blocked : Bool) → Option Stop → (k : ℕ) → Ending → ThreadStanding
standing_at classes blocked None k ending = standing_by_ending classes blocked ending
standing_at classes blocked (Some stop) k ending =
    if stop.thread == k then HasTrapped (trap_number stop.trap) stop.line else standing_by_ending classes blocked ending

-- the same in a state
abbrev pub standing_of : Classes → State → ℕ → Thread → Option Stop → ThreadStanding
standing_of classes s k t stop = standing_at classes (is_blocked classes s k) stop k t.ending

-- a value; a class object is shown by its class
abbrev pub shown_value : Classes → ObjectValue → ShownValue
shown_value classes (Number z) = ShownNumber z
shown_value classes (Refers None) = ShownNull
shown_value classes (Refers (Some n)) = if nat_le n (length classes) then ShownClass (class_name classes n) else ShownObject n

-- the row of an object: its name, its class and its values
abbrev pub row : Classes → (name class : ℕ) → List ObjectValue → ShownRow
row classes name class values = record { name = name; class = class_name classes class; values = map (shown_value classes) values }

-- the row of the object of a name in a heap
abbrev pub shown_row : Classes → Heap → ℕ → ShownRow
shown_row classes heap n = row classes n (class_of heap n) (values_of heap n)

-- the reachable objects but the class objects and the OutOfMemoryError object
abbrev pub shown : World → State → List ℕ
shown w s = filter (λ n. nat_lt (length w.classes + 1) n) (reachable w s)

-- what was printed, the standings of the threads, and the reachable objects by rising names
unfoldable pub report : World → State → Report
report w s = record {
  printed = s.printed;
  standings = map (λ (t : ℕ × Thread). standing_of w.classes s t.0 t.1 s.stop) (enumerate_from 1 s.threads);
  objects = map (shown_row w.classes s.shared.heap) (shown w s);
}
