-- What is done with a monitor by a call that no check stops.
use Rattle.std.specs.Prelude.{◌≡◌, ℕ, Bool, true, false, List, ◌∷◌, map, Some}
use Rattle.jni.specs.declared.function.JniFunction.{JniFunction}
use Rattle.jni.specs.declared.function.JniFunction.TheVariants as function
use Rattle.monitors.specs.declared.monitors.Enter.{Enter}
use Rattle.monitors.specs.declared.monitors.Enter.TheVariants.{Entered}
use Rattle.monitors.specs.declared.monitors.Exit.{Exit}
use Rattle.monitors.specs.declared.monitors.Exit.TheVariants.{Left}
use Rattle.monitors.specs.declared.monitors.Monitor.{Monitor}
use Rattle.monitors.specs.Monitors.{AreOf, ChangesAt, entered, entering, leaving, left, monitor_of, object_of}
use Rattle.machine_answers.specs.declared.answer.Answer.{Answer}
use Rattle.machine_answers.specs.declared.answer.Answer.TheVariants as answer

-- it is a function that enters or leaves one
abbrev pub is_of_monitors : JniFunction → Bool
is_of_monitors function.MonitorEnter = true
is_of_monitors function.MonitorExit = true
is_of_monitors f = false

-- what is done is only that a monitor is entered or left
abbrev pub changes_monitor : Answer → Bool
changes_monitor (answer.Enters o) = true
changes_monitor (answer.Exits n) = true
changes_monitor a = false

-- its thread may: a monitor that is entered is no other thread's, and not at its limit, and one that is left is the thread's
abbrev pub MayChange : (thread : ℕ) → Answer → List Monitor → Type 0
MayChange thread (answer.Enters o) monitors = entering thread (monitor_of monitors o.name) ≡ Entered
MayChange thread (answer.Exits n) monitors = leaving thread (monitor_of monitors n) ≡ Left
MayChange thread a monitors = Unit {0}

-- what doing it leaves of the monitors
abbrev pub Changes : (thread : ℕ) → Answer → (before after : List Monitor) → Type 0
Changes thread (answer.Enters o) before after =
    (came : Enter) × (came ≡ entering thread (monitor_of before o.name))
    × (came ≡ Entered → ChangesAt before after o.name (Some (entered o thread (monitor_of before o.name))))
    × AreOf (o ∷ map object_of before) after
Changes thread (answer.Exits n) before after =
    (came : Exit) × (came ≡ leaving thread (monitor_of before n))
    × (came ≡ Left → ChangesAt before after n (left (monitor_of before n))) × AreOf (map object_of before) after
Changes thread a before after = Unit {0}
