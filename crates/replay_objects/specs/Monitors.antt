-- Monitors that lie in memory, as those of the language.
use Rattle.std.specs.Prelude.{ℕ, List, map}
use Rattle.semantics.specs.Thread.{Monitor}
use Rattle.replay_objects.specs.declared.monitors.Monitor.{Monitor as InMemory}

abbrev pub monitor_view : InMemory → Monitor
monitor_view m = record { object = m.object.number; owner = m.owner; count = m.count }

-- the objects that threads own
abbrev pub owned_objects : List Monitor → List ℕ
owned_objects monitors = map (λ (m : Monitor). m.object) monitors
