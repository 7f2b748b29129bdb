-- How a table of monitors stands for the source's monitors: object by object.
use Rattle.std.specs.Prelude.{◌≡◌, ℕ, List, [], ◌∷◌, Option, Some, None}
use Rattle.heap.specs.Heap.{Space, name_at}
use Rattle.monitors.specs.declared.monitors.Monitor.{Monitor}
use Rattle.monitors.specs.Monitors.{monitor_of}
use Rattle.semantics.specs.Thread as source

-- a monitor, or none
abbrev pub MonitorAgrees : Option Monitor → Option source.Monitor → Type 0
MonitorAgrees None None = Unit {0}
MonitorAgrees None (Some s) = ⊥
MonitorAgrees (Some m) None = ⊥
MonitorAgrees (Some m) (Some s) = (m.object ≡ s.object) × (m.owner ≡ s.owner) × (m.count ≡ s.count)

-- no two monitors of the source are of one object
abbrev pub AreDifferent : List source.Monitor → Type 0
AreDifferent [] = Unit {0}
AreDifferent (s ∷ ss) = (source.monitor_of ss s.object ≡ None) × AreDifferent ss

-- the monitors of all objects
pub record MonitorsAgree (ms : List Monitor) (ss : List source.Monitor) : Type 0 where
  pub at : (n : ℕ) → MonitorAgrees (monitor_of ms n) (source.monitor_of ss n)
  pub different : AreDifferent ss

-- the objects of monitors lie where the table says
abbrev pub AreThere : Space → List Monitor → Type 0
AreThere space [] = Unit {0}
AreThere space (m ∷ ms) = (name_at space m.address ≡ Some m.object) × AreThere space ms
