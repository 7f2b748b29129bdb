-- Where a call of MonitorEnter may have to wait for a monitor.
use Rattle.std.specs.Prelude.{Bool, true, false, ℕ, List, [], Option}
use Rattle.code.specs.declared.instr.Call.{Call as InMemory}
use Rattle.monitors.specs.declared.monitors.Enter.{Enter}
use Rattle.monitors.specs.declared.monitors.Enter.TheVariants.{Busy}
use Rattle.semantics.specs.Task.{Task}
use Rattle.semantics.specs.Thread.{Shared, Thread}
use Rattle.semantics.specs.World.{World}
use Rattle.semantics_safety.specs.Owners.{Owners}
use Rattle.code_meaning.specs.Lowered.{Lowered}
use Rattle.machine_scenes.specs.declared.store.Store.{Store}
use Rattle.machine_scenes.specs.declared.activation.Activation.{Activation}
use Rattle.machine_scenes.specs.Buffers.{Acquired}
use Rattle.machine_scenes.specs.MonitorsAgree.{MonitorsAgree}
use Rattle.machine_steps.specs.Invoked.{AtCall}

-- another thread owns the monitor
abbrev pub is_busy : Enter → Bool
is_busy Busy = true
is_busy came = false

-- what all threads share, if nobody owned a monitor
abbrev pub unowned : Shared → Shared
unowned shared = record shared { monitors = [] }

-- the store then
abbrev pub store_unowned : Store → Store
store_unowned store = record store { monitors = [] }

-- Thread k is at a call, whether it waits for a monitor or not: it would be there if nobody owned one, and the monitors agree.
pub record MayWait (p : Lowered) (w : World) (store : Store) (pending : Option ℕ) (activation : Activation)
    (call : InMemory) (others : Acquired) (k owner : ℕ) (own : Owners) (shared : Shared) (s : Thread) (task : Task)
    (rest : List Task) : Type 0 where
  pub at_call : AtCall p w (store_unowned store) pending activation call others k owner own (unowned shared) s task rest
  pub monitors : MonitorsAgree store.monitors shared.monitors
