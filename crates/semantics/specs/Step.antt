-- One step of a run.
use Rattle.std.specs.Prelude.{ℕ, Bool, true, false, if◌then◌else◌, is_none, not, ◌&&◌, List, Option, Some, None}
use Rattle.syntax.specs.Tree.{SourceUnit}
use Rattle.class_rules.specs.Class.{Classes}
use Rattle.semantics.specs.Journal.{Entry, Step, Clearing}
use Rattle.semantics.specs.State.{State, thread_at, in_use, advanced}
use Rattle.semantics.specs.Thread.{Thread, Shared}
use Rattle.semantics.specs.declared.event.Ending.{Ending}
use Rattle.semantics.specs.declared.event.Ending.TheVariants.{Unfinished}
use Rattle.semantics.specs.ThreadStep.{waits, thread_step}
use Rattle.semantics.specs.WeakReferences.{may_clear, with_cleared}
use Rattle.semantics.specs.World.{World}

-- the thread is there and waits for a monitor
abbrev pub is_waiting : Classes → (k : ℕ) → Shared → Option Thread → Bool
is_waiting classes k s None = false
is_waiting classes k s (Some t) = waits classes k s t

-- thread k waits for a monitor
abbrev pub is_blocked : Classes → State → ℕ → Bool
is_blocked classes s k = is_waiting classes k s.shared (thread_at s k)

-- the thread has not ended
abbrev pub is_unfinished : Ending → Bool
is_unfinished Unfinished = true
is_unfinished ending = false

-- the thread is there and has not ended
abbrev pub is_live : Option Thread → Bool
is_live None = false
is_live (Some t) = is_unfinished t.ending

-- the machine hasn't stopped, and the thread has neither ended nor waits
abbrev pub can_step : Classes → State → ℕ → Bool
can_step classes s k = is_none s.stop && is_live (thread_at s k) && not (is_blocked classes s k)

-- a step of a thread that is there
abbrev pub step_of : SourceUnit → Classes → State → (k : ℕ) → (refused : Bool) → Option Thread → Option State
step_of unit classes s k refused None = None
step_of unit classes s k refused (Some t) = advanced s k (thread_step unit classes (in_use s) k s.shared t refused)

-- the state after a step of thread k, where it is possible
unfoldable pub turn_step : SourceUnit → Classes → State → (k : ℕ) → (refused : Bool) → Option State
turn_step unit classes s k refused = if can_step classes s k then step_of unit classes s k refused (thread_at s k) else None

-- the state after weak references to these objects were cleared, where that is possible; a trap doesn't hinder it
unfoldable pub clearing_step : World → State → List ℕ → Option State
clearing_step w s names = if may_clear w s names then Some (with_cleared names s) else None

-- the state after an entry, where it is possible
abbrev pub world_step : SourceUnit → World → State → Entry → Option State
world_step unit w s (Step k refused) = turn_step unit w.classes s k refused
world_step unit w s (Clearing names) = clearing_step w s names
