-- Whole runs: a journal's replay, which journals follow a schedule, and which refusals are fair.
use Rattle.std.specs.Prelude.{◌≡◌, ◌≢◌, ℕ, ◌+◌, ◌<◌, ◌≤◌, ◌==◌, Bool, true, false, ℤ, ◌⊎◌, List, [], ◌∷◌, map, length, drop, filter, Option, Some, None}
use Rattle.std.specs.Option.{option_and_then, option_map, option_map_or}
use Rattle.syntax.specs.Tree.{SourceUnit}
use Rattle.semantics.specs.Journal.{Entry, Step, Clearing, Journal, is_step_of}
use Rattle.semantics.specs.Object.{Object, sizes}
use Rattle.semantics.specs.declared.printed.Printed.{Printed}
use Rattle.semantics.specs.declared.schedule.ScheduleWord.TheVariants.{Turn, Collect, Slice}
use Rattle.semantics.specs.Schedule.{Schedule}
use Rattle.semantics.specs.World.{World}
use Rattle.semantics.specs.Reachable.{live_size}
use Rattle.semantics.specs.Start.{start}
use Rattle.semantics.specs.State.{State, thread_at, views}
use Rattle.semantics.specs.Step.{turn_step, clearing_step, world_step, can_step}
use Rattle.semantics.specs.declared.event.Ending.{Ending}
use Rattle.semantics.specs.declared.event.Ending.TheVariants.{Unfinished}
use Rattle.semantics.specs.Thread.{Thread}
use Rattle.semantics.specs.WeakReferences.{lost}

-- ---- replay

-- the state after entries, from a given one on
abbrev pub replay_from : SourceUnit → World → State → Journal → Option State
replay_from unit w s [] = Some s
replay_from unit w s (e ∷ rest) = option_and_then (λ s'. replay_from unit w s' rest) (world_step unit w s e)

-- the state after all entries, where each is possible
abbrev pub replay : SourceUnit → World → Journal → Option State
replay unit w journal = replay_from unit w (start unit w) journal

-- ---- new objects

-- the objects that a thread's next step makes, if nothing is refused
abbrev pub made_between : State → Option State → List Object
made_between s None = []
made_between s (Some next) = drop (length s.shared.heap) next.shared.heap

-- the objects that thread k's next step makes, if nothing is refused
abbrev pub made : SourceUnit → World → State → ℕ → List Object
made unit w s k = made_between s (turn_step unit w.classes s k false)

-- ---- schedules

-- what a whole collection clears, which is all that is held weakly and lost, and what that leaves
pub record ClearsLost (w : World) (s : State) (names : List ℕ) (next : State) : Type 0 where
  pub all : lost w s ≡ names
  pub possible : clearing_step w s names ≡ Some next

-- Walking the schedule and the replay together, from a state to another. A thread's word gives its entry where the thread can step, marked
-- or not, and none where it can't; where the step makes objects, the clearing of all that is lost may stand before it. A collection gives
-- that clearing, and no entry where nothing is lost. A slice gives no entry, or one clearing that is possible.
pub data Follows (unit : SourceUnit) (w : World) : State → Journal → Schedule → State → Type 0 where
  Over : (s : State) → Follows unit w s [] [] s
  Collects : (s end : State) (journal : Journal) (words : Schedule) → lost w s ≡ []
      → Follows unit w s journal words end → Follows unit w s journal (Collect ∷ words) end
  Clears : (s next end : State) (names : List ℕ) (journal : Journal) (words : Schedule) → ClearsLost w s names next
      → Follows unit w next journal words end → Follows unit w s (Clearing names ∷ journal) (Collect ∷ words) end
  Slices : (s end : State) (journal : Journal) (words : Schedule)
      → Follows unit w s journal words end → Follows unit w s journal (Slice ∷ words) end
  SliceClears : (s next end : State) (names : List ℕ) (journal : Journal) (words : Schedule) → clearing_step w s names ≡ Some next
      → Follows unit w next journal words end → Follows unit w s (Clearing names ∷ journal) (Slice ∷ words) end
  Waits : (s end : State) (k : ℕ) (journal : Journal) (words : Schedule) → can_step w.classes s k ≡ false
      → Follows unit w s journal words end → Follows unit w s journal (Turn k ∷ words) end
  Steps : (s next end : State) (k : ℕ) (refused : Bool) (journal : Journal) (words : Schedule)
      → can_step w.classes s k ≡ true → turn_step unit w.classes s k refused ≡ Some next
      → Follows unit w next journal words end → Follows unit w s (Step k refused ∷ journal) (Turn k ∷ words) end
  ClearsAndSteps : (s between next end : State) (names : List ℕ) (k : ℕ) (refused : Bool) (journal : Journal) (words : Schedule)
      → can_step w.classes s k ≡ true → made unit w s k ≢ [] → ClearsLost w s names between → turn_step unit w.classes between k refused ≡ Some next
      → Follows unit w next journal words end → Follows unit w s (Clearing names ∷ Step k refused ∷ journal) (Turn k ∷ words) end

-- the journal is one of a run by the schedule
abbrev pub JournalFollows : SourceUnit → World → Journal → Schedule → Type 0
JournalFollows unit w journal schedule = (end : State) × Follows unit w (start unit w) journal schedule end

-- ---- allocations

-- the cells that are reachable before a thread's next step, and those of what it makes
abbrev pub wanted : SourceUnit → World → State → ℕ → ℕ
wanted unit w s k = live_size w s + sizes (made unit w s k)

-- a refusal: there was no room beside what is reachable, or something was pinned
abbrev pub IsFair : SourceUnit → World → State → ℕ → Type 0
IsFair unit w s k = (w.cells < wanted unit w s k) ⊎ (views s ≢ [])

-- an allocation: there was room beside what is reachable
abbrev pub Fits : SourceUnit → World → State → ℕ → Type 0
Fits unit w s k = (made unit w s k ≢ []) → wanted unit w s k ≤ w.cells

-- what is asked of a step that isn't marked as refused, and of one that is
abbrev pub FitsUnmarked : SourceUnit → World → State → Entry → Type 0
FitsUnmarked unit w s (Step k true) = Unit {0}
FitsUnmarked unit w s (Step k false) = Fits unit w s k
FitsUnmarked unit w s (Clearing names) = Unit {0}

abbrev pub IsFairMarked : SourceUnit → World → State → Entry → Type 0
IsFairMarked unit w s (Step k true) = IsFair unit w s k
IsFairMarked unit w s (Step k false) = Unit {0}
IsFairMarked unit w s (Clearing names) = Unit {0}

-- what holds of each entry of a journal and of the state to which the entries before it have led
abbrev pub EachFrom : SourceUnit → World → (State → Entry → Type 0) → Option State → Journal → Type 0
EachFrom unit w Holds s [] = Unit {0}
EachFrom unit w Holds None (e ∷ rest) = Unit {0}
EachFrom unit w Holds (Some s) (e ∷ rest) = Holds s e × EachFrom unit w Holds (world_step unit w s e) rest

-- each unmarked entry of a run's journal fits
abbrev pub UnmarkedFit : SourceUnit → World → Journal → Type 0
UnmarkedFit unit w journal = EachFrom unit w (FitsUnmarked unit w) (Some (start unit w)) journal

-- each marked entry of a run's journal is fair
abbrev pub MarkedAreFair : SourceUnit → World → Journal → Type 0
MarkedAreFair unit w journal = EachFrom unit w (IsFairMarked unit w) (Some (start unit w)) journal

-- ---- a thread's part in a journal

-- how many entries a thread has, what it printed, and how it ended
pub record Account : Type 0 where
  pub entries : ℕ
  pub printed : List ℤ
  pub ending : Ending

-- how many entries a thread has
abbrev pub entries_of : Journal → ℕ → ℕ
entries_of journal k = length (filter (is_step_of k) journal)

-- the numbers that a thread printed
abbrev pub printed_by : State → ℕ → List ℤ
printed_by s k = map (λ (p : Printed). p.number) (filter (λ (p : Printed). p.thread == k) s.printed)

-- how a thread has ended
abbrev pub ending_of : State → ℕ → Ending
ending_of s k = option_map_or (λ (t : Thread). t.ending) (thread_at s k) Unfinished

-- a thread's part, in the state after the journal
abbrev pub account_at : Journal → ℕ → State → Account
account_at journal k end = record { entries = entries_of journal k; printed = printed_by end k; ending = ending_of end k }

-- a thread's part in a journal, where its replay is defined
abbrev pub account : SourceUnit → World → Journal → ℕ → Option Account
account unit w journal k = option_map (account_at journal k) (replay unit w journal)
