-- States that lie in memory, as those of the language, and what an entry does to one.
use Rattle.std.specs.Prelude.{◌≡◌, ℕ, ◌+◌, ◌++◌, ◌<◌, ◌≤◌, length, slice_get, sum_by, flat_map, is_some, Bool, true, false, List, [], ◌∷◌, map, Option, Some, None}
use Rattle.std.specs.List.{enumerate_from}
use Rattle.std.specs.Option.{option_map, option_map_or}
use Rattle.syntax.specs.Tree.{SourceUnit}
use Rattle.class_rules.specs.Class.{Classes}
use Rattle.semantics.specs.declared.event.Event.{Event}
use Rattle.semantics.specs.declared.event.Stop.{Stop as StopInMemory}
use Rattle.semantics.specs.Journal as entry
use Rattle.semantics.specs.Journal.{Entry}
use Rattle.semantics.specs.Report.{ThreadStanding}
use Rattle.semantics.specs.World.{World}
use Rattle.semantics.specs.Thread.{BuffersInUse, Thread, lengths_copied, objects_viewed}
use Rattle.semantics.specs.Variable.{Variables}
use Rattle.semantics.specs.WeakReferences.{may_clear}
use Rattle.replay_steps.specs.declared.activation.Activation.{Activation}
use Rattle.replay_steps.specs.declared.attempt.Attempt.{Attempt}
use Rattle.replay_steps.specs.declared.attempt.Attempt.TheVariants as attempt
use Rattle.semantics.specs.State.{State}
use Rattle.semantics.specs.Step.{world_step, is_blocked, is_unfinished}
use Rattle.semantics.specs.ReportOf.{standing_at, standing_of}
use Rattle.replay_threads.specs.declared.thread.Thread.{Thread as ThreadInMemory}
use Rattle.replay_threads.specs.declared.state.State.{State as StateInMemory}
use Rattle.semantics.specs.EventViews.{printed_after, stop_after, stop_view}
use Rattle.replay_terms.specs.Views.{variables_view}
use Rattle.replay_threads.specs.Threads.{ThreadInRange, ThreadStands, last_first}
use Rattle.replay_arguments.specs.Shares.{shared_view}

-- each thread in memory stands for the one of the same number
abbrev pub ThreadsStand : SourceUnit → Classes → List ThreadInMemory → List Thread → Type 0
ThreadsStand unit classes [] [] = Unit {0}
ThreadsStand unit classes (t ∷ ts) (s ∷ ss) = ThreadStands unit classes t s × ThreadsStand unit classes ts ss
ThreadsStand unit classes ts ss = ⊥

-- what is known of the calls in progress, as they stand in an accepted program
abbrev pub EachInRange : List ThreadInMemory → Type 0
EachInRange [] = Unit {0}
EachInRange (t ∷ ts) = ThreadInRange t × EachInRange ts

-- the same of few threads
pub record AreInRange (ts : List ThreadInMemory) : Type 0 where
  pub few : length ts ≤ 8
  pub each : EachInRange ts

-- a state in memory stands for one of the language, in the world that it began in
pub record Stands (unit : SourceUnit) (w : World) (m : StateInMemory) (s : State) : Type 0 where
  pub world : w ≡ m.world.now
  pub shared : s.shared ≡ shared_view m.shared
  pub threads : ThreadsStand unit w.classes m.threads.items s.threads
  pub printed : s.printed ≡ m.printed.items
  pub stop : s.stop ≡ option_map stop_view m.stop

-- ---- entries

-- What others see of what thread k did is written down, and nothing else; if it did nothing, nothing is.
pub record IsNoted (old : StateInMemory) (k : ℕ) (took : Option Event) (new : StateInMemory) : Type 0 where
  pub world : new.world ≡ old.world
  pub shared : new.shared ≡ old.shared
  pub threads : new.threads ≡ old.threads
  pub printed : new.printed.items ≡ option_map_or (printed_after old.printed.items k) took old.printed.items
  pub stop : new.stop ≡ option_map_or (stop_after old.stop k) took old.stop

-- an entry is possible and leaves this, or is not possible
abbrev pub Leads : SourceUnit → World → State → Entry → StateInMemory → (possible : Bool) → Type 0
Leads unit w s e new true = (next : State) × (world_step unit w s e ≡ Some next) × Stands unit w new next
Leads unit w s e new false = world_step unit w s e ≡ None

-- the same in each state that it stands for
abbrev pub TakesEntry : SourceUnit → StateInMemory → Entry → (possible : Bool) → StateInMemory → Type 0
TakesEntry unit old e possible new = (w : World) (s : State) → Stands unit w old s → Leads unit w s e new possible

-- where nothing is refused, a step of thread k that needs no turn is possible and leaves this, or isn't possible, or all is as it was
abbrev pub AttemptsTurn : StateInMemory → ℕ → Attempt → StateInMemory → Type 0
AttemptsTurn old k attempt.Reduced new = (unit : SourceUnit) → TakesEntry unit old (entry.Step k false) true new
AttemptsTurn old k attempt.Stuck new = (unit : SourceUnit) → TakesEntry unit old (entry.Step k false) false new
AttemptsTurn old k attempt.Left new = new ≡ old

-- the same where it changes what threads share: it is possible and leaves this, or all is as it was
abbrev pub AttemptsFieldTurn : StateInMemory → ℕ → (took : Bool) → StateInMemory → Type 0
AttemptsFieldTurn old k true new = (unit : SourceUnit) → TakesEntry unit old (entry.Step k false) true new
AttemptsFieldTurn old k false new = new ≡ old

-- the same of a call in this unit
abbrev pub AttemptsCallTurn : SourceUnit → StateInMemory → ℕ → (took : Bool) → StateInMemory → Type 0
AttemptsCallTurn unit old k true new = TakesEntry unit old (entry.Step k false) true new
AttemptsCallTurn unit old k false new = new ≡ old

-- ---- clearings

-- whether the weak references to these objects may be cleared
abbrev pub MayClear : StateInMemory → List ℕ → Bool → Type 0
MayClear m names may = (unit : SourceUnit) (w : World) (s : State) → Stands unit w m s → may ≡ may_clear w s names

-- ---- threads that wait

-- a fact of each state that this one stands for
abbrev pub OfEach : StateInMemory → (World → State → Type 0) → Type 0
OfEach m P = (unit : SourceUnit) (w : World) (s : State) → Stands unit w m s → AreInRange m.threads.items → P w s

-- whether thread k waits for a monitor
abbrev pub Waits : StateInMemory → (k : ℕ) → Bool → Type 0
Waits m k answer = OfEach m (λ w s. answer ≡ is_blocked w.classes s k)

-- thread k is at this place, and can step
pub record IsLiveAt (m : StateInMemory) (k place : ℕ) : Type 0 where
  pub counted : k ≡ place + 1
  pub there : place < length m.threads.items
  pub live : (t : ThreadInMemory) → slice_get m.threads.items place ≡ Some t → is_unfinished t.ending ≡ true
  pub runs : is_some m.stop ≡ false
  pub free : Waits m k false

-- no step of thread k is possible
abbrev pub TakesNone : StateInMemory → ℕ → Type 0
TakesNone m k = (unit : SourceUnit) (refused : Bool) → TakesEntry unit m (entry.Step k refused) false m

-- ---- buffers

-- the variables of a call
abbrev pub variables_at : Activation → Variables
variables_at a = variables_view a.locals.variables

-- those of the call in progress
abbrev pub variables_of : Option Activation → Variables
variables_of None = []
variables_of (Some a) = variables_at a

-- the lengths of the copied lists of a call together
abbrev pub call_copies : Activation → ℕ
call_copies a = lengths_copied (variables_at a)

-- the objects of its views
abbrev pub call_views : Activation → List ℕ
call_views a = objects_viewed (variables_at a)

-- the lengths of the copied lists of a thread's calls together
abbrev pub copied_in : ThreadInMemory → ℕ
copied_in t = sum_by call_copies (last_first t.callers.items) + lengths_copied (variables_of t.activation)

-- the objects of their views
abbrev pub viewed_in : ThreadInMemory → List ℕ
viewed_in t = flat_map call_views (last_first t.callers.items) ++ objects_viewed (variables_of t.activation)

-- what the buffers of all threads together take
abbrev pub in_use_by : List ThreadInMemory → BuffersInUse
in_use_by ts = record { copied = sum_by copied_in ts; views = length (flat_map viewed_in ts) }

-- ---- the report

-- the standing of thread k, which waits or doesn't
abbrev pub standing_in : Classes → (waits : Bool) → Option StopInMemory → (k : ℕ) → ThreadInMemory → ThreadStanding
standing_in classes waits stop k t = standing_at classes waits (option_map stop_view stop) k t.ending

-- the standings of the threads of a state
abbrev pub standings_of : Classes → State → List ThreadStanding
standings_of classes s = map (λ (t : ℕ × Thread). standing_of classes s t.0 t.1 s.stop) (enumerate_from 1 s.threads)

-- these are they
abbrev pub AreStandings : StateInMemory → List ThreadStanding → Type 0
AreStandings m standings = OfEach m (λ w s. standings ≡ standings_of w.classes s)
