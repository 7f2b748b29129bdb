-- A run, as its program, its world, its journal and where the blocks of its objects lie.
use Rattle.std.specs.Prelude.{◌≡◌, ◌≢◌, ℕ, ◌+◌, ◌-◌, ◌*◌, ◌/◌, ◌<◌, ◌≤◌, ◌⊎◌, Bool, true, false, List, [], ◌∷◌, ◌++◌, length, map, slice_get, slice_set, replicate, Option, Some, None, Result, Ok, Err, IfSome, IsSome, is_some, not, ◌||◌, suc}
use Rattle.std.specs.Option.{option_map, option_map_or}
use Rattle.std.specs.List.{Contains, list_all, enumerate_from, sum_by}
use Rattle.base.specs.Limits.{most_cells, most_entries}
use Rattle.syntax.specs.declared.unit.Item.{Item}
use Rattle.class_rules.specs.Class.{Classes}
use Rattle.class_rules.specs.Grown.{HasMethodError}
use Rattle.syntax.specs.Views.{unit_tree}
use Rattle.semantics.specs.Journal.{Entry, Step, steps_in}
use Rattle.semantics.specs.WeakReferences.{lost, with_cleared}
use Rattle.semantics.specs.declared.printed.Printed.{Printed}
use Rattle.semantics.specs.declared.schedule.ScheduleWord.{ScheduleWord}
use Rattle.semantics.specs.declared.schedule.ScheduleWord.TheVariants.{Turn, Collect, Slice}
use Rattle.semantics.specs.Schedule.{Schedule}
use Rattle.sinks.specs.Sink as sink
use Rattle.sinks.specs.Sink.{Written}
use Rattle.semantics.specs.World.{World, loaded_objects}
use Rattle.report.specs.RunText as run_text
use Rattle.semantics.specs.Report.{ThreadStanding, ShownRow}
use Rattle.semantics.specs.ReportOf.{shown, shown_row, standing_of}
use Rattle.semantics.specs.Heap.{Heap, next_name}
use Rattle.report_objects.specs.Rows.{AreReported}
use Rattle.heap.specs.Heap.{left_of}
use Rattle.heap.specs.Marks.{Marks}
use Rattle.compact.specs.Slices.{slice_size}
use Rattle.heap.specs.Layout.{Extent, Layout, layout_of, top_of}
use Rattle.semantics.specs.Object.{Object, sizes}
use Rattle.semantics.specs.Reachable.{live_size, Reachable}
use Rattle.semantics.specs.Run.{replay, made, Follows, MarkedAreFair, UnmarkedFit}
use Rattle.semantics.specs.State.{State, copied, thread_at, views}
use Rattle.semantics.specs.ThreadStep.{thread_step}
use Rattle.semantics.specs.Step.{can_step, is_blocked, is_live, is_unfinished}
use Rattle.semantics.specs.Thread.{Thread as SourceThread}
use Rattle.semantics_safety.specs.Owners.{owners_after}
use Rattle.semantics_safety.specs.StepSafe.{IsSafe}
use Rattle.semantics_typing.specs.Law.{RunsTyped}
use Rattle.code.specs.Depth.{Listing}
use Rattle.code_meaning.specs.Lowered.{Lowered, IsLowered}
use Rattle.machine_threads.specs.declared.thread.Thread.{Thread}
use Rattle.semantics.specs.declared.event.Ending.TheVariants.{Unfinished}
use Rattle.machine_steps.specs.declared.advance.Advanced.{Advanced}
use Rattle.machine_steps.specs.declared.advance.Advanced.TheVariants as advanced
use Rattle.semantics.specs.declared.event.Event.{Event}
use Rattle.semantics.specs.declared.event.Event.TheVariants as event
use Rattle.machine.specs.declared.fault.ReportFault.{ReportFault}
use Rattle.machine.specs.declared.fault.ReportFault.TheVariants as reporting
use Rattle.machine.specs.declared.fault.RunFault.{RunFault}
use Rattle.machine.specs.declared.fault.RunFault.TheVariants as running
use Rattle.machine.specs.declared.turn.Turn.{Turn as Answer}
use Rattle.machine.specs.declared.turn.Turn.TheVariants as turn
use Rattle.machine.specs.Writing.{Writing}
use Rattle.semantics.specs.declared.event.Stop.{Stop}
use Rattle.machine_threads.specs.Callers.{owner_at}
use Rattle.machine_scenes.specs.declared.activation.Activation.{Activation}
use Rattle.machine_scenes.specs.declared.store.Store.{Store}
use Rattle.machine_scenes.specs.Buffers.{Acquired}
use Rattle.machine_scenes.specs.StoreAgrees.{StoreAgrees}
use Rattle.machine_steps.specs.Advances.{AdvancesAlways, HoldsAlways}
use Rattle.machine_steps.specs.Executes.{cells_made, in_use_with}
use Rattle.machine_threads.specs.Callers.{beside_callers}
use Rattle.machine_threads.specs.ThreadAgrees.{ThreadsAgree}
use Rattle.machine_collections.specs.Clearing.{AreCleared, clearing_of}
use Rattle.machine_collections.specs.Kept.{AreNotKept, HoldReachable}
use Rattle.machine_collections.specs.Moving.{AreCollected}
use Rattle.machine_collections.specs.Packing.{IsPacked, RiseFrom}
use Rattle.machine_scenes.specs.Layouts.{laid_from, with_objects}
use Rattle.semantics.specs.EventViews.{stop_view}

-- a program's items, the world, what the run did, the extents of the heap's blocks, and how many slices the marking that is under way has
-- had, if one is
pub record Run : Type 0 where
  pub unit : List Item
  pub world : World
  pub journal : List Entry
  pub layout : Layout
  pub slices : Option ℕ

-- the cells after the highest block
abbrev pub cells_left : Run → ℕ
cells_left r = r.world.cells - top_of r.layout

-- the cells that all blocks take
abbrev pub cells_taken : Run → ℕ
cells_taken r = sum_by (λ (e : Extent). e.size) r.layout

-- the state that the journal leads to
abbrev pub replay_of : Run → Option State
replay_of r = replay (unit_tree r.unit) r.world r.journal

-- a run of this program on this world before its first step: the objects that it begins with lie one after another from the lowest cell on
pub record IsUnstarted (unit : List Item) (world : World) (r : Run) : Type 0 where
  pub of_unit : r.unit ≡ unit
  pub on_world : r.world ≡ world
  pub unstarted : r.journal ≡ []
  pub laid : r.layout ≡ laid_from 1 0 (loaded_objects world)
  pub unmarked : r.slices ≡ None

-- what the buffers of all threads take
abbrev pub acquired : State → Acquired
acquired s = record { copied = copied s; viewed = views s }

-- how many slices a marking has had, which marks as many objects in each
abbrev pub slices_of : Option Marks → Option ℕ
slices_of marking = option_map (λ (m : Marks). m.marked / slice_size) marking

-- The machine stands for the state that its journal leads to.
pub record Corresponds (p : Lowered) (world : World) (store : Store) (threads : List Thread) (printed : List Printed)
    (stop : Option Stop) (journal : List Entry) : Type 0 where
  pub lowered : IsLowered p
  -- no step of an accepted unit does what JNI leaves undefined
  pub safe : IsSafe (unit_tree p.unit) world
  -- and its objects are typed
  pub typed : RunsTyped (unit_tree p.unit) world
  -- where methods are allowed, their exception is there
  pub methods : world.methods ≡ true → HasMethodError world.classes
  pub state : State
  pub replays : replay (unit_tree p.unit) world journal ≡ Some state
  pub store_agrees : StoreAgrees p world store state.shared (acquired state)
  pub threads_agree : ThreadsAgree p world.classes store.heap store.elements (length (loaded_objects world))
      (owners_after (unit_tree p.unit) world journal) 1 state.shared threads state.threads
  pub same_printed : state.printed ≡ printed
  pub same_stop : state.stop ≡ option_map stop_view stop
  -- fewer objects were made at load than a heap has cells, and each step makes two at most
  pub born : store.births ≤ most_cells + 2 * steps_in journal
  -- the steps that made objects had room, and those whose allocation was refused had none
  pub fits : UnmarkedFit (unit_tree p.unit) world journal
  pub fair : MarkedAreFair (unit_tree p.unit) world journal
  pub count : length threads ≡ length world.threads
  pub few : length threads ≤ 8
  -- a marking that is under way has marked a slice's number of objects in each of its slices
  pub sliced : IfSome store.heap.marking (λ m. m.marked ≡ slice_size * (m.marked / slice_size))

-- what a step lets others see; a refused allocation nothing
abbrev pub event_of : Advanced → Event
event_of (advanced.Did e) = e
event_of advanced.Refused = event.Quiet

-- its step makes objects for which too few cells are left
abbrev pub LacksRoom : Lowered → World → (k : ℕ) → Store → Thread → Type 0
LacksRoom p w k store t = HoldsAlways p w k store t (λ others own shared s. left_of store.heap < cells_made shared
    (thread_step (unit_tree p.unit) w.classes (in_use_with (beside_callers others s) s) k shared s false))

-- The thread at a place hasn't ended and doesn't wait, in a store and threads that stand for the state that a journal leads to, and no trap
-- has stopped the machine.
pub record CanAdvance (p : Lowered) (w : World) (store : Store) (threads : List Thread) (index : ℕ) : Type 0 where
  pub printed : List Printed
  pub stop : Option Stop
  pub journal : List Entry
  pub stands : Corresponds p w store threads printed stop journal
  pub goes : stop ≡ None
  pub thread : Thread
  pub at : slice_get threads index ≡ Some thread
  pub lives : thread.ending ≡ Unfinished
  pub ready : is_blocked w.classes stands.state (suc index) ≡ false

-- a step began with the store and the threads as they were; its allocation wasn't refused then
pub record IsAsItWas (store : Store) (threads : List Thread) (between : Store) (among : List Thread) (cleared : List ℕ) (x : Advanced) : Type 0 where
  pub same_store : between ≡ store
  pub same_threads : among ≡ threads
  pub none : cleared ≡ []
  pub did : x ≢ advanced.Refused

-- or with what a collection left of them, which there was as its objects had no room; it cleared the weak references to these objects
pub record IsAfterCollection (p : Lowered) (w : World) (store : Store) (threads : List Thread) (index : ℕ) (between : Store)
    (among : List Thread) (cleared : List ℕ) : Type 0 where
  pub lacks : (t : Thread) → slice_get threads index ≡ Some t → LacksRoom p w (suc index) store t
  pub collected : AreCollected store threads between among
  pub unmarked : between.heap.marking ≡ None
  pub clears : AreCleared store.heap store.statics.items store.weaks between.weaks cleared

-- the thread at a place took its step, with a collection before it, which cleared the weak references to these objects, or without one
pub record AdvancesFrom (p : Lowered) (w : World) (store : Store) (threads : List Thread) (index : ℕ) (after : Store)
    (later : List Thread) (cleared : List ℕ) (x : Advanced) : Type 0 where
  pub between : Store
  pub among : List Thread
  pub is : IsAsItWas store threads between among cleared x ⊎ IsAfterCollection p w store threads index between among cleared
  pub old : Thread
  pub new : Thread
  pub at : slice_get among index ≡ Some old
  pub advances : AdvancesAlways p w (suc index) between after old new x
  pub follow : later ≡ slice_set among index new

-- it took its step, and the journal goes on with the clearing of a collection before it, if there was one, and has memory for the step
pub record AdvancesAndNotes (p : Lowered) (w : World) (store : Store) (threads : List Thread) (index : ℕ) (journal : Writing) (after : Store)
    (later : List Thread) (noted : Writing) (x : Advanced) : Type 0 where
  pub cleared : List ℕ
  pub advances : AdvancesFrom p w store threads index after later cleared x
  pub entries : noted.entries ≡ journal.entries ++ clearing_of cleared
  pub room : 0 < noted.room

-- what a step changes: the store, the threads, and the journal as it is written
pub record StepState : Type 0 where
  pub store : Store
  pub threads : List Thread
  pub journal : Writing

abbrev pub step_state : Store → List Thread → Writing → StepState
step_state store threads journal = record { store = store; threads = threads; journal = journal }

abbrev pub StepsAndNotes : Lowered → World → (index : ℕ) → (before after : StepState) → Advanced → Type 0
StepsAndNotes p w index before after x =
    AdvancesAndNotes p w before.store before.threads index before.journal after.store after.threads after.journal x

-- whether its allocation was refused
abbrev pub is_refused : Advanced → Bool
is_refused (advanced.Did e) = false
is_refused advanced.Refused = true

-- ---- turns

-- a fact of the state that the journal leads to
abbrev pub InState : Run → (State → Type 0) → Type 0
InState r P = (s : State) × (replay_of r ≡ Some s) × P s

-- whether thread k can step in a state of the run
abbrev pub can_turn : Run → State → ℕ → Bool
can_turn r s k = can_step r.world.classes s k

-- thread k has ended, and no trap has stopped the machine
pub record HasEnded (s : State) (k : ℕ) : Type 0 where
  pub running : s.stop ≡ None
  pub thread : SourceThread
  pub is : thread_at s k ≡ Some thread
  pub ended : is_unfinished thread.ending ≡ false

-- a thread, its number with it, has ended or waits for a monitor
abbrev pub is_resting : Classes → State → ℕ × SourceThread → Bool
is_resting classes s t = not (is_unfinished t.1.ending) || is_blocked classes s t.0

-- each thread has ended or waits
abbrev pub all_rest : Classes → State → Bool
all_rest classes s = list_all (is_resting classes s) (enumerate_from 1 s.threads)

-- a trap has stopped the machine, or each thread has ended or waits for a monitor
abbrev pub is_finished : Classes → State → Bool
is_finished classes s = is_some s.stop || all_rest classes s

-- no trap has stopped the machine, and thread k waits for a monitor; whether each thread that hasn't ended waits
pub record IsWaiting (classes : Classes) (s : State) (k : ℕ) (all : Bool) : Type 0 where
  pub running : s.stop ≡ None
  pub waits : is_blocked classes s k ≡ true
  pub others : all ≡ is_finished classes s

-- a step of thread k
abbrev pub entry_of : ℕ → Entry
entry_of k = Step k false

-- a step of thread k whose allocation was refused
abbrev pub refused_entry_of : ℕ → Entry
refused_entry_of k = Step k true

-- the objects that thread k's next step makes in a state, if nothing is refused
abbrev pub makes : Run → State → ℕ → List Object
makes r s k = made (unit_tree r.unit) r.world s k

-- the run with a step of thread k more, from a state: the blocks of what it makes lie behind the others
abbrev pub stepped : Run → State → ℕ → Run
stepped r s k = record r { journal = r.journal ++ entry_of k ∷ []; layout = with_objects r.layout (next_name s.shared.heap) (makes r s k) }

-- the same with a step whose allocation was refused, which makes nothing
abbrev pub refused : Run → ℕ → Run
refused r k = record r { journal = r.journal ++ refused_entry_of k ∷ [] }

-- thread k can step, and the journal has room for the step
abbrev pub CouldStep : Run → ℕ → Type 0
CouldStep r k = (steps_in r.journal < most_entries) × InState r (λ s. can_turn r s k ≡ true)

-- thread k has not ended, no trap has stopped the machine, and the journal has room for a step: it can step where it doesn't wait
abbrev pub IsReady : Run → ℕ → Type 0
IsReady r k = (steps_in r.journal < most_entries) × InState r (λ s. (s.stop ≡ None) × (is_live (thread_at s k) ≡ true))

-- the turn that was this step
abbrev pub turn_after : Advanced → Answer
turn_after (advanced.Did e) = turn.Stepped
turn_after advanced.Refused = turn.Short

-- for what a step of thread k makes enough cells are left
abbrev pub HasRoom : Run → ℕ → Type 0
HasRoom r k = InState r (λ s. sizes (makes r s k) ≤ cells_left r)

-- or too few
abbrev pub HasNoRoom : Run → ℕ → Type 0
HasNoRoom r k = InState r (λ s. cells_left r < sizes (makes r s k))

-- What a collection leaves, which gives up a marking that is under way. The journal goes on with the one clearing of all that is lost, and with no entry where nothing is. The blocks are
-- those of what can be reached; those that are viewed stay, and the others have the lowest cells. So no fewer cells are left, and where nothing
-- is viewed all but those of these blocks.
pub record IsCollected (old new : Run) : Type 0 where
  pub state : State
  pub replays : replay_of old ≡ Some state
  pub same : new ≡ record old { journal = old.journal ++ clearing_of (lost old.world state); layout = new.layout; slices = None }
  pub packed : IsPacked (Reachable old.world state) (Contains (views state)) old.layout new.layout
  pub more : cells_left old ≤ cells_left new
  pub live : cells_taken new ≡ live_size old.world state
  pub tight : views state ≡ [] → cells_left new ≡ old.world.cells - live_size old.world state
  -- and a thread waits for a monitor exactly where it did
  pub waits : (k : ℕ) → is_blocked old.world.classes (with_cleared (lost old.world state) state) k ≡ is_blocked old.world.classes state k

-- ---- slices of a marking

-- how many slices a marking has had; none where none is under way
abbrev pub slices_before : Run → ℕ
slices_before r = option_map_or (λ n. n) r.slices 0

-- a slice let the marking go on, or began one that goes on: nothing else has changed
abbrev pub MarkingGoesOn : (old new : Run) → Type 0
MarkingGoesOn old new = new ≡ record old { slices = Some (suc (slices_before old)) }

-- an object has a block there
abbrev pub HasBlock : Layout → ℕ → Type 0
HasBlock layout n = Contains (map (λ (e : Extent). e.name) layout) n

-- What the slice leaves that ends a marking: the blocks of what the marking keeps, which are no fewer than it has marked, and which hold all
-- that can be reached. What is viewed stays, and the others have the lowest cells. The journal goes on with the one clearing of what is held
-- weakly and isn't kept, and with no entry where nothing is.
pub record MarkingEnds (old new : Run) : Type 0 where
  pub state : State
  pub replays : replay_of old ≡ Some state
  pub holds : HoldReachable old.world state (HasBlock new.layout)
  pub packed : IsPacked (HasBlock new.layout) (Contains (views state)) old.layout new.layout
  pub many : slice_size * slices_before old ≤ length new.layout
  pub more : cells_left old ≤ cells_left new
  pub names : List ℕ
  pub cleared : AreNotKept state (HasBlock new.layout) names
  pub same : new ≡ record old { journal = old.journal ++ clearing_of names; layout = new.layout; slices = None }
  -- and a thread waits for a monitor exactly where it did
  pub waits : (k : ℕ) → is_blocked old.world.classes (with_cleared names state) k ≡ is_blocked old.world.classes state k

-- what a slice leaves, by whether a marking is under way after it
abbrev pub IsSlicedBy : Option ℕ → (old new : Run) → Type 0
IsSlicedBy None old new = MarkingEnds old new
IsSlicedBy (Some n) old new = MarkingGoesOn old new

abbrev pub IsSliced : (old new : Run) → Type 0
IsSliced old new = IsSlicedBy new.slices old new

-- as each run of a machine is: its blocks lie by rising addresses, none over another, and what is viewed can be reached
pub record IsOrderly (r : Run) : Type 0 where
  pub state : State
  pub replays : replay_of r ≡ Some state
  pub rising : RiseFrom 0 r.layout
  pub viewed : (e : Extent) → Contains r.layout e → Contains (views state) e.name → Reachable r.world state e.name

-- what a collection leaves is determined by what was there
abbrev pub CollectionsHaveOneOutcome : Type 0
CollectionsHaveOneOutcome = (old new other : Run) → IsOrderly old → IsCollected old new → IsCollected old other → new ≡ other

-- a step of thread k finds room at once, or where it has none after a collection
abbrev pub FindsRoom : Run → ℕ → (mid : Run) → Type 0
FindsRoom old k mid = ((mid ≡ old) × HasRoom old k) ⊎ (HasNoRoom old k × IsCollected old mid × HasRoom mid k)

-- or it has none after a collection either
pub record FindsNoRoom (old : Run) (k : ℕ) (mid : Run) : Type 0 where
  pub first : HasNoRoom old k
  pub collected : IsCollected old mid
  pub still : HasNoRoom mid k

-- what a turn of thread k was
abbrev pub TurnHolds : Run → ℕ → Run → Answer → Type 0
TurnHolds old k new turn.Stopped = (new ≡ old) × InState old (λ s. IsSome s.stop)
TurnHolds old k new turn.Ended = (new ≡ old) × InState old (λ s. HasEnded s k)
TurnHolds old k new (turn.Blocked all) = (new ≡ old) × InState old (λ s. IsWaiting old.world.classes s k all)
TurnHolds old k new turn.Full = (new ≡ old) × (most_entries ≤ steps_in old.journal) × InState old (λ s. can_turn old s k ≡ true)
TurnHolds old k new turn.Short = CouldStep old k × ((mid : Run) × FindsNoRoom old k mid × (new ≡ refused mid k))
TurnHolds old k new turn.Stepped = CouldStep old k × ((mid : Run) × FindsRoom old k mid × InState mid (λ s. new ≡ stepped mid s k))

-- the turn of a thread that has no step to take: the machine has stopped, or the thread has ended
abbrev pub turn_at_rest : (stopped unfinished : Bool) → Option Answer
turn_at_rest true unfinished = Some turn.Stopped
turn_at_rest false false = Some turn.Ended
turn_at_rest false true = None

-- whether thread k waits for a monitor
abbrev pub Waits : Run → (k : ℕ) → Bool → Type 0
Waits r k answer = InState r (λ s. answer ≡ is_blocked r.world.classes s k)

-- whether each thread has ended or waits
abbrev pub AllRest : Run → Bool → Type 0
AllRest r answer = InState r (λ s. answer ≡ all_rest r.world.classes s)

-- the numbers printed so far
abbrev pub PrintedBy : Run → List Printed → Type 0
PrintedBy r printed = InState r (λ s. printed ≡ s.printed)

-- ---- runs

-- a word of a schedule that gives no step of the run
abbrev pub GivesNoStep : Run → ScheduleWord → Type 0
GivesNoStep r Collect = InState r (λ s. Unit {0})
GivesNoStep r Slice = InState r (λ s. Unit {0})
GivesNoStep r (Turn k) = InState r (λ s. can_turn r s k ≡ false)

-- a word of a schedule that is the turn of a thread that can step
abbrev pub GivesStep : Run → ScheduleWord → Type 0
GivesStep r Collect = ⊥
GivesStep r Slice = ⊥
GivesStep r (Turn k) = InState r (λ s. can_turn r s k ≡ true)

-- A word at which a run ends by a fault: the turn of a thread that can step, where the journal is full or where it has room and memory
-- was refused, or a collection or a slice that memory was refused to.
abbrev pub EndsAt : Run → RunFault → ScheduleWord → Type 0
EndsAt r running.Full word = (most_entries ≤ steps_in r.journal) × GivesStep r word
EndsAt r running.Memory Collect = Unit {0}
EndsAt r running.Memory Slice = Unit {0}
EndsAt r running.Memory (Turn k) = (steps_in r.journal < most_entries) × GivesStep r (Turn k)

-- A word of a schedule was taken: a collection was made, or a slice of a marking; a turn was the step of its thread, or gave none where the thread couldn't take it.
abbrev pub IsTaken : Run → ScheduleWord → Run → Type 0
IsTaken old Collect new = IsCollected old new
IsTaken old Slice new = IsSliced old new
IsTaken old (Turn k) new = ((new ≡ old) × GivesNoStep old (Turn k)) ⊎ (TurnHolds old k new turn.Stepped ⊎ TurnHolds old k new turn.Short)

-- the words of a schedule were taken, one after another
pub data AreTaken : Run → Schedule → Run → Type 0 where
  NoWord : (r : Run) → AreTaken r [] r
  Taken : (old mid new : Run) (word : ScheduleWord) (words : Schedule) → IsTaken old word mid → AreTaken mid words new → AreTaken old (word ∷ words) new

-- The words of the schedule were taken, and what was done follows it.
pub record RunsAlong (old new : Run) (schedule : Schedule) : Type 0 where
  pub taken : AreTaken old schedule new
  pub same_unit : new.unit ≡ old.unit
  pub same_world : new.world ≡ old.world
  pub steps : List Entry
  pub journal : new.journal ≡ old.journal ++ steps
  pub before : State
  pub replays : replay_of old ≡ Some before
  pub after : State
  pub follows : Follows (unit_tree old.unit) old.world before steps schedule after

-- The run of a machine with this journal.
abbrev pub seen : Lowered → World → Store → List Entry → Run
seen p w store journal = record { unit = p.unit; world = w; journal = journal; layout = layout_of store.heap; slices = slices_of store.heap.marking }

-- Thread k, the one at a place among those of a machine with this journal, has not ended, and no trap has stopped the machine.
pub record CanGoOn (p : Lowered) (w : World) (store : Store) (threads : List Thread) (index : ℕ)
    (printed : List Printed) (journal : List Entry) (k : ℕ) (thread : Thread) : Type 0 where
  pub stands : Corresponds p w store threads printed None journal
  pub number : k ≡ suc index
  pub at : slice_get threads index ≡ Some thread
  pub lives : thread.ending ≡ Unfinished

-- and this call of it is in progress, in a function of this code, with this exception pending, or none; what the call copies has this owner
pub record CanGoOnIn (p : Lowered) (w : World) (store : Store) (threads : List Thread) (index : ℕ) (printed : List Printed)
    (journal : List Entry) (k : ℕ) (thread : Thread) (code : Listing) (call : Activation) (pending : Option ℕ) (owner : ℕ) : Type 0 where
  pub goes_on : CanGoOn p w store threads index printed journal k thread
  pub in_progress : thread.call ≡ Some call
  pub of_function : slice_get p.codes call.function ≡ Some code
  pub pending_is : thread.pending ≡ pending
  pub owner_is : owner ≡ owner_at k (length thread.callers.items)

-- it took so many turns, each with a step that changed no other thread, and printed nothing
pub record WentOn (p : Lowered) (w : World) (first store : Store) (threads : List Thread) (index : ℕ) (printed : List Printed)
    (old : List Entry) (k turns : ℕ) (after : Thread) (stop : Option Stop) (journal : List Entry) : Type 0 where
  pub stands : Corresponds p w store (slice_set threads index after) printed stop journal
  pub along : RunsAlong (seen p w first old) (seen p w store journal) (replicate turns (Turn k))

-- the steps of a beginning of the schedule were taken, and the next word is one at which a run ends by this fault
pub record RunsInto (old new : Run) (schedule : Schedule) (fault : RunFault) : Type 0 where
  pub taken : Schedule
  pub next : ScheduleWord
  pub left : Schedule
  pub is : schedule ≡ taken ++ next ∷ left
  pub along : RunsAlong old new taken
  pub ends : EndsAt new fault next

-- ---- the end

-- the trap that stopped the run, as it is held in memory
abbrev pub StoppedBy : Run → Option Stop → Type 0
StoppedBy r stop = InState r (λ s. s.stop ≡ option_map stop_view stop)

-- whether no thread can take a step any more
abbrev pub IsFinished : Run → Bool → Type 0
IsFinished r answer = InState r (λ s. answer ≡ is_finished r.world.classes s)

-- ---- reports

-- the standing of each thread
abbrev pub standings_in : Classes → State → List ThreadStanding
standings_in classes s = map (λ (t : ℕ × SourceThread). standing_of classes s t.0 t.1 s.stop) (enumerate_from 1 s.threads)

-- these are the standings of the threads
abbrev pub ShowsStandings : Run → List ThreadStanding → Type 0
ShowsStandings r standings = InState r (λ s. standings ≡ standings_in r.world.classes s)

-- the rows of the objects that are shown of the state that the journal leads to
abbrev pub ShowsObjects : Run → List ShownRow → Type 0
ShowsObjects r rows = InState r (λ s. rows ≡ map (shown_row r.world.classes s.shared.heap) (shown r.world s))

-- the objects that these names lead to, beside those made at load, are those that are shown
abbrev pub AreShown : Run → Heap → (names : List ℕ) → Type 0
AreShown r objects names = (rows : List ShownRow) → AreReported r.world.classes objects (length (loaded_objects r.world)) names rows → ShowsObjects r rows

-- what a run writes in all was written, or a beginning of it
pub record WritesRun {T E : Type 0} (r : Run) (old new : Written) (result : Result T E) : Type 0 where
  pub text : List ℕ
  pub is : run_text.Writes (unit_tree r.unit) r.world r.journal text
  pub fits : UnmarkedFit (unit_tree r.unit) r.world r.journal
  pub fair : MarkedAreFair (unit_tree r.unit) r.world r.journal
  pub written : sink.Writes old new result text

-- nothing was written where memory was refused, and else what the run writes in all, or a beginning of it
abbrev pub ReportsRun : {T : Type 0} → Run → Written → Written → Result T ReportFault → Type 0
ReportsRun {T = T} r old new (Ok x) = WritesRun {T = T} {E = ReportFault} r old new (Ok x)
ReportsRun r old new (Err reporting.Memory) = new ≡ old
ReportsRun {T = T} r old new (Err reporting.Sink) = WritesRun {T = T} {E = ReportFault} r old new (Err reporting.Sink)
