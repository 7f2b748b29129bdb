-- A step of the machine is a step of the state that its journal leads to.
use Rattle.std.proofs.Common.{◌≡◌, ℕ, suc, ◌<◌, ◌≤◌, ◌-◌, Bool, true, false, List, [], ◌∷◌, ◌++◌, ◌+◌, get_or, length, drop, arith, inl, inr, Option, Some, None, refl, sym, ap, ◌∙◌, subst}
use Rattle.std.specs.Prelude.{slice_get, slice_set, is_none, is_some, not, ◌&&◌}
use Rattle.std.specs.Option.{option_map}
use Rattle.std.proofs.Math.ListN.{length-set}
use Rattle.std.proofs.lemmas.Option.{slice_get_read, slice_get_within}
use Rattle.syntax.specs.Views.{unit_tree}
use Rattle.class_rules.specs.Class.{Classes}
use Rattle.semantics.specs.Journal.{Entry, Step}
use Rattle.semantics.specs.declared.printed.Printed.{Printed}
use Rattle.semantics.specs.World.{World, loaded_objects}
use Rattle.semantics.specs.State.{State, thread_at, set_thread, in_use, views, with_event}
use Rattle.semantics.specs.State.{advanced as advanced_to}
use Rattle.semantics.specs.Step.{can_step, is_blocked, is_unfinished, is_waiting, turn_step}
use Rattle.semantics.specs.Step.{is_live as is_live_thread}
use Rattle.semantics.proofs.Endings.{unfinished}
use Rattle.semantics.specs.State as state
use Rattle.std.proofs.lemmas.Bool.{false≢true}
use Rattle.semantics.specs.ThreadStep.{thread_step, waits}
use Rattle.semantics.specs.Thread as source
use Rattle.semantics.specs.Thread.{BuffersInUse, Shared}
use Rattle.semantics.proofs.RunLaws.{replay_more, each-more}
use Rattle.semantics.specs.Run.{Fits, FitsUnmarked, IsFair, IsFairMarked, made, made_between}
use Rattle.semantics.specs.Object.{sizes}
use Rattle.semantics.specs.Reachable.{live_size, Reachable}
use Rattle.machine_scenes.specs.HeapAgrees.{IsNamed}
use Rattle.machine.proofs.Reports.{reachable_there}
use Rattle.semantics.specs.Start.{start}
use Rattle.semantics.proofs.StepLaws.{Steps, steps, step-thread}
use Rattle.heap.specs.Heap.{left_of}
use Rattle.heap.specs.Layout.{layout_of}
use Rattle.semantics.specs.Heap.{next_name}
use Rattle.machine_scenes.specs.Layouts.{with_objects}
use Rattle.heap.proofs.Layouts.{ends_within}
use Rattle.machine_collections.proofs.LiveBlocks.{live_below}
use Rattle.code_meaning.specs.Lowered.{Lowered}
use Rattle.semantics.specs.declared.event.Ending.{Ending}
use Rattle.semantics.specs.declared.event.Ending.TheVariants.{Unfinished, Ended, Uncaught}
use Rattle.semantics.specs.declared.event.Event.{Event}
use Rattle.semantics.specs.declared.event.Event.TheVariants as event
use Rattle.machine_threads.specs.declared.thread.Thread.{Thread}
use Rattle.semantics.specs.declared.event.Stop.{Stop}
use Rattle.semantics.specs.EventViews.{printed_after, stop_after, stop_view}
use Rattle.machine_scenes.specs.declared.store.Store.{Store}
use Rattle.machine_steps.specs.Executes.{IsSteady, cells_made, in_use_with}
use Rattle.machine_scenes.specs.Buffers.{Acquired, SameAcquired, acquired_by, beside}
use Rattle.machine_scenes.specs.StoreAgrees.{StoreAgrees}
use Rattle.machine_threads.specs.Callers.{beside_callers}
use Rattle.machine_threads.specs.ThreadAgrees.{ThreadAgrees, ThreadsAgree}
use Rattle.machine_steps.specs.Advances.{Advances, AdvancesAlways, HoldsAlways, Stands, StepsFreely}
use Rattle.machine_steps.specs.Moved.{IsSilent}
use Rattle.machine_steps.specs.declared.advance.Advanced.{Advanced}
use Rattle.machine_steps.specs.declared.advance.Advanced.TheVariants as advanced
use Rattle.machine.specs.Run.{Run, acquired, Corresponds, LacksRoom, event_of, is_refused, turn_at_rest, HasEnded, slices_of}
use Rattle.machine.proofs.Slices.{evenly_stays, slices_stay}
use Rattle.machine.proofs.KeptThreads.{changed}
use Rattle.machine.proofs.TakenBuffers.{in_use_same, joined, others, own_viewed, parted, taken}
use Rattle.machine_steps.proofs.Acquisitions.{store_taken}
use Rattle.semantics_typing.specs.Objects.{IsTypedThread}
use Rattle.semantics_typing.proofs.Lists.{all_get}
use Rattle.machine.proofs.Notes.{steps_more}
use Rattle.machine.proofs.OwnerSteps.{Found, found, owner_elsewhere, owner_here, owners_stepped}
use Rattle.semantics_safety.specs.Owners.{AllOwners, ThreadOwners, after_advance, owners_after, with_owners}

-- ---- what a step changes

-- the state after a step of thread k
abbrev pub next_state : State → ℕ → Shared → source.Thread → Event → State
next_state s k shared t e = with_event (record s { shared = shared; threads = set_thread s.threads k t }) k e

printed_next : (s : State) (k : ℕ) (shared : Shared) (t : source.Thread) (e : Event) → (next_state s k shared t e).printed ≡ printed_after s.printed k e
printed_next s k shared t event.Quiet = refl
printed_next s k shared t (event.PrintedNumber z) = refl
printed_next s k shared t (event.Trapped trap line) = refl

stop_next : (s : State) (k : ℕ) (shared : Shared) (t : source.Thread) (e : Event) (stop : Option Stop) → s.stop ≡ option_map stop_view stop → (next_state s k shared t e).stop ≡ option_map stop_view (stop_after stop k e)
stop_next s k shared t event.Quiet stop h = h
stop_next s k shared t (event.PrintedNumber z) stop h = h
stop_next s k shared t (event.Trapped trap line) stop h = refl

shared_next : (s : State) (k : ℕ) (shared : Shared) (t : source.Thread) (e : Event) → (next_state s k shared t e).shared ≡ shared
shared_next s k shared t event.Quiet = refl
shared_next s k shared t (event.PrintedNumber z) = refl
shared_next s k shared t (event.Trapped trap line) = refl

threads_next : (s : State) (k : ℕ) (shared : Shared) (t : source.Thread) (e : Event) → (next_state s k shared t e).threads ≡ set_thread s.threads k t
threads_next s k shared t event.Quiet = refl
threads_next s k shared t (event.PrintedNumber z) = refl
threads_next s k shared t (event.Trapped trap line) = refl

-- thread k took this step, whatever state it stands for
abbrev pub StepsAlways : Lowered → World → (k : ℕ) → (store store' : Store) → Thread → Thread → (refused : Bool) → Event → Type 0
StepsAlways p w k store store' t after refused e = HoldsAlways p w k store t (λ others own shared s. Advances p w store store' others k own shared s after refused e)

-- what prints nothing
pub none_printed : (printed : List Printed) (k : ℕ) (e : Event) → IsSilent e → printed_after printed k e ≡ printed
none_printed printed k event.Quiet h = refl
none_printed printed k (event.PrintedNumber z) h = absurd h
none_printed printed k (event.Trapped trap line) h = refl

-- ---- where a step is taken

-- the machine hasn't stopped
pub not_stopped : (o : Option Stop) → is_some o ≡ false → o ≡ None
not_stopped None h = refl
not_stopped (Some x) h = absurd (cc)

-- the machine has stopped where the state has
stops_not : (o : Option Stop) (s : Option state.Stop) → s ≡ option_map stop_view o → is_some s ≡ false → is_some o ≡ false
stops_not None s same h = refl
stops_not (Some x) s same h = ap is_some (sym same) ∙ h

-- a thread that can step goes on and waits for nothing, and nothing has stopped
pub can_parts : (classes : Classes) (s : State) (k : ℕ) → can_step classes s k ≡ true → (is_some s.stop ≡ false) × (is_live_thread (thread_at s k) ≡ true) × (is_blocked classes s k ≡ false)
can_parts classes s k h = parts s.stop (is_live_thread (thread_at s k)) (is_blocked classes s k) h
  where
    parts : (o : Option state.Stop) (a b : Bool) → (is_none o && a && not b) ≡ true → (is_some o ≡ false) × (a ≡ true) × (b ≡ false)
    parts None true false h = (refl, refl, refl)
    parts None true true h = absurd (false≢true h)
    parts None false b h = absurd (false≢true h)
    parts (Some x) a b h = absurd (false≢true h)

-- a thread that isn't at rest and doesn't wait can step
pub can_awake : (classes : Classes) (s : State) (k : ℕ) → s.stop ≡ None → is_live_thread (thread_at s k) ≡ true → is_blocked classes s k ≡ false → can_step classes s k ≡ true
can_awake classes s k running live free = all s.stop (is_live_thread (thread_at s k)) (is_blocked classes s k) running live free
  where
    all : (o : Option state.Stop) (a b : Bool) → o ≡ None → a ≡ true → b ≡ false → (is_none o && a && not b) ≡ true
    all None true false e f g = refl
    all None true true e f g = absurd (cc)
    all None false b e f g = absurd (cc)
    all (Some x) a b e f g = absurd (cc)

pub none_held : (stopped unfinished : Bool) → turn_at_rest stopped unfinished ≡ None → (stopped ≡ false) × (unfinished ≡ true)
none_held true unfinished h = absurd (cc)
none_held false false h = absurd (cc)
none_held false true h = (refl, refl)

-- ---- room

-- a step that isn't refused has room beside what is reachable
has_room : (p : Lowered) (w : World) (store : Store) (s next : State) (k : ℕ) → StoreAgrees p w store s.shared (acquired s) → ((n : ℕ) → Reachable w s n → IsNamed store.heap n) → sizes (drop (length s.shared.heap) next.shared.heap) ≤ left_of store.heap → turn_step (unit_tree p.unit) w.classes s k false ≡ Some next → Fits (unit_tree p.unit) w s k
has_room p w store s next k shares named room step some =
    let made_now : made (unit_tree p.unit) w s k ≡ drop (length s.shared.heap) next.shared.heap = ap (made_between s) step in
    let live = live_below w s store.heap shares.heap.blocks shares.laid_out named in
    let within = ends_within 0 store.heap.blocks store.heap.cells shares.laid_out in
    let cells : store.heap.cells ≡ w.cells = shares.cells in
    let size_made : sizes (made (unit_tree p.unit) w s k) ≡ sizes (drop (length s.shared.heap) next.shared.heap) = ap sizes made_now in
    omega (arith, live, within, cells, size_made, room)

-- the cells of what a step makes
made_cells : (s : State) (k : ℕ) (a : source.Advance) → sizes (made_between s (advanced_to s k a)) ≡ cells_made s.shared a
made_cells s k (source.Advances shared t event.Quiet) = refl
made_cells s k (source.Advances shared t (event.PrintedNumber z)) = refl
made_cells s k (source.Advances shared t (event.Trapped trap line)) = refl
made_cells s k source.NoAdvance = refl

-- ---- thread k is the one at k - 1

pub thread_there : (ts : List Thread) (k n count : ℕ) (t : Thread) → n ≡ k → 0 < k → k ≤ count → length ts ≡ count → t ≡ get_or ts (n - 1) t → slice_get ts (n - 1) ≡ Some t
thread_there ts k n count t same low high long h = slice_get_read ts count (n - 1) t (sym long) (omega arith) h

pub counted_from : (k n : ℕ) → n ≡ k → 0 < k → k ≡ suc (n - 1)
counted_from k n same h = omega arith

-- how many threads there are
pub threads_of : (a b : Run) (threads : List Thread) → length threads ≡ length a.world.threads → a ≡ b → length threads ≡ length b.world.threads
threads_of a b threads h e = h ∙ ap (λ (r : Run). length r.world.threads) e

-- ---- thread k of the state that the journal leads to, which is the machine's at i

module _ (p : Lowered) (world : World) (store : Store) (ts : List Thread) (printed : List Printed) (stop : Option Stop) (journal : List Entry) (c : Corresponds p world store ts printed stop journal) (k i : ℕ) (t : Thread) (counted : k ≡ suc i) (at : slice_get ts i ≡ Some t) where
  abbrev pub classes : Classes
  classes = world.classes

  abbrev count_made : ℕ
  count_made = length (loaded_objects world)

  abbrev pub owners : AllOwners
  owners = owners_after (unit_tree p.unit) world journal

  placed : k ≡ 1 + i
  placed = omega (arith, counted)

  pub the_thread : Found p classes store.heap store.elements count_made c.state.shared k (owners k) t c.state.threads i
  the_thread = found p classes store.heap store.elements count_made c.state.shared owners 1 k ts c.state.threads i t placed c.threads_agree at

  there : thread_at c.state k ≡ Some the_thread.source
  there = ap (thread_at c.state) counted ∙ the_thread.is

  -- no step of it breaks what no accepted unit does
  pub steady : IsSteady (unit_tree p.unit) classes (owners k).current c.state.shared the_thread.source
  steady =
      let safe = c.safe journal c.state k the_thread.source c.replays there in
      let typed = c.typed.typed journal c.state c.replays in
      record {
        callers = safe.callers;
        view = λ task rest e held. safe.view task rest e (λ none. held (own_viewed the_thread.source none));
        return = safe.return;
        release = safe.release;
        free = safe.free;
        possible = safe.possible;
        objects = typed.heap;
        variables = (all_get (IsTypedThread classes c.state.shared.heap) c.state.threads i the_thread.source typed.variables the_thread.is).0;
        declared = safe.declared;
        owned = safe.owned;
        methods = λ line target args is. c.methods (c.typed.methods journal c.state k the_thread.source line target args c.replays there is);
        calls = safe.methods;
      }

  -- what the buffers of the other threads take
  abbrev pub rest : Acquired
  rest = others c.state.threads i

  -- what those of all do, by theirs and its own
  all_taken : SameAcquired (acquired c.state) (beside (beside_callers rest the_thread.source) (acquired_by the_thread.source))
  all_taken = parted c.state.threads i the_thread.source the_thread.is

  pub shared_agrees : StoreAgrees p world store c.state.shared (beside (beside_callers rest the_thread.source) (acquired_by the_thread.source))
  shared_agrees = store_taken p world store c.state.shared (acquired c.state) (beside (beside_callers rest the_thread.source) (acquired_by the_thread.source)) all_taken c.store_agrees

  pub stands : Stands p world store rest k (owners k) c.state.shared the_thread.source t
  stands = (shared_agrees, the_thread.agrees, steady)

  used : in_use c.state ≡ in_use_with (beside_callers rest the_thread.source) the_thread.source
  used = in_use_same (acquired c.state) (beside (beside_callers rest the_thread.source) (acquired_by the_thread.source)) all_taken

  -- the machine hasn't stopped
  running : stop ≡ None → c.state.stop ≡ None
  running goes = c.same_stop ∙ ap (option_map stop_view) goes

  abbrev Free : Type 0
  Free = is_blocked classes c.state k ≡ false

  -- whether it waits is whether its thread does
  pub waits_here : is_blocked classes c.state k ≡ waits classes k c.state.shared the_thread.source
  waits_here = ap (is_waiting classes k c.state.shared) there

  ready : Free → waits classes k c.state.shared the_thread.source ≡ false
  ready free = sym waits_here ∙ free

  steps_here : stop ≡ None → t.ending ≡ Unfinished → Free → Steps classes c.state k the_thread.source
  steps_here goes live free = steps classes c.state k the_thread.source (running goes) there (the_thread.agrees.ending ∙ live) (ready free)

  pub can_turn_here : stop ≡ None → t.ending ≡ Unfinished → Free → can_step classes c.state k ≡ true
  can_turn_here goes live free = (steps_here goes live free).can

  -- and the other way round
  pub can_go : can_step classes c.state k ≡ true → (stop ≡ None) × (t.ending ≡ Unfinished) × Free
  can_go can =
      let parts = can_parts classes c.state k can in
      let live : is_unfinished (the_thread.source).ending ≡ true = ap is_live_thread (sym there) ∙ parts.1 in (
        not_stopped stop (stops_not stop c.state.stop c.same_stop parts.0),
        unfinished t.ending (ap is_unfinished (sym the_thread.agrees.ending) ∙ live),
        parts.2,
      )

  is_over : (e : Ending) → (e ≡ Unfinished → ⊥) → is_unfinished e ≡ false
  is_over Unfinished h = absurd (h refl)
  is_over Ended h = refl
  is_over (Uncaught class) h = refl

  pub has_ended : stop ≡ None → (t.ending ≡ Unfinished → ⊥) → HasEnded c.state k
  has_ended goes ended = record { running = running goes; thread = the_thread.source; is = there; ended = ap is_unfinished the_thread.agrees.ending ∙ is_over t.ending ended }

  -- that it isn't at rest, by the state
  pub awake_here : stop ≡ None → t.ending ≡ Unfinished → (c.state.stop ≡ None) × (is_live_thread (thread_at c.state k) ≡ true)
  awake_here goes live = (running goes, ap is_live_thread there ∙ ap is_unfinished (the_thread.agrees.ending ∙ live))

  -- what is asked of the entry
  fits_entry : (refused : Bool) (next : State) → sizes (drop (length c.state.shared.heap) next.shared.heap) ≤ left_of store.heap → turn_step (unit_tree p.unit) classes c.state k refused ≡ Some next → FitsUnmarked (unit_tree p.unit) world c.state (Step k refused)
  fits_entry true next room step = tt
  fits_entry false next room step = has_room p world store c.state next k c.store_agrees (reachable_there p world store ts printed stop journal c) room step

  -- the cells of what its next step makes, if nothing is refused
  pub made_is : stop ≡ None → t.ending ≡ Unfinished → Free → sizes (made (unit_tree p.unit) world c.state k) ≡ cells_made c.state.shared (thread_step (unit_tree p.unit) classes (in_use_with (beside_callers rest the_thread.source) the_thread.source) k c.state.shared the_thread.source false)
  made_is goes live free =
      let f = the_thread in
      ap sizes (ap (made_between c.state) (step-thread (unit_tree p.unit) classes c.state k f.source false (steps_here goes live free)))
      ∙ made_cells c.state k (thread_step (unit_tree p.unit) classes (in_use c.state) k c.state.shared f.source false)
      ∙ ap (λ (u : BuffersInUse). cells_made c.state.shared (thread_step (unit_tree p.unit) classes u k c.state.shared f.source false)) used

  -- which are too many where the thread lacks room
  pub no_room_yet : stop ≡ None → t.ending ≡ Unfinished → Free → LacksRoom p world k store t → left_of store.heap < sizes (made (unit_tree p.unit) world c.state k)
  no_room_yet goes live free lacks = let cells = made_is goes live free in let less = lacks rest (owners k) c.state.shared the_thread.source shared_agrees the_thread.agrees steady (ready free) in omega (arith, less, cells)

  -- a step that was refused had no room for what it would have made
  no_room : (store' : Store) (after : Thread) → stop ≡ None → t.ending ≡ Unfinished → Free → StepsAlways p world k store store' t after true event.Quiet → (left_of store.heap < sizes (made (unit_tree p.unit) world c.state k)) × (store'.heap ≡ store.heap)
  no_room store' after goes live free advances =
      let f = the_thread in
      let a = advances rest (owners k) c.state.shared f.source shared_agrees f.agrees steady (ready free) in
      let short = a.short refl in
      let cells = made_is goes live free in
      (omega (arith, short.0, cells), short.1)

  -- what a step makes that wasn't refused had room, and lies behind the other blocks
  pub did_make : (store' : Store) (after : Thread) (e : Event) → stop ≡ None → t.ending ≡ Unfinished → Free → StepsAlways p world k store store' t after false e
      → (sizes (made (unit_tree p.unit) world c.state k) ≤ left_of store.heap) × (layout_of store'.heap ≡ with_objects (layout_of store.heap) (next_name c.state.shared.heap) (made (unit_tree p.unit) world c.state k))
      × (slices_of store'.heap.marking ≡ slices_of store.heap.marking)
  did_make store' after e goes live free advances =
      let f = the_thread in
      let a = advances rest (owners k) c.state.shared f.source shared_agrees f.agrees steady (ready free) in
      let step : turn_step (unit_tree p.unit) classes c.state k false ≡ Some (next_state c.state k a.next_shared a.next e) =
      step-thread (unit_tree p.unit) classes c.state k f.source false (steps_here goes live free) ∙ ap (λ (u : BuffersInUse). advanced_to c.state k (thread_step (unit_tree p.unit) classes u k c.state.shared f.source false)) used ∙ ap (advanced_to c.state k) a.steps in
      let objects : made (unit_tree p.unit) world c.state k ≡ drop (length c.state.shared.heap) a.next_shared.heap =
      ap (made_between c.state) step ∙ ap (λ (x : Shared). drop (length c.state.shared.heap) x.heap) (shared_next c.state k a.next_shared a.next e) in
      let room : sizes (drop (length c.state.shared.heap) a.next_shared.heap) ≤ left_of store.heap = a.keeps.room in
      (omega (arith, ap sizes objects, room), a.keeps.laid ∙ ap (with_objects (layout_of store.heap) (next_name c.state.shared.heap)) (sym objects), slices_stay store.heap.marking store'.heap.marking a.keeps.marking)

  -- where nothing is viewed, all cells are left but those of what can be reached
  abbrev AreLeft : Type 0
  AreLeft = views c.state ≡ [] → left_of store.heap ≡ world.cells - live_size world c.state

  -- so it was fair
  fair_entry : (store' : Store) (after : Thread) (refused : Bool) (e : Event) → stop ≡ None → t.ending ≡ Unfinished → Free → StepsAlways p world k store store' t after refused e → (refused ≡ true → e ≡ event.Quiet) → (refused ≡ true → AreLeft)
      → IsFairMarked (unit_tree p.unit) world c.state (Step k refused)
  fair_entry store' after false e goes live free advances quiet left = tt
  fair_entry store' after true e goes live free advances quiet left =
      let short = no_room store' after goes live free (subst (λ (x : Event). StepsAlways p world k store store' t after true x) (quiet refl) advances) in
      by_views (views c.state) refl short.0
    where
      by_views : (l : List ℕ) → views c.state ≡ l → left_of store.heap < sizes (made (unit_tree p.unit) world c.state k) → IsFair (unit_tree p.unit) world c.state k
      by_views [] none short = inl (omega (arith, short, left refl none))
      by_views (n ∷ l) some short = inr (λ none. let both : n ∷ l ≡ [] = sym some ∙ none in cc)

  -- the machine after the step
  pub steps_on : (store' : Store) (after : Thread) (refused : Bool) (e : Event) → stop ≡ None → t.ending ≡ Unfinished → Free → StepsAlways p world k store store' t after refused e → (refused ≡ true → e ≡ event.Quiet) → (refused ≡ true → AreLeft)
      → Corresponds p world store' (slice_set ts i after) (printed_after printed k e) (stop_after stop k e) (journal ++ Step k refused ∷ [])
  steps_on store' after refused e goes live free advances quiet left =
      let f = the_thread in
      let entry : Entry = Step k refused in
      let a = advances rest (owners k) c.state.shared f.source shared_agrees f.agrees steady (ready free) in
      let next = next_state c.state k a.next_shared a.next e in
      let step : turn_step (unit_tree p.unit) classes c.state k refused ≡ Some next =
      step-thread (unit_tree p.unit) classes c.state k f.source refused (steps_here goes live free) ∙ ap (λ (u : BuffersInUse). advanced_to c.state k (thread_step (unit_tree p.unit) classes u k c.state.shared f.source refused)) used ∙ ap (advanced_to c.state k) a.steps in
      let shared_is : next.shared ≡ a.next_shared = shared_next c.state k a.next_shared a.next e in
      let threads_is : next.threads ≡ slice_set c.state.threads i a.next = threads_next c.state k a.next_shared a.next e ∙ ap (λ n. set_thread c.state.threads n a.next) counted in
      let replayed = replay_more (unit_tree p.unit) world journal entry c.state next c.replays step in
      let shares : StoreAgrees p world store' next.shared (acquired next) =
      subst (λ (l : List source.Thread). StoreAgrees p world store' next.shared (taken l)) (sym threads_is)
      (subst (λ (x : Shared). StoreAgrees p world store' x (taken (slice_set c.state.threads i a.next))) (sym shared_is)
      (store_taken p world store' a.next_shared (beside (beside_callers rest a.next) (acquired_by a.next)) (taken (slice_set c.state.threads i a.next)) (joined c.state.threads i f.source a.next f.is) a.store_agrees)) in
      let room : sizes (drop (length c.state.shared.heap) next.shared.heap) ≤ left_of store.heap = subst (λ (x : Shared). sizes (drop (length c.state.shared.heap) x.heap) ≤ left_of store.heap) (sym shared_is) a.keeps.room in
      record {
        lowered = c.lowered;
        safe = c.safe;
        typed = c.typed;
        methods = c.methods;
        state = next;
        replays = replayed;
        store_agrees = shares;
        threads_agree =
            let own = after_advance (unit_tree p.unit) classes k c.state.shared f.source (owners k) (source.Advances a.next_shared a.next e) in
            let now : AllOwners = with_owners owners k own in
            let less = slice_get_within ts i t at in
            let few = c.few in
            let numbered : (0 < k) × (k ≤ 8) = (omega (arith, counted), omega (arith, counted, less, few)) in
            let numbers : (0 < 1) × (1 + length ts ≤ 9) = (omega arith, omega (arith, few)) in
            subst (λ (o : AllOwners). ThreadsAgree p classes store'.heap store'.elements count_made o 1 next.shared (slice_set ts i after) next.threads)
            (sym (owners_stepped (unit_tree p.unit) world journal c.state k refused f.source (source.Advances a.next_shared a.next e) c.replays there
            (ap (λ (u : BuffersInUse). thread_step (unit_tree p.unit) classes u k c.state.shared f.source refused) used ∙ a.steps)))
            (subst (λ (x : Shared). ThreadsAgree p classes store'.heap store'.elements count_made now 1 x (slice_set ts i after) next.threads) (sym shared_is)
            (subst (ThreadsAgree p classes store'.heap store'.elements count_made now 1 a.next_shared (slice_set ts i after)) (sym threads_is)
            (changed p classes count_made k (length f.source.callers) store.heap store'.heap store.elements store'.elements c.state.shared a.next_shared a.keeps a.keeps_copies numbered owners now (owner_elsewhere owners k own) 1 ts c.state.threads i after a.next numbers placed c.threads_agree
            (subst (λ (o : ThreadOwners). ThreadAgrees p classes store'.heap store'.elements count_made k o a.next_shared after a.next) (sym (owner_here owners k own)) a.agrees))));
        same_printed = printed_next c.state k a.next_shared a.next e ∙ ap (λ l. printed_after l k e) c.same_printed;
        same_stop = stop_next c.state k a.next_shared a.next e stop c.same_stop;
        fits = each-more (unit_tree p.unit) world (FitsUnmarked (unit_tree p.unit) world) (Some (start (unit_tree p.unit) world)) journal entry c.fits
            (λ s there. let same : c.state ≡ s = cc (sym c.replays, there) in subst (λ (x : State). FitsUnmarked (unit_tree p.unit) world x (Step k refused)) same (fits_entry refused next room step));
        fair = each-more (unit_tree p.unit) world (IsFairMarked (unit_tree p.unit) world) (Some (start (unit_tree p.unit) world)) journal entry c.fair
            (λ s there. let same : c.state ≡ s = cc (sym c.replays, there) in subst (λ (x : State). IsFairMarked (unit_tree p.unit) world x (Step k refused)) same (fair_entry store' after refused e goes live free advances quiet left));
        born =
            let before : store.births ≡ length c.state.shared.heap = c.store_agrees.births in
            let now : store'.births ≡ length a.next_shared.heap = a.store_agrees.births in
            omega (arith, c.born, before, now, a.keeps.few, steps_more journal k refused);
        count = length-set ts i after ∙ c.count;
        few = subst (λ n. n ≤ 8) (sym (length-set ts i after)) c.few;
        sliced = evenly_stays store.heap.marking store'.heap.marking a.keeps.marking c.sliced;
      }

  -- what a step makes, by what is told of it
  pub makes_by : (store' : Store) (after : Thread) (e : Event) → stop ≡ None → t.ending ≡ Unfinished → Free → AdvancesAlways p world k store store' t after (advanced.Did e)
      → (sizes (made (unit_tree p.unit) world c.state k) ≤ left_of store.heap) × (layout_of store'.heap ≡ with_objects (layout_of store.heap) (next_name c.state.shared.heap) (made (unit_tree p.unit) world c.state k))
      × (slices_of store'.heap.marking ≡ slices_of store.heap.marking)
  makes_by store' after e goes live free advances = did_make store' after e goes live free advances

  -- the same by what is told of the step
  pub steps_by : (store' : Store) (after : Thread) (x : Advanced) → stop ≡ None → t.ending ≡ Unfinished → Free → AdvancesAlways p world k store store' t after x → (x ≡ advanced.Refused → AreLeft)
      → Corresponds p world store' (slice_set ts i after) (printed_after printed k (event_of x)) (stop_after stop k (event_of x)) (journal ++ Step k (is_refused x) ∷ [])
  steps_by store' after (advanced.Did e) goes live free advances left = steps_on store' after false e goes live free advances (λ h. absurd (cc)) (λ h. absurd (cc))
  steps_by store' after advanced.Refused goes live free advances left = steps_on store' after true event.Quiet goes live free advances (λ h. refl) (λ h. left refl)

  -- the same of a step that is known not to wait
  module _ (later : Store) (after : Thread) (e : Event) (freely : StepsFreely p world k store later t after e) where
    pub is_free : Free
    is_free = waits_here ∙ (freely rest (owners k) c.state.shared the_thread.source stands).0

    advances_freely : StepsAlways p world k store later t after false e
    advances_freely others own shared s shares h steady free = (freely others own shared s (shares, h, steady)).1

    pub make_freely : stop ≡ None → t.ending ≡ Unfinished
        → (sizes (made (unit_tree p.unit) world c.state k) ≤ left_of store.heap) × (layout_of later.heap ≡ with_objects (layout_of store.heap) (next_name c.state.shared.heap) (made (unit_tree p.unit) world c.state k))
        × (slices_of later.heap.marking ≡ slices_of store.heap.marking)
    make_freely goes live = did_make later after e goes live is_free advances_freely

    pub steps_freely : stop ≡ None → t.ending ≡ Unfinished → Corresponds p world later (slice_set ts i after) (printed_after printed k e) (stop_after stop k e) (journal ++ Step k false ∷ [])
    steps_freely goes live = steps_on later after false e goes live is_free advances_freely (λ h. absurd (cc)) (λ h. absurd (cc))

  -- a step that was refused had no room, and left the heap as it was
  pub short_by : (store' : Store) (after : Thread) (x : Advanced) → stop ≡ None → t.ending ≡ Unfinished → Free → AdvancesAlways p world k store store' t after x
      → x ≡ advanced.Refused → (left_of store'.heap < sizes (made (unit_tree p.unit) world c.state k)) × (store'.heap ≡ store.heap)
  short_by store' after (advanced.Did e) goes live free advances is = absurd (cc)
  short_by store' after advanced.Refused goes live free advances is =
      let short = no_room store' after goes live free advances in
      let first : left_of store.heap < sizes (made (unit_tree p.unit) world c.state k) = short.0 in
      let same : left_of store'.heap ≡ left_of store.heap = ap left_of short.1 in
      (omega (arith, first, same), short.1)
