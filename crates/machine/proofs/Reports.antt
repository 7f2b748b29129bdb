-- The report of the state that a machine's journal leads to.
use Rattle.std.proofs.Common.{append_assoc, ⊎_elim, ◌≡◌, ℕ, suc, Bool, List, [], ◌∷◌, ◌++◌, length, map, reverse, Option, Some, None, Result, refl, sym, ap, ◌∙◌, subst, arith, unwrap_or}
use Rattle.std.specs.Prelude.{flat_map, is_some, ◌||◌}
use Rattle.std.specs.List.{AllZip}
use Rattle.std.specs.Option.{option_map, option_map_or}
use Rattle.syntax.specs.Views.{unit_tree}
use Rattle.class_rules.specs.Class.{Classes}
use Rattle.semantics.specs.Journal.{Entry}
use Rattle.semantics.specs.declared.printed.Printed.{Printed}
use Rattle.report.specs.declared.thread_status.ThreadStatus.{ThreadStatus}
use Rattle.semantics.specs.JournalText.{journal_line}
use Rattle.semantics.specs.Report.{ThreadStanding, ShownRow, Report}
use Rattle.report.specs.ReportText.{report_text}
use Rattle.sinks.specs.Sink as sink
use Rattle.sinks.specs.Sink.{Written}
use Rattle.semantics.specs.World.{World, loaded_objects}
use Rattle.report.specs.Shown.{report_with}
use Rattle.report.specs.ThreadStatus.{standing_view}
use Rattle.semantics.specs.ReportOf.{shown, shown_row, report}
use Rattle.report.specs.RunText as run_text
use Rattle.semantics.specs.State as state
use Rattle.semantics.specs.State.{State, views}
use Rattle.semantics.specs.Heap.{Heap}
use Rattle.semantics.specs.Reachable.{from_one, loaded_count, thread_roots, roots, Reachable}
use Rattle.semantics.specs.Task.{Task}
use Rattle.semantics.proofs.ShownRows.{length-loaded}
use Rattle.semantics.specs.Thread as source
use Rattle.semantics.specs.Thread.{Shared}
use Rattle.heap.specs.Heap.{Block, Space, block_at, name_at, pins_at}
use Rattle.heap.specs.Layout.{layout_of}
use Rattle.code_meaning.specs.Lowered.{Lowered}
use Rattle.code_meaning.specs.Slots.{Visible, visible_to}
use Rattle.report_objects.specs.Rows.{AreReported}
use Rattle.machine_scenes.specs.declared.activation.Activation.{Activation}
use Rattle.machine_threads.specs.declared.thread.Thread.{Thread}
use Rattle.semantics.specs.declared.event.Stop.{Stop}
use Rattle.machine_threads.specs.Callers.{CallersAgree, owner_at}
use Rattle.machine_threads.specs.ThreadAgrees.{ThreadsAgree}
use Rattle.machine_threads.specs.InProgress.{WorkAgrees}
use Rattle.tables.specs.Elements.{OwnedNumbers}
use Rattle.machine_scenes.specs.HeapAgrees.{IsNamed}
use Rattle.machine.specs.Rows.{AreSeen}
use Rattle.machine_collections.proofs.HeldViews.{name_pinned, pinned_block}
use Rattle.heap.proofs.Lookups.{block_at-place}
use Rattle.machine_collections.proofs.ReachableNames.{in_times, reachable_named, times_in}
use Rattle.semantics.proofs.ReachableLemmas.{In, contains_in, in_append_cases, in_append_left, in_append_right, to_contains}
use Rattle.semantics_safety.specs.Owners.{AllOwners, Owners, owners_after}
use Rattle.semantics.specs.EventViews.{stop_view}
use Rattle.machine.specs.Run as run
use Rattle.semantics.specs.Run.{MarkedAreFair, UnmarkedFit}
use Rattle.machine_scenes.specs.declared.store.Store.{Store}
use Rattle.machine.specs.Run.{Run, Corresponds, WritesRun, AllRest, AreShown, ShowsObjects, ShowsStandings, IsFinished, standings_in, slices_of}
use Rattle.machine_collections.specs.Roots.{AreAddresses, pinned_names, root_places, ThreadsAreStacked}
use Rattle.machine_scenes.specs.Given.{object_there}
use Rattle.std.specs.Prelude.{Contains}
use Rattle.base.proofs.Lists.{Contains-from_get, get_map}
use Rattle.machine_scenes.proofs.BlocksOfNames.{is_address}
use Rattle.tables.specs.References.{references_in}
use Rattle.machine_collections.proofs.GivenArguments.{given_named}
use Rattle.machine_collections.proofs.GatheredRoots.{gathered_roots, in_map, in_place, map_in, names_gathered, place_in, places_are, roots_gathered}
use Rattle.machine_collections.proofs.OwnedMonitors.{monitor_names}
use Rattle.machine_collections.proofs.RootNames.{CallFrames, CallersFrames, HasRootsOf}

-- ---- the report

pub report_is : (p : Lowered) (world : World) (store : Store) (ts : List Thread) (printed : List Printed) (stop : Option Stop) (journal : List Entry) (c : Corresponds p world store ts printed stop journal) (shown_standings : List ThreadStatus) (rows : List ShownRow)
    → map standing_view shown_standings ≡ standings_in world.classes c.state → rows ≡ map (shown_row world.classes c.state.shared.heap) (shown world c.state) → report world c.state ≡ report_with printed shown_standings rows
unfolding report
report_is p world store ts printed stop journal c shown_standings rows told shows =
    ap (λ (l : List Printed). let r : Report = record { printed = l; standings = standings_in world.classes c.state; objects = map (shown_row world.classes c.state.shared.heap) (shown world c.state) } in r) c.same_printed
    ∙ ap (λ (l : List ThreadStanding). let r : Report = record { printed = printed; standings = l; objects = map (shown_row world.classes c.state.shared.heap) (shown world c.state) } in r) (sym told)
    ∙ ap (λ (l : List ShownRow). let r : Report = record { printed = printed; standings = map standing_view shown_standings; objects = l } in r) (sym shows)

-- ---- the end

pub is_finished : (p : Lowered) (world : World) (store : Store) (ts : List Thread) (printed : List Printed) (stop : Option Stop) (journal : List Entry) (c : Corresponds p world store ts printed stop journal) (now : Run)
    → ◌≡◌ {A = Run} (record { unit = p.unit; world = world; journal = journal; layout = layout_of store.heap; slices = slices_of store.heap.marking }) now
    → (stopped : Bool) → stopped ≡ is_some stop → (rest : Bool) → AllRest now rest → IsFinished now (stopped || rest)
is_finished p world store ts printed stop journal c now view stopped is rest h =
    let here : AllRest (record { unit = p.unit; world = world; journal = journal; layout = layout_of store.heap; slices = slices_of store.heap.marking }) rest = subst (λ (r : Run). AllRest r rest) (sym view) h in
    let state_is : here.0 ≡ c.state = cc (here.1, c.replays) in
    let same : rest ≡ run.all_rest world.classes c.state = subst (λ (x : State). rest ≡ run.all_rest world.classes x) state_is here.2 in
    subst (λ (r : Run). IsFinished r (stopped || rest)) view (c.state, c.replays, (λ i. (is ∙ has_stopped stop ∙ ap (λ (o : Option state.Stop). is_some o) (sym c.same_stop)) i || same i))
  where
    has_stopped : (o : Option Stop) → is_some o ≡ is_some (option_map stop_view o)
    has_stopped None = refl
    has_stopped (Some x) = refl

-- ---- the rows

-- the frames and the pending exception of a thread stand for those of its thread of the source
frames_in : (p : Lowered) (classes : Classes) (space : Space) (copies : List (Option OwnedNumbers)) (k : ℕ) (visible : Visible) (call : Option Activation) (frames : List source.Frame) (tasks : Option (List Task)) → WorkAgrees p classes space copies k visible call frames tasks → CallFrames space call frames
frames_in p classes space copies k visible None frames None h = h
frames_in p classes space copies k visible None frames (Some tasks) h = absurd h
frames_in p classes space copies k visible (Some call) frames None h = absurd h
frames_in p classes space copies k visible (Some call) frames (Some tasks) h = h.frames_agree

-- those of its callers do
callers_in : (p : Lowered) (classes : Classes) (space : Space) (copies : List (Option OwnedNumbers)) (k : ℕ) (shared : Shared) (calls : List Activation) (owners : List Owners) (callers : List source.Caller) → CallersAgree p classes space copies k shared calls owners callers → CallersFrames space calls callers
callers_in p classes space copies k shared [] [] [] h = tt
callers_in p classes space copies k shared (call ∷ calls) (own ∷ owners) (c ∷ callers) h = ((h.0).stands.frames_agree, callers_in p classes space copies k shared calls owners callers h.1)
callers_in p classes space copies k shared calls owners callers h = absurd h

roots_of : (p : Lowered) (classes : Classes) (space : Space) (copies : List (Option OwnedNumbers)) (made : ℕ) (owners : AllOwners) (k : ℕ) (shared : Shared) (ts : List Thread) (ss : List source.Thread) → ThreadsAgree p classes space copies made owners k shared ts ss → AllZip (HasRootsOf space) ts ss
roots_of p classes space copies made owners k shared [] [] h = tt
roots_of p classes space copies made owners k shared [] (s ∷ ss) h = absurd h
roots_of p classes space copies made owners k shared (t ∷ ts) [] h = absurd h
roots_of p classes space copies made owners k shared (t ∷ ts) (s ∷ ss) h = (
  record {
    callers = callers_in p classes space copies k shared (reverse t.callers.items) (owners k).callers s.callers (h.0).callers;
    arguments = given_named p classes space made t.entering t.calls.items s.callers s.tasks s.calls (h.0).calls (h.0).due;
    frames = frames_in p classes space copies (owner_at k (length s.callers)) (visible_to (owners k).current shared s) t.call s.frames s.tasks (h.0).work;
    pending = (h.0).pending;
  },
  roots_of p classes space copies made owners (suc k) shared ts ss h.1,
)

module _ (p : Lowered) (world : World) (store : Store) (ts : List Thread) (printed : List Printed) (stop : Option Stop) (journal : List Entry) (c : Corresponds p world store ts printed stop journal) where
  roots_in : AllZip (HasRootsOf store.heap) ts c.state.threads
  roots_in = roots_of p world.classes store.heap store.elements (length (loaded_objects world)) (owners_after (unit_tree p.unit) world journal) 1 c.state.shared ts c.state.threads c.threads_agree

  -- the objects made at load, the global references, what the threads refer to, and the objects that have owners
  abbrev pub source_roots : List ℕ
  source_roots = names_gathered (length store.loaded.items) c.state.shared.globals c.state.threads c.state.shared.monitors

  -- those and what is viewed are all the state's roots
  roots_are : roots world c.state ≡ source_roots ++ views c.state
  roots_are =
      let names = flat_map thread_roots c.state.threads in
      let globals = c.state.shared.globals in
      let owned = monitor_names c.state.shared.monitors in
      let made = from_one (length store.loaded.items) in
      let count : loaded_count world ≡ length store.loaded.items = sym (length-loaded world) ∙ sym c.store_agrees.table.counted in
      ap (λ n. (((from_one n ++ globals) ++ names) ++ owned) ++ views c.state) count
      ∙ ap (λ (l : List ℕ). (l ++ owned) ++ views c.state) (append_assoc made globals names)
      ∙ ap (λ (l : List ℕ). l ++ views c.state) (append_assoc made (globals ++ names) owned ∙ ap (λ (l : List ℕ). made ++ l) (append_assoc globals names owned))

  -- so each root is one of them, and each of them a root
  pub root_among : (n : ℕ) → Contains (roots world c.state) n → In (source_roots ++ views c.state) n
  root_among n k = contains_in (source_roots ++ views c.state) n (subst (λ (l : List ℕ). Contains l n) roots_are k)

  among_roots : (n : ℕ) → In (source_roots ++ views c.state) n → Contains (roots world c.state) n
  among_roots n k = subst (λ (l : List ℕ). Contains l n) (sym roots_are) (to_contains (source_roots ++ views c.state) n k)

  source_root : (n : ℕ) → In source_roots n → Contains (roots world c.state) n
  source_root n k = among_roots n (in_append_left source_roots (views c.state) n k)

  pub view_root : (n : ℕ) → In (views c.state) n → Contains (roots world c.state) n
  view_root n k = among_roots n (in_append_right source_roots (views c.state) n k)

  -- what is viewed has a block, which is pinned
  view_held : (n : ℕ) → In (views c.state) n → In (pinned_names store.heap.blocks) n
  view_held n k =
      let often = in_times (views c.state) n k in
      let r = c.store_agrees.buffers.there n often in
      name_pinned store.heap.blocks r.0 n r.1 (omega (arith, often, c.store_agrees.buffers.pins r.0 n r.1))

  -- and nothing else has
  held_view : (n : ℕ) → In (pinned_names store.heap.blocks) n → In (views c.state) n
  held_view n k =
      let r = pinned_block store.heap.blocks n k in
      let place = get_map (λ (x : Block). x.address) store.heap.blocks r.0 r.1 r.2 in
      let at : block_at store.heap r.1.address ≡ Some r.1 = block_at-place store.heap r.0 r.1.address c.store_agrees.laid_out place ∙ r.2 in
      let named : name_at store.heap r.1.address ≡ Some n = ap (option_map (λ (b : Block). b.birth)) at ∙ ap (λ (m : ℕ). Some m) r.3 in
      let pins : pins_at store.heap r.1.address ≡ r.1.pins = ap (λ (o : Option Block). option_map_or (λ (b : Block). b.pins) o 0) at in
      times_in (views c.state) n (omega (arith, r.4, pins, c.store_agrees.buffers.pins r.1.address n named))

  -- ---- the roots, place by place

  -- each gathered address has the name of a root
  pub gathered_name : ThreadsAreStacked ts → (a : ℕ) → Contains (root_places store ts) (Some a) → (n : ℕ) × (name_at store.heap a ≡ Some n) × Contains (roots world c.state) n
  gathered_name stacked a there =
      let among = subst (λ (l : List ℕ). In l a) (places_are store ts) (place_in (root_places store ts) a there) in
      let agrees = c.store_agrees in
      let r = gathered_roots store.heap store (length (loaded_objects world)) ts c.state.threads c.state.shared.globals c.state.shared.monitors a agrees.table agrees.globals roots_in agrees.monitors agrees.monitored stacked among in
      (r.0, r.1, source_root r.0 r.2)

  -- and each root's name, but for views, that of a gathered address
  pub name_gathered : (n : ℕ) → In source_roots n → (a : ℕ) × (name_at store.heap a ≡ Some n) × Contains (root_places store ts) (Some a)
  name_gathered n k =
      let agrees = c.store_agrees in
      let r = roots_gathered store.heap store (length (loaded_objects world)) ts c.state.threads c.state.shared.globals c.state.shared.monitors n agrees.table agrees.globals roots_in agrees.monitors agrees.monitored k in
      (r.0, r.1, in_place (root_places store ts) r.0 (subst (λ (l : List ℕ). In l r.0) (sym (places_are store ts)) r.2))

  -- so each root has a block
  root_there : (n : ℕ) → Contains (roots world c.state) n → IsNamed store.heap n
  root_there n k = ⊎_elim
      (λ (l : In source_roots n). let r = name_gathered n l in (r.0, r.1))
      (λ (l : In (views c.state) n). c.store_agrees.buffers.there n (in_times (views c.state) n l))
      (in_append_cases source_roots (views c.state) n (root_among n k))

  -- and so has each object that can be reached
  pub reachable_there : (n : ℕ) → Reachable world c.state n → IsNamed store.heap n
  reachable_there = reachable_named store.heap world c.state c.store_agrees.heap root_there

  -- the objects at gathered addresses are there
  pub places_there : ThreadsAreStacked ts → AreAddresses store.heap (references_in (root_places store ts))
  places_there stacked i a at =
      let r = gathered_name stacked a (in_place (root_places store ts) a (contains_in (references_in (root_places store ts)) a (Contains-from_get (references_in (root_places store ts)) i a at))) in
      is_address store.heap a r.0 r.1

  -- the names of the objects at those addresses, and of those whose blocks are pinned
  abbrev gathered_names : List ℕ
  gathered_names = map (object_there store.heap) (references_in (root_places store ts))

  abbrev report_names : List ℕ
  report_names = gathered_names ++ pinned_names store.heap.blocks

  -- they are those of the roots
  root_told : (m : ℕ) → Contains (roots world c.state) m → In report_names m
  root_told m k = ⊎_elim
      (λ (l : In source_roots m).
      let r = name_gathered m l in
      let named : object_there store.heap r.0 ≡ m = ap (λ (o : Option ℕ). unwrap_or o 0) r.1 in
      in_append_left gathered_names (pinned_names store.heap.blocks) m
      (subst (λ (x : ℕ). In gathered_names x) named (in_map (object_there store.heap) (references_in (root_places store ts)) r.0 (place_in (root_places store ts) r.0 r.2))))
      (λ (l : In (views c.state) m). in_append_right gathered_names (pinned_names store.heap.blocks) m (view_held m l))
      (in_append_cases source_roots (views c.state) m (root_among m k))

  told_root : ThreadsAreStacked ts → (m : ℕ) → In report_names m → Contains (roots world c.state) m
  told_root stacked m k = ⊎_elim
      (λ (f : In gathered_names m).
      let back = map_in (object_there store.heap) (references_in (root_places store ts)) m f in
      let r = gathered_name stacked back.0 (in_place (root_places store ts) back.0 back.1) in
      let same : r.0 ≡ m = sym (ap (λ (o : Option ℕ). unwrap_or o 0) r.1) ∙ back.2 in
      subst (λ (x : ℕ). Contains (roots world c.state) x) same r.2)
      (λ (f : In (pinned_names store.heap.blocks) m). view_root m (held_view m f))
      (in_append_cases gathered_names (pinned_names store.heap.blocks) m k)

  -- the rows of what can be reached from them are the state's
  pub rows_are : (classes : Classes) (objects : Heap) (loaded : ℕ) (names : List ℕ) (rows : List ShownRow)
      → classes ≡ world.classes → AreSeen store.heap c.state.shared.heap objects → loaded ≡ length store.loaded.items → names ≡ report_names → ThreadsAreStacked ts
      → AreReported classes objects loaded names rows → rows ≡ map (shown_row world.classes c.state.shared.heap) (shown world c.state)
  unfolding report
  rows_are classes objects loaded names rows k h l n stacked told =
      told world c.state (record {
        classes = sym k;
        count = sym h.count;
        same = λ m r. sym (h.same m (reachable_there m r));
        sound = λ m there. to_contains (from_one loaded ++ names) m (in_append_right (from_one loaded) names m (subst (λ (ns : List ℕ). In ns m) (sym n) (root_told m there)));
        complete = λ m there. ⊎_elim
            (λ (f : In (from_one loaded) m).
            source_root m (in_append_left (from_one (length store.loaded.items)) (c.state.shared.globals ++ (flat_map thread_roots c.state.threads ++ monitor_names c.state.shared.monitors)) m (subst (λ (x : ℕ). In (from_one x) m) l f)))
            (λ (f : In names m). told_root stacked m (subst (λ (ns : List ℕ). In ns m) n f))
            (in_append_cases (from_one loaded) names m (contains_in (from_one loaded ++ names) m there));
      })

module _ (p : Lowered) (world : World) (store : Store) (ts : List Thread) (printed : List Printed) (stop : Option Stop) (journal : List Entry) (c : Corresponds p world store ts printed stop journal) (now : Run)
    (view : ◌≡◌ {A = Run} (record { unit = p.unit; world = world; journal = journal; layout = layout_of store.heap; slices = slices_of store.heap.marking }) now) where
  -- the names of the tables lead to what is shown
  pub are_shown : (objects : Heap) (names : List ℕ) → AreSeen store.heap c.state.shared.heap objects → names ≡ map (object_there store.heap) (references_in (root_places store ts)) ++ pinned_names store.heap.blocks → ThreadsAreStacked ts → AreShown now objects names
  are_shown objects names h n stacked =
      subst (λ (r : Run). AreShown r objects names) view
      (λ rows told. (c.state, c.replays, rows_are p world store ts printed stop journal c world.classes objects (length (loaded_objects world)) names rows refl h (sym c.store_agrees.table.counted) n stacked told))

  -- and so the rows of what they lead to are shown
  pub shows_objects : (classes : Classes) (objects : Heap) (loaded : ℕ) (names : List ℕ) (rows : List ShownRow) → classes ≡ world.classes → loaded ≡ length store.loaded.items → AreShown now objects names → AreReported classes objects loaded names rows → ShowsObjects now rows
  shows_objects classes objects loaded names rows k l shown told =
      shown rows
      (subst (λ (r : Run). AreReported r.world.classes objects (length (loaded_objects r.world)) names rows) view
      (subst (λ n. AreReported world.classes objects n names rows) (l ∙ c.store_agrees.table.counted)
      (subst (λ (t : Classes). AreReported t objects loaded names rows) k told)))

  -- what is written with them is what the run writes
  pub writes_run : {T E : Type 0} (old new : Written) (result : Result T E) (numbers : List Printed) (told : List ThreadStatus) (rows : List ShownRow) (entries : List Entry)
      → numbers ≡ printed → ShowsStandings now (map standing_view told) → ShowsObjects now rows → entries ≡ journal
      → sink.Writes old new result (report_text (report_with numbers told rows) ++ journal_line entries)
      → WritesRun now old new result
  writes_run old new result numbers told rows entries n s shows e h =
      let there : ShowsObjects (record { unit = p.unit; world = world; journal = journal; layout = layout_of store.heap; slices = slices_of store.heap.marking }) rows = subst (λ (r : Run). ShowsObjects r rows) (sym view) shows in
      let state_is : there.0 ≡ c.state = cc (there.1, c.replays) in
      let stood : ShowsStandings (record { unit = p.unit; world = world; journal = journal; layout = layout_of store.heap; slices = slices_of store.heap.marking }) (map standing_view told) = subst (λ (r : Run). ShowsStandings r (map standing_view told)) (sym view) s in
      let stood_is : stood.0 ≡ c.state = cc (stood.1, c.replays) in
      let standings_shown = subst (λ (x : State). map standing_view told ≡ standings_in world.classes x) stood_is stood.2 in
      let rows_shown = subst (λ (x : State). rows ≡ map (shown_row world.classes x.shared.heap) (shown world x)) state_is there.2 in
      let same : report_text (report_with numbers told rows) ++ journal_line entries ≡ report_text (report world c.state) ++ journal_line journal =
      ap (λ (l : List Printed). report_text (report_with l told rows) ++ journal_line entries) n
      ∙ ap (λ (l : List Entry). report_text (report_with printed told rows) ++ journal_line l) e
      ∙ ap (λ (r : Report). report_text r ++ journal_line journal) (sym (report_is p world store ts printed stop journal c told rows standings_shown rows_shown)) in
      let written : run_text.Writes (unit_tree p.unit) world journal (report_text (report_with numbers told rows) ++ journal_line entries) = record { end = c.state; replays = c.replays; same = same } in
      record {
        text = report_text (report_with numbers told rows) ++ journal_line entries;
        is = subst (λ (r : Run). run_text.Writes (unit_tree r.unit) r.world r.journal (report_text (report_with numbers told rows) ++ journal_line entries)) view written;
        fits = subst (λ (r : Run). UnmarkedFit (unit_tree r.unit) r.world r.journal) view c.fits;
        fair = subst (λ (r : Run). MarkedAreFair (unit_tree r.unit) r.world r.journal) view c.fair;
        written = h;
      }
