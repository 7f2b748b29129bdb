-- What a turn comes to in which the thread can step.
use Rattle.std.proofs.Common.{◌≡◌, ℕ, zero, suc, ◌<◌, ◌≤◌, true, false, Option, Some, None, [], ◌∷◌, ◌++◌, List, length, refl, sym, ap, ◌∙◌, subst, arith, inl, inr, ⊎_elim, ◌⊎◌, append-nil}
use Rattle.std.specs.Prelude.{slice_get}
use Rattle.heap.specs.Heap.{Space, left_of}
use Rattle.heap.specs.Layout.{Layout, layout_of}
use Rattle.code_meaning.specs.Lowered.{Lowered}
use Rattle.semantics.specs.declared.event.Ending.TheVariants.{Unfinished}
use Rattle.semantics.specs.declared.event.Event.{Event}
use Rattle.semantics.specs.declared.event.Stop.{Stop}
use Rattle.semantics.specs.Journal.{Entry, Step}
use Rattle.semantics.specs.declared.printed.Printed.{Printed}
use Rattle.semantics.specs.EventViews.{printed_after, stop_after}
use Rattle.semantics.specs.Heap.{next_name}
use Rattle.semantics.specs.Object.{sizes}
use Rattle.semantics.specs.State as state
use Rattle.semantics.specs.Step.{is_blocked}
use Rattle.semantics.specs.WeakReferences.{with_cleared}
use Rattle.semantics.specs.World.{World}
use Rattle.machine_collections.specs.Clearing.{clearing_of}
use Rattle.machine_collections.proofs.ClearedRuns.{same_state}
use Rattle.machine_scenes.specs.declared.store.Store.{Store}
use Rattle.machine_scenes.specs.Layouts.{with_objects}
use Rattle.machine_steps.specs.declared.advance.Advanced.{Advanced}
use Rattle.machine_steps.specs.declared.advance.Advanced.TheVariants as advanced
use Rattle.machine_steps.specs.Advances.{AdvancesAlways}
use Rattle.machine_threads.specs.declared.thread.Thread.{Thread}
use Rattle.machine.specs.Run.{AdvancesFrom, CanAdvance, Corresponds, Run, CouldStep, FindsNoRoom, FindsRoom, HasNoRoom, HasRoom, IsAfterCollection, IsAsItWas, IsCollected, LacksRoom, TurnHolds, cells_left, makes, turn_after, can_turn, replay_of, event_of, is_refused, seen, slices_of}
use Rattle.machine.proofs.Advancing.{can_still, state_now}
use Rattle.machine.proofs.Moved.{left_seen}
use Rattle.machine.proofs.Collected.{left_between, lives_between, refused_after, run_after, stands_between, state_between}
use Rattle.machine.proofs.Steps.{can_go, makes_by, no_room_yet, short_by, steps_by}

-- an element within a list
element : (ts : List Thread) (i : ℕ) → i < length ts → (t : Thread) × (slice_get ts i ≡ Some t)
element [] i less = absurd (omega (arith, less))
element (t ∷ ts) zero less = (t, refl)
element (t ∷ ts) (suc i) less = element ts i (omega (arith, less))

module _ (p : Lowered) (w : World) (store : Store) (ts : List Thread) (printed : List Printed) (stop : Option Stop) (journal : List Entry) (c : Corresponds p w store ts printed stop journal) (now : Run) (view : ◌≡◌ {A = Run} (seen p w store journal) now) (k index : ℕ) (number : k ≡ suc index) where
  -- the thread, which goes on
  pub record Ready : Type 0 where
    pub thread : Thread
    pub at : slice_get ts index ≡ Some thread
    pub goes : stop ≡ None
    pub lives : thread.ending ≡ Unfinished
    pub free : is_blocked w.classes c.state k ≡ false
    pub could : CouldStep now k

  pub ready : k ≤ length now.world.threads → CouldStep now k → Ready
  ready is_thread could =
      let threads : length now.world.threads ≡ length w.threads = sym (ap (λ (r : Run). length r.world.threads) view) in
      let t = element ts index (omega (arith, is_thread, threads, number, c.count)) in
      let here : replay_of now ≡ Some c.state = subst (λ (r : Run). replay_of r ≡ Some c.state) view c.replays in
      let same : could.1.0 ≡ c.state = cc (sym could.1.1, here) in
      let can = subst (λ (r : Run). state_can r c.state k) (sym view) (subst (λ (s : state.State). state_can now s k) same could.1.2) in
      let go = can_go p w store ts printed stop journal c k index t.0 number t.1 can in
      record { thread = t.0; at = t.1; goes = go.0; lives = go.1; free = go.2; could = could }
    where
      state_can : Run → state.State → ℕ → Type 0
      state_can r s k = can_turn r s k ≡ true

  -- what the step began with, and the machine after it
  module _ (r : Ready) (store' : Store) (later : List Thread) (cleared : List ℕ) (x : Advanced) (f : AdvancesFrom p w store ts index store' later cleared x) where
    -- with the clearing of a collection, if there was one
    abbrev noted : List Entry
    noted = journal ++ clearing_of cleared

    between : Corresponds p w f.between f.among printed stop noted
    between = stands_between _ _ _ _ _ _ _ _ c f.between f.among cleared x f.is

    still_live : f.old.ending ≡ Unfinished
    still_live = lives_between _ _ _ _ _ _ _ _ c f.between f.among cleared x f.is index r.thread f.old r.at f.at ∙ r.lives

    can_advance : CanAdvance p w store ts index
    can_advance = record {
      printed = printed;
      stop = stop;
      journal = journal;
      stands = c;
      goes = r.goes;
      thread = r.thread;
      at = r.at;
      lives = r.lives;
      ready = subst (λ (n : ℕ). is_blocked w.classes c.state n ≡ false) number r.free;
    }

    -- a clearing changes nothing of that either
    free_between : (is : IsAsItWas store ts f.between f.among cleared x ⊎ IsAfterCollection p w store ts index f.between f.among cleared) → is_blocked w.classes (stands_between p w store ts index printed stop journal c f.between f.among cleared x is).state k ≡ false
    unfolding can_advance can_still
    free_between (inl h) =
        ap (λ (s : state.State). is_blocked w.classes s k) (state_between p w store ts index printed stop journal c f.between f.among cleared x (inl h) ∙ ap (λ (l : List ℕ). with_cleared l c.state) h.none ∙ same_state c.state) ∙ r.free
    free_between (inr h) =
        let still = can_still p w store ts index can_advance r.thread h.lacks f.between f.among cleared h.collected h.clears h.unmarked in
        let left = state_now p w store ts index can_advance r.thread h.lacks f.between f.among cleared h.collected h.clears h.unmarked in
        ap (λ (s : state.State). is_blocked w.classes s k) (state_between p w store ts index printed stop journal c f.between f.among cleared x (inr h) ∙ sym left)
        ∙ subst (λ (n : ℕ). is_blocked w.classes still.stands.state n ≡ false) (sym number) still.ready

    still_free : is_blocked w.classes between.state k ≡ false
    unfolding between
    still_free = free_between f.is

    -- the step is thread k's
    advances_here : AdvancesAlways p w k f.between store' f.old f.new x
    advances_here = subst (λ (n : ℕ). AdvancesAlways p w n f.between store' f.old f.new x) (sym number) f.advances

    pub next : Corresponds p w store' later (printed_after printed k (event_of x)) (stop_after stop k (event_of x)) (noted ++ Step k (is_refused x) ∷ [])
    unfolding between
    next =
        subst (λ (l : List Thread). Corresponds p w store' l (printed_after printed k (event_of x)) (stop_after stop k (event_of x)) (noted ++ Step k (is_refused x) ∷ [])) (sym f.follow)
        (steps_by _ _ _ _ _ _ _ between k index f.old number f.at store' f.new x r.goes still_live still_free advances_here (left_between _ _ _ _ _ _ _ _ c f.between f.among cleared x f.is))

    -- ---- the room that it found

    -- the run between a collection and the step
    abbrev pub mid : Run
    mid = seen p w f.between noted

    mid_left : cells_left mid ≡ left_of f.between.heap
    mid_left = left_seen p w f.between noted between.store_agrees.cells

    collected : IsAfterCollection p w store ts index f.between f.among cleared → IsCollected now mid
    collected h = run_after _ _ _ _ _ _ _ c f.between f.among cleared now view h.collected h.clears h.unmarked

    had_no_room : IsAfterCollection p w store ts index f.between f.among cleared → HasNoRoom now k
    had_no_room h =
        let lacks = subst (λ (n : ℕ). LacksRoom p w n store r.thread) (sym number) (h.lacks r.thread r.at) in
        let less = no_room_yet _ _ _ _ _ _ _ c k index r.thread number r.at r.goes r.lives r.free lacks in
        let left = left_seen p w store journal c.store_agrees.cells in
        subst (λ (q : Run). HasNoRoom q k) view (c.state, c.replays, omega (arith, less, left))

    module _ (e : Event) (is : x ≡ advanced.Did e) where
      does : AdvancesAlways p w k f.between store' f.old f.new (advanced.Did e)
      does = subst (AdvancesAlways p w k f.between store' f.old f.new) is advances_here

      made_here : (sizes (makes mid between.state k) ≤ left_of f.between.heap) × (layout_of store'.heap ≡ with_objects (layout_of f.between.heap) (next_name between.state.shared.heap) (makes mid between.state k))
          × (slices_of store'.heap.marking ≡ slices_of f.between.heap.marking)
      made_here = makes_by _ _ _ _ _ _ _ between k index f.old number f.at store' f.new e r.goes still_live still_free does

      has_room : HasRoom mid k
      has_room = (between.state, between.replays, omega (arith, made_here.0, mid_left))

      found : FindsRoom now k mid
      found =
          ⊎_elim
          (λ (h : IsAsItWas store ts f.between f.among cleared x).
          let same : mid ≡ now = ap (λ (y : Store). seen p w y noted) h.same_store ∙ ap (λ (l : List ℕ). seen p w store (journal ++ clearing_of l)) h.none ∙ ap (seen p w store) (append-nil journal) ∙ view in
          inl (same, subst (λ (q : Run). HasRoom q k) same has_room))
          (λ (h : IsAfterCollection p w store ts index f.between f.among cleared). inr (had_no_room h, collected h, has_room))
          f.is

    none_found : x ≡ advanced.Refused → FindsNoRoom now k mid
    none_found refused =
        let h = refused_after _ _ _ _ _ _ _ _ c f.between f.among cleared x f.is refused in
        let short = short_by _ _ _ _ _ _ _ between k index f.old number f.at store' f.new x r.goes still_live still_free advances_here refused in
        let heap : left_of store'.heap ≡ left_of f.between.heap = ap left_of short.1 in
        let less : left_of store'.heap < sizes (makes mid between.state k) = short.0 in
        record { first = had_no_room h; collected = collected h; still = (between.state, between.replays, omega (arith, less, heap, mid_left)) }

    -- what the turn was
    pub turn_here : (y : Advanced) → x ≡ y → (after : List Entry) → after ≡ noted ++ Step k (is_refused y) ∷ [] → TurnHolds now k (seen p w store' after) (turn_after y)
    turn_here (advanced.Did e) is after more = (
      r.could,
      (
        mid,
        found e is,
        (
          between.state,
          between.replays,
          ap (λ (j : List Entry). seen p w store' j) more
              ∙ ap (λ (l : Layout). let q : Run = record mid { journal = noted ++ Step k false ∷ []; layout = l; slices = slices_of store'.heap.marking } in q) (made_here e is).1
              ∙ ap (λ (o : Option ℕ). let q : Run = record mid { journal = noted ++ Step k false ∷ []; layout = with_objects mid.layout (next_name between.state.shared.heap) (makes mid between.state k); slices = o } in q) (made_here e is).2,
        ),
      ),
    )
    turn_here advanced.Refused is after more =
        let short = short_by _ _ _ _ _ _ _ between k index f.old number f.at store' f.new x r.goes still_live still_free advances_here is in (
          r.could,
          (
            mid,
            none_found is,
            ap (λ (j : List Entry). seen p w store' j) more
                ∙ ap (λ (h : Space). let q : Run = record mid { journal = noted ++ Step k true ∷ []; layout = layout_of h; slices = slices_of h.marking } in q) short.1,
          ),
        )
