-- What a collection leaves stands for the state in which what is lost was cleared, and the cells that it leaves are those of what can't be
-- reached.
use Rattle.std.proofs.Common.{◌≡◌, ℕ, ◌-◌, append-nil, ◌⊎◌, inl, inr, length, List, [], ◌++◌, Option, Some, None, sym, ap, ◌∙◌, subst, arith}
use Rattle.std.specs.Prelude.{◌≢◌, Contains, slice_get}
use Rattle.std.specs.Option.{option_map}
use Rattle.base.proofs.Lists.{get_map}
use Rattle.heap.specs.Layout.{Extent, layout_of}
use Rattle.heap.proofs.Names.{one_address}
use Rattle.heap.specs.Heap.{Block, end_of, left_of, name_at}
use Rattle.compact.specs.Same.{size_of}
use Rattle.compact.specs.Reach.{IsKept}
use Rattle.code_meaning.specs.Lowered.{Lowered}
use Rattle.semantics.specs.Journal.{Entry}
use Rattle.semantics.specs.declared.printed.Printed.{Printed}
use Rattle.semantics.specs.Reachable.{live_size, Reachable, FromRoot}
use Rattle.semantics.specs.State.{State, views}
use Rattle.semantics.specs.Run.{replay}
use Rattle.semantics.specs.Step.{clearing_step, is_blocked}
use Rattle.semantics.specs.WeakReferences.{lost, with_cleared}
use Rattle.semantics.specs.World.{World}
use Rattle.syntax.specs.Views.{unit_tree}
use Rattle.semantics.proofs.WeakLaws.{lost_are_cleared}
use Rattle.semantics.proofs.ReachableLemmas.{In, contains_in, to_contains}
use Rattle.semantics.proofs.ShownRows.{from_one-contains}
use Rattle.machine_scenes.specs.declared.store.Store.{Store}
use Rattle.machine_scenes.proofs.BlocksOfNames.{name_within}
use Rattle.machine_steps.specs.declared.advance.Advanced.{Advanced}
use Rattle.machine_steps.specs.declared.advance.Advanced.TheVariants as advanced
use Rattle.machine_threads.specs.declared.thread.Thread.{Thread}
use Rattle.semantics.specs.declared.event.Stop.{Stop}
use Rattle.machine_collections.specs.Clearing.{AreCleared, clearing_of}
use Rattle.machine_collections.specs.Moving.{AreCollected, moved_thread}
use Rattle.machine_collections.specs.Roots.{root_places}
use Rattle.machine.specs.Run.{Run, Corresponds, IsAfterCollection, IsAsItWas, IsCollected, IsOrderly, acquired, seen, slices_of}
use Rattle.machine_collections.proofs.ClearedRuns.{replays_cleared, clears_to, same_state}
use Rattle.machine_collections.proofs.CollectedStores.{cleared_is}
use Rattle.machine_collections.proofs.KeptCells.{live_taken}
use Rattle.machine_collections.proofs.KeptNames.{kept_reachable, reachable_kept}
use Rattle.machine_collections.proofs.LiveBlocks.{births}
use Rattle.machine_collections.proofs.PackedLayouts.{block_of, packed_layout, rising_layout}
use Rattle.machine_collections.proofs.ReachableNames.{in_times, times_in}
use Rattle.machine.proofs.Reports.{gathered_name, reachable_there, view_root}
use Rattle.machine_collections.proofs.KeptSets.{CanBeKept, reached_can}
use Rattle.machine.proofs.Moved.{corresponds_moved, is_closed, kept_closed, left_kept, more_left, left_seen, root_kept, roots_there, taken_seen, unpinned, viewed_name, waits_still}

-- ---- a collection

module _ (p : Lowered) (world : World) (store : Store) (ts : List Thread) (printed : List Printed) (stop : Option Stop) (journal : List Entry) (c : Corresponds p world store ts printed stop journal) where
  module _ (after : Store) (later : List Thread) (h : AreCollected store ts after later) where
    abbrev Kept : ℕ → Type 0
    Kept = IsKept store.heap (root_places store ts)

    -- the objects of kept blocks are those that can be reached
    kept_reached : (a : ℕ) → Kept a → (n : ℕ) × (name_at store.heap a ≡ Some n) × Reachable world c.state n
    kept_reached a k = kept_reachable world c.state store.heap c.store_agrees.heap (root_places store ts) (gathered_name p world store ts printed stop journal c h.stacked) (viewed_name p world store ts printed stop journal c) a k

    reached_kept : (n : ℕ) → Reachable world c.state n → (a : ℕ) × (name_at store.heap a ≡ Some n) × Kept a
    reached_kept = reachable_kept world c.state store.heap c.store_agrees.heap (root_places store ts) (root_kept p world store ts printed stop journal c)

    can : CanBeKept Kept store.heap (root_places store ts)
    can = reached_can world c.state store.heap c.store_agrees.heap (root_places store ts) (is_closed p world store ts printed stop journal c) (roots_there p world store ts printed stop journal c h.stacked) kept_reached reached_kept

    kept_named : (a n : ℕ) → name_at store.heap a ≡ Some n → Kept a → Reachable world c.state n
    kept_named a n name kept =
        let r = kept_reached a kept in
        let same : r.0 ≡ n = let both : Some r.0 ≡ Some n = sym r.1 ∙ name in cc in
        subst (λ (m : ℕ). Reachable world c.state m) same r.2

    named_kept : (a n : ℕ) → name_at store.heap a ≡ Some n → Reachable world c.state n → Kept a
    named_kept a n name reached =
        let r = reached_kept n reached in
        subst Kept (one_address store.heap r.0 a n c.store_agrees.heap.unique r.1 name) r.2

    -- each block that is left can be reached
    left_reachable : (n : ℕ) → In (births after.heap.blocks) n → Reachable world c.state n
    left_reachable n k = let r = left_kept p world store ts printed stop journal c Kept can after later h n k in kept_named r.0 n r.1 r.2

    module _ (names : List ℕ) (cl : AreCleared store.heap store.statics.items store.weaks after.weaks names) where
      pub names_are : names ≡ lost world c.state
      names_are = cleared_is Kept h.to p world c.state store after after.heap h.blocks (kept_closed p world store ts printed stop journal c Kept can after later h) h.moved h.weaks names cl kept_reached reached_kept (acquired c.state) c.store_agrees

      module _ (unmarked : after.heap.marking ≡ None) where
        -- the machine stands for the state in which what is lost was cleared, by that one entry
        pub corresponds_collected : Corresponds p world after later printed stop (journal ++ clearing_of names)
        corresponds_collected = corresponds_moved p world store ts printed stop journal c Kept can after later h names cl clears unmarked
          where
            clears : names ≢ [] → clearing_step world c.state names ≡ Some (with_cleared names c.state)
            clears some =
                let lost_some : lost world c.state ≢ [] = λ none. some (names_are ∙ none) in
                let l = lost_are_cleared world c.state lost_some in
                subst (λ (ns : List ℕ). clearing_step world c.state ns ≡ Some (with_cleared ns c.state)) (sym names_are) (l.1 ∙ ap (λ (t : State). Some t) (clears_to world c.state (lost world c.state) l.0 l.1))

        -- the blocks are those of what can be reached
        pub held_collected : size_of after.heap.blocks ≡ live_size world c.state
        unfolding corresponds_collected corresponds_moved
        held_collected =
            let d = corresponds_collected in
            live_taken world c.state after.heap d.store_agrees.heap (reachable_there p world after later printed stop (journal ++ clearing_of names) d) left_reachable

        cells_collected : after.heap.cells ≡ world.cells
        cells_collected = corresponds_collected.store_agrees.cells

        -- where nothing is viewed, all cells are left but those of what can be reached
        pub left_collected : views c.state ≡ [] → left_of after.heap ≡ world.cells - live_size world c.state
        left_collected none =
            let tight : end_of after.heap ≡ size_of after.heap.blocks = h.blocks.lowest (λ a. unpinned store.heap (views c.state) a c.store_agrees.buffers.pins none) in
            omega (arith, tight, cells_collected, held_collected)

        -- the run goes on with the clearing of what is lost, and its blocks lie elsewhere
        pub run_collected : IsCollected (seen p world store journal) (seen p world after (journal ++ clearing_of names))
        run_collected =
            let before = left_seen p world store journal c.store_agrees.cells in
            let now = left_seen p world after (journal ++ clearing_of names) cells_collected in
            let more = more_left p world store ts printed stop journal c Kept can after later h in
            record {
              state = c.state;
              replays = c.replays;
              same = ap (λ (l : List ℕ). seen p world after (journal ++ clearing_of l)) names_are
                  ∙ ap (λ (o : Option ℕ). let r : Run = record { unit = p.unit; world = world; journal = journal ++ clearing_of (lost world c.state); layout = layout_of after.heap; slices = o } in r) (ap slices_of unmarked);
              packed = packed_layout Kept h.to store.heap after.heap c.store_agrees.laid_out can.there h.blocks (Reachable world c.state) (Contains (views c.state)) kept_named named_kept
                  (λ a n name some. to_contains (views c.state) n (times_in (views c.state) n (omega (arith, some, c.store_agrees.buffers.pins a n name))))
                  (λ a n name viewed. let often = in_times (views c.state) n (contains_in (views c.state) n viewed) in omega (arith, often, c.store_agrees.buffers.pins a n name));
              more = omega (arith, before, now, more);
              live = taken_seen after.heap.blocks ∙ held_collected;
              tight = λ none. now ∙ left_collected none;
              waits = λ k. subst (λ (l : List ℕ). is_blocked world.classes (with_cleared l c.state) k ≡ is_blocked world.classes c.state k) names_are (waits_still p world store ts printed stop journal c Kept can after later h names cl k);
            }

-- ---- a collection by itself

module _ (p : Lowered) (world : World) (store : Store) (ts : List Thread) (printed : List Printed) (stop : Option Stop) (journal : List Entry) (c : Corresponds p world store ts printed stop journal) where
  -- the machine stands for the state in which what is lost was cleared
  pub stands_after : (after : Store) (later : List Thread) (names : List ℕ) → AreCollected store ts after later → AreCleared store.heap store.statics.items store.weaks after.weaks names → after.heap.marking ≡ None
      → Corresponds p world after later printed stop (journal ++ clearing_of names)
  stands_after after later names h cl unmarked = corresponds_collected p world store ts printed stop journal c after later h names cl unmarked

  pub state_after : (after : Store) (later : List Thread) (names : List ℕ) (h : AreCollected store ts after later) (cl : AreCleared store.heap store.statics.items store.weaks after.weaks names) (unmarked : after.heap.marking ≡ None)
      → (stands_after after later names h cl unmarked).state ≡ with_cleared names c.state
  state_after after later names h cl unmarked =
      let led : replay (unit_tree p.unit) world (journal ++ clearing_of names) ≡ Some (with_cleared names c.state) =
      subst (λ (l : List ℕ). replay (unit_tree p.unit) world (journal ++ clearing_of l) ≡ Some (with_cleared l c.state)) (sym (names_are p world store ts printed stop journal c after later h names cl)) (replays_cleared (unit_tree p.unit) world journal c.state c.replays) in
      cc (sym (stands_after after later names h cl unmarked).replays, led)

  -- and the run is what a collection leaves
  pub run_after : (after : Store) (later : List Thread) (names : List ℕ) (old : Run) → ◌≡◌ {A = Run} (seen p world store journal) old → AreCollected store ts after later → AreCleared store.heap store.statics.items store.weaks after.weaks names → after.heap.marking ≡ None
      → IsCollected old (seen p world after (journal ++ clearing_of names))
  run_after after later names old view h cl unmarked =
      subst (λ (r : Run). IsCollected r (seen p world after (journal ++ clearing_of names))) view (run_collected p world store ts printed stop journal c after later h names cl unmarked)

  -- blocks lie apart, and what is viewed can be reached
  pub orderly : IsOrderly (seen p world store journal)
  orderly = record {
    state = c.state;
    replays = c.replays;
    rising = rising_layout store.heap c.store_agrees.laid_out;
    viewed = λ e there viewed.
        let b = block_of store.heap c.store_agrees.laid_out e there in
        let name : name_at store.heap (b.0).address ≡ Some e.name = ap (option_map (λ (x : Block). x.birth)) b.1 ∙ sym (ap (λ (x : Extent). Some x.name) b.2) in
        let low = name_within store.heap c.state.shared.heap (b.0).address e.name c.store_agrees.heap name in
        FromRoot e.name (from_one-contains (length c.state.shared.heap) e.name low.0 low.1) (view_root p world store ts printed stop journal c e.name (contains_in (views c.state) e.name viewed));
  }

-- ---- between two steps

module _ (p : Lowered) (world : World) (store : Store) (ts : List Thread) (index : ℕ) (printed : List Printed) (stop : Option Stop) (journal : List Entry) (c : Corresponds p world store ts printed stop journal) (between : Store) (among : List Thread) (cleared : List ℕ) (x : Advanced) where
  -- what a step begins with
  abbrev pub Between : Type 0
  Between = IsAsItWas store ts between among cleared x ⊎ IsAfterCollection p world store ts index between among cleared

  -- what is cleared before it is nothing, or all that is lost
  pub cleared_between : IsAfterCollection p world store ts index between among cleared → cleared ≡ lost world c.state
  cleared_between h = names_are p world store ts printed stop journal c between among h.collected cleared h.clears

  -- it stands for the journal with that clearing
  pub stands_between : Between → Corresponds p world between among printed stop (journal ++ clearing_of cleared)
  stands_between (inl h) =
      subst (λ (j : List Entry). Corresponds p world between among printed stop j) (sym (append-nil journal) ∙ ap (λ (l : List ℕ). journal ++ clearing_of l) (sym h.none))
      (subst (λ (y : Store). Corresponds p world y among printed stop journal) (sym h.same_store) (subst (λ (l : List Thread). Corresponds p world store l printed stop journal) (sym h.same_threads) c))
  stands_between (inr h) = stands_after p world store ts printed stop journal c between among cleared h.collected h.clears h.unmarked

  -- which leads to the state with what is cleared
  leads_between : Between → replay (unit_tree p.unit) world (journal ++ clearing_of cleared) ≡ Some (with_cleared cleared c.state)
  leads_between (inl h) =
      subst (λ (l : List ℕ). replay (unit_tree p.unit) world (journal ++ clearing_of l) ≡ Some (with_cleared l c.state)) (sym h.none)
      (ap (replay (unit_tree p.unit) world) (append-nil journal) ∙ c.replays ∙ ap (λ (s : State). Some s) (sym (same_state c.state)))
  leads_between (inr h) =
      subst (λ (l : List ℕ). replay (unit_tree p.unit) world (journal ++ clearing_of l) ≡ Some (with_cleared l c.state)) (sym (cleared_between h)) (replays_cleared (unit_tree p.unit) world journal c.state c.replays)

  pub state_between : (is : Between) → (stands_between is).state ≡ with_cleared cleared c.state
  state_between is = cc (sym (stands_between is).replays, leads_between is)

  -- where the allocation was refused there was a collection
  pub refused_after : Between → x ≡ advanced.Refused → IsAfterCollection p world store ts index between among cleared
  refused_after (inl h) refused = absurd (h.did refused)
  refused_after (inr h) refused = h

  -- which left all cells but those of what can be reached, with nothing viewed
  pub left_between : (is : Between) → x ≡ advanced.Refused → views (stands_between is).state ≡ [] → left_of between.heap ≡ world.cells - live_size world (stands_between is).state
  left_between is refused none =
      let h = refused_after is refused in
      let same = state_between is in
      let viewed : views c.state ≡ [] = sym (ap views same) ∙ none in
      left_collected p world store ts printed stop journal c between among h.collected cleared h.clears h.unmarked viewed ∙ ap (λ (s : State). world.cells - live_size world s) (sym same)

  -- threads go on where they have moved
  pub lives_between : Between → (i : ℕ) (t u : Thread) → slice_get ts i ≡ Some t → slice_get among i ≡ Some u → u.ending ≡ t.ending
  lives_between (inl h) i t u at there = let same : u ≡ t = let both : Some u ≡ Some t = sym there ∙ ap (λ (l : List Thread). slice_get l i) h.same_threads ∙ at in cc in ap (λ (y : Thread). y.ending) same
  lives_between (inr h) i t u at there =
      let to = h.collected.to in
      let same : u ≡ moved_thread to t = let both : Some u ≡ Some (moved_thread to t) = sym there ∙ ap (λ (l : List Thread). slice_get l i) h.collected.follow ∙ get_map (moved_thread to) ts i t at in cc in
      ap (λ (y : Thread). y.ending) same
