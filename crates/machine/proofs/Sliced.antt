-- What a slice leaves stands for the state that was there, in which what isn't kept was cleared where it ended the marking.
use Rattle.std.proofs.Common.{◌≡◌, ℕ, List, [], ◌∷◌, ◌++◌, append-nil, length, map, Option, Some, None, true, refl, sym, ap, ◌∙◌, subst, arith}
use Rattle.std.specs.Prelude.{◌≢◌, ◌==◌, Bool, false, cond, find, Contains}
use Rattle.std.specs.Option.{option_map}
use Rattle.std.proofs.lemmas.List.{length-map}
use Rattle.heap.specs.Heap.{Block, Space, block_at, name_at}
use Rattle.heap.specs.Layout.{Extent, extent_of, layout_of}
use Rattle.heap.specs.Marks.{Marks, is_kept}
use Rattle.heap.proofs.Names.{one_address}
use Rattle.code_meaning.specs.Lowered.{Lowered}
use Rattle.semantics.specs.Journal.{Entry}
use Rattle.semantics.specs.declared.event.Stop.{Stop}
use Rattle.semantics.specs.declared.printed.Printed.{Printed}
use Rattle.semantics.specs.State.{State, views}
use Rattle.semantics.specs.Step.{clearing_step}
use Rattle.semantics.specs.WeakReferences.{with_cleared}
use Rattle.semantics.specs.World.{World, loaded_objects}
use Rattle.semantics_safety.specs.Owners.{owners_after}
use Rattle.syntax.specs.Views.{unit_tree}
use Rattle.semantics.proofs.ReachableLemmas.{In, contains_in, in_head, in_tail, to_contains}
use Rattle.machine_scenes.specs.declared.store.Store.{Store}
use Rattle.machine_threads.specs.declared.thread.Thread.{Thread}
use Rattle.machine_collections.specs.Clearing.{AreCleared, clearing_of}
use Rattle.machine_collections.specs.Kept.{AreNotKept, HoldReachable}
use Rattle.machine_collections.specs.Roots.{root_places}
use Rattle.machine_collections.specs.Slices as machine_slices
use Rattle.machine_collections.proofs.KeptSets.{CanBeKept, hold_reachable, least_kept, whole_can}
use Rattle.machine_collections.proofs.CollectedStores.{not_kept}
use Rattle.machine_collections.proofs.Collections.{name_moved}
use Rattle.machine_collections.proofs.PutWeaks.{none_gone}
use Rattle.machine_collections.proofs.KeptSources.{not_kept_clears}
use Rattle.machine_collections.proofs.LiveBlocks.{births}
use Rattle.machine_collections.proofs.PackedLayouts.{packed_layout}
use Rattle.machine_collections.proofs.ReachableNames.{in_times, times_in}
use Rattle.machine.specs.Run.{Run, Corresponds, HasBlock, IsSliced, IsSlicedBy, MarkingEnds, MarkingGoesOn, acquired, seen, slices_of}
use Rattle.machine.proofs.Moved.{corresponds_moved, kept_closed, left_kept, left_seen, more_left, root_kept, waits_still}
use Rattle.machine.proofs.NotedThreads.{threads_noted}
use Rattle.machine_scenes.proofs.Noted.{store_noted}
use Rattle.machine.proofs.Slices.{count_is, evenly_more, one_more_slice}

-- ---- the names of blocks

-- the names of extents are those of the blocks
names_laid : (bs : List Block) → map (λ (e : Extent). e.name) (map extent_of bs) ≡ births bs
names_laid [] = refl
names_laid (b ∷ bs) = ap (λ (l : List ℕ). b.birth ∷ l) (names_laid bs)

has_block : (s : Space) (n : ℕ) → In (births s.blocks) n → HasBlock (layout_of s) n
has_block s n k = subst (λ (l : List ℕ). Contains l n) (sym (names_laid s.blocks)) (to_contains (births s.blocks) n k)

block_of_name : (s : Space) (n : ℕ) → HasBlock (layout_of s) n → In (births s.blocks) n
block_of_name s n c = contains_in (births s.blocks) n (subst (λ (l : List ℕ). Contains l n) (names_laid s.blocks) c)

-- a name that is at an address is one of a block
found_in : (bs : List Block) (a : ℕ) (b : Block) → find (λ (x : Block). x.address == a) bs ≡ Some b → In (births bs) b.birth
found_in [] a b at = let both : ◌≡◌ {A = Option Block} None (Some b) = at in absurd (cc)
found_in (x ∷ bs) a b at = by_test (x.address == a) at (λ e. found_in bs a b e)
  where
    by_test : (t : Bool) → cond t (Some x) (find (λ (y : Block). y.address == a) bs) ≡ Some b → (find (λ (y : Block). y.address == a) bs ≡ Some b → In (births bs) b.birth) → In (births (x ∷ bs)) b.birth
    by_test true e later = let same : x ≡ b = cc in subst (λ (y : Block). In (births (x ∷ bs)) y.birth) same (in_head x.birth (births bs))
    by_test false e later = in_tail x.birth (births bs) b.birth (later e)

name_in : (s : Space) (a n : ℕ) → name_at s a ≡ Some n → In (births s.blocks) n
name_in s a n name = by_block (block_at s a) refl
  where
    by_block : (o : Option Block) → block_at s a ≡ o → In (births s.blocks) n
    by_block None at = let both : ◌≡◌ {A = Option ℕ} None (Some n) = sym (ap (option_map (λ (b : Block). b.birth)) at) ∙ name in absurd (cc)
    by_block (Some b) at =
        let both : ◌≡◌ {A = Option ℕ} (Some b.birth) (Some n) = sym (ap (option_map (λ (x : Block). x.birth)) at) ∙ name in
        let same : b.birth ≡ n = cc in
        subst (λ (m : ℕ). In (births s.blocks) m) same (found_in s.blocks a b at)

-- ---- sets of names

holds_same : (world : World) (s : State) (P Q : ℕ → Type 0) → ((n : ℕ) → P n → Q n) → ((n : ℕ) → Q n → P n) → HoldReachable world s P → HoldReachable world s Q
holds_same world s P Q to from h = record { reachable = λ n r. to n (h.reachable n r); closed = λ n m k c. to m (h.closed n m (from n k) c) }

not_kept_same : (s : State) (P Q : ℕ → Type 0) (names : List ℕ) → ((n : ℕ) → P n → Q n) → ((n : ℕ) → Q n → P n) → AreNotKept s P names → AreNotKept s Q names
not_kept_same s P Q names to from h = record { rising = h.rising; held = h.held; gone = λ n c q. h.gone n c (from n q); all = λ n w out. h.all n w (λ p. out (to n p)) }

-- ---- a slice

module _ (p : Lowered) (world : World) (store : Store) (ts : List Thread) (printed : List Printed) (stop : Option Stop) (journal : List Entry) (c : Corresponds p world store ts printed stop journal) (after : Store) (later : List Thread) where
  -- one that goes on leaves all but the marking
  module _ (m : Marks) (h : machine_slices.GoesOn store ts after later m) where
    stands_on : Corresponds p world after later printed stop journal
    stands_on =
        subst (λ (x : Store). Corresponds p world x later printed stop journal) (sym h.same)
        (subst (λ (l : List Thread). Corresponds p world (record store { heap = record store.heap { marking = Some m } }) l printed stop journal) (sym h.stay) marked)
      where
        marked : Corresponds p world (record store { heap = record store.heap { marking = Some m } }) ts printed stop journal
        marked = record {
          lowered = c.lowered;
          safe = c.safe;
          typed = c.typed;
          methods = c.methods;
          state = c.state;
          replays = c.replays;
          store_agrees = store_noted p world store (Some m) c.state.shared (acquired c.state) c.store_agrees;
          threads_agree = threads_noted p world.classes store.heap (Some m) store.elements (length (loaded_objects world)) (owners_after (unit_tree p.unit) world journal) 1 c.state.shared ts c.state.threads c.threads_agree;
          same_printed = c.same_printed;
          same_stop = c.same_stop;
          born = c.born;
          fits = c.fits;
          fair = c.fair;
          count = c.count;
          few = c.few;
          sliced = evenly_more store.heap.marking m h.marked c.sliced;
        }

    goes_on : MarkingGoesOn (seen p world store journal) (seen p world after journal)
    goes_on =
        ap (λ (x : Store). seen p world x journal) h.same
        ∙ ap (λ (o : Option ℕ). let r : Run = record (seen p world store journal) { slices = o } in r) (one_more_slice store.heap.marking m h.marked c.sliced)

  -- one that ends the marking
  module _ (h : machine_slices.HasEnded store ts after later) (unmarked : after.heap.marking ≡ None) (names : List ℕ) (cl : AreCleared store.heap store.statics.items store.weaks after.weaks names) where
    abbrev Kept : ℕ → Type 0
    Kept = λ a. is_kept h.kept a ≡ true

    can : CanBeKept Kept store.heap (root_places store ts)
    can = whole_can store.heap (root_places store ts) h.kept h.whole

    abbrev Named : ℕ → Type 0
    Named = λ n. (a : ℕ) × (name_at store.heap a ≡ Some n) × Kept a

    left_named : (n : ℕ) → HasBlock (layout_of after.heap) n → Named n
    left_named n k = left_kept p world store ts printed stop journal c Kept can after later h.moved n (block_of_name after.heap n k)

    named_left : (n : ℕ) → Named n → HasBlock (layout_of after.heap) n
    named_left n k = has_block after.heap n (name_in after.heap (h.moved.to k.0) n (name_moved Kept h.moved.to store.heap after.heap h.moved.blocks k.0 n k.2 k.1))

    holds : HoldReachable world c.state (HasBlock (layout_of after.heap))
    holds = holds_same world c.state Named (HasBlock (layout_of after.heap)) named_left left_named
        (hold_reachable Kept store.heap (root_places store ts) can world c.state c.store_agrees.heap (λ n k. let r = root_kept p world store ts printed stop journal c n k in (r.0, r.1, least_kept Kept store.heap (root_places store ts) can r.0 r.2)))

    gone : AreNotKept c.state (HasBlock (layout_of after.heap)) names
    gone = not_kept_same c.state Named (HasBlock (layout_of after.heap)) names named_left left_named
        (not_kept Kept h.moved.to p world c.state store after after.heap h.moved.blocks (kept_closed p world store ts printed stop journal c Kept can after later h.moved) h.moved.moved h.moved.weaks names cl (acquired c.state) c.store_agrees)

    possible : names ≢ [] → clearing_step world c.state names ≡ Some (with_cleared names c.state)
    possible some = not_kept_clears world c.state (HasBlock (layout_of after.heap)) names holds gone some

    stands_ended : Corresponds p world after later printed stop (journal ++ clearing_of names)
    stands_ended = corresponds_moved p world store ts printed stop journal c Kept can after later h.moved names cl possible unmarked

    ends : MarkingEnds (seen p world store journal) (seen p world after (journal ++ clearing_of names))
    ends =
        let before = left_seen p world store journal c.store_agrees.cells in
        let now = left_seen p world after (journal ++ clearing_of names) stands_ended.store_agrees.cells in
        let more = more_left p world store ts printed stop journal c Kept can after later h.moved in
        let counted = count_is store.heap.marking c.sliced in
        let long = length-map after.heap.blocks extent_of in
        let many = h.many in
        record {
          state = c.state;
          replays = c.replays;
          holds = holds;
          packed = packed_layout Kept h.moved.to store.heap after.heap c.store_agrees.laid_out can.there h.moved.blocks (HasBlock (layout_of after.heap)) (Contains (views c.state))
              (λ a n name kept. named_left n (a, name, kept))
              (λ a n name k. let r = left_named n k in subst Kept (one_address store.heap r.0 a n c.store_agrees.heap.unique r.1 name) r.2)
              (λ a n name some. to_contains (views c.state) n (times_in (views c.state) n (omega (arith, some, c.store_agrees.buffers.pins a n name))))
              (λ a n name viewed. let often = in_times (views c.state) n (contains_in (views c.state) n viewed) in omega (arith, often, c.store_agrees.buffers.pins a n name));
          many = omega (arith, counted, long, many);
          more = omega (arith, before, now, more);
          names = names;
          cleared = gone;
          same = ap (λ (o : Option ℕ). let r : Run = record { unit = p.unit; world = world; journal = journal ++ clearing_of names; layout = layout_of after.heap; slices = o } in r) (ap slices_of unmarked);
          waits = waits_still p world store ts printed stop journal c Kept can after later h.moved names cl;
        }

  -- either
  module _ (names : List ℕ) (h : machine_slices.AreSliced store ts after later) (cl : AreCleared store.heap store.statics.items store.weaks after.weaks names) where
    -- one that goes on clears nothing
    none_while : (m : Marks) → machine_slices.GoesOn store ts after later m → names ≡ []
    none_while m g = none_gone store.heap store.statics.items store.weaks names (subst (λ (w : List (Option (Option ℕ))). AreCleared store.heap store.statics.items store.weaks w names) (ap (λ (x : Store). x.weaks) g.same) cl)

    same_journal : (m : Marks) → machine_slices.GoesOn store ts after later m → journal ++ clearing_of names ≡ journal
    same_journal m g = ap (λ (l : List ℕ). journal ++ clearing_of l) (none_while m g) ∙ append-nil journal

    pub stands_sliced : Corresponds p world after later printed stop (journal ++ clearing_of names)
    stands_sliced = by_marking after.heap.marking refl h
      where
        by_marking : (o : Option Marks) → after.heap.marking ≡ o → machine_slices.AreSlicedBy o store ts after later → Corresponds p world after later printed stop (journal ++ clearing_of names)
        by_marking None e g = stands_ended g e names cl
        by_marking (Some m) e g = subst (λ (j : List Entry). Corresponds p world after later printed stop j) (sym (same_journal m g)) (stands_on m g)

    pub run_sliced : IsSliced (seen p world store journal) (seen p world after (journal ++ clearing_of names))
    run_sliced = by_marking after.heap.marking refl h
      where
        by_marking : (o : Option Marks) → after.heap.marking ≡ o → machine_slices.AreSlicedBy o store ts after later → IsSliced (seen p world store journal) (seen p world after (journal ++ clearing_of names))
        by_marking None e g = subst (λ (q : Option Marks). IsSlicedBy (slices_of q) (seen p world store journal) (seen p world after (journal ++ clearing_of names))) (sym e) (ends g e names cl)
        by_marking (Some m) e g =
            subst (λ (q : Option Marks). IsSlicedBy (slices_of q) (seen p world store journal) (seen p world after (journal ++ clearing_of names))) (sym e)
            (subst (λ (j : List Entry). MarkingGoesOn (seen p world store journal) (seen p world after j)) (sym (same_journal m g)) (goes_on m g))
