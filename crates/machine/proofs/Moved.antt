-- What is left where kept blocks were moved together stands for the state in which the weak references to the others were cleared.
use Rattle.std.proofs.Common.{◌≡◌, ℕ, zero, suc, ◌+◌, ◌*◌, ◌<◌, ◌≤◌, length, map, List, [], ◌∷◌, ◌++◌, Option, Some, None, refl, sym, ap, ◌∙◌, subst, arith, IsSome, ⊎_elim}
use Rattle.std.specs.Prelude.{◌≢◌, Contains, flat_map, slice_get, sum_by}
use Rattle.std.specs.Option.{option_map, option_map_or, option_to_list}
use Rattle.std.proofs.lemmas.Bool.{false≢true}
use Rattle.std.proofs.lemmas.List.{length-map}
use Rattle.std.proofs.lemmas.List.Concat.{flat_map-cons}
use Rattle.std.proofs.lemmas.List.Sums.{sum_by-cons}
use Rattle.base.proofs.Lists.{get-from_contains, get_map}
use Rattle.heap.specs.declared.value.Value.{Value}
use Rattle.heap.specs.Layout.{Extent, extent_of, layout_of, top_of}
use Rattle.heap.proofs.Extents.{top_is}
use Rattle.heap.specs.Heap.{Block, Space, IsAddress, IsLaidOut, block_at, block_end, block_size, end_from, end_of, left_of, name_at, pins_at, values_at}
use Rattle.compact.specs.Same.{MovesBy, moved, moved_value, size_of}
use Rattle.heap.proofs.Lookups.{block_at-place}
use Rattle.heap.proofs.Places.{IsAddress-from_place}
use Rattle.heap.proofs.Relocated.{ends_below}
use Rattle.compact.specs.Reach as compact
use Rattle.compact.specs.Reach.{IsClosed, IsKept, Refers}
use Rattle.compact.specs.Reach.IsKept.{root, pinned, referred}
use Rattle.compact.proofs.Tight.{some_block}
use Rattle.tables.specs.References.{references_in}
use Rattle.code_meaning.specs.Lowered.{Lowered}
use Rattle.semantics.specs.Journal.{Entry, steps_in}
use Rattle.semantics.specs.declared.printed.Printed.{Printed}
use Rattle.semantics.specs.Reachable.{roots}
use Rattle.semantics.specs.State.{thread_at, views}
use Rattle.semantics.specs.Step.{clearing_step, is_blocked}
use Rattle.semantics.specs.Thread as source
use Rattle.semantics.specs.Thread.{viewed_by}
use Rattle.semantics.proofs.ClearedMade.{blocked_stays, none_waits}
use Rattle.semantics.specs.WeakReferences.{with_cleared}
use Rattle.semantics.specs.World.{World, loaded_objects}
use Rattle.semantics_safety.specs.Owners.{AllOwners, owners_after}
use Rattle.syntax.specs.Views.{unit_tree}
use Rattle.semantics.proofs.ReachableLemmas.{In, in_append_cases, in_append_left, in_append_right, in_cases, in_head}
use Rattle.machine_scenes.specs.declared.activation.Activation.{Activation}
use Rattle.machine_scenes.specs.declared.store.Store.{Store}
use Rattle.machine_scenes.specs.HeapAgrees.{times}
use Rattle.machine_scenes.proofs.BlocksOfNames.{is_address, named}
use Rattle.machine_threads.specs.declared.thread.Thread.{Thread}
use Rattle.semantics.specs.declared.event.Stop.{Stop}
use Rattle.tables.specs.Elements.{OwnedNumbers}
use Rattle.tables.specs.Keys.{value_at}
use Rattle.tables.specs.Weaks.{weak_places}
use Rattle.machine_scenes.specs.StoreAgrees.{StoreAgrees}
use Rattle.machine_threads.specs.ThreadAgrees.{ThreadsAgree}
use Rattle.machine_collections.specs.Clearing.{AreCleared, clearing_of}
use Rattle.machine_collections.specs.Moving.{AreMovedTogether, AreReferred, moved_thread}
use Rattle.machine_collections.specs.Roots.{ThreadsAreStacked, root_places, slots_of}
use Rattle.machine.specs.Run.{Corresponds, acquired, cells_left, seen}
use Rattle.machine_collections.proofs.ClearedRuns.{fair_cleared, fits_cleared, owners_cleared, replays_with, steps_cleared}
use Rattle.machine_collections.proofs.ClearedThreads.{threads_cleared}
use Rattle.machine_collections.proofs.CollectedStores.{store_collected}
use Rattle.machine_collections.proofs.CollectedThreads.{threads_moved}
use Rattle.machine_collections.proofs.Collections.{name_moved}
use Rattle.machine_collections.proofs.GatheredRoots.{call_addresses, gathered, given_addresses, in_place, own_addresses, places_are, thread_addresses}
use Rattle.machine_collections.proofs.OwnedMonitors.{monitor_addresses}
use Rattle.machine_collections.proofs.KeptNames.{referred_name}
use Rattle.machine_collections.proofs.KeptReferences.{AreKept, CallIsKept, CallersAreKept, IsClosedUnder, ThreadsAreKept}
use Rattle.machine_collections.proofs.LiveBlocks.{births}
use Rattle.machine_collections.proofs.ReachableNames.{in_times, times_in}
use Rattle.machine.proofs.Reports.{gathered_name, name_gathered, root_among, source_roots, view_root}
use Rattle.machine_collections.proofs.KeptSets.{CanBeKept, closed_under}
use Rattle.machine.proofs.Slices.{IsSlicedEvenly}

-- ---- blocks

-- a block that is pinned is of an object that is viewed
pub pinned_name : (space : Space) (all : List ℕ) (a : ℕ) → ((b n : ℕ) → name_at space b ≡ Some n → pins_at space b ≡ times n all) → 0 < pins_at space a → (n : ℕ) × (name_at space a ≡ Some n) × In all n
pinned_name space all a pins some = by_block (block_at space a) refl
  where
    by_block : (o : Option Block) → block_at space a ≡ o → (n : ℕ) × (name_at space a ≡ Some n) × In all n
    by_block None at = let none : pins_at space a ≡ 0 = ap (λ (o : Option Block). option_map_or (λ (b : Block). b.pins) o 0) at in absurd (omega (arith, some, none))
    by_block (Some b) at =
        let name : name_at space a ≡ Some b.birth = ap (option_map (λ (b : Block). b.birth)) at in
        (b.birth, name, times_in all b.birth (omega (arith, some, pins a b.birth name)))

-- so where nothing is, no block is
pub unpinned : (space : Space) (all : List ℕ) (a : ℕ) → ((b n : ℕ) → name_at space b ≡ Some n → pins_at space b ≡ times n all) → all ≡ [] → pins_at space a ≡ 0
unpinned space all a pins none = by_pins (pins_at space a) refl
  where
    by_pins : (n : ℕ) → pins_at space a ≡ n → n ≡ 0
    by_pins zero e = refl
    by_pins (suc n) e =
        let some : 0 < pins_at space a = omega (arith, e) in
        let r = pinned_name space all a pins some in
        absurd (false≢true (subst (λ (l : List ℕ). In l r.0) none r.2))

pub some_name : (o : Option Block) → IsSome o → (n : ℕ) × (option_map (λ (b : Block). b.birth) o ≡ Some n)
some_name None h = absurd (false≢true h)
some_name (Some b) h = (b.birth, refl)

pub birth_at : (bs : List Block) (n : ℕ) → In (births bs) n → (i : ℕ) × (b : Block) × (slice_get bs i ≡ Some b) × (b.birth ≡ n)
birth_at [] n h = absurd (false≢true h)
birth_at (b ∷ bs) n h =
    ⊎_elim
    (λ (e : b.birth ≡ n). (0, b, refl, e))
    (λ (l : In (births bs) n). let r = birth_at bs n l in (suc r.0, r.1, r.2, r.3))
    (in_cases b.birth (births bs) n h)

-- ---- the highest block

-- blocks that end no higher than this
ends_by : (from : ℕ) (bs : List Block) (top : ℕ) → from ≤ top → ((k : ℕ) (b : Block) → slice_get bs k ≡ Some b → block_end b ≤ top) → end_from from bs ≤ top
ends_by from [] top low each = low
ends_by from (b ∷ bs) top low each = ends_by (block_end b) bs top (each 0 b refl) (λ k c at. each (suc k) c at)

-- what has moved ends no higher than before
pub left_grows : (Kept : ℕ → Type 0) (f : ℕ → ℕ) (s t : Space) → ((a : ℕ) → Kept a → IsAddress s a) → IsLaidOut s → MovesBy Kept f s t → left_of s ≤ left_of t
left_grows Kept f s t there laid h =
    let top : end_of t ≤ end_of s = ends_by 0 t.blocks (end_of s) (omega arith) (λ k b at.
    let place = get_map (λ (x : Block). x.address) t.blocks k b at in
    let here : block_at t b.address ≡ Some b = block_at-place t k b.address h.laid_out place ∙ at in
    let old = h.only b.address (IsAddress-from_place t k b.address h.laid_out place) in
    let was = some_block s old.0 (there old.0 old.1) in
    let now : block_at t b.address ≡ Some (moved f was.0) = subst (λ n. block_at t n ≡ Some (moved f was.0)) old.2 (h.kept old.0 was.0 old.1 was.1) in
    let same : b ≡ moved f was.0 = let both : Some b ≡ Some (moved f was.0) = sym here ∙ now in cc in
    let size : length b.values ≡ length (was.0).values = ap (λ (x : Block). length x.values) same ∙ length-map (was.0).values (moved_value f) in
    let long : length (values_at s old.0) ≡ length (was.0).values = ap (λ (o : Option Block). length (option_map_or (λ (x : Block). x.values) o [])) was.1 in
    let end = ends_below s old.0 laid (there old.0 old.1) in
    let down : f old.0 ≤ old.0 = h.down old.0 old.1 in
    let at_new : f old.0 ≡ b.address = old.2 in
    omega (arith, size, long, end, down, at_new)) in
    let cells : t.cells ≡ s.cells = h.cells in
    omega (arith, top, cells)

-- ---- what is seen of a heap

-- the cells that a run has left
pub left_seen : (p : Lowered) (world : World) (store : Store) (journal : List Entry) → store.heap.cells ≡ world.cells → cells_left (seen p world store journal) ≡ left_of store.heap
left_seen p world store journal cells = let top : top_of (layout_of store.heap) ≡ end_of store.heap = top_is 0 store.heap.blocks in omega (arith, top, cells)

-- the cells that its blocks take
pub taken_seen : (bs : List Block) → sum_by (λ (e : Extent). e.size) (map extent_of bs) ≡ size_of bs
taken_seen [] = refl
taken_seen (b ∷ bs) = sum_by-cons (λ (e : Extent). e.size) (extent_of b) (map extent_of bs) ∙ ap (λ (n : ℕ). block_size b + n) (taken_seen bs) ∙ sym (sum_by-cons block_size b bs)

-- ---- what is kept

pub each_kept : (Kept : ℕ → Type 0) (xs : List ℕ) → ((a : ℕ) → In xs a → Kept a) → AreKept Kept xs
each_kept Kept [] h = tt
each_kept Kept (x ∷ xs) h = (h x (in_head x xs), each_kept Kept xs (λ a k. h a (in_later x xs a k)))
  where
    in_later : (x : ℕ) (xs : List ℕ) (a : ℕ) → In xs a → In (x ∷ xs) a
    in_later x xs a k = in_append_right (x ∷ []) xs a k

call_kept : (Kept : ℕ → Type 0) (t : Thread) → ((a : ℕ) → In (references_in (slots_of t.call)) a → Kept a) → CallIsKept Kept t.call
call_kept Kept t h = by_call t.call h
  where
    by_call : (o : _) → ((a : ℕ) → In (references_in (slots_of o)) a → Kept a) → CallIsKept Kept o
    by_call None h = tt
    by_call (Some call) h = each_kept Kept (references_in call.locals.slots) h

callers_kept : (Kept : ℕ → Type 0) (calls : List Activation) → ((a : ℕ) → In (flat_map call_addresses calls) a → Kept a) → CallersAreKept Kept calls
callers_kept Kept [] h = tt
callers_kept Kept (call ∷ calls) h =
    let all : (a : ℕ) → In (call_addresses call ++ flat_map call_addresses calls) a → Kept a = λ a k. h a (subst (λ (l : List ℕ). In l a) (sym (flat_map-cons call_addresses call calls)) k) in (
      each_kept Kept (references_in call.locals.slots) (λ a k. all a (in_append_left (call_addresses call) (flat_map call_addresses calls) a k)),
      callers_kept Kept calls (λ a k. all a (in_append_right (call_addresses call) (flat_map call_addresses calls) a k)),
    )

in_option : (o : Option ℕ) (a : ℕ) → o ≡ Some a → In (option_to_list o) a
in_option o a e = subst (λ (x : Option ℕ). In (option_to_list x) a) (sym e) (in_head a [])

pub threads_kept : (Kept : ℕ → Type 0) (ts : List Thread) → ((a : ℕ) → In (flat_map thread_addresses ts) a → Kept a) → ThreadsAreKept Kept ts
threads_kept Kept [] h = tt
threads_kept Kept (t ∷ ts) h =
    let all : (a : ℕ) → In (thread_addresses t ++ flat_map thread_addresses ts) a → Kept a = λ a k. h a (subst (λ (l : List ℕ). In l a) (sym (flat_map-cons thread_addresses t ts)) k) in
    let whole : (a : ℕ) → In (thread_addresses t) a → Kept a = λ a k. all a (in_append_left (thread_addresses t) (flat_map thread_addresses ts) a k) in
    let below = flat_map call_addresses t.callers.items in
    let given = given_addresses t in
    let rest = references_in (slots_of t.call) ++ option_to_list t.pending in
    let own : (a : ℕ) → In (own_addresses t) a → Kept a = λ a k. whole a (in_append_right below (own_addresses t) a k) in
    let last : (a : ℕ) → In rest a → Kept a = λ a k. own a (in_append_right given rest a k) in (
      callers_kept Kept t.callers.items (λ a k. whole a (in_append_left below (own_addresses t) a k)),
      each_kept Kept given (λ a k. own a (in_append_left given rest a k)),
      call_kept Kept t (λ a k. last a (in_append_left (references_in (slots_of t.call)) (option_to_list t.pending) a k)),
      (λ a e. last a (in_append_right (references_in (slots_of t.call)) (option_to_list t.pending) a (in_option t.pending a e))),
      threads_kept Kept ts (λ a k. all a (in_append_right (thread_addresses t) (flat_map thread_addresses ts) a k)),
    )

-- a place with an address has a weak reference that isn't cleared
weak_at : (slots : List (Option (Option ℕ))) (place a : ℕ) → slice_get (weak_places slots) place ≡ Some (Some a) → value_at slots place ≡ Some (Some a)
weak_at [] place a at = absurd (cc)
weak_at (None ∷ slots) zero a at = absurd (let both : ◌≡◌ {A = Option (Option ℕ)} (Some None) (Some (Some a)) = at in cc)
weak_at (Some held ∷ slots) zero a at = let both : ◌≡◌ {A = Option (Option ℕ)} (Some held) (Some (Some a)) = at in both
weak_at (s ∷ slots) (suc place) a at = weak_at slots place a at

-- ---- the machine

module _ (p : Lowered) (world : World) (store : Store) (ts : List Thread) (printed : List Printed) (stop : Option Stop) (journal : List Entry) (c : Corresponds p world store ts printed stop journal) where
  pub viewed_name : (a : ℕ) → 0 < pins_at store.heap a → (n : ℕ) × (name_at store.heap a ≡ Some n) × Contains (roots world c.state) n
  viewed_name a some =
      let r = pinned_name store.heap (views c.state) a c.store_agrees.buffers.pins some in
      (r.0, r.1, view_root p world store ts printed stop journal c r.0 r.2)

  pub is_closed : IsClosed store.heap
  is_closed a b there r =
      let name = some_name (block_at store.heap a) there in
      let d = named store.heap c.state.shared.heap a name.0 c.store_agrees.heap name.1 in
      let values : values_at store.heap a ≡ d.block.values = ap (λ (o : Option Block). option_map_or (λ (x : Block). x.values) o []) d.at in
      let to = referred_name store.heap d.block.values d.agrees.object.values r.place b d.agrees.values (sym (ap (λ (l : List Value). slice_get l r.place) values) ∙ r.value) in
      is_address store.heap b to.0 to.1

  pub roots_there : ThreadsAreStacked ts → compact.AreAddresses store.heap (root_places store ts)
  roots_there stacked a there = let r = gathered_name p world store ts printed stop journal c stacked a there in is_address store.heap a r.0 r.1

  -- the objects of roots and views have blocks that are kept
  pub root_kept : (n : ℕ) → Contains (roots world c.state) n → (a : ℕ) × (name_at store.heap a ≡ Some n) × IsKept store.heap (root_places store ts) a
  root_kept n k = ⊎_elim
      (λ (l : In (source_roots p world store ts printed stop journal c) n). let r = name_gathered p world store ts printed stop journal c n l in (r.0, r.1, root r.2))
      (λ (l : In (views c.state) n).
      let often = in_times (views c.state) n l in
      let r = c.store_agrees.buffers.there n often in
      (r.0, r.1, pinned (omega (arith, often, c.store_agrees.buffers.pins r.0 n r.1))))
      (in_append_cases (source_roots p world store ts printed stop journal c) (views c.state) n (root_among p world store ts printed stop journal c n k))

  -- what blocks and roots refer to is there
  pub are_referred : AreReferred store ts
  are_referred = record {
    closed = is_closed;
    roots = roots_there;
    weaks = λ a there.
        let at = get-from_contains (weak_places store.weaks) (Some a) there in
        let r = c.store_agrees.weaks there.0 a (weak_at store.weaks there.0 a at) in
        is_address store.heap a r.0 r.1;
  }

  -- What is kept may be any blocks that can be: they hold roots and what is viewed, and all that these refer to.
  module _ (Kept : ℕ → Type 0) (can : CanBeKept Kept store.heap (root_places store ts)) (after : Store) (later : List Thread) (h : AreMovedTogether Kept store ts after later) where
    gathered_kept : (a : ℕ) → In (gathered store ts) a → Kept a
    gathered_kept a k = can.rooted a (in_place (root_places store ts) a (subst (λ (l : List ℕ). In l a) (sym (places_are store ts)) k))

    pub kept_closed : IsClosedUnder Kept store.heap
    kept_closed = closed_under Kept store.heap (root_places store ts) can

    -- no fewer cells are left
    pub more_left : left_of store.heap ≤ left_of after.heap
    more_left = left_grows Kept h.to store.heap after.heap kept_closed.there c.store_agrees.laid_out h.blocks

    -- a block that is left was kept, and had its name
    pub left_kept : (n : ℕ) → In (births after.heap.blocks) n → (a : ℕ) × (name_at store.heap a ≡ Some n) × Kept a
    left_kept n k =
        let t = after.heap in
        let at = birth_at t.blocks n k in
        let b : Block = at.1 in
        let place = get_map (λ (x : Block). x.address) t.blocks at.0 b at.2 in
        let here : block_at t b.address ≡ Some b = block_at-place t at.0 b.address h.blocks.laid_out place ∙ at.2 in
        let old = h.blocks.only b.address (IsAddress-from_place t at.0 b.address h.blocks.laid_out place) in
        let name = some_name (block_at store.heap old.0) (kept_closed.there old.0 old.1) in
        let now : name_at t b.address ≡ Some name.0 = subst (λ (x : ℕ). name_at t x ≡ Some name.0) old.2 (name_moved Kept h.to store.heap t h.blocks old.0 name.0 old.1 name.1) in
        let birth : Some b.birth ≡ Some name.0 = sym (ap (option_map (λ (x : Block). x.birth)) here) ∙ now in
        let same : name.0 ≡ n = let first : b.birth ≡ name.0 = cc in sym first ∙ at.3 in
        (old.0, subst (λ (m : ℕ). name_at store.heap old.0 ≡ Some m) same name.1, old.1)

    module _ (names : List ℕ) (cl : AreCleared store.heap store.statics.items store.weaks after.weaks names) where
      loaded_kept : (a : ℕ) → In store.loaded.items a → Kept a
      loaded_kept a k = gathered_kept a (in_append_left store.loaded.items (references_in store.globals ++ (flat_map thread_addresses ts ++ monitor_addresses store.monitors)) a k)

      later_kept : (a : ℕ) → In (references_in store.globals ++ (flat_map thread_addresses ts ++ monitor_addresses store.monitors)) a → Kept a
      later_kept a k = gathered_kept a (in_append_right store.loaded.items (references_in store.globals ++ (flat_map thread_addresses ts ++ monitor_addresses store.monitors)) a k)

      last_kept : (a : ℕ) → In (flat_map thread_addresses ts ++ monitor_addresses store.monitors) a → Kept a
      last_kept a k = later_kept a (in_append_right (references_in store.globals) (flat_map thread_addresses ts ++ monitor_addresses store.monitors) a k)

      pub shared_stands : StoreAgrees p world after (with_cleared names c.state).shared (acquired c.state)
      shared_stands =
          store_collected Kept h.to p world c.state store after after.heap h.blocks kept_closed h.moved h.weaks names cl can.decides (acquired c.state) c.store_agrees
          (each_kept Kept store.loaded.items loaded_kept)
          (each_kept Kept (references_in store.globals) (λ a k. later_kept a (in_append_left (references_in store.globals) (flat_map thread_addresses ts ++ monitor_addresses store.monitors) a k)))
          (each_kept Kept (monitor_addresses store.monitors) (λ a k. last_kept a (in_append_right (flat_map thread_addresses ts) (monitor_addresses store.monitors) a k)))
          can.pinned

      abbrev made : ℕ
      made = length (loaded_objects world)

      pub threads_stand : ThreadsAgree p world.classes after.heap after.elements made (owners_after (unit_tree p.unit) world (journal ++ clearing_of names)) 1 (with_cleared names c.state).shared later c.state.threads
      threads_stand =
          let owners = owners_after (unit_tree p.unit) world journal in
          let all_pinned : (a n : ℕ) → name_at store.heap a ≡ Some n → 0 < times n (flat_map viewed_by c.state.threads) → Kept a × (0 < pins_at store.heap a) = λ a n named some.
          let many : 0 < pins_at store.heap a = omega (arith, some, c.store_agrees.buffers.pins a n named) in (can.pinned a many, many) in
          let moved = threads_moved Kept h.to p store after.heap h.blocks world.classes made owners 1 c.state.shared ts c.state.threads
          (threads_kept Kept ts (λ a k. last_kept a (in_append_left (flat_map thread_addresses ts) (monitor_addresses store.monitors) a k))) all_pinned c.threads_agree in
          let cleared = threads_cleared p world.classes after.heap store.elements names c.state.shared made owners 1 (map (moved_thread h.to) ts) c.state.threads moved in
          subst (λ (o : AllOwners). ThreadsAgree p world.classes after.heap after.elements made o 1 (with_cleared names c.state).shared later c.state.threads) (sym (owners_cleared (unit_tree p.unit) world journal names))
          (subst (λ (l : List Thread). ThreadsAgree p world.classes after.heap after.elements made owners 1 (with_cleared names c.state).shared l c.state.threads) (sym h.follow)
          (subst (λ (copies : List (Option OwnedNumbers)). ThreadsAgree p world.classes after.heap copies made owners 1 (with_cleared names c.state).shared (map (moved_thread h.to) ts) c.state.threads) (sym h.moved.elements) cleared))

      -- The machine stands for the state in which these were cleared, by one entry or by none. Whether it is possible is the caller's to know.
      unfoldable pub corresponds_moved : (names ≢ [] → clearing_step world c.state names ≡ Some (with_cleared names c.state)) → after.heap.marking ≡ None → Corresponds p world after later printed stop (journal ++ clearing_of names)
      corresponds_moved possible unmarked = record {
        lowered = c.lowered;
        safe = c.safe;
        typed = c.typed;
        methods = c.methods;
        state = with_cleared names c.state;
        replays = replays_with (unit_tree p.unit) world journal c.state names possible c.replays;
        store_agrees = shared_stands;
        threads_agree = threads_stand;
        same_printed = c.same_printed;
        same_stop = c.same_stop;
        born = subst (λ (n : ℕ). n ≤ 1048576 + 2 * steps_in (journal ++ clearing_of names)) (sym h.moved.births)
            (subst (λ (n : ℕ). store.births ≤ 1048576 + 2 * n) (sym (steps_cleared journal names)) c.born);
        fits = fits_cleared (unit_tree p.unit) world journal names c.fits;
        fair = fair_cleared (unit_tree p.unit) world journal names c.fair;
        count = ap (λ (l : List Thread). length l) h.follow ∙ length-map ts (moved_thread h.to) ∙ c.count;
        few = subst (λ (n : ℕ). n ≤ 8) (sym (ap (λ (l : List Thread). length l) h.follow ∙ length-map ts (moved_thread h.to))) c.few;
        sliced = subst IsSlicedEvenly (sym unmarked) tt;
      }

      -- and a thread waits exactly where it did
      pub waits_still : (k : ℕ) → is_blocked world.classes (with_cleared names c.state) k ≡ is_blocked world.classes c.state k
      waits_still k = by_thread (thread_at c.state k) refl
        where
          by_thread : (o : Option source.Thread) → thread_at c.state k ≡ o → is_blocked world.classes (with_cleared names c.state) k ≡ is_blocked world.classes c.state k
          by_thread None none = none_waits world.classes c.state k names none
          by_thread (Some t) there = blocked_stays world.classes c.state k t names there (c.safe journal c.state k t c.replays there).weak
