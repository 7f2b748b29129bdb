-- The store stands for what all threads share of the source still, once a collection has cleared there what it doesn't keep.
use Rattle.std.proofs.Common.{◌≡◌, ℕ, zero, suc, ◌<◌, List, [], ◌∷◌, length, map, Option, Some, None, refl, sym, ap, ◌∙◌, subst, inl, inr, ◌⊎◌, IsSome}
use Rattle.std.specs.Prelude.{slice_get}
use Rattle.std.specs.Option.{option_map}
use Rattle.base.specs.Bytes.{Identifier}
use Rattle.heap.specs.Heap.{Space, IsLaidOut, name_at, pins_at}
use Rattle.compact.specs.Same.{MovesBy}
use Rattle.code_meaning.specs.Lowered.{Lowered}
use Rattle.semantics.specs.declared.static_reference.StaticReference.TheVariants as static
use Rattle.semantics.specs.Reachable.{Reachable}
use Rattle.semantics.specs.State.{State}
use Rattle.semantics.specs.Variable as source
use Rattle.semantics.specs.Variable.{Statics}
use Rattle.semantics.specs.WeakReferences.{cleared_statics, lost, with_cleared}
use Rattle.semantics.specs.World.{World, loaded_objects}
use Rattle.tables.specs.Elements.{OwnedNumbers}
use Rattle.tables.specs.Keys.{value_at}
use Rattle.tables.specs.References.{address_at, references_in}
use Rattle.monitors.specs.declared.monitors.Monitor.{Monitor}
use Rattle.monitors.specs.Monitors.{addresses}
use Rattle.machine_scenes.specs.MonitorsAgree.{AreThere, MonitorsAgree}
use Rattle.machine_scenes.proofs.MovedMonitors.{moved}
use Rattle.machine_scenes.specs.Buffers.{Acquired, IsTaken}
use Rattle.machine_scenes.specs.declared.store.Store.{Store}
use Rattle.machine_scenes.specs.HeapAgrees.{HeapAgrees, IsTable, SlotsAgree}
use Rattle.machine_scenes.specs.Statics.{StaticReference, all_held, held, held_at, held_weakly}
use Rattle.machine_scenes.specs.StoreAgrees.{AreWeaklyThere, StaticsAgree, StoreAgrees}
use Rattle.machine_collections.specs.Clearing.{AreCleared}
use Rattle.machine_collections.specs.Kept.{AreNotKept}
use Rattle.machine_collections.specs.Moving.{AreFollowed, IsMoved, moved_monitors, moved_slots}
use Rattle.machine_collections.proofs.Clearings.{cleared_are, lost_is, statics_cleared}
use Rattle.machine_collections.proofs.Collections.{address_moved, heap_moved, kept_at, name_moved, slots_moved, table_moved, taken_moved}
use Rattle.machine_collections.proofs.KeptReferences.{AllHeldAreKept, AreKept, HasKept, HeldIsKept, IsClosedUnder}
use Rattle.machine_collections.proofs.OwnedMonitors.{addresses_moved, held_moved, monitor_addresses}

-- ---- what is kept

module _ (Kept : ℕ → Type 0) where
  weakly_kept : (o : Option (Option ℕ)) → HeldIsKept Kept (held_weakly o)
  weakly_kept None = tt
  weakly_kept (Some None) = tt
  weakly_kept (Some (Some a)) = tt

  held_kept : (globals : List (Option ℕ)) (weaks : List (Option (Option ℕ))) (x : StaticReference) → AreKept Kept (references_in globals) → HeldIsKept Kept (held globals weaks x)
  held_kept globals weaks static.Empty h = tt
  held_kept globals weaks static.Cleared h = tt
  held_kept globals weaks static.Deleted h = tt
  held_kept globals weaks (static.Weakly key) h = weakly_kept (value_at weaks key)
  held_kept globals weaks (static.Live key) h = by_address (address_at globals key) refl
    where
      by_address : (o : Option ℕ) → address_at globals key ≡ o → HeldIsKept Kept (held_at o)
      by_address None e = tt
      by_address (Some a) e = kept_at Kept globals key a h e

  all_kept : (globals : List (Option ℕ)) (weaks : List (Option (Option ℕ))) (xs : List StaticReference) → AreKept Kept (references_in globals) → AllHeldAreKept Kept (all_held globals weaks xs)
  all_kept globals weaks [] h = tt
  all_kept globals weaks (x ∷ xs) h = (held_kept globals weaks x h, all_kept globals weaks xs h)

  kept_place : (ms : List Monitor) (i a : ℕ) → AreKept Kept (monitor_addresses ms) → slice_get (addresses ms) i ≡ Some (Some a) → Kept a
  kept_place [] i a h at = absurd (cc)
  kept_place (x ∷ ms) zero a h at = let both : Some (Some x.address) ≡ Some (Some a) = at in let same : x.address ≡ a = cc in subst Kept same h.0
  kept_place (x ∷ ms) (suc i) a h at = kept_place ms i a h.1 at

some_moved : (f : ℕ → ℕ) (o : Option ℕ) → IsSome o → IsSome (option_map f o)
some_moved f None h = h
some_moved f (Some a) h = refl

-- the statics have the names that they had
names_cleared : (names : List ℕ) (statics : Statics) → map (λ (s : Identifier × source.StaticReference). s.0) (cleared_statics names statics) ≡ map (λ (s : Identifier × source.StaticReference). s.0) statics
names_cleared names [] = refl
names_cleared names (s ∷ statics) = ap (λ l. s.0 ∷ l) (names_cleared names statics)

-- ---- the store

module _ (Kept : ℕ → Type 0) (to : ℕ → ℕ) (p : Lowered) (w : World) (s : State) (store after : Store) (t : Space) (m : MovesBy Kept to store.heap t) (closed : IsClosedUnder Kept store.heap) (is : IsMoved to store t after)
    (f : AreFollowed Kept to store.weaks after.weaks) (names : List ℕ) (c : AreCleared store.heap store.statics.items store.weaks after.weaks names) where
  -- where just what can be reached is kept, what was cleared is what is lost
  pub cleared_is : ((a : ℕ) → Kept a → (n : ℕ) × (name_at store.heap a ≡ Some n) × Reachable w s n) → ((n : ℕ) → Reachable w s n → HasKept Kept store.heap n) → (all : Acquired) → StoreAgrees p w store s.shared all → names ≡ lost w s
  cleared_is kept_reached reached_kept all h =
      lost_is store.heap t h.heap.unique Kept to store.globals store.weaks after.weaks f store.statics.items s.shared.statics h.statics names c w s refl h.heap kept_reached reached_kept

  -- and else what is held weakly and isn't kept
  pub not_kept : (all : Acquired) → StoreAgrees p w store s.shared all → AreNotKept s (HasKept Kept store.heap) names
  not_kept all h = cleared_are store.heap t h.heap.unique Kept to store.globals store.weaks after.weaks f store.statics.items s.shared.statics h.statics names c s refl

  -- a weak reference has a key still
  still_some : (key : ℕ) → IsSome (value_at store.weaks key) → IsSome (value_at after.weaks key)
  still_some key some = by_value (value_at after.weaks key) refl
    where
      none_left : (o : Option (Option ℕ)) → value_at store.weaks key ≡ o → IsSome o → value_at after.weaks key ≡ None → ⊥
      none_left None at some none = cc
      none_left (Some None) at some none = let both : ◌≡◌ {A = Option (Option ℕ)} None (Some None) = sym none ∙ f.cleared key at in cc
      none_left (Some (Some a)) at some none =
          let gone : ¬ (Kept a) = λ k. (let both : ◌≡◌ {A = Option (Option ℕ)} None (Some (Some (to a))) = sym none ∙ f.kept key a at k in cc) in
          let both : ◌≡◌ {A = Option (Option ℕ)} None (Some None) = sym none ∙ f.gone key a at gone in cc

      by_value : (o : Option (Option ℕ)) → value_at after.weaks key ≡ o → IsSome (value_at after.weaks key)
      by_value None e = absurd (none_left (value_at store.weaks key) refl some e)
      by_value (Some v) e = subst (λ (q : Option (Option ℕ)). IsSome q) (sym e) refl

  module _ (decides : (a : ℕ) → Kept a ⊎ ¬ (Kept a)) (all : Acquired) (h : StoreAgrees p w store s.shared all) where
    -- and where it isn't cleared, its object is there
    weaks_moved : AreWeaklyThere t after.weaks
    weaks_moved key b at = by_before (value_at store.weaks key) refl
      where
        by_before : (o : Option (Option ℕ)) → value_at store.weaks key ≡ o → (n : ℕ) × (name_at t b ≡ Some n)
        by_before None e = let both : ◌≡◌ {A = Option (Option ℕ)} None (Some (Some b)) = sym (f.free key e) ∙ at in absurd (cc)
        by_before (Some None) e = let both : ◌≡◌ {A = Option (Option ℕ)} (Some None) (Some (Some b)) = sym (f.cleared key e) ∙ at in absurd (cc)
        by_before (Some (Some a)) e = by_kept (decides a)
          where
            named : (n : ℕ) × (name_at store.heap a ≡ Some n)
            named = h.weaks key a e

            by_kept : Kept a ⊎ ¬ (Kept a) → (n : ℕ) × (name_at t b ≡ Some n)
            by_kept (inl k) =
                let both : ◌≡◌ {A = Option (Option ℕ)} (Some (Some (to a))) (Some (Some b)) = sym (f.kept key a e k) ∙ at in
                let same : to a ≡ b = cc in
                (named.0, subst (λ (x : ℕ). name_at t x ≡ Some named.0) same (name_moved Kept to store.heap t m a named.0 k named.1))
            by_kept (inr gone) =
                let both : ◌≡◌ {A = Option (Option ℕ)} (Some None) (Some (Some b)) = sym (f.gone key a e gone) ∙ at in
                absurd (cc)

    -- the store stands for what it stood for, of which what isn't kept is cleared
    pub store_collected : AreKept Kept store.loaded.items → AreKept Kept (references_in store.globals) → AreKept Kept (monitor_addresses store.monitors) → ((a : ℕ) → 0 < pins_at store.heap a → Kept a) → StoreAgrees p w after (with_cleared names s).shared all
    store_collected loaded globals owned pinned = record {
      heap = subst (λ (x : Space). HeapAgrees x s.shared.heap) (sym is.heap) (heap_moved Kept to store.heap t m s.shared.heap h.heap closed);
      laid_out = subst IsLaidOut (sym is.heap) m.laid_out;
      cells = ap (λ (x : Space). x.cells) is.heap ∙ m.cells ∙ h.cells;
      table = subst (λ (x : Space). IsTable x after.loaded.items (length (loaded_objects w))) (sym is.heap)
          (subst (λ (l : List ℕ). IsTable t l (length (loaded_objects w))) (sym is.loaded) (table_moved Kept to store.heap t m store.loaded.items (length (loaded_objects w)) loaded h.table));
      begun = h.begun;
      births = is.births ∙ h.births;
      statics =
          subst (λ (x : Space). StaticsAgree x (all_held after.globals after.weaks after.statics.items) (cleared_statics names s.shared.statics)) (sym is.heap)
          (subst (λ (g : List (Option ℕ)). StaticsAgree t (all_held g after.weaks after.statics.items) (cleared_statics names s.shared.statics)) (sym is.globals)
          (subst (λ (l : List StaticReference). StaticsAgree t (all_held (moved_slots to store.globals) after.weaks l) (cleared_statics names s.shared.statics)) (sym (ap (λ v. v.items) is.statics))
          (statics_cleared store.heap t h.heap.unique Kept to store.globals store.weaks after.weaks f store.statics.items s.shared.statics h.statics names c m decides (all_kept Kept store.globals store.weaks store.statics.items globals))));
      named = names_cleared names s.shared.statics ∙ h.named;
      keys = record {
        live = λ i key at. subst (λ (l : List (Option ℕ)). IsSome (address_at l key)) (sym is.globals)
            (subst (λ (o : Option ℕ). IsSome o) (sym (address_moved to store.globals key)) (some_moved to (address_at store.globals key) (h.keys.live i key (sym (ap (λ v. slice_get v.items i) is.statics) ∙ at))));
        own = λ i j key a b. h.keys.own i j key (sym (ap (λ v. slice_get v.items i) is.statics) ∙ a) (sym (ap (λ v. slice_get v.items j) is.statics) ∙ b);
      };
      weak_keys = record {
        live = λ i key at. still_some key (h.weak_keys.live i key (sym (ap (λ v. slice_get v.items i) is.statics) ∙ at));
        own = λ i j key a b. h.weak_keys.own i j key (sym (ap (λ v. slice_get v.items i) is.statics) ∙ a) (sym (ap (λ v. slice_get v.items j) is.statics) ∙ b);
      };
      weaks = subst (λ (x : Space). AreWeaklyThere x after.weaks) (sym is.heap) weaks_moved;
      globals =
          subst (λ (x : Space). SlotsAgree x after.globals s.shared.globals) (sym is.heap)
          (subst (λ (l : List (Option ℕ)). SlotsAgree t l s.shared.globals) (sym is.globals) (slots_moved Kept to store.heap t m store.globals s.shared.globals globals h.globals));
      buffers =
          subst (λ (x : Space). IsTaken x after.elements after.views (length s.shared.heap) all) (sym is.heap)
          (subst (λ (copies : List (Option OwnedNumbers)). IsTaken t copies after.views (length s.shared.heap) all) (sym is.elements)
          (subst (λ (n : ℕ). IsTaken t store.elements n (length s.shared.heap) all) (sym is.views) (taken_moved Kept to store.heap t m closed store.elements store.views (length s.shared.heap) all pinned h.buffers)));
      monitors = subst (λ (ms : List Monitor). MonitorsAgree ms s.shared.monitors) (sym is.monitors) owners_moved.0;
      monitored = subst (λ (x : Space). AreThere x after.monitors) (sym is.heap) (subst (AreThere t) (sym is.monitors) owners_moved.1);
    }
      where
        owners_moved : MonitorsAgree (moved_monitors to store.monitors) s.shared.monitors × AreThere t (moved_monitors to store.monitors)
        owners_moved =
            moved store.heap t to store.monitors (moved_monitors to store.monitors) s.shared.monitors (held_moved to store.monitors) (addresses_moved to store.monitors)
            (λ i a n at named. name_moved Kept to store.heap t m a n (kept_place Kept store.monitors i a owned at) named) h.monitors h.monitored
