-- The store once statics and global references have changed.
use Rattle.std.proofs.Common.{◌≡◌, ◌<◌, ℕ, List, ◌∷◌, length, Option, Some, None, refl, sym, ap, ◌∙◌, subst, arith, ◌+◌}
use Rattle.std.specs.Global.{Vec}
use Rattle.std.specs.Prelude.{slice_get, slice_set, IsSome}
use Rattle.heap.proofs.Staying.{stays_same}
use Rattle.heap.specs.Heap.{name_at}
use Rattle.heap.specs.Layout.{layout_of}
use Rattle.machine_scenes.proofs.ObjectExtents.{none_laid}
use Rattle.tables.specs.Keys.{Gains, value_at, without_key}
use Rattle.tables.specs.References.{address_at}
use Rattle.machine_calls.specs.CarriedOut.{IsFresh}
use Rattle.machine_scenes.proofs.GlobalLaws.{slots_deleted, slots_gained, helds_kept, helds_marked, key_fresh, keys_kept, keys_marked, slot_there}
use Rattle.machine_scenes.proofs.WeakLaws.{live_keys_marked, weak_helds_kept, weak_helds_marked, weak_key_fresh, weak_keys_kept, weak_keys_marked, weak_keys_stay, weaks_less, weaks_made}
use Rattle.machine_scenes.specs.declared.references.Held.TheVariants as memory
use Rattle.semantics.specs.CallEffects.{without_one}
use Rattle.tables.specs.Globals.{without}
use Rattle.std.proofs.lemmas.List.{length-map}
use Rattle.std.proofs.lemmas.Option.{slice_get-map}
use Rattle.std.specs.Option.{option_map}
use Rattle.syntax.specs.Parts.{statics_of}
use Rattle.syntax.specs.Tree.{Static}
use Rattle.syntax.specs.Views.{unit_tree}
use Rattle.base.specs.Bytes.{Identifier, lookup}
use Rattle.semantics.specs.Thread.{Shared}
use Rattle.semantics.specs.Variable.{Live, Deleted, Statics, StaticReference, assign}
use Rattle.semantics.specs.World.{World}
use Rattle.code_meaning.specs.Lowered.{Lowered}
use Rattle.code_meaning.specs.Slots.{static_index}
use Rattle.machine_scenes.specs.declared.references.Held.{Held}
use Rattle.machine_scenes.specs.Statics.{StaticReference as InMemory}
use Rattle.semantics.specs.declared.static_reference.StaticReference.TheVariants as static
use Rattle.machine_scenes.specs.declared.store.Store.{Store}
use Rattle.machine_scenes.specs.Buffers.{Acquired}
use Rattle.machine_scenes.specs.HeapAgrees.{SlotsAgree}
use Rattle.machine_scenes.specs.StoreAgrees.{AreNamed, AreWeaklyThere, HeldAgrees, Keeps, MayChange, StaticsAgree, StoreAgrees}
use Rattle.machine_scenes.specs.Statics.{HaveKeys, HaveWeakKeys, all_held, held, held_at, held_or_null, held_weakly, without_weak}
use Rattle.machine_scenes.proofs.Keeping.{none_made}
use Rattle.machine_calls.proofs.HeldStatics.{held_set, place_below, same_names, static_put, static_there, statics_count}

module _ (p : Lowered) (w : World) (store : Store) (shared : Shared) (all : Acquired) (h : StoreAgrees p w store shared all) where
  -- other statics and other references, weak or not
  pub with_references : (statics : Vec InMemory) (globals : List (Option ℕ)) (weaks : List (Option (Option ℕ))) (names : Statics) (source_globals : List ℕ) → StaticsAgree store.heap (all_held globals weaks statics.items) names → AreNamed p (record shared { statics = names })
      → HaveKeys globals statics.items → HaveWeakKeys weaks statics.items → AreWeaklyThere store.heap weaks → SlotsAgree store.heap globals source_globals → StoreAgrees p w (record store { statics = statics; globals = globals; weaks = weaks }) (record shared { statics = names; globals = source_globals }) all
  with_references statics globals weaks names source_globals agree named keys weak_keys there same = record {
    heap = h.heap;
    laid_out = h.laid_out;
    cells = h.cells;
    table = h.table;
    begun = h.begun;
    births = h.births;
    statics = agree;
    named = named;
    keys = keys;
    weak_keys = weak_keys;
    weaks = there;
    globals = same;
    buffers = h.buffers;
    monitors = h.monitors;
    monitored = h.monitored;
  }

  -- a static holds something else
  pub with_static : (statics : Vec InMemory) (x : Identifier) (i : ℕ) (s : InMemory) (r : StaticReference) → statics.items ≡ slice_set store.statics.items i s → static_index x shared.statics ≡ Some i → HeldAgrees store.heap (held store.globals store.weaks s) r → HaveKeys store.globals (slice_set store.statics.items i s) → HaveWeakKeys store.weaks (slice_set store.statics.items i s)
      → StoreAgrees p w (record store { statics = statics }) (record shared { statics = assign x r shared.statics }) all
  with_static statics x i s r is place agrees keys weak_keys =
      with_references statics store.globals store.weaks (assign x r shared.statics) shared.globals
      (subst (λ (l : List Held). StaticsAgree store.heap l (assign x r shared.statics)) (sym (ap (all_held store.globals store.weaks) is ∙ held_set store.globals store.weaks store.statics.items i s))
      (static_put store.heap x (all_held store.globals store.weaks store.statics.items) shared.statics i (held store.globals store.weaks s) r h.statics place agrees))
      (same_names x r shared.statics i place ∙ h.named)
      (subst (HaveKeys store.globals) (sym is) keys)
      (subst (HaveWeakKeys store.weaks) (sym is) weak_keys)
      h.weaks
      h.globals

  -- there are as many as the unit has
  pub shared_long : length shared.statics ≡ length (statics_of (unit_tree p.unit))
  shared_long = sym (length-map shared.statics (λ (s : Identifier × StaticReference). s.0)) ∙ ap length h.named ∙ length-map (statics_of (unit_tree p.unit)) (λ (g : Static). g.name)

  pub statics_long : length store.statics.items ≡ length (statics_of (unit_tree p.unit))
  statics_long = sym (length-map store.statics.items (held store.globals store.weaks)) ∙ statics_count store.heap (all_held store.globals store.weaks store.statics.items) shared.statics h.statics ∙ shared_long

  -- the same statics
  pub with_same : (statics : Vec InMemory) → statics.items ≡ store.statics.items → StoreAgrees p w (record store { statics = statics }) shared all
  with_same statics is =
      with_references statics store.globals store.weaks shared.statics shared.globals (subst (λ (l : List InMemory). StaticsAgree store.heap (all_held store.globals store.weaks l) shared.statics) (sym is) h.statics) h.named (subst (HaveKeys store.globals) (sym is) h.keys) (subst (HaveWeakKeys store.weaks) (sym is) h.weak_keys) h.weaks h.globals

  -- a global reference was made
  pub with_global : (globals : List (Option ℕ)) (key a n : ℕ) → Gains store.globals key a globals → name_at store.heap a ≡ Some n → StoreAgrees p w (record store { globals = globals }) (record shared { globals = n ∷ shared.globals }) all
  with_global globals key a n put named =
      with_references store.statics globals store.weaks shared.statics (n ∷ shared.globals)
      (subst (λ (l : List Held). StaticsAgree store.heap l shared.statics) (sym (helds_kept store.globals globals store.weaks key a store.statics.items put h.keys)) h.statics)
      h.named
      (keys_kept store.globals globals store.weaks key a store.statics.items put h.keys)
      h.weak_keys
      h.weaks
      (slots_gained store.heap store.globals globals shared.globals key a n h.globals put named)

  -- its key is one that no static holds
  pub fresh_global : (globals : List (Option ℕ)) (key a : ℕ) → Gains store.globals key a globals → IsFresh (record store { globals = globals }) (static.Live key)
  fresh_global globals key a put = record {
    live = λ k is.
        let same : key ≡ k = cc in
        subst (λ (j : ℕ). IsSome (address_at globals j) × ((i : ℕ) → slice_get store.statics.items i ≡ Some (static.Live j) → ⊥)) same
        (subst (λ (o : Option ℕ). IsSome o) (sym put.has) refl, key_fresh store.globals globals store.weaks key a store.statics.items put h.keys);
    weak = λ k is. absurd (cc);
  }

  -- a weak global reference was made
  pub with_weak : (weaks : List (Option (Option ℕ))) (key a n : ℕ) → Gains store.weaks key (Some a) weaks → name_at store.heap a ≡ Some n → StoreAgrees p w (record store { weaks = weaks }) shared all
  with_weak weaks key a n put named =
      with_references store.statics store.globals weaks shared.statics shared.globals
      (subst (λ (l : List Held). StaticsAgree store.heap l shared.statics) (sym (weak_helds_kept store.globals store.weaks weaks key a put store.statics.items h.weak_keys)) h.statics)
      h.named
      h.keys
      (weak_keys_kept store.globals store.weaks weaks key a put store.statics.items h.weak_keys)
      (weaks_made store.globals store.weaks weaks key a put store.heap n named h.weaks)
      h.globals

  -- its key is one that no static holds
  pub fresh_weak : (weaks : List (Option (Option ℕ))) (key a : ℕ) → Gains store.weaks key (Some a) weaks → IsFresh (record store { weaks = weaks }) (static.Weakly key)
  fresh_weak weaks key a put = record {
    live = λ k is. absurd (cc);
    weak = λ k is.
        let same : key ≡ k = cc in
        subst (λ (j : ℕ). IsSome (value_at weaks j) × ((i : ℕ) → slice_get store.statics.items i ≡ Some (static.Weakly j) → ⊥)) same
        (subst (λ (o : Option (Option ℕ)). IsSome o) (sym put.has) refl, weak_key_fresh store.globals store.weaks weaks key a put store.statics.items h.weak_keys);
  }

  -- a static that holds an object has a global reference to it
  pub record LiveThere (i n : ℕ) : Type 0 where
    pub key : ℕ
    pub address : ℕ
    pub at : slice_get store.statics.items i ≡ Some (static.Live key)
    pub held : address_at store.globals key ≡ Some address
    pub named : name_at store.heap address ≡ Some n

  pub live_there : (x : Identifier) (i n : ℕ) → static_index x shared.statics ≡ Some i → lookup x shared.statics ≡ Some (Live n) → LiveThere i n
  live_there x i n place at =
      by_static (slice_get store.statics.items i) refl
      (subst (λ (o : Option Held). HeldAgrees store.heap (held_or_null o) (Live n)) (slice_get-map (held store.globals store.weaks) store.statics.items i) (static_there store.heap x (all_held store.globals store.weaks store.statics.items) shared.statics i (Live n) h.statics place at))
    where
      by_key : (key : ℕ) (o : Option ℕ) → slice_get store.statics.items i ≡ Some (static.Live key) → address_at store.globals key ≡ o → HeldAgrees store.heap (held_at o) (Live n) → LiveThere i n
      by_key key None at e agree = absurd agree
      by_key key (Some a) at e agree = record { key = key; address = a; at = at; held = e; named = agree }

      by_static : (o : Option InMemory) → slice_get store.statics.items i ≡ o → HeldAgrees store.heap (held_or_null (option_map (held store.globals store.weaks) o)) (Live n) → LiveThere i n
      by_static None e agree = absurd agree
      by_static (Some static.Empty) e agree = absurd agree
      by_static (Some static.Cleared) e agree = absurd agree
      by_static (Some static.Deleted) e agree = absurd agree
      by_static (Some (static.Weakly key)) e agree = absurd (no_live (value_at store.weaks key) agree)
        where
          no_live : (o : Option (Option ℕ)) → HeldAgrees store.heap (held_weakly o) (Live n) → ⊥
          no_live None agree = agree
          no_live (Some None) agree = agree
          no_live (Some (Some a)) agree = agree
      by_static (Some (static.Live key)) e agree = by_key key (address_at store.globals key) e refl agree

  -- the global reference of a static ended, and the static is marked
  pub with_deleted : (statics : Vec InMemory) (x : Identifier) (i key a n : ℕ) → slice_get store.statics.items i ≡ Some (static.Live key) → address_at store.globals key ≡ Some a → name_at store.heap a ≡ Some n → static_index x shared.statics ≡ Some i → statics.items ≡ slice_set store.statics.items i static.Deleted
      → StoreAgrees p w (record store { statics = statics; globals = without store.globals key }) (record shared { statics = assign x Deleted shared.statics; globals = without_one n shared.globals }) all
  with_deleted statics x i key a n at address named place is =
      with_references statics (without store.globals key) store.weaks (assign x Deleted shared.statics) (without_one n shared.globals)
      (subst (λ (l : List Held). StaticsAgree store.heap l (assign x Deleted shared.statics)) (sym (ap (all_held (without store.globals key) store.weaks) is ∙ helds_marked store.globals store.weaks key store.statics.items i at h.keys))
      (static_put store.heap x (all_held store.globals store.weaks store.statics.items) shared.statics i memory.Deleted Deleted h.statics place tt))
      (same_names x Deleted shared.statics i place ∙ h.named)
      (subst (HaveKeys (without store.globals key)) (sym is) (keys_marked store.globals store.weaks key store.statics.items i at h.keys))
      (subst (HaveWeakKeys store.weaks) (sym is) (weak_keys_stay store.weaks store.statics.items i h.weak_keys))
      h.weaks
      (slots_deleted store.heap store.globals shared.globals key a n h.globals (slot_there store.globals key a address) named)

  -- a static that may hold a weak reference is marked, and the reference, where it has one, ended
  pub with_weak_deleted : (statics : Vec InMemory) (weaks : List (Option (Option ℕ))) (x : Identifier) (i : ℕ) → static_index x shared.statics ≡ Some i → statics.items ≡ slice_set store.statics.items i static.Deleted → weaks ≡ without_weak store.weaks (slice_get store.statics.items i)
      → StoreAgrees p w (record store { statics = statics; weaks = weaks }) (record shared { statics = assign x Deleted shared.statics }) all
  with_weak_deleted statics weaks x i place is ended = by_static (slice_get store.statics.items i) refl ended
    where
      -- where its weak references are these
      marked : (weaks : List (Option (Option ℕ))) → all_held store.globals weaks (slice_set store.statics.items i static.Deleted) ≡ slice_set (all_held store.globals store.weaks store.statics.items) i memory.Deleted → HaveWeakKeys weaks (slice_set store.statics.items i static.Deleted) → AreWeaklyThere store.heap weaks
          → StoreAgrees p w (record store { statics = statics; weaks = weaks }) (record shared { statics = assign x Deleted shared.statics }) all
      marked weaks helds weak_keys there =
          with_references statics store.globals weaks (assign x Deleted shared.statics) shared.globals
          (subst (λ (l : List Held). StaticsAgree store.heap l (assign x Deleted shared.statics)) (sym (ap (all_held store.globals weaks) is ∙ helds))
          (static_put store.heap x (all_held store.globals store.weaks store.statics.items) shared.statics i memory.Deleted Deleted h.statics place tt))
          (same_names x Deleted shared.statics i place ∙ h.named)
          (subst (HaveKeys store.globals) (sym is) (live_keys_marked store.globals store.statics.items i h.keys))
          (subst (HaveWeakKeys weaks) (sym is) weak_keys)
          there
          h.globals

      same : weaks ≡ store.weaks → StoreAgrees p w (record store { statics = statics; weaks = weaks }) (record shared { statics = assign x Deleted shared.statics }) all
      same e =
          subst (λ (l : List (Option (Option ℕ))). StoreAgrees p w (record store { statics = statics; weaks = l }) (record shared { statics = assign x Deleted shared.statics }) all) (sym e)
          (marked store.weaks (held_set store.globals store.weaks store.statics.items i static.Deleted) (weak_keys_stay store.weaks store.statics.items i h.weak_keys) h.weaks)

      by_static : (o : Option InMemory) → slice_get store.statics.items i ≡ o → weaks ≡ without_weak store.weaks o → StoreAgrees p w (record store { statics = statics; weaks = weaks }) (record shared { statics = assign x Deleted shared.statics }) all
      by_static None at e = same e
      by_static (Some static.Empty) at e = same e
      by_static (Some (static.Live key)) at e = same e
      by_static (Some static.Cleared) at e = same e
      by_static (Some static.Deleted) at e = same e
      by_static (Some (static.Weakly key)) at e =
          subst (λ (l : List (Option (Option ℕ))). StoreAgrees p w (record store { statics = statics; weaks = l }) (record shared { statics = assign x Deleted shared.statics }) all) (sym e)
          (marked (without_key store.weaks key) (weak_helds_marked store.globals store.weaks key store.statics.items i at h.weak_keys) (weak_keys_marked store.globals store.weaks key store.statics.items i at h.weak_keys)
          (weaks_less store.globals store.weaks key store.heap h.weaks))

  -- the static of a name is there
  pub static_within : (x : Identifier) (i : ℕ) → static_index x shared.statics ≡ Some i → i < length store.statics.items
  static_within x i place = omega (arith, place_below x shared.statics i place, shared_long, statics_long)

  -- a step that changes statics alone
  pub keeps_but_statics : (statics : Statics) (globals : List ℕ) → MayChange shared.statics statics → Keeps store.heap shared store.heap (record shared { statics = statics; globals = globals })
  keeps_but_statics statics globals may = record {
    names = λ a n e. e;
    statics = may;
    shapes = λ n o at. (o, at, refl, refl);
    room = none_made store.heap shared.heap shared.heap (omega arith);
    laid = none_laid (layout_of store.heap) (layout_of store.heap) (length shared.heap + 1) shared.heap shared.heap (omega arith) refl;
    marking = stays_same store.heap.marking;
    few = omega arith;
  }
