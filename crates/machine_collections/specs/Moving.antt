-- What a collection does to the store and the threads.
use Rattle.std.specs.Prelude.{◌≡◌, ℕ, ◌+◌, List, map, slice_get, Option, Some, None}
use Rattle.std.specs.Option.{option_map}
use Rattle.std.specs.Vec.{with_items}
use Rattle.heap.specs.Heap.{Space}
use Rattle.compact.specs.Reach as compact
use Rattle.compact.specs.Reach.{IsKept, IsClosed}
use Rattle.compact.specs.Same.{MovesBy, moved_value}
use Rattle.tables.specs.Keys.{value_at}
use Rattle.tables.specs.Locals.{LocalTable}
use Rattle.tables.specs.Weaks.{weak_places}
use Rattle.monitors.specs.declared.monitors.Monitor.{Monitor}
use Rattle.monitors.specs.Monitors.{moved}
use Rattle.machine_threads.specs.declared.thread.Entering.{Entering}
use Rattle.machine_threads.specs.declared.thread.Thread.{Thread}
use Rattle.machine_scenes.specs.declared.activation.Activation.{Activation}
use Rattle.machine_scenes.specs.declared.store.Store.{Store}
use Rattle.machine_collections.specs.Roots.{ThreadsAreStacked, root_places}

-- ---- references where addresses have moved

abbrev pub moved_slots : (ℕ → ℕ) → List (Option ℕ) → List (Option ℕ)
moved_slots f slots = map (option_map f) slots

abbrev pub moved_locals : (ℕ → ℕ) → LocalTable → LocalTable
moved_locals f t = record t { slots = moved_slots f t.slots }

abbrev pub moved_call : (ℕ → ℕ) → Activation → Activation
moved_call f activation = record activation { locals = moved_locals f activation.locals }

abbrev pub moved_entering : (ℕ → ℕ) → Entering → Entering
moved_entering f entering = record entering { arguments = with_items entering.arguments (map (moved_value f) entering.arguments.items) }

abbrev pub moved_thread : (ℕ → ℕ) → Thread → Thread
moved_thread f t = record t {
  entering = option_map (moved_entering f) t.entering;
  call = option_map (moved_call f) t.call;
  callers = with_items t.callers (map (moved_call f) t.callers.items);
  pending = option_map f t.pending;
}

abbrev pub moved_monitors : (ℕ → ℕ) → List Monitor → List Monitor
moved_monitors f monitors = map (λ (m : Monitor). moved (f m.address) m) monitors

-- places from one on have the new addresses of these slots
abbrev pub AreMovedAt : (ℕ → ℕ) → (slots places : List (Option ℕ)) → (from : ℕ) → Type 0
AreMovedAt f slots places from = (i : ℕ) (r : Option ℕ) → slice_get slots i ≡ Some r → slice_get places (from + i) ≡ Some (option_map f r)

-- Key by key, a weak reference follows its object, and is cleared where that isn't kept. One that was cleared stays so, and a key that has
-- none has none.
pub record AreFollowed (Kept : ℕ → Type 0) (f : ℕ → ℕ) (weaks after : List (Option (Option ℕ))) : Type 0 where
  pub free : (key : ℕ) → value_at weaks key ≡ None → value_at after key ≡ None
  pub cleared : (key : ℕ) → value_at weaks key ≡ Some None → value_at after key ≡ Some None
  pub kept : (key a : ℕ) → value_at weaks key ≡ Some (Some a) → Kept a → value_at after key ≡ Some (Some (f a))
  pub gone : (key a : ℕ) → value_at weaks key ≡ Some (Some a) → ¬ (Kept a) → value_at after key ≡ Some None

-- a store with this heap, whose references, but for the weak ones, have the new addresses
pub record IsMoved (f : ℕ → ℕ) (store : Store) (t : Space) (after : Store) : Type 0 where
  pub heap : after.heap ≡ t
  pub loaded : after.loaded.items ≡ map f store.loaded.items
  pub births : after.births ≡ store.births
  pub statics : after.statics ≡ store.statics
  pub globals : after.globals ≡ moved_slots f store.globals
  pub elements : after.elements ≡ store.elements
  pub views : after.views ≡ store.views
  pub monitors : after.monitors ≡ moved_monitors f store.monitors

-- the roots have the new addresses, and nothing else has changed, but for weak references
pub record AreMoved (f : ℕ → ℕ) (store : Store) (threads : List Thread) (after : Store) (later : List Thread) : Type 0 where
  pub moved : IsMoved f store store.heap after
  pub follow : later ≡ map (moved_thread f) threads

-- ---- a collection

-- what blocks and roots refer to is there
pub record AreReferred (store : Store) (threads : List Thread) : Type 0 where
  pub closed : IsClosed store.heap
  pub roots : ThreadsAreStacked threads → compact.AreAddresses store.heap (root_places store threads)
  pub weaks : compact.AreAddresses store.heap (weak_places store.weaks)

-- The blocks that are kept were moved together, and the roots follow, and the weak references. What is viewed is pinned, and stays where
-- it is, so slots have its address yet.
pub record AreMovedTogether (Kept : ℕ → Type 0) (store : Store) (threads : List Thread) (after : Store) (later : List Thread) : Type 0 where
  pub to : ℕ → ℕ
  pub blocks : MovesBy Kept to store.heap after.heap
  pub moved : IsMoved to store after.heap after
  pub weaks : AreFollowed Kept to store.weaks after.weaks
  pub follow : later ≡ map (moved_thread to) threads
  pub stacked : ThreadsAreStacked threads

-- a whole collection keeps the blocks that roots or views lead to
abbrev pub AreCollected : (store : Store) (threads : List Thread) (after : Store) (later : List Thread) → Type 0
AreCollected store threads after later = AreMovedTogether (IsKept store.heap (root_places store threads)) store threads after later
