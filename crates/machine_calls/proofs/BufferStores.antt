-- A store whose buffers change stands for the source's shared state yet.
use Rattle.std.proofs.Common.{◌≡◌, ℕ, ◌+◌, Bool, true, false, cond, eqb, List, [], ◌∷◌, length, map, Option, Some, None, refl, ◌∙◌, arith, inl}
use Rattle.heap.proofs.Staying.{stays_same}
use Rattle.heap.specs.Heap.{Block, Space, name_at, with_pins}
use Rattle.heap.specs.Layout.{layout_of}
use Rattle.heap.proofs.Extents.{layout_pins}
use Rattle.machine_scenes.proofs.ObjectExtents.{none_laid}
use Rattle.heap.specs.declared.value.Value.{Value}
use Rattle.heap.specs.declared.value.Value.TheVariants.{Number as Word, Null, Block as Address}
use Rattle.heap.proofs.Changes.{changed}
use Rattle.heap.proofs.Names.{AreNamesUnique-with_changed}
use Rattle.heap.proofs.Spaces.{IsLaidOut-with_changed, part-changed}
use Rattle.heap.proofs.Writes.{pins_leave}
use Rattle.semantics.specs.Heap.{Heap}
use Rattle.semantics.specs.Object.{ObjectValue, Number, Refers}
use Rattle.semantics.specs.Thread.{Shared}
use Rattle.semantics.specs.World.{World}
use Rattle.code_meaning.specs.Lowered.{Lowered}
use Rattle.tables.specs.Elements.{OwnedNumbers}
use Rattle.machine_scenes.proofs.MonitorPlaces.{there_stays}
use Rattle.machine_scenes.specs.declared.store.Store.{Store}
use Rattle.machine_scenes.specs.Buffers.{Acquired, IsTaken, SameAcquired}
use Rattle.machine_scenes.specs.HeapAgrees.{BlockAgrees, BlocksAgree, ValueAgrees, ValuesAgree}
use Rattle.machine_scenes.specs.Statics.{all_held}
use Rattle.machine_scenes.specs.StoreAgrees.{Keeps, StoreAgrees}
use Rattle.machine_scenes.proofs.Keeping.{none_made, reference_stays, slots_stay, statics_stay, weaks_stay}
use Rattle.machine_scenes.proofs.Taken.{taken_same}

-- ---- pins

module _ (space : Space) (a count : ℕ) where
  abbrev pub pinned_space : Space
  pinned_space = with_pins space a count

  pub names_pinned : (x n : ℕ) → name_at space x ≡ Some n → name_at pinned_space x ≡ Some n
  names_pinned x n h = part-changed (λ (b : Block). b.birth) space a (λ b. record b { pins = count }) x (pins_leave count) (λ b. refl) ∙ h

  value_pinned : (w : Value) (u : ObjectValue) → ValueAgrees space w u → ValueAgrees pinned_space w u
  value_pinned (Word n) (Number z) h = h
  value_pinned (Word n) (Refers r) h = h
  value_pinned Null (Number z) h = h
  value_pinned Null (Refers r) h = reference_stays space pinned_space names_pinned None r h
  value_pinned (Address x) (Number z) h = h
  value_pinned (Address x) (Refers r) h = reference_stays space pinned_space names_pinned (Some x) r h

  values_pinned : (ws : List Value) (us : List ObjectValue) → ValuesAgree space ws us → ValuesAgree pinned_space ws us
  values_pinned [] [] h = h
  values_pinned [] (u ∷ us) h = h
  values_pinned (w ∷ ws) [] h = h
  values_pinned (w ∷ ws) (u ∷ us) h = (value_pinned w u h.0, values_pinned ws us h.1)

  block_pinned : (heap : Heap) (b : Block) → BlockAgrees space heap b → BlockAgrees pinned_space heap (changed a (λ c. record c { pins = count }) b)
  block_pinned heap b h = by_test (eqb b.address a)
    where
      by_test : (t : Bool) → BlockAgrees pinned_space heap (cond t (record b { pins = count }) b)
      by_test true = record { object = h.object; is = h.is; class = h.class; values = values_pinned b.values h.object.values h.values }
      by_test false = record { object = h.object; is = h.is; class = h.class; values = values_pinned b.values h.object.values h.values }

  blocks_pinned : (heap : Heap) (bs : List Block) → BlocksAgree space heap bs → BlocksAgree pinned_space heap (map (changed a (λ c. record c { pins = count })) bs)
  blocks_pinned heap [] h = tt
  blocks_pinned heap (b ∷ bs) h = (block_pinned heap b h.0, blocks_pinned heap bs h.1)

-- ---- the store

module _ (p : Lowered) (w : World) (store : Store) (shared : Shared) (all : Acquired) (h : StoreAgrees p w store shared all) where
  -- the same is taken
  pub agrees_same : (next : Acquired) → SameAcquired all next → StoreAgrees p w store shared next
  agrees_same next same = record {
    heap = h.heap;
    laid_out = h.laid_out;
    cells = h.cells;
    table = h.table;
    begun = h.begun;
    births = h.births;
    statics = h.statics;
    named = h.named;
    keys = h.keys;
    weak_keys = h.weak_keys;
    weaks = h.weaks;
    globals = h.globals;
    buffers = taken_same store.heap store.elements store.views (length shared.heap) all next same h.buffers;
    monitors = h.monitors;
    monitored = h.monitored;
  }

  -- other lists
  pub agrees_copies : (next : Acquired) (elements : List (Option OwnedNumbers)) → IsTaken store.heap elements store.views (length shared.heap) next → StoreAgrees p w (record store { elements = elements }) shared next
  agrees_copies next elements taken = record {
    heap = h.heap;
    laid_out = h.laid_out;
    cells = h.cells;
    table = h.table;
    begun = h.begun;
    births = h.births;
    statics = h.statics;
    named = h.named;
    keys = h.keys;
    weak_keys = h.weak_keys;
    weaks = h.weaks;
    globals = h.globals;
    buffers = taken;
    monitors = h.monitors;
    monitored = h.monitored;
  }

  -- other pins of a block
  pub agrees_pinned : (next : Acquired) (a count views : ℕ) → IsTaken (with_pins store.heap a count) store.elements views (length shared.heap) next → StoreAgrees p w (record store { heap = with_pins store.heap a count; views = views }) shared next
  agrees_pinned next a count views taken = record {
    heap = record {
      blocks = blocks_pinned store.heap a count shared.heap store.heap.blocks h.heap.blocks;
      unique = AreNamesUnique-with_changed store.heap a (λ (b : Block). record b { pins = count }) (λ b. refl) h.heap.unique;
    };
    laid_out = IsLaidOut-with_changed store.heap a (λ (b : Block). record b { pins = count }) (pins_leave count) h.laid_out;
    cells = h.cells;
    table = record { counted = h.table.counted; named = λ i x at. names_pinned store.heap a count x (i + 1) (h.table.named i x at) };
    begun = h.begun;
    births = h.births;
    statics = statics_stay store.heap (with_pins store.heap a count) (names_pinned store.heap a count) (all_held store.globals store.weaks store.statics.items) shared.statics h.statics;
    named = h.named;
    keys = h.keys;
    weak_keys = h.weak_keys;
    weaks = weaks_stay store.heap (with_pins store.heap a count) (names_pinned store.heap a count) store.weaks h.weaks;
    globals = slots_stay store.heap (with_pins store.heap a count) (names_pinned store.heap a count) store.globals shared.globals h.globals;
    buffers = taken;
    monitors = h.monitors;
    monitored = there_stays store.heap (with_pins store.heap a count) (names_pinned store.heap a count) store.monitors h.monitored;
  }

  pub keeps_pinned : (a count : ℕ) → Keeps store.heap shared (with_pins store.heap a count) shared
  keeps_pinned a count = record {
    names = names_pinned store.heap a count;
    statics = inl refl;
    shapes = λ n o at. (o, at, refl, refl);
    room = none_made store.heap shared.heap shared.heap (omega arith);
    laid = none_laid (layout_of store.heap) (layout_of (with_pins store.heap a count)) (length shared.heap + 1) shared.heap shared.heap (omega arith) (layout_pins store.heap a count);
    marking = stays_same store.heap.marking;
    few = omega arith;
  }
