-- A store in which values of an object change stands for the source's heap in which they do.
use Rattle.std.proofs.Common.{inl, ◌≡◌, ◌≢◌, ℕ, zero, suc, ◌+◌, ◌<◌, ◌≤◌, Bool, true, false, cond, eqb, List, [], ◌∷◌, length, map, get_or, Option, Some, refl, sym, ap, ◌∙◌, subst, arith, ⊎_elim}
use Rattle.std.specs.Prelude.{find, slice_set}
use Rattle.std.specs.Option.{option_map, option_map_or}
use Rattle.std.proofs.lemmas.Bool.{cases_eq}
use Rattle.std.proofs.lemmas.Bool.Decides.{eqb_tells}
use Rattle.std.proofs.lemmas.Option.{slice_get_within}
use Rattle.std.proofs.Math.ListN.{length-set}
use Rattle.base.proofs.Lists.{get_set_other, get_set_same}
use Rattle.heap.specs.Heap.{Block, Space, block_at, block_end, name_at, AreNamesUnique, IsLaidOut, LieFrom, with_changed, with_value}
use Rattle.heap.specs.Layout.{layout_of}
use Rattle.heap.proofs.Extents.{layout_values}
use Rattle.machine_scenes.proofs.ObjectExtents.{none_laid}
use Rattle.heap.specs.declared.value.Value.{Value}
use Rattle.heap.proofs.Changes.{LeavesPlace, changed, changed_elsewhere, changed_here}
use Rattle.heap.proofs.Names.{AreNamesUnique-with_changed, one_address}
use Rattle.heap.proofs.Spaces.{IsLaidOut-with_changed, part-changed}
use Rattle.heap.proofs.Staying.{stays_noted, stays_same}
use Rattle.heap.specs.Marks.{noted_in}
use Rattle.semantics.proofs.HeapGrows.{with_values_keeps}
use Rattle.semantics.specs.Heap.{Heap, class_of, object_at, values_of, with_values}
use Rattle.semantics.specs.Object.{Object, ObjectValue}
use Rattle.semantics.specs.Thread.{Shared}
use Rattle.semantics.specs.World.{World, loaded_objects}
use Rattle.code_meaning.specs.Lowered.{Lowered}
use Rattle.machine_scenes.proofs.MonitorPlaces.{there_stays}
use Rattle.machine_scenes.specs.declared.store.Store.{Store}
use Rattle.machine_scenes.specs.Buffers.{Acquired}
use Rattle.machine_scenes.specs.StoreAgrees.{StoreAgrees, Keeps}
use Rattle.machine_scenes.specs.Statics.{all_held}
use Rattle.machine_answers.specs.Answers.{WritesAt}
use Rattle.machine_scenes.specs.HeapAgrees.{BlockAgrees, BlocksAgree, ValueAgrees, ValuesAgree}
use Rattle.machine_scenes.proofs.BlocksOfNames.{Named, named}
use Rattle.machine_scenes.proofs.Taken.{taken_changed}
use Rattle.machine_scenes.proofs.Keeping.{none_made, slots_stay, statics_stay, values_stay, weaks_stay}
use Rattle.machine_scenes.proofs.Noted.{keeps_noted, store_noted}

-- ---- each block is found at its address

begins_from : (from : ℕ) (bs : List Block) (cells i : ℕ) (d : Block) → LieFrom from bs cells → i < length bs → from ≤ (get_or bs i d).address
begins_from from [] cells i d h less = absurd (omega arith)
begins_from from (b ∷ bs) cells zero d h less = h.0
begins_from from (b ∷ bs) cells (suc i) d h less =
    let first : from ≤ b.address = h.0 in
    let later : block_end b ≤ (get_or bs i d).address = begins_from (block_end b) bs cells i d h.1 (omega arith) in
    omega arith

found_at : (from : ℕ) (bs : List Block) (cells i : ℕ) (d : Block) → LieFrom from bs cells → i < length bs → find (λ (c : Block). eqb c.address (get_or bs i d).address) bs ≡ Some (get_or bs i d)
found_at from [] cells i d h less = absurd (omega arith)
found_at from (b ∷ bs) cells zero d h less =
    ⊎_elim
    (λ (t : (eqb b.address b.address ≡ true) × (b.address ≡ b.address)). ap (λ (c : Bool). cond c (Some b) (find (λ (c : Block). eqb c.address b.address) bs)) t.0)
    (λ (t : (eqb b.address b.address ≡ false) × (b.address ≡ b.address → ⊥)). absurd (t.1 refl))
    (eqb_tells b.address b.address)
found_at from (b ∷ bs) cells (suc i) d h less =
    let later : block_end b ≤ (get_or bs i d).address = begins_from (block_end b) bs cells i d h.1 (omega arith) in
    ⊎_elim
    (λ (t : (eqb b.address (get_or bs i d).address ≡ true) × (b.address ≡ (get_or bs i d).address)). absurd (let same : b.address ≡ (get_or bs i d).address = t.1 in omega arith))
    (λ (t : (eqb b.address (get_or bs i d).address ≡ false) × (b.address ≡ (get_or bs i d).address → ⊥)).
    ap (λ (c : Bool). cond c (Some b) (find (λ (c : Block). eqb c.address (get_or bs i d).address) bs)) t.0 ∙ found_at (block_end b) bs cells i d h.1 (omega arith))
    (eqb_tells b.address (get_or bs i d).address)

-- ---- the change

-- values of one object are changed, so that these of the source agree with them
module _ (space : Space) (heap : Heap) (a : ℕ) (vs : List Value → List Value) (name : ℕ) (us : List ObjectValue) (laid : IsLaidOut space) (unique : AreNamesUnique space) (there : name_at space a ≡ Some name) (keeps : (ws : List Value) → length (vs ws) ≡ length ws) where
  abbrev pub change : Block → Block
  change b = record b { values = vs b.values }

  abbrev pub written : Space
  written = with_changed space a change

  leaves : LeavesPlace change
  leaves = record { address = λ b. refl; count = λ b. keeps b.values }

  -- objects keep their places
  pub names_same : (x : ℕ) → name_at written x ≡ name_at space x
  names_same x = part-changed (λ (b : Block). b.birth) space a change x leaves (λ b. refl)

  pub names_stay : (x n : ℕ) → name_at space x ≡ Some n → name_at written x ≡ Some n
  names_stay x n h = names_same x ∙ h

  -- the changed object
  abbrev new : Object
  new = record { class = class_of heap name; values = us }

  abbrev heap_after : Heap
  heap_after = with_values heap name us

  object_here : (o : Object) → object_at heap name ≡ Some o → object_at heap_after name ≡ Some new
  object_here o at = by_name name at
    where
      by_name : (n : ℕ) → object_at heap n ≡ Some o → object_at (with_values heap n us) n ≡ Some (record { class = class_of heap n; values = us })
      by_name zero e = absurd (cc)
      by_name (suc i) e = get_set_same heap i (record { class = class_of heap (suc i); values = us }) (slice_get_within heap i o e)

  object_elsewhere : (n : ℕ) (o x : Object) → object_at heap name ≡ Some x → n ≢ name → object_at heap n ≡ Some o → object_at heap_after n ≡ Some o
  object_elsewhere n o x is other at = by_name n name is other at
    where
      by_name : (n m : ℕ) → object_at heap m ≡ Some x → n ≢ m → object_at heap n ≡ Some o → object_at (with_values heap m us) n ≡ Some o
      by_name n zero is ne e = absurd (cc (is))
      by_name zero (suc j) is ne e = absurd (cc (e))
      by_name (suc i) (suc j) is ne e = get_set_other heap j i (record { class = class_of heap (suc j); values = us }) (λ same. ne (ap suc same)) ∙ e

  -- each object keeps its class and its number of values
  pub shapes_after : (n : ℕ) (o x : Object) → length us ≡ length (values_of heap name) → object_at heap name ≡ Some x → object_at heap n ≡ Some o → (p : Object) × (object_at heap_after n ≡ Some p) × (p.class ≡ o.class) × (length p.values ≡ length o.values)
  shapes_after n o x many is at =
      ⊎_elim
      (λ (same : n ≡ name).
      let here : object_at heap name ≡ Some o = ap (object_at heap) (sym same) ∙ at in (
        new,
        ap (object_at heap_after) same ∙ object_here o here,
        ap (λ (p : Option Object). option_map_or (λ (x : Object). x.class) p 0) here,
        many ∙ ap (λ (p : Option Object). length (option_map_or (λ (x : Object). x.values) p [])) here,
      ))
      (λ (other : n ≢ name). (o, object_elsewhere n o x is other at, refl, refl))
      (cases_eq n name)

  module _ (agrees : (ws : List Value) → ValuesAgree space ws (values_of heap name) → ValuesAgree space (vs ws) us) (object_there : (o : Object) × (object_at heap name ≡ Some o)) where
    -- the block at the address
    block_here : (b : Block) → b.birth ≡ name → BlockAgrees space heap b → BlockAgrees written heap_after (change b)
    block_here b birth h =
        let is : object_at heap name ≡ Some h.object = ap (object_at heap) (sym birth) ∙ h.is in
        let class : class_of heap name ≡ h.object.class = ap (λ (o : Option Object). option_map_or (λ (x : Object). x.class) o 0) is in
        let values : values_of heap name ≡ h.object.values = ap (λ (o : Option Object). option_map_or (λ (x : Object). x.values) o []) is in
        record {
          object = new;
          is = ap (object_at heap_after) birth ∙ object_here h.object is;
          class = h.class ∙ sym class;
          values = values_stay space written names_stay (vs b.values) us (agrees b.values (subst (λ (us : List ObjectValue). ValuesAgree space b.values us) (sym values) h.values));
        }

    -- another block
    block_elsewhere : (b : Block) → b.birth ≢ name → BlockAgrees space heap b → BlockAgrees written heap_after b
    block_elsewhere b other h = record { object = h.object; is = object_elsewhere b.birth h.object object_there.0 object_there.1 other h.is; class = h.class; values = values_stay space written names_stay b.values h.object.values h.values }

    block_after : (b : Block) → block_at space b.address ≡ Some b → BlockAgrees space heap b → BlockAgrees written heap_after (changed a change b)
    block_after b found h =
        ⊎_elim
        (λ (t : (eqb b.address a ≡ true) × (b.address ≡ a)).
        let birth : b.birth ≡ name = let same : Some b.birth ≡ Some name = sym (ap (option_map (λ (c : Block). c.birth)) found) ∙ ap (name_at space) t.1 ∙ there in cc in
        subst (λ (c : Block). BlockAgrees written heap_after c) (sym (changed_here a change b t.1)) (block_here b birth h))
        (λ (t : (eqb b.address a ≡ false) × (b.address ≡ a → ⊥)).
        let other : b.birth ≢ name = λ e. t.1 (one_address space b.address a name unique (ap (option_map (λ (c : Block). c.birth)) found ∙ ap (λ (n : ℕ). Some n) e) there) in
        subst (λ (c : Block). BlockAgrees written heap_after c) (sym (changed_elsewhere a change b t.1)) (block_elsewhere b other h))
        (eqb_tells b.address a)

    blocks_after : (bs : List Block) (d : Block) → ((i : ℕ) → i < length bs → block_at space (get_or bs i d).address ≡ Some (get_or bs i d)) → BlocksAgree space heap bs → BlocksAgree written heap_after (map (changed a change) bs)
    blocks_after [] d found h = tt
    blocks_after (b ∷ bs) d found h = (block_after b (found 0 (omega arith)) h.0, blocks_after bs d (λ i less. found (suc i) (omega arith)) h.1)

-- ---- the store

-- any block
blank : Block
blank = record { address = 0; class = 0; birth = 0; values = []; pins = 0 }

module _ (p : Lowered) (w : World) (store : Store) (shared : Shared) (a : ℕ) (vs : List Value → List Value) (name : ℕ) (us : List ObjectValue) (all : Acquired) (h : StoreAgrees p w store shared all) (there : name_at store.heap a ≡ Some name) (keeps : (ws : List Value) → length (vs ws) ≡ length ws)
    (many : length us ≡ length (values_of shared.heap name)) where
  abbrev store_then : Store
  store_then = record store { heap = with_changed store.heap a (λ b. record b { values = vs b.values }) }

  object : Named store.heap shared.heap a name
  object = named store.heap shared.heap a name h.heap there

  -- the object that changes
  object_is : (o : Object) × (object_at shared.heap name ≡ Some o)
  object_is = (object.agrees.object, ap (object_at shared.heap) (sym object.birth) ∙ object.agrees.is)

  abbrev heap_then : Heap
  heap_then = with_values shared.heap name us

  count : length heap_then ≡ length shared.heap
  count = with_values_keeps shared.heap name us

  leaving : LeavesPlace (λ (b : Block). record b { values = vs b.values })
  leaving = record { address = λ b. refl; count = λ b. keeps b.values }

  stays : (x n : ℕ) → name_at store.heap x ≡ Some n → name_at store_then.heap x ≡ Some n
  stays = names_stay store.heap shared.heap a vs name us h.laid_out h.heap.unique there keeps

  pub values_agree : ((ws : List Value) → ValuesAgree store.heap ws (values_of shared.heap name) → ValuesAgree store.heap (vs ws) us) → StoreAgrees p w store_then (record shared { heap = heap_then }) all
  values_agree agrees = record {
    heap = record {
      blocks = blocks_after store.heap shared.heap a vs name us h.laid_out h.heap.unique there keeps agrees object_is store.heap.blocks blank
          (λ i less. found_at 0 store.heap.blocks store.heap.cells i blank h.laid_out less) h.heap.blocks;
      unique = AreNamesUnique-with_changed store.heap a (λ (b : Block). record b { values = vs b.values }) (λ b. refl) h.heap.unique;
    };
    laid_out = IsLaidOut-with_changed store.heap a (λ (b : Block). record b { values = vs b.values }) leaving h.laid_out;
    cells = h.cells;
    table = record { counted = h.table.counted; named = λ i x at. stays x (i + 1) (h.table.named i x at) };
    begun = subst (λ (n : ℕ). length (loaded_objects w) ≤ n) (sym count) h.begun;
    births = h.births ∙ sym count;
    statics = statics_stay store.heap store_then.heap stays (all_held store.globals store.weaks store.statics.items) shared.statics h.statics;
    named = h.named;
    keys = h.keys;
    weak_keys = h.weak_keys;
    weaks = weaks_stay store.heap store_then.heap stays store.weaks h.weaks;
    globals = slots_stay store.heap store_then.heap stays store.globals shared.globals h.globals;
    buffers = taken_changed store.heap a (λ (b : Block). record b { values = vs b.values }) store.elements store.views (length shared.heap) (length heap_then) all leaving (λ b. refl) (λ b. refl) count h.buffers;
    monitors = h.monitors;
    monitored = there_stays store.heap store_then.heap stays store.monitors h.monitored;
  }

  pub values_keep : Keeps store.heap shared store_then.heap (record shared { heap = heap_then })
  values_keep = record {
    names = stays;
    statics = inl refl;
    shapes = λ n o at. shapes_after store.heap shared.heap a vs name us h.laid_out h.heap.unique there keeps n o object_is.0 many object_is.1 at;
    room = none_made store.heap shared.heap heap_then (omega (arith, count));
    laid = none_laid (layout_of store.heap) (layout_of store_then.heap) (length shared.heap + 1) shared.heap heap_then (omega (arith, count)) (layout_values store.heap a vs keeps);
    marking = stays_same store.heap.marking;
    few = omega (arith, count);
  }

-- ---- one value

module _ (space : Space) (v : Value) (value : ObjectValue) (agrees : ValueAgrees space v value) where
  values_set : (ws : List Value) (us : List ObjectValue) (i : ℕ) → ValuesAgree space ws us → ValuesAgree space (slice_set ws i v) (slice_set us i value)
  values_set [] [] i h = h
  values_set [] (u ∷ us) i h = absurd h
  values_set (w ∷ ws) [] i h = absurd h
  values_set (w ∷ ws) (u ∷ us) zero h = (agrees, h.1)
  values_set (w ∷ ws) (u ∷ us) (suc i) h = (h.0, values_set ws us i h.1)

module _ (p : Lowered) (w : World) (store : Store) (shared : Shared) (a place name : ℕ) (v : Value) (value : ObjectValue) (all : Acquired) (h : StoreAgrees p w store shared all) (writes : WritesAt store.heap a place v name value) where
  abbrev pub store_after : Store
  store_after = record store { heap = with_value store.heap a place v }

  abbrev values_then : List ObjectValue
  values_then = slice_set (values_of shared.heap name) place value

  -- the store before what the value refers to is noted
  abbrev changed_store : Store
  changed_store = record store { heap = with_changed store.heap a (λ b. record b { values = slice_set b.values place v }) }

  -- the shared state of the source with the value
  abbrev pub shared_then : Shared
  shared_then = record shared { heap = with_values shared.heap name values_then }

  pub written_agrees : StoreAgrees p w store_after shared_then all
  written_agrees =
      store_noted p w changed_store (noted_in v store.heap.marking) shared_then all
      (values_agree p w store shared a (λ ws. slice_set ws place v) name values_then all h writes.there (λ ws. length-set ws place v) (length-set (values_of shared.heap name) place value)
      (λ ws agree. values_set store.heap v value writes.agrees ws (values_of shared.heap name) place agree))

  pub written_keeps : Keeps store.heap shared store_after.heap shared_then
  written_keeps =
      keeps_noted changed_store.heap (noted_in v store.heap.marking) store.heap shared shared_then
      (values_keep p w store shared a (λ ws. slice_set ws place v) name values_then all h writes.there (λ ws. length-set ws place v) (length-set (values_of shared.heap name) place value))
      (stays_noted v store.heap.marking)
