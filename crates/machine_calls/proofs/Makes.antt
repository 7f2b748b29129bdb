-- A store with a new object stands for the source's heap with it.
use Rattle.std.specs.Global.{Vec}
use Rattle.std.proofs.Common.{inl, ◌≡◌, ℕ, ◌+◌, ◌≤◌, List, Option, [], ◌∷◌, ◌++◌, length, Some, None, refl, sym, ap, ◌∙◌, subst, arith, length-append}
use Rattle.std.proofs.lemmas.List.Sums.{sum_by-cons}
use Rattle.class_rules.specs.Class.{Classes}
use Rattle.heap.specs.Heap.{Block, Space, IsAddress, IsLaidOut, end_of, left_of, name_at, with_block, with_noted}
use Rattle.heap.specs.Marks.{Marks, noted_in}
use Rattle.heap.specs.Marking.{MarkingStays}
use Rattle.heap.specs.declared.value.Value.{Value}
use Rattle.heap.specs.declared.value.Value.TheVariants.{Number as Word, Null, Block as Refers}
use Rattle.heap.proofs.Staying.{stays_made, stays_noted, stays_on}
use Rattle.heap.specs.Layout.{layout_of}
use Rattle.machine_scenes.specs.Layouts.{with_objects}
use Rattle.machine_scenes.proofs.ObjectExtents.{laid_push, more_laid}
use Rattle.heap.proofs.Layouts.{LieFrom-push, end_from-push}
use Rattle.semantics.specs.Heap.{next_name}
use Rattle.semantics.specs.Object.{Object, ObjectValue, Number, Refers as ToObject, size}
use Rattle.semantics.specs.Thread.{Shared}
use Rattle.semantics.specs.World.{World, loaded_objects}
use Rattle.code_meaning.specs.Lowered.{Lowered}
use Rattle.monitors.specs.declared.monitors.Monitor.{Monitor}
use Rattle.machine_scenes.specs.MonitorsAgree.{AreThere, MonitorsAgree}
use Rattle.machine_scenes.proofs.MonitorPlaces.{there_stays}
use Rattle.machine_scenes.specs.declared.store.Store.{Store}
use Rattle.machine_scenes.specs.HeapAgrees.{SlotsAgree, ValueAgrees}
use Rattle.machine_scenes.specs.Buffers.{Acquired}
use Rattle.machine_scenes.specs.StoreAgrees.{AreWeaklyThere, Keeps, StaticsAgree, StoreAgrees}
use Rattle.machine_scenes.specs.Statics.{HaveKeys, HaveWeakKeys, all_held}
use Rattle.machine_scenes.specs.declared.references.Held.{Held}
use Rattle.machine_scenes.specs.Statics.{StaticReference}
use Rattle.machine_scenes.specs.declared.new_object.New.{New}
use Rattle.machine_scenes.specs.declared.new_object.New.TheVariants.{Fresh, Array, Text, Exception}
use Rattle.machine_scenes.specs.HeapAgrees.{HeapAgrees, IsTable}
use Rattle.machine_calls.specs.Made.{HasMade, RefersThere, new_block, noted_of_new}
use Rattle.machine_scenes.specs.NewObjects.{Describes, IsObject, cells_of_new, values_of_new}
use Rattle.machine_scenes.proofs.HeapLaws.{IsNext, agrees_with_block, name_kept, name_new, object_kept, table_kept}
use Rattle.machine_scenes.proofs.BlocksOfNames.{is_address}
use Rattle.machine_scenes.proofs.Keeping.{more_made, slots_stay, statics_stay, weaks_stay}
use Rattle.machine_scenes.proofs.Noted.{object_noted, store_noted}
use Rattle.machine_calls.proofs.NotedBlocks.{address_new}
use Rattle.machine_calls.proofs.NewValues.{as_many, new_agree, same_class}
use Rattle.machine_scenes.proofs.Taken.{taken_as, taken_push}

-- what a new object is to refer to is there, as the source's object tells
pub refers_there : (classes : Classes) (texts : List (List ℕ)) (space : Space) (new : New) (o : Object) → IsObject classes texts space new o → RefersThere space new
refers_there classes texts space (Fresh class) o is = tt
refers_there classes texts space (Text place) o is = tt
refers_there classes texts space (Exception class message) o is = is_address space message is.0 is.1
refers_there classes texts space (Array array) o is = of_value array.value is.0 is.1
  where
    of_value : (v : Value) (u : ObjectValue) → ValueAgrees space v u → (a : ℕ) → v ≡ Refers a → IsAddress space a
    of_value (Word n) u agrees a e = absurd (cc)
    of_value Null u agrees a e = absurd (cc)
    of_value (Refers b) (Number z) agrees a e = absurd agrees
    of_value (Refers b) (ToObject None) agrees a e = absurd agrees
    of_value (Refers b) (ToObject (Some n)) agrees a e = let same : b ≡ a = cc in subst (IsAddress space) same (is_address space b n agrees)

module _ (p : Lowered) (w : World) (texts : List (List ℕ)) (store after : Store) (shared : Shared) (new : New) (o : Object) (a : ℕ) (all : Acquired) (h : StoreAgrees p w store shared all) (made : HasMade w.classes texts store new after a) (d : Describes w.classes texts store.heap new o) where
  abbrev b : Block
  b = new_block w.classes texts store new

  -- the marking once what the object is to refer to is noted, and the heap with it
  abbrev marking : Option Marks
  marking = noted_in (noted_of_new w.classes new) store.heap.marking

  abbrev noted_heap : Space
  noted_heap = record store.heap { marking = marking }

  -- what agrees with the store does so with that heap
  agrees : StoreAgrees p w (record store { heap = noted_heap }) shared all
  agrees = store_noted p w store marking shared all h

  object : IsObject w.classes texts noted_heap new o
  object = object_noted store.heap marking w.classes texts new o d.object

  next : IsNext noted_heap shared.heap b o
  next = record { after = refl; birth = ap (λ (n : ℕ). n + 1) h.births; class = same_class w.classes texts store.heap new o d.object; values = new_agree w.classes texts noted_heap new o object made.bytes; unpinned = refl }

  room : size o ≤ left_of store.heap
  room =
      let long : length (values_of_new w.classes texts new) ≡ length o.values = as_many w.classes texts store.heap new o d.object in
      omega (arith, made.room)

  -- the shared state with the object
  abbrev pub with_object : Shared
  with_object = record shared { heap = shared.heap ++ o ∷ [] }

  pub names_stay : (x n : ℕ) → name_at store.heap x ≡ Some n → name_at after.heap x ≡ Some n
  names_stay x n at = ap (λ (s : Space). name_at s x) made.heap ∙ name_kept noted_heap b x n at

  pub made_agrees : StoreAgrees p w after with_object all
  made_agrees =
      let count = length-append shared.heap (o ∷ []) in
      let long : length b.values ≡ length o.values = as_many w.classes texts store.heap new o d.object in
      let births : store.births ≡ length shared.heap = h.births in
      let begun : length (loaded_objects w) ≤ length shared.heap = h.begun in
      record {
        heap = subst (λ (s : Space). HeapAgrees s (shared.heap ++ o ∷ [])) (sym made.heap) (agrees_with_block noted_heap shared.heap b o agrees.heap next);
        laid_out = subst IsLaidOut (sym made.heap) (LieFrom-push 0 store.heap.blocks b store.heap.cells h.laid_out (omega arith) (omega (arith, room)));
        cells = ap (λ (s : Space). s.cells) made.heap ∙ h.cells;
        table = subst (λ (s : Space). IsTable s after.loaded.items (length (loaded_objects w))) (sym made.heap)
            (subst (λ (l : List ℕ). IsTable (with_block noted_heap b) l (length (loaded_objects w))) (sym (ap (λ v. v.items) made.loaded)) (table_kept noted_heap b store.loaded.items (length (loaded_objects w)) agrees.table));
        begun = omega arith;
        births = made.births ∙ omega arith;
        statics = subst (λ (helds : List Held). StaticsAgree after.heap helds shared.statics) (sym (λ i. all_held (made.globals i) (made.weaks i) (made.statics i).items)) (statics_stay store.heap after.heap names_stay (all_held store.globals store.weaks store.statics.items) shared.statics h.statics);
        named = h.named;
        keys = subst (λ (globals : List (Option ℕ)). HaveKeys globals after.statics.items) (sym made.globals) (subst (λ (v : Vec StaticReference). HaveKeys store.globals v.items) (sym made.statics) h.keys);
        weak_keys = subst (λ (weaks : List (Option (Option ℕ))). HaveWeakKeys weaks after.statics.items) (sym made.weaks) (subst (λ (v : Vec StaticReference). HaveWeakKeys store.weaks v.items) (sym made.statics) h.weak_keys);
        weaks = subst (AreWeaklyThere after.heap) (sym made.weaks) (weaks_stay store.heap after.heap names_stay store.weaks h.weaks);
        globals = subst (λ (globals : List (Option ℕ)). SlotsAgree after.heap globals shared.globals) (sym made.globals) (slots_stay store.heap after.heap names_stay store.globals shared.globals h.globals);
        buffers = taken_as (with_block noted_heap b) after.heap store.elements after.elements store.views after.views (length (shared.heap ++ o ∷ [])) all made.heap made.elements made.views
            (taken_push noted_heap b store.elements store.views (length shared.heap) (length (shared.heap ++ o ∷ [])) all agrees.buffers count next.birth refl);
        monitors = subst (λ (ms : List Monitor). MonitorsAgree ms shared.monitors) (sym made.monitors) h.monitors;
        monitored = subst (AreThere after.heap) (sym made.monitors) (there_stays store.heap after.heap names_stay store.monitors h.monitored);
      }

  -- its block is the highest
  pub made_laid : layout_of after.heap ≡ with_objects (layout_of store.heap) (length shared.heap + 1) (o ∷ [])
  made_laid =
      let long : length b.values ≡ length o.values = as_many w.classes texts store.heap new o d.object in
      ap layout_of made.heap ∙ laid_push noted_heap b (length shared.heap + 1) o next.birth refl (omega (arith, long))

  pub made_keeps : Keeps store.heap shared after.heap with_object
  made_keeps = record {
    names = names_stay;
    statics = inl refl;
    shapes = λ n x at. (x, object_kept shared.heap (o ∷ []) n x at, refl, refl);
    room = more_made store.heap shared.heap (o ∷ []) (omega (arith, room, sum_by-cons size o []));
    laid = more_laid (layout_of store.heap) (layout_of after.heap) (length shared.heap + 1) shared.heap (o ∷ []) made_laid;
    marking = stays_on store.heap.marking marking after.heap.marking (stays_noted (noted_of_new w.classes new) store.heap.marking)
        (subst (λ (s : Space). MarkingStays marking s.marking) (sym made.heap) (stays_made noted_heap b.address));
    few = omega (arith, length-append shared.heap (o ∷ []));
  }

  -- the object is at its address
  pub made_named : name_at after.heap a ≡ Some (next_name shared.heap)
  made_named =
      ap (λ (s : Space). name_at s a) made.heap
      ∙ ap (name_at (with_block noted_heap b)) made.address
      ∙ name_new noted_heap b h.laid_out refl
      ∙ ap (λ (n : ℕ). Some n) next.birth

-- so it is there
pub made_there : (classes : Classes) (texts : List (List ℕ)) (before after : Store) (new : New) (a : ℕ) → HasMade classes texts before new after a → IsAddress after.heap a
made_there classes texts before after new a made =
    subst (λ (s : Space). IsAddress s a) (sym made.heap)
    (subst (λ (x : ℕ). IsAddress (with_block (with_noted (noted_of_new classes new) before.heap) (new_block classes texts before new)) x) (sym made.address)
    (address_new (with_noted (noted_of_new classes new) before.heap) (new_block classes texts before new)))

-- the cells that are left then
pub left_after : (classes : Classes) (texts : List (List ℕ)) (before after : Store) (new : New) (a : ℕ) → HasMade classes texts before new after a → left_of before.heap ≡ left_of after.heap + cells_of_new classes texts new
left_after classes texts before after new a made =
    let end : end_of after.heap ≡ end_of before.heap + cells_of_new classes texts new = ap end_of made.heap ∙ end_from-push 0 before.heap.blocks (new_block classes texts before new) in
    let cells : after.heap.cells ≡ before.heap.cells = ap (λ (s : Space). s.cells) made.heap in
    omega (arith, made.room, end, cells)
