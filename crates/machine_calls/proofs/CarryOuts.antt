-- What is carried out is what the source's call leaves.
use Rattle.std.proofs.Common.{◌≤◌, drop, take, ◌≡◌, ℕ, pos, negsuc, ◌-◌, ◌<◌, ◌^◌, Bool, true, false, List, [], ◌∷◌, ◌++◌, length, inl, inr, Option, Some, None, refl, sym, ap, ◌∙◌, subst, arith, append-nil, ◌+◌, length-append, append_assoc}
use Rattle.std.specs.Global.{Vec}
use Rattle.heap.specs.Heap.{name_at}
use Rattle.heap.proofs.Staying.{stays_on}
use Rattle.heap.specs.Layout.{Layout, layout_of}
use Rattle.machine_scenes.specs.Layouts.{with_objects}
use Rattle.machine_scenes.proofs.ObjectExtents.{more_laid, with_both}
use Rattle.base.specs.Bytes.{lookup}
use Rattle.semantics.specs.Answer.{Answer as SourceAnswer, effect_of}
use Rattle.semantics.specs.Arguments.{variable_given}
use Rattle.semantics.specs.CallEffects.{heap_effect, level_of, local_array, without_one}
use Rattle.semantics.specs.Object.{Object, sizes}
use Rattle.semantics.specs.Variable.{Empty, Live, Weakly, Deleted, assign}
use Rattle.tables.specs.Globals.{without}
use Rattle.machine_scenes.specs.Statics.{StaticReference}
use Rattle.semantics.specs.declared.static_reference.StaticReference.TheVariants as static
use Rattle.machine_scenes.specs.Statics.{held as held_of, held_at, held_weakly, without_weak}
use Rattle.machine_calls.proofs.StaticStores.{fresh_global, fresh_weak, keeps_but_statics, live_there, with_deleted, with_global, with_weak, with_weak_deleted}
use Rattle.std.specs.Prelude.{slice_get, slice_set, nat_le, if◌then◌else◌}
use Rattle.std.proofs.lemmas.Bool.{le-leb, leb-true}
use Rattle.std.proofs.lemmas.Option.{slice_get-get_or, slice_get_within}
use Rattle.syntax.specs.Tree.{SourceUnit}
use Rattle.syntax.specs.Views.{unit_tree}
use Rattle.class_rules.specs.BuiltIns.{string_class}
use Rattle.class_rules.specs.Class.{Classes}
use Rattle.class_rules.specs.declared.class_id.ClassId.{ClassId}
use Rattle.heap.specs.Heap.{Space, left_of, with_value}
use Rattle.heap.specs.declared.value.Value.{Value}
use Rattle.jni.specs.declared.kinds.ResultKind.{ResultKind}
use Rattle.jni.specs.declared.kinds.ResultKind.TheVariants.{NewLocal, NewGlobal, NewWeak, GivesFlag, GivesInt, GivesField, GivesMethod, GivesNothing, GivesBuffer}
use Rattle.semantics.specs.CallEffects.{Throws, new_effect, overwritten, throw_new_effect, string_object, with_message, frames_effect, without_local, CallResult, Leaves, NoResult, ReferenceResult, WeakResult, ScalarResult, CallEffect, out_of_memory, refuses_frames, with_capacity}
use Rattle.semantics.specs.CallStep.{failure, makes_objects}
use Rattle.semantics.specs.Heap.{Heap, next_name, numbers_of, with_numbers}
use Rattle.semantics.specs.Thread as source
use Rattle.semantics.specs.Thread.{Shared, Thread}
use Rattle.semantics.specs.declared.value.Value.TheVariants.{Int}
use Rattle.semantics.specs.World.{World, fresh_object, loaded_objects}
use Rattle.world_values.proofs.LoadedWorlds.{loaded_error}
use Rattle.code_meaning.specs.Lowered.{Lowered}
use Rattle.machine_answers.specs.declared.answer.Answer.{Answer}
use Rattle.machine_answers.specs.declared.answer.Answer.TheVariants as answer
use Rattle.machine_answers.specs.declared.answer.Given.{Given}
use Rattle.machine_answers.specs.declared.answer.Given.TheVariants as given
use Rattle.machine_scenes.specs.declared.new_object.New.{New}
use Rattle.machine_scenes.specs.declared.new_object.New.TheVariants.{Exception, Fresh, Text}
use Rattle.machine_scenes.specs.declared.store.Store.{Store}
use Rattle.machine_scenes.specs.StoreAgrees.{HeldAgrees, StoreAgrees, Keeps}
use Rattle.machine_answers.specs.Answers.{Brought, GivenAgrees, IsAnswer, effect_told}
use Rattle.machine_answers.specs.Answers as row
use Rattle.machine_calls.specs.CarriedOut.{CarriesOut, IsFresh, IsLeft, IsPossible, ResultAgrees, acquired_with, failed, made_by}
use Rattle.machine_scenes.specs.Buffers.{Acquired, acquired_by, beside, nothing_acquired}
use Rattle.machine_calls.proofs.BufferStores.{agrees_same}
use Rattle.machine_scenes.proofs.HeldSums.{beside_nothing, begun_same}
use Rattle.machine_scenes.specs.Locals.{FramesAgree, IsKeyOf}
use Rattle.tables.specs.Locals as tables
use Rattle.tables.specs.Locals.{Frame, LocalTable, capacities, popped}
use Rattle.machine_scenes.specs.HeapAgrees.{ReferenceAgrees}
use Rattle.machine_calls.specs.Made.{HasMade}
use Rattle.machine_scenes.specs.Statics.{MakesGlobal, MakesWeak}
use Rattle.machine_scenes.specs.NewObjects.{Describes, IsMakeable, cells_of_new, text_in}
use Rattle.machine_calls.proofs.CellsMade.{both_sizes, described_size, fresh_size, nothing_asked}
use Rattle.machine_scenes.proofs.HeapLaws.{object_kept}
use Rattle.machine_scenes.proofs.Keeping.{frames_stay, keeps_same, key_stays, more_made, reference_stays}
use Rattle.machine_calls.proofs.NewValues.{same_cells}
use Rattle.machine_calls.proofs.Makes as making
use Rattle.machine_scenes.proofs.LocalFrames.{frame_ended, frame_made, key_deleted, key_ensured, key_popped, key_pushed, no_frames, reference_deleted, room_ensured, same_capacities}
use Rattle.machine_answers.proofs.Writes as writing
use Rattle.machine_answers.proofs.CopiedRegions as copying
use Rattle.machine_answers.specs.Copies.{space_with}
use Rattle.machine_scenes.specs.declared.array_region.ArrayRegion.{ArrayRegion}

-- what is carried out, by the answer's case
module _ (p : Lowered) (w : World) (space : Space) (before : LocalTable) (kind : ResultKind) (others : Acquired) (owner : ℕ) (shared : Shared) (s : Thread) (of_source : SourceAnswer) (brought : Brought) where
  abbrev done : CallEffect
  done = effect_told w.classes brought shared s of_source

  pub by_answer : (a b : Answer) → a ≡ b → (refused : Bool) (store : Store) (pending : Option ℕ) (locals : LocalTable) (g : Given) → (IsAnswer w.classes brought space before shared s b kind of_source → CarriesOut p w space before b kind others owner shared s done refused store pending locals g)
      → IsAnswer w.classes brought space before shared s a kind of_source → CarriesOut p w space before a kind others owner shared s done refused store pending locals g
  by_answer a b same refused store pending locals g f does =
      subst (λ (x : Answer). CarriesOut p w space before x kind others owner shared s done refused store pending locals g) (sym same) (f (subst (λ (x : Answer). IsAnswer w.classes brought space before shared s x kind of_source) same does))

-- a call that fails gives what it gives in the source
failed_agrees : (unit : SourceUnit) (classes : Classes) (store : Store) (owner : ℕ) (kind : ResultKind) → ResultAgrees unit classes store owner (failed kind) kind (failure kind)
failed_agrees unit classes store owner NewLocal = row.null_reference
failed_agrees unit classes store owner NewGlobal = (tt, tt, record { live = λ key e. absurd (cc); weak = λ key e. absurd (cc) })
failed_agrees unit classes store owner NewWeak = (tt, tt, record { live = λ key e. absurd (cc); weak = λ key e. absurd (cc) })
failed_agrees unit classes store owner GivesField = row.null_field
failed_agrees unit classes store owner GivesMethod = row.null_method
failed_agrees unit classes store owner GivesFlag = row.flag refl
failed_agrees unit classes store owner GivesInt = row.int refl (record { sfits = omega arith })
failed_agrees unit classes store owner GivesNothing = row.nothing
failed_agrees unit classes store owner (GivesBuffer access) = ((access, refl), refl)

-- which takes nothing
failure_none : (kind : ResultKind) → acquired_with (failure kind) ≡ nothing_acquired
failure_none NewLocal = refl
failure_none NewGlobal = refl
failure_none NewWeak = refl
failure_none GivesField = refl
failure_none GivesMethod = refl
failure_none GivesFlag = refl
failure_none GivesInt = refl
failure_none GivesNothing = refl
failure_none (GivesBuffer access) = refl

-- what is neither a buffer nor for a static
result_agrees : {unit : SourceUnit} {classes : Classes} (store : Store) (owner : ℕ) {kind : ResultKind} {g : Given} {c : CallResult} → GivenAgrees unit classes store.heap kind g c → ResultAgrees unit classes store owner g kind c
result_agrees store owner row.nothing = row.nothing
result_agrees store owner h = h

-- what is no buffer takes nothing
nothing_given : {unit : SourceUnit} {classes : Classes} {space : Space} {kind : ResultKind} {g : Given} {c : CallResult} → GivenAgrees unit classes space kind g c → acquired_with c ≡ nothing_acquired
nothing_given row.nothing = refl
nothing_given h = refl

module _ (p : Lowered) (w : World) (store : Store) (pending : Option ℕ) (locals : LocalTable) (others : Acquired) (owner : ℕ) (shared : Shared) (s : Thread) (h : IsPossible p w store pending locals others shared s) (brought : Brought) where
  abbrev texts : List (List ℕ)
  texts = brought.texts

  -- what is left of an effect, with the frames as they were
  abbrev Carries : Answer → ResultKind → CallEffect → Bool → Store → Option ℕ → Given → Type 0
  Carries a kind effect refused after pending' g = CarriesOut p w store.heap locals a kind others owner shared s effect refused after pending' locals g

  -- what the buffers of all threads take
  abbrev pub all : Acquired
  all = beside others (acquired_by s)

  -- and what they take with a result that takes nothing
  abbrev all_with : CallResult → Acquired
  all_with c = beside others (beside (acquired_by s) (acquired_with c))

  takes_none : (after : Store) (s' : Shared) (c : CallResult) → acquired_with c ≡ nothing_acquired → StoreAgrees p w after s' all → StoreAgrees p w after s' (all_with c)
  takes_none after s' c none agrees =
      subst (λ (x : Acquired). StoreAgrees p w after s' (beside others (beside (acquired_by s) x))) (sym none)
      (agrees_same p w after s' all agrees (beside others (beside (acquired_by s) nothing_acquired)) (beside_nothing others (acquired_by s)))

  -- the OutOfMemoryError object is there
  error_there : ReferenceAgrees store.heap (slice_get store.loaded.items (length w.classes)) (Some (out_of_memory w.classes))
  error_there =
      let table = h.store_agrees.table in
      let within = slice_get_within (loaded_objects w) (length w.classes) (fresh_object w.classes 11) (loaded_error w) in
      let found = slice_get-get_or store.loaded.items (length w.classes) 0 (omega (arith, within, table.counted)) in
      subst (λ (o : Option ℕ). ReferenceAgrees store.heap o (Some (out_of_memory w.classes))) (sym found) (table.named (length w.classes) _ found)

  -- the allocation was refused
  refuses : (a : Answer) (kind : ResultKind) (effect : CallEffect) → makes_objects effect ≡ true → left_of store.heap < sizes (made_by w.classes effect) → Carries a kind effect true store (slice_get store.loaded.items (length w.classes)) (failed kind)
  refuses a kind effect makes short = record {
    store_agrees = takes_none store shared (failure kind) (failure_none kind) h.store_agrees;
    keeps = keeps_same store.heap shared;
    pending_agrees = error_there;
    frames_agree = h.frames_agree;
    left = λ key n level is left. is;
    given_agrees = failed_agrees (unit_tree p.unit) w.classes store owner kind;
    still = λ same. refl;
    could_refuse = λ e. makes;
    room = (short, refl);
  }

  abbrev Does : Answer → ResultKind → SourceAnswer → Type 0
  Does a kind of_source = IsAnswer w.classes brought store.heap locals shared s a kind of_source

  -- the effect of an answer of the source
  abbrev of : SourceAnswer → CallEffect
  of a = effect_told w.classes brought shared s a

  pub refuses_object : (new : New) {kind : ResultKind} {of_source : SourceAnswer} → Does (answer.Makes new) kind of_source → left_of store.heap < cells_of_new w.classes texts new → Carries (answer.Makes new) kind (of of_source) true store (slice_get store.loaded.items (length w.classes)) (failed kind)
  unfolding effect_of
  refuses_object new (row.makes {o = o} it) short = refuses (answer.Makes new) NewLocal (new_effect shared s o) refl (omega (arith, short, described_size w.classes texts store.heap new o it.object))

  pub refuses_exception : (class : ClassId) {kind : ResultKind} {of_source : SourceAnswer} → Does (answer.Throws class) kind of_source → left_of store.heap < cells_of_new w.classes texts (Fresh class) → Carries (answer.Throws class) kind (of of_source) true store (slice_get store.loaded.items (length w.classes)) (failed kind)
  unfolding effect_of
  refuses_exception class (row.throws {kind = kind} it) short = refuses (answer.Throws class) kind (Throws class.number) refl (omega (arith, short, fresh_size w.classes texts store.heap class))

  -- nothing is added to the heap
  same_heap : (t : Shared) → record t { heap = t.heap ++ [] } ≡ t
  same_heap t = ap (λ (l : Heap). let r : Shared = record t { heap = l } in r) (append-nil t.heap)

  -- so the store agrees yet, where the result takes nothing
  agrees_yet : (after : Store) (s' : Shared) (c : CallResult) → acquired_with c ≡ nothing_acquired → StoreAgrees p w after s' all → StoreAgrees p w after (record s' { heap = s'.heap ++ [] }) (all_with c)
  agrees_yet after s' c none agrees = subst (λ (x : Shared). StoreAgrees p w after x (all_with c)) (sym (same_heap s')) (takes_none after s' c none agrees)

  -- what is given is of the unit
  of_unit : {kind : ResultKind} {g : Given} {c : CallResult} → brought.unit ≡ unit_tree p.unit → GivenAgrees brought.unit w.classes store.heap kind g c → GivenAgrees (unit_tree p.unit) w.classes store.heap kind g c
  of_unit {kind = kind} {g = g} {c = c} same agrees = subst (λ (unit : SourceUnit). GivenAgrees unit w.classes store.heap kind g c) same agrees

  -- nothing changes, and this is given
  gave : {kind : ResultKind} {g : Given} {c : CallResult} → GivenAgrees (unit_tree p.unit) w.classes store.heap kind g c → Carries (answer.Gives g) kind (Leaves [] shared s c) false store pending g
  gave {c = c} agrees = record {
    store_agrees = agrees_yet store shared c (nothing_given agrees) h.store_agrees;
    keeps = subst (Keeps store.heap shared store.heap) (sym (same_heap shared)) (keeps_same store.heap shared);
    pending_agrees = h.pending_agrees;
    frames_agree = h.frames_agree;
    left = λ key n level is left. is;
    given_agrees = result_agrees store owner agrees;
    still = λ same. refl;
    could_refuse = λ e. absurd (cc);
    room = nothing_asked store.heap;
  }

  pub gives : {kind : ResultKind} {of_source : SourceAnswer} → brought.unit ≡ unit_tree p.unit → (g : Given) → Does (answer.Gives g) kind of_source → Carries (answer.Gives g) kind (of of_source) false store pending g
  unfolding effect_of
  gives same_unit g (row.gives of_call) = gave (of_unit same_unit of_call)
  gives same_unit g (row.writes_nothing same) =
      subst (λ (l : Heap). Carries (answer.Gives given.Nothing) GivesNothing (heap_effect shared s l) false store pending given.Nothing) (sym same) (gave row.nothing)

  pub writes : (a place : ℕ) (v : Value) {kind : ResultKind} {of_source : SourceAnswer} → Does (answer.Writes a place v) kind of_source → Carries (answer.Writes a place v) kind (of of_source) false (record store { heap = with_value store.heap a place v }) pending given.Nothing
  unfolding effect_of
  writes a place v (row.writes {name = name} {value = value} it) =
      let after : Store = record store { heap = with_value store.heap a place v } in
      let left = writing.shared_then p w store shared a place name v value all h.store_agrees it in
      let agrees = writing.written_agrees p w store shared a place name v value all h.store_agrees it in
      let keeps = writing.written_keeps p w store shared a place name v value all h.store_agrees it in
      record {
        store_agrees = agrees_yet after left NoResult refl agrees;
        keeps = subst (Keeps store.heap shared after.heap) (sym (same_heap left)) keeps;
        pending_agrees = reference_stays store.heap after.heap keeps.names pending s.pending h.pending_agrees;
        frames_agree = frames_stay store.heap after.heap keeps.names locals s.frames h.frames_agree;
        left = λ key n level is left. key_stays store.heap after.heap keeps.names locals key n level is;
        given_agrees = row.nothing;
        still = λ same. refl;
        could_refuse = λ e. absurd (cc);
        room = nothing_asked store.heap;
      }

  -- numbers went into slots, and nothing else changes
  pub copies_out : (region : ArrayRegion) {kind : ResultKind} {of_source : SourceAnswer} → Does (answer.CopiesOut region) kind of_source → Carries (answer.CopiesOut region) kind (of of_source) false store pending given.Nothing
  unfolding effect_of
  copies_out region (row.copies_out it) = record {
    store_agrees = subst (λ (x : Acquired). StoreAgrees p w store (record shared { heap = shared.heap ++ [] }) (beside others (beside x nothing_acquired))) (sym (begun_same s (variable_given brought.args 3) (take region.count (drop region.start (numbers_of shared.heap it.name))))) (agrees_yet store shared NoResult refl h.store_agrees);
    keeps = subst (Keeps store.heap shared store.heap) (sym (same_heap shared)) (keeps_same store.heap shared);
    pending_agrees = h.pending_agrees;
    frames_agree = h.frames_agree;
    left = λ key n level is left. is;
    given_agrees = row.nothing;
    still = λ same. refl;
    could_refuse = λ e. absurd (cc);
    room = nothing_asked store.heap;
  }

  -- numbers of slots went into an object
  pub copies_in : (region : ArrayRegion) {kind : ResultKind} {of_source : SourceAnswer} → Does (answer.CopiesIn region) kind of_source → Carries (answer.CopiesIn region) kind (of of_source) false (record store { heap = space_with store.heap region brought.numbers }) pending given.Nothing
  unfolding effect_of
  copies_in region (row.copies_in it) =
      let after : Store = record store { heap = space_with store.heap region brought.numbers } in
      let copied : Shared = record shared { heap = with_numbers shared.heap it.name (overwritten (numbers_of shared.heap it.name) region.start (take region.count (local_array (lookup (variable_given brought.args 3) s.variables)))) } in
      let agrees = copying.copied_agrees p w store shared s brought region all h.store_agrees it in
      let keeps = copying.copied_keeps p w store shared s brought region all h.store_agrees it in
      record {
        store_agrees = agrees_yet after copied NoResult refl agrees;
        keeps = subst (Keeps store.heap shared after.heap) (sym (same_heap copied)) keeps;
        pending_agrees = reference_stays store.heap after.heap keeps.names pending s.pending h.pending_agrees;
        frames_agree = frames_stay store.heap after.heap keeps.names locals s.frames h.frames_agree;
        left = λ key n level is left. key_stays store.heap after.heap keeps.names locals key n level is;
        given_agrees = row.nothing;
        still = λ same. refl;
        could_refuse = λ e. absurd (cc);
        room = nothing_asked store.heap;
      }

  -- the frames can't have more room
  no_room : (a : Answer) → Carries a GivesInt (refuses_frames w.classes shared s) false store (slice_get store.loaded.items (length w.classes)) (given.Number (2 ^ 32 - 4))
  no_room a = record {
    store_agrees = agrees_yet store shared (ScalarResult (Int (negsuc 3))) refl h.store_agrees;
    keeps = subst (Keeps store.heap shared store.heap) (sym (same_heap shared)) (keeps_same store.heap shared);
    pending_agrees = error_there;
    frames_agree = h.frames_agree;
    left = λ key n level is left. is;
    given_agrees = row.int refl (record { sfits = omega arith });
    still = λ same. refl;
    could_refuse = λ e. absurd (cc);
    room = nothing_asked store.heap;
  }

  pub refuses_room : {kind : ResultKind} {of_source : SourceAnswer} → Does answer.RefusesFrames kind of_source → Carries answer.RefusesFrames kind (of of_source) false store (slice_get store.loaded.items (length w.classes)) (given.Number (2 ^ 32 - 4))
  unfolding effect_of
  refuses_room row.refuses = no_room answer.RefusesFrames

  -- keys are left by an answer after which the table is this one
  abbrev Left : Answer → LocalTable → Type 0
  Left a after = (key n level : ℕ) → IsKeyOf store.heap locals key n level → IsLeft a (length locals.frames) key level → IsKeyOf store.heap after key n level

  -- the frames become these, and nothing else changes
  framed : {kind : ResultKind} {c : CallResult} (a : Answer) (after : LocalTable) (gs : List source.Frame) (g : Given) → FramesAgree store.heap after gs → Left a after → GivenAgrees (unit_tree p.unit) w.classes store.heap kind g c
      → CarriesOut p w store.heap locals a kind others owner shared s (Leaves [] shared (record s { frames = gs }) c) false store pending after g
  framed {c = c} a after gs g agree left given_agrees = record {
    store_agrees = agrees_yet store shared c (nothing_given given_agrees) h.store_agrees;
    keeps = subst (Keeps store.heap shared store.heap) (sym (same_heap shared)) (keeps_same store.heap shared);
    pending_agrees = h.pending_agrees;
    frames_agree = agree;
    left = left;
    given_agrees = result_agrees store owner given_agrees;
    still = λ same. refl;
    could_refuse = λ e. absurd (cc);
    room = nothing_asked store.heap;
  }

  -- these frames are wanted, of which there can be so much room at most
  module _ (a : Answer) (after : LocalTable) (gs : List source.Frame) (agree : FramesAgree store.heap after gs) where
    abbrev wanted : Bool → CallEffect
    wanted b = if b then Leaves [] shared (record s { frames = gs }) (ScalarResult (Int (pos 0))) else refuses_frames w.classes shared s

    decided : (b : Bool) → nat_le (capacities after) 1024 ≡ b → frames_effect w.classes shared s gs ≡ wanted b
    decided b fits = ap wanted (sym (ap (λ (n : ℕ). nat_le n 1024) (same_capacities store.heap after gs agree)) ∙ fits)

    had : Left a after → capacities after ≤ 1024 → CarriesOut p w store.heap locals a GivesInt others owner shared s (frames_effect w.classes shared s gs) false store pending after (given.Number 0)
    had left fits =
        subst (λ (e : CallEffect). CarriesOut p w store.heap locals a GivesInt others owner shared s e false store pending after (given.Number 0)) (sym (decided true (le-leb (capacities after) 1024 fits)))
        (framed a after gs (given.Number 0) agree left (row.int refl (record { sfits = omega arith })))

    not_had : 1024 < capacities after → Carries a GivesInt (frames_effect w.classes shared s gs) false store (slice_get store.loaded.items (length w.classes)) (given.Number (2 ^ 32 - 4))
    not_had over =
        subst (λ (e : CallEffect). Carries a GivesInt e false store (slice_get store.loaded.items (length w.classes)) (given.Number (2 ^ 32 - 4))) (sym (decided false (by_test (nat_le (capacities after) 1024) refl)))
        (no_room a)
      where
        by_test : (b : Bool) → nat_le (capacities after) 1024 ≡ b → b ≡ false
        by_test true e = absurd (omega (arith, over, leb-true (capacities after) 1024 e))
        by_test false e = refl

  pub ensures : (more : ℕ) {kind : ResultKind} {of_source : SourceAnswer} → Does (answer.Ensures more) kind of_source → 0 < length locals.frames → capacities (tables.ensured locals more) ≤ 1024 → CarriesOut p w store.heap locals (answer.Ensures more) kind others owner shared s (of of_source) false store pending (tables.ensured locals more) (given.Number 0)
  unfolding effect_of
  ensures more row.ensures there fits =
      had (answer.Ensures more) (tables.ensured locals more) (with_capacity more s.frames) (room_ensured store.heap locals s.frames more there h.frames_agree)
      (λ key n level is left. key_ensured store.heap locals key n level is more there) fits

  -- without a frame there is none to be given room
  pub ensures_none : (more : ℕ) {kind : ResultKind} {of_source : SourceAnswer} → Does (answer.Ensures more) kind of_source → length locals.frames ≡ 0 → Carries (answer.Ensures more) kind (of of_source) false store pending (given.Number 0)
  unfolding effect_of
  ensures_none more row.ensures none =
      let no : s.frames ≡ [] = no_frames store.heap locals s.frames h.frames_agree none in
      let same : with_capacity more s.frames ≡ s.frames = ap (with_capacity more) no ∙ sym no in
      let agree : FramesAgree store.heap locals (with_capacity more s.frames) = subst (FramesAgree store.heap locals) (sym same) h.frames_agree in
      let nothing : capacities locals ≡ 0 = same_capacities store.heap locals s.frames h.frames_agree ∙ ap source.capacities no in
      had (answer.Ensures more) locals (with_capacity more s.frames) agree (λ key n level is left. is) (omega (arith, nothing))

  pub ensures_not : (more : ℕ) {kind : ResultKind} {of_source : SourceAnswer} → Does (answer.Ensures more) kind of_source → 0 < length locals.frames → 1024 < capacities (tables.ensured locals more) → Carries (answer.Ensures more) kind (of of_source) false store (slice_get store.loaded.items (length w.classes)) (given.Number (2 ^ 32 - 4))
  unfolding effect_of
  ensures_not more row.ensures there over = not_had (answer.Ensures more) (tables.ensured locals more) (with_capacity more s.frames) (room_ensured store.heap locals s.frames more there h.frames_agree) over

  pub pushes : (capacity : ℕ) {kind : ResultKind} {of_source : SourceAnswer} → Does (answer.Pushes capacity) kind of_source → capacities (tables.pushed locals capacity) ≤ 1024 → CarriesOut p w store.heap locals (answer.Pushes capacity) kind others owner shared s (of of_source) false store pending (tables.pushed locals capacity) (given.Number 0)
  unfolding effect_of
  pushes capacity row.pushes fits =
      had (answer.Pushes capacity) (tables.pushed locals capacity) (record { capacity = capacity; references = [] } ∷ s.frames) (frame_made store.heap locals s.frames capacity h.frames_agree)
      (λ key n level is left. key_pushed store.heap locals key n level is capacity) fits

  pub pushes_not : (capacity : ℕ) {kind : ResultKind} {of_source : SourceAnswer} → Does (answer.Pushes capacity) kind of_source → 1024 < capacities (tables.pushed locals capacity) → Carries (answer.Pushes capacity) kind (of of_source) false store (slice_get store.loaded.items (length w.classes)) (given.Number (2 ^ 32 - 4))
  unfolding effect_of
  pushes_not capacity row.pushes over = not_had (answer.Pushes capacity) (tables.pushed locals capacity) (record { capacity = capacity; references = [] } ∷ s.frames) (frame_made store.heap locals s.frames capacity h.frames_agree) over

  pub pops : (a : Option ℕ) {kind : ResultKind} {of_source : SourceAnswer} → Does (answer.Pops a) kind of_source → CarriesOut p w store.heap locals (answer.Pops a) kind others owner shared s (of of_source) false store pending (popped locals) (given.Reference a)
  unfolding effect_of
  pops a (row.pops r agrees) = framed (answer.Pops a) (popped locals) (drop 1 s.frames) (given.Reference a) (frame_ended store.heap locals s.frames h.frames_agree) (λ key n level is apart. key_popped store.heap locals key n level is apart) (row.reference agrees)

  -- without a frame there is none to end
  pub pops_none : (a : Option ℕ) {kind : ResultKind} {of_source : SourceAnswer} → Does (answer.Pops a) kind of_source → length locals.frames ≡ 0 → Carries (answer.Pops a) kind (of of_source) false store pending (given.Reference a)
  unfolding effect_of
  pops_none a (row.pops r agrees) none =
      let no : s.frames ≡ [] = no_frames store.heap locals s.frames h.frames_agree none in
      framed (answer.Pops a) locals (drop 1 s.frames) (given.Reference a) (subst (FramesAgree store.heap locals) (no ∙ sym (ap (λ (gs : List source.Frame). drop 1 gs) no)) h.frames_agree) (λ key n level is apart. is) (row.reference agrees)

  pub deletes : (key : ℕ) {kind : ResultKind} {of_source : SourceAnswer} → Does (answer.Deletes key) kind of_source → CarriesOut p w store.heap locals (answer.Deletes key) kind others owner shared s (of of_source) false store pending (tables.without locals key) given.Nothing
  unfolding effect_of
  deletes key (row.deletes n variable there) =
      let level = level_of (lookup (variable_given brought.args variable) s.variables) in
      framed (answer.Deletes key) (tables.without locals key) (without_local level n s.frames) given.Nothing
      (reference_deleted store.heap locals s.frames key n level there h.frames_agree)
      (λ other m at its apart. key_deleted store.heap locals other m at its key apart)
      row.nothing

  -- a global reference was made, or none for NULL
  pub makes_global : (globals : List (Option ℕ)) (held : StaticReference) (a : Option ℕ) {kind : ResultKind} {of_source : SourceAnswer} → Does (answer.MakesGlobal a) kind of_source
      → MakesGlobal store.globals a globals held → Carries (answer.MakesGlobal a) kind (of of_source) false (record store { globals = globals }) pending (given.Global held)
  unfolding effect_of
  makes_global globals held None (row.makes_global (Some n) agrees) made = absurd agrees
  makes_global globals held (Some a) (row.makes_global None agrees) made = absurd agrees
  makes_global globals held None (row.makes_global None agrees) made =
      record {
        store_agrees = agrees_yet (record store { globals = globals }) shared (ReferenceResult None) refl (subst (λ (l : List (Option ℕ)). StoreAgrees p w (record store { globals = l }) shared all) (sym made.0) h.store_agrees);
        keeps = subst (Keeps store.heap shared store.heap) (sym (same_heap shared)) (keeps_same store.heap shared);
        pending_agrees = h.pending_agrees;
        frames_agree = h.frames_agree;
        left = λ key n level is left. is;
        given_agrees = (tt, subst (λ (x : StaticReference). HeldAgrees store.heap (held_of globals store.weaks x) Empty) (sym made.1) tt, record { live = λ key e. absurd (let clash : static.Empty ≡ static.Live key = sym made.1 ∙ e in cc); weak = λ key e. absurd (let clash : static.Empty ≡ static.Weakly key = sym made.1 ∙ e in cc) });
        still = λ same. refl;
        could_refuse = λ e. absurd (cc);
        room = nothing_asked store.heap;
      }
  makes_global globals held (Some a) (row.makes_global (Some n) agrees) made =
      let after : Shared = record shared { globals = n ∷ shared.globals } in
      record {
        store_agrees = agrees_yet (record store { globals = globals }) after (ReferenceResult (Some n)) refl (with_global p w store shared all h.store_agrees globals made.0 a n made.2 agrees);
        keeps = subst (Keeps store.heap shared store.heap) (sym (same_heap after)) (keeps_but_statics p w store shared all h.store_agrees shared.statics (n ∷ shared.globals) (inl refl));
        pending_agrees = h.pending_agrees;
        frames_agree = h.frames_agree;
        left = λ key n level is left. is;
        given_agrees = (
          tt,
          subst (λ (x : StaticReference). HeldAgrees store.heap (held_of globals store.weaks x) (Live n)) (sym made.1) (subst (λ (o : Option ℕ). HeldAgrees store.heap (held_at o) (Live n)) (sym made.2.has) agrees),
          subst (IsFresh (record store { globals = globals })) (sym made.1) (fresh_global p w store shared all h.store_agrees globals made.0 a made.2),
        );
        still = λ same. refl;
        could_refuse = λ e. absurd (cc);
        room = nothing_asked store.heap;
      }

  -- the global reference of a static ended
  pub deletes_static : (statics : Vec StaticReference) (globals : List (Option ℕ)) (i : ℕ) {kind : ResultKind} {of_source : SourceAnswer} → Does (answer.DeletesGlobal i) kind of_source → statics.items ≡ slice_set store.statics.items i static.Deleted → ((key : ℕ) → slice_get store.statics.items i ≡ Some (static.Live key) → globals ≡ without store.globals key)
      → Carries (answer.DeletesGlobal i) kind (of of_source) false (record store { statics = statics; globals = globals }) pending given.Nothing
  unfolding effect_of
  deletes_static statics globals i (row.deletes_global n variable holds) marked gone =
      let x = variable_given brought.args variable in
      let live = live_there p w store shared all h.store_agrees x i n holds.place holds.there in
      let marked_store : Store = record store { statics = statics; globals = without store.globals live.key } in
      let after : Shared = record shared { globals = without_one n shared.globals; statics = assign x Deleted shared.statics } in
      subst (λ (l : List (Option ℕ)). Carries (answer.DeletesGlobal i) GivesNothing (Leaves [] after s NoResult) false (record store { statics = statics; globals = l }) pending given.Nothing) (sym (gone live.key live.at)) (record {
        store_agrees = agrees_yet marked_store after NoResult refl (with_deleted p w store shared all h.store_agrees statics x i live.key live.address n live.at live.held live.named holds.place marked);
        keeps = subst (Keeps store.heap shared store.heap) (sym (same_heap after)) (keeps_but_statics p w store shared all h.store_agrees (assign x Deleted shared.statics) (without_one n shared.globals) (inr (x, Deleted, refl)));
        pending_agrees = h.pending_agrees;
        frames_agree = h.frames_agree;
        left = λ key n level is left. is;
        given_agrees = row.nothing;
        still = λ same. absurd same;
        could_refuse = λ e. absurd (cc);
        room = nothing_asked store.heap;
      })

  -- a weak global reference was made, or none for NULL
  pub makes_weak : (weaks : List (Option (Option ℕ))) (held : StaticReference) (a : Option ℕ) {kind : ResultKind} {of_source : SourceAnswer} → Does (answer.MakesWeak a) kind of_source
      → MakesWeak store.weaks a weaks held → Carries (answer.MakesWeak a) kind (of of_source) false (record store { weaks = weaks }) pending (given.Global held)
  unfolding effect_of
  makes_weak weaks held None (row.makes_weak (Some n) agrees) made = absurd agrees
  makes_weak weaks held (Some a) (row.makes_weak None agrees) made = absurd agrees
  makes_weak weaks held None (row.makes_weak None agrees) made =
      record {
        store_agrees = agrees_yet (record store { weaks = weaks }) shared (WeakResult None) refl (subst (λ (l : List (Option (Option ℕ))). StoreAgrees p w (record store { weaks = l }) shared all) (sym made.0) h.store_agrees);
        keeps = subst (Keeps store.heap shared store.heap) (sym (same_heap shared)) (keeps_same store.heap shared);
        pending_agrees = h.pending_agrees;
        frames_agree = h.frames_agree;
        left = λ key n level is left. is;
        given_agrees = (tt, subst (λ (x : StaticReference). HeldAgrees store.heap (held_of store.globals weaks x) Empty) (sym made.1) tt, record { live = λ key e. absurd (let clash : static.Empty ≡ static.Live key = sym made.1 ∙ e in cc); weak = λ key e. absurd (let clash : static.Empty ≡ static.Weakly key = sym made.1 ∙ e in cc) });
        still = λ same. refl;
        could_refuse = λ e. absurd (cc);
        room = nothing_asked store.heap;
      }
  makes_weak weaks held (Some a) (row.makes_weak (Some n) agrees) made =
      record {
        store_agrees = agrees_yet (record store { weaks = weaks }) shared (WeakResult (Some n)) refl (with_weak p w store shared all h.store_agrees weaks made.0 a n made.2 agrees);
        keeps = subst (Keeps store.heap shared store.heap) (sym (same_heap shared)) (keeps_same store.heap shared);
        pending_agrees = h.pending_agrees;
        frames_agree = h.frames_agree;
        left = λ key n level is left. is;
        given_agrees = (
          tt,
          subst (λ (x : StaticReference). HeldAgrees store.heap (held_of store.globals weaks x) (Weakly n)) (sym made.1) (subst (λ (o : Option (Option ℕ)). HeldAgrees store.heap (held_weakly o) (Weakly n)) (sym made.2.has) agrees),
          subst (IsFresh (record store { weaks = weaks })) (sym made.1) (fresh_weak p w store shared all h.store_agrees weaks made.0 a made.2),
        );
        still = λ same. refl;
        could_refuse = λ e. absurd (cc);
        room = nothing_asked store.heap;
      }

  -- the weak reference of a static ended
  pub deletes_weak : (statics : Vec StaticReference) (weaks : List (Option (Option ℕ))) (i : ℕ) {kind : ResultKind} {of_source : SourceAnswer} → Does (answer.DeletesWeak i) kind of_source → statics.items ≡ slice_set store.statics.items i static.Deleted → weaks ≡ without_weak store.weaks (slice_get store.statics.items i)
      → Carries (answer.DeletesWeak i) kind (of of_source) false (record store { statics = statics; weaks = weaks }) pending given.Nothing
  unfolding effect_of
  deletes_weak statics weaks i (row.deletes_weak variable holds) marked ended =
      let x = variable_given brought.args variable in
      let marked_store : Store = record store { statics = statics; weaks = weaks } in
      let after : Shared = record shared { statics = assign x Deleted shared.statics } in
      record {
        store_agrees = agrees_yet marked_store after NoResult refl (with_weak_deleted p w store shared all h.store_agrees statics weaks x i holds.place marked ended);
        keeps = subst (Keeps store.heap shared store.heap) (sym (same_heap after)) (keeps_but_statics p w store shared all h.store_agrees (assign x Deleted shared.statics) shared.globals (inr (x, Deleted, refl)));
        pending_agrees = h.pending_agrees;
        frames_agree = h.frames_agree;
        left = λ key n level is left. is;
        given_agrees = row.nothing;
        still = λ same. absurd same;
        could_refuse = λ e. absurd (cc);
        room = nothing_asked store.heap;
      }

  -- an object was made
  module _ (after : Store) (new : New) (a : ℕ) (made : HasMade w.classes texts store new after a) where
    object_fits : (o : Object) → Describes w.classes texts store.heap new o → sizes (o ∷ []) ≤ left_of store.heap
    object_fits o d = omega (arith, made.room, described_size w.classes texts store.heap new o d.object)

    pub makes : {kind : ResultKind} {of_source : SourceAnswer} → Does (answer.Makes new) kind of_source → Carries (answer.Makes new) kind (of of_source) false after pending (given.Reference (Some a))
    unfolding effect_of
    makes (row.makes {o = o} describes) =
        let names = making.names_stay p w texts store after shared new o a all h.store_agrees made describes in
        record {
          store_agrees = takes_none after (record shared { heap = shared.heap ++ o ∷ [] }) (ReferenceResult (Some (next_name shared.heap))) refl (making.made_agrees p w texts store after shared new o a all h.store_agrees made describes);
          keeps = making.made_keeps p w texts store after shared new o a all h.store_agrees made describes;
          pending_agrees = reference_stays store.heap after.heap names pending s.pending h.pending_agrees;
          frames_agree = frames_stay store.heap after.heap names locals s.frames h.frames_agree;
          left = λ key n level is left. key_stays store.heap after.heap names locals key n level is;
          given_agrees = row.reference (making.made_named p w texts store after shared new o a all h.store_agrees made describes);
          still = λ same. refl;
          could_refuse = λ e. absurd (cc);
          room = object_fits o describes;
        }

  -- an exception was made
  module _ (after : Store) (class : ClassId) (a : ℕ) (made : HasMade w.classes texts store (Fresh class) after a) where
    pub throws : {kind : ResultKind} {of_source : SourceAnswer} → Does (answer.Throws class) kind of_source → Carries (answer.Throws class) kind (of of_source) false after (Some a) (failed kind)
    unfolding effect_of
    throws (row.throws {kind = kind} makeable) =
        let o = fresh_object w.classes class.number in
        let described : Describes w.classes texts store.heap (Fresh class) o = record { object = refl; makeable = makeable } in
        let names = making.names_stay p w texts store after shared (Fresh class) o a all h.store_agrees made described in
        record {
          store_agrees = takes_none after (record shared { heap = shared.heap ++ o ∷ [] }) (failure kind) (failure_none kind) (making.made_agrees p w texts store after shared (Fresh class) o a all h.store_agrees made described);
          keeps = making.made_keeps p w texts store after shared (Fresh class) o a all h.store_agrees made described;
          pending_agrees = making.made_named p w texts store after shared (Fresh class) o a all h.store_agrees made described;
          frames_agree = frames_stay store.heap after.heap names locals s.frames h.frames_agree;
          left = λ key n level is left. key_stays store.heap after.heap names locals key n level is;
          given_agrees = failed_agrees (unit_tree p.unit) w.classes after owner kind;
          still = λ same. refl;
          could_refuse = λ e. absurd (cc);
          room = object_fits after (Fresh class) a made o described;
        }

  -- a message and an exception were made
  module _ (class : ClassId) (place : ℕ) where
    pub refuses_raise : {kind : ResultKind} {of_source : SourceAnswer} → Does (answer.Raises class place) kind of_source → left_of store.heap < cells_of_new w.classes texts (Text place) + cells_of_new w.classes texts (Fresh class) → Carries (answer.Raises class place) kind (of of_source) true store (slice_get store.loaded.items (length w.classes)) (failed kind)
    unfolding effect_of
    refuses_raise (row.raises of_string makeable) short =
        refuses (answer.Raises class place) GivesInt (throw_new_effect w.classes shared s class.number (text_in texts place)) refl
        (omega (arith, short, both_sizes w.classes texts store.heap class place (Some (next_name shared.heap))))

    module _ (between after : Store) (message a : ℕ) (first : HasMade w.classes texts store (Text place) between message) (second : HasMade w.classes texts between (Exception class message) after a) (of_string : IsMakeable w.classes string_class) (makeable : IsMakeable w.classes class.number) where
      abbrev string : Object
      string = string_object (text_in texts place)

      abbrev exception : Object
      exception = with_message (fresh_object w.classes class.number) (Some (next_name shared.heap))

      -- the shared state with the message
      abbrev told : Shared
      told = record shared { heap = shared.heap ++ string ∷ [] }

      described : Describes w.classes texts store.heap (Text place) string
      described = record { object = refl; makeable = of_string }

      agrees : StoreAgrees p w between told all
      agrees = making.made_agrees p w texts store between shared (Text place) string message all h.store_agrees first described

      described_so : Describes w.classes texts between.heap (Exception class message) exception
      described_so = record { object = (next_name shared.heap, making.made_named p w texts store between shared (Text place) string message all h.store_agrees first described, refl); makeable = makeable }

      names : (x n : ℕ) → name_at store.heap x ≡ Some n → name_at after.heap x ≡ Some n
      names x n at =
          making.names_stay p w texts between after told (Exception class message) exception a all agrees second described_so x n
          (making.names_stay p w texts store between shared (Text place) string message all h.store_agrees first described x n at)

      one_after : (shared.heap ++ string ∷ []) ++ exception ∷ [] ≡ shared.heap ++ string ∷ exception ∷ []
      one_after = append_assoc shared.heap (string ∷ []) (exception ∷ [])

      -- both have room
      both_fit : sizes (string ∷ exception ∷ []) ≤ left_of store.heap
      both_fit =
          omega (arith, making.left_after w.classes texts store between (Text place) message first, second.room, same_cells w.classes texts class message, both_sizes w.classes texts store.heap class place (Some (next_name shared.heap)))

      -- both lie behind the others
      both_laid : layout_of after.heap ≡ with_objects (layout_of store.heap) (length shared.heap + 1) (string ∷ exception ∷ [])
      both_laid =
          let count : length (shared.heap ++ string ∷ []) + 1 ≡ length shared.heap + 1 + 1 = ap (λ (n : ℕ). n + 1) (length-append shared.heap (string ∷ [])) in
          making.made_laid p w texts between after told (Exception class message) exception a all agrees second described_so
          ∙ ap (λ (n : ℕ). with_objects (layout_of between.heap) n (exception ∷ [])) count
          ∙ ap (λ (l : Layout). with_objects l (length shared.heap + 1 + 1) (exception ∷ [])) (making.made_laid p w texts store between shared (Text place) string message all h.store_agrees first described)
          ∙ with_both (layout_of store.heap) (length shared.heap + 1) (string ∷ []) (exception ∷ [])

      both_made : Carries (answer.Raises class place) GivesInt (throw_new_effect w.classes shared s class.number (text_in texts place)) false after (Some a) (given.Number 0)
      both_made =
          record {
            store_agrees = takes_none after (record shared { heap = shared.heap ++ string ∷ exception ∷ [] }) (ScalarResult (Int (pos 0))) refl
                (subst (λ (l : Heap). StoreAgrees p w after (record shared { heap = l }) all) one_after (making.made_agrees p w texts between after told (Exception class message) exception a all agrees second described_so));
            keeps = record {
              names = names;
              statics = inl refl;
              shapes = λ n x at. (x, object_kept shared.heap (string ∷ exception ∷ []) n x at, refl, refl);
              room = more_made store.heap shared.heap (string ∷ exception ∷ []) both_fit;
              laid = more_laid (layout_of store.heap) (layout_of after.heap) (length shared.heap + 1) shared.heap (string ∷ exception ∷ []) both_laid;
              marking = stays_on store.heap.marking between.heap.marking after.heap.marking (making.made_keeps p w texts store between shared (Text place) string message all h.store_agrees first described).marking
                  (making.made_keeps p w texts between after told (Exception class message) exception a all agrees second described_so).marking;
              few = omega (arith, length-append shared.heap (string ∷ exception ∷ []));
            };
            pending_agrees =
                making.made_named p w texts between after told (Exception class message) exception a all agrees second described_so
                ∙ ap (λ (n : ℕ). Some (n + 1)) (length-append shared.heap (string ∷ []));
            frames_agree = frames_stay store.heap after.heap names locals s.frames h.frames_agree;
            left = λ key n level is left. key_stays store.heap after.heap names locals key n level is;
            given_agrees = row.int refl (record { sfits = omega arith });
            still = λ same. refl;
            could_refuse = λ e. absurd (cc);
            room = both_fit;
          }

    pub raises : {kind : ResultKind} {of_source : SourceAnswer} → Does (answer.Raises class place) kind of_source → (between after : Store) (message a : ℕ) → HasMade w.classes texts store (Text place) between message → HasMade w.classes texts between (Exception class message) after a
        → Carries (answer.Raises class place) kind (of of_source) false after (Some a) (given.Number 0)
    unfolding effect_of
    raises (row.raises of_string makeable) between after message a first second = both_made between after message a first second of_string makeable

  -- another exception is pending, or none
  pub pends : {kind : ResultKind} {of_source : SourceAnswer} → brought.unit ≡ unit_tree p.unit → (a : Option ℕ) (g : Given) → Does (answer.Pends a g) kind of_source → Carries (answer.Pends a g) kind (of of_source) false store a g
  unfolding effect_of
  pends same_unit a g (row.pends {c = c} r agrees of_call) =
      let given_agrees = of_unit same_unit of_call in
      record {
        store_agrees = agrees_yet store shared c (nothing_given given_agrees) h.store_agrees;
        keeps = subst (Keeps store.heap shared store.heap) (sym (same_heap shared)) (keeps_same store.heap shared);
        pending_agrees = agrees;
        frames_agree = h.frames_agree;
        left = λ key n level is left. is;
        given_agrees = result_agrees store owner given_agrees;
        still = λ same. refl;
        could_refuse = λ e. absurd (cc);
        room = nothing_asked store.heap;
      }
