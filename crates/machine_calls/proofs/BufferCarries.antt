-- What is carried out of buffers is what the source's call leaves.
use Rattle.std.proofs.Common.{◌≡◌, ◌≢◌, ℕ, ℤ, ◌+◌, ◌-◌, ◌<◌, Bool, true, false, List, [], ◌++◌, length, map, Option, Some, None, refl, sym, ap, ◌∙◌, subst, arith}
use Rattle.std.specs.Prelude.{nat_lt, nat_le, if◌then◌else◌, FitsSigned}
use Rattle.std.specs.Int.{w32, cast_signed, cast_unsigned}
use Rattle.std.specs.List.{AllByRecursion}
use Rattle.std.specs.Option.{option_map_or}
use Rattle.std.proofs.lemmas.Bool.{le-leb, le-ltb, lt-leb, lt-ltb}
use Rattle.std.proofs.lemmas.List.{append-nil, length-map}
use Rattle.std.proofs.lemmas.Option.{slice_get_within}
use Rattle.base.specs.Bytes.{Identifier, lookup}
use Rattle.base.specs.declared.element.ElementType.{ElementType}
use Rattle.code_meaning.specs.Coding.{mode_code}
use Rattle.code_meaning.specs.Lowered.{Lowered}
use Rattle.heap.specs.Heap.{Block, Space, name_at, pins_at, values_at, with_pins}
use Rattle.heap.specs.Layout.{layout_of}
use Rattle.heap.proofs.Extents.{layout_pins}
use Rattle.heap.proofs.Staying.{stays_is, stays_on}
use Rattle.heap.specs.declared.value.Value.{Value}
use Rattle.heap.specs.declared.value.Value.TheVariants as value
use Rattle.jni.specs.declared.kinds.ResultKind.{ResultKind}
use Rattle.jni.specs.declared.kinds.ResultKind.TheVariants.{GivesNothing}
use Rattle.syntax.specs.Views.{unit_tree}
use Rattle.semantics.specs.Answer.{Answer as SourceAnswer, effect_of}
use Rattle.semantics.specs.AnswerTable.{released}
use Rattle.jni.specs.declared.mode.ReleaseMode.{ReleaseMode}
use Rattle.jni.specs.declared.mode.ReleaseMode.TheVariants.{CopyBackAndFree, CopyBack, FreeUncopied}
use Rattle.semantics.specs.Arguments.{variable_given}
use Rattle.semantics.specs.CallEffects.{CallEffect, CallResult, Leaves, NoResult, BufferResult, copied_elements, copy_effect, view_effect, with_freed}
use Rattle.semantics.specs.Heap.{Heap, numbers_of, object_at, values_of, with_numbers}
use Rattle.semantics.specs.Object.{Object, Number, Reference}
use Rattle.semantics.specs.Thread as source
use Rattle.semantics.specs.Thread.{BuffersInUse, Shared, Thread}
use Rattle.semantics.specs.Variable as variable
use Rattle.semantics.specs.Variable.{Elements, NoBuffer, Copy, View}
use Rattle.semantics.specs.World.{World}
use Rattle.tables.specs.Elements.{OwnedNumbers, lengths, owned}
use Rattle.tables.specs.Keys.{value_at}
use Rattle.tables.specs.Locals.{LocalTable}
use Rattle.tables.proofs.Keys.{set_other}
use Rattle.machine_answers.specs.declared.answer.Answer.{Answer}
use Rattle.machine_answers.specs.declared.answer.Answer.TheVariants as answer
use Rattle.machine_answers.specs.declared.answer.Given.{Given}
use Rattle.machine_answers.specs.declared.answer.Given.TheVariants as given
use Rattle.machine_scenes.specs.declared.buffer.Buffer.{Buffer}
use Rattle.machine_scenes.specs.declared.buffer.Buffer.TheVariants as held
use Rattle.machine_scenes.specs.declared.buffer.Release.{Release}
use Rattle.machine_scenes.specs.declared.store.Store.{Store}
use Rattle.code_meaning.specs.Stands.{IsBufferResult}
use Rattle.machine_answers.specs.Answers.{Brought, IsAnswer, IsCopyAcquired, IsReleased, effect_told}
use Rattle.machine_answers.specs.Answers as row
use Rattle.machine_answers.specs.BufferChanges.{CanCopyBack, CanGiveUp, GivesUp, MakesCopy, MakesView, MayGiveUp, copied_back, space_back, written_back}
use Rattle.machine_scenes.specs.Buffers as in_slot
use Rattle.machine_scenes.specs.Buffers.{Acquired, BufferAgrees, IsCopyOf, SameAcquired, acquired_by, acquired_of, beside, copies_back, gives_up, in_use_of, nothing_acquired}
use Rattle.machine_calls.specs.CarriedOut.{CarriesOut, CopiesStay, IsPossible, ResultAgrees, acquired_with}
use Rattle.machine_answers.specs.Copies.{overlaid, words_at}
use Rattle.machine_scenes.specs.HeapAgrees.{ReferenceAgrees, ValuesAgree}
use Rattle.machine_scenes.specs.Locals.{FramesAgree}
use Rattle.machine_scenes.specs.StoreAgrees.{Keeps, StoreAgrees}
use Rattle.machine_scenes.proofs.BlocksOfNames.{Named, name_within, named}
use Rattle.machine_answers.proofs.BufferOperands.{words_back}
use Rattle.machine_calls.proofs.BufferStores.{agrees_copies, agrees_pinned, agrees_same, keeps_pinned, names_pinned}
use Rattle.machine_calls.proofs.CellsMade.{nothing_asked}
use Rattle.machine_answers.proofs.CopiedRegions.{words_agree}
use Rattle.machine_scenes.proofs.HeldSums.{IsMoreBy, beside_freed, beside_more, beside_nothing}
use Rattle.machine_scenes.proofs.Keeping.{frames_stay, keeps_same, key_stays, reference_stays}
use Rattle.machine_scenes.proofs.Loaded.{agree_length}
use Rattle.machine_answers.proofs.Overlays.{length_overlaid, overlaid_whole}
use Rattle.machine_scenes.proofs.Taken.{counted_view, left_copy, left_view, taken_copy, taken_view}
use Rattle.machine_answers.proofs.Writes.{values_agree, values_keep}

module _ (p : Lowered) (w : World) (store : Store) (pending : Option ℕ) (locals : LocalTable) (others : Acquired) (owner : ℕ) (shared : Shared) (s : Thread) (h : IsPossible p w store pending locals others shared s) (brought : Brought) where
  -- what the buffers of all threads take
  abbrev all : Acquired
  all = beside others (acquired_by s)

  abbrev Does : Answer → ResultKind → SourceAnswer → Type 0
  Does a kind of_source = IsAnswer w.classes brought store.heap locals shared s a kind of_source

  -- the effect of an answer of the source
  abbrev of : SourceAnswer → CallEffect
  of a = effect_told w.classes brought shared s a

  abbrev pub Carries : Answer → ResultKind → CallEffect → Store → Given → Type 0
  Carries a kind effect after g = CarriesOut p w store.heap locals a kind others owner shared s effect false after pending locals g

  -- a thread that has the frames and the exception that it had, and objects that stay where they are
  pub effected : (a : Answer) (kind : ResultKind) (after : Store) (g : Given) (s' : Shared) (t : Thread) (c : CallResult) → t.frames ≡ s.frames → t.pending ≡ s.pending → s'.statics ≡ shared.statics → Keeps store.heap shared after.heap s'
      → StoreAgrees p w after s' (beside others (beside (acquired_by t) (acquired_with c))) → ResultAgrees (unit_tree p.unit) w.classes after owner g kind c → Carries a kind (Leaves [] s' t c) after g
  effected a kind after g s' t c frames pends statics keeps agrees given = record {
    store_agrees = subst (λ (x : Shared). StoreAgrees p w after x (beside others (beside (acquired_by t) (acquired_with c)))) (sym same) agrees;
    keeps = subst (λ (x : Shared). Keeps store.heap shared after.heap x) (sym same) keeps;
    pending_agrees = subst (λ (r : Reference). ReferenceAgrees after.heap pending r) (sym pends) (reference_stays store.heap after.heap keeps.names pending s.pending h.pending_agrees);
    frames_agree = subst (λ (l : List source.Frame). FramesAgree after.heap locals l) (sym frames) (frames_stay store.heap after.heap keeps.names locals s.frames h.frames_agree);
    left = λ key n level is left. key_stays store.heap after.heap keeps.names locals key n level is;
    given_agrees = given;
    still = λ e. statics;
    could_refuse = λ e. absurd (cc);
    room = nothing_asked store.heap;
  }
    where
      same : record s' { heap = s'.heap ++ [] } ≡ s'
      same = ap (λ (l : Heap). let r : Shared = record s' { heap = l } in r) (append-nil s'.heap)

  -- ---- a copy

  module _ (a : ℕ) (kind : ResultKind) (buffer : IsBufferResult kind) (it : IsCopyAcquired store.heap shared a) (uses : brought.in_use ≡ in_use_of all) where
    abbrev numbers : List ℤ
    numbers = numbers_of shared.heap it.name

    abbrev gives_copy : Bool → CallEffect
    gives_copy t = Leaves [] shared s (BufferResult (if t then Copy it.name numbers else NoBuffer))

    copy_is : (t : Bool) → nat_le (lengths store.elements + length numbers) 65536 ≡ t → copy_effect brought.in_use shared s it.name numbers ≡ gives_copy t
    copy_is t e =
        let used : brought.in_use.copied ≡ lengths store.elements = ap (λ (u : BuffersInUse). u.copied) uses ∙ sym h.store_agrees.buffers.copied in
        ap gives_copy (ap (λ (n : ℕ). nat_le (n + length numbers) 65536) used ∙ e)

    copied : (b : Buffer) (elements : List (Option OwnedNumbers)) → MakesCopy owner numbers store.elements b elements → Carries (answer.AcquiresCopy a) kind (copy_effect brought.in_use shared s it.name numbers) (record store { elements = elements }) (given.Buffer b)
    copied held.Null elements (over, same) =
        subst (λ (e : CallEffect). Carries (answer.AcquiresCopy a) kind e (record store { elements = elements }) (given.Buffer held.Null)) (sym (copy_is false (lt-leb (lengths store.elements + length numbers) 65536 over)))
        (subst (λ (l : List (Option OwnedNumbers)). Carries (answer.AcquiresCopy a) kind (gives_copy false) (record store { elements = l }) (given.Buffer held.Null)) (sym same)
        (effected (answer.AcquiresCopy a) kind store (given.Buffer held.Null) shared s (BufferResult NoBuffer) refl refl refl (keeps_same store.heap shared)
        (agrees_same p w store shared all h.store_agrees (beside others (beside (acquired_by s) nothing_acquired)) (beside_nothing others (acquired_by s))) (buffer, in_slot.null)))
    copied (held.Copy key) elements (within, gains, more) =
        let next : Acquired = beside others (beside (acquired_by s) (acquired_of (Copy it.name numbers))) in
        subst (λ (e : CallEffect). Carries (answer.AcquiresCopy a) kind e (record store { elements = elements }) (given.Buffer (held.Copy key))) (sym (copy_is true (le-leb (lengths store.elements + length numbers) 65536 within)))
        (effected (answer.AcquiresCopy a) kind (record store { elements = elements }) (given.Buffer (held.Copy key)) shared s (BufferResult (Copy it.name numbers)) refl refl refl (keeps_same store.heap shared)
        (agrees_copies p w store shared all h.store_agrees next elements
        (taken_copy store.heap store.elements elements store.views (length shared.heap) owner it.name numbers all next (beside_more others (acquired_by s) (Copy it.name numbers)) more h.store_agrees.buffers)) (buffer, in_slot.copy gains.has))
    copied (held.View x) elements made = absurd made

  pub acquires_copy : (a : ℕ) {kind : ResultKind} {of_source : SourceAnswer} → Does (answer.AcquiresCopy a) kind of_source → brought.in_use ≡ in_use_of all
      → (b : Buffer) (elements : List (Option OwnedNumbers)) → MakesCopy owner (map (cast_signed w32) (words_at store.heap a)) store.elements b elements → Carries (answer.AcquiresCopy a) kind (of of_source) (record store { elements = elements }) (given.Buffer b)
  unfolding effect_of
  acquires_copy a (row.acquires_copy {kind = kind} buffer it) uses b elements made =
      copied a kind buffer it uses b elements (subst (λ (l : List ℤ). MakesCopy owner l store.elements b elements) (words_back (words_at store.heap a) (numbers_of shared.heap it.name) it.words) made)

  -- ---- a view

  module _ (a : ℕ) (kind : ResultKind) (buffer : IsBufferResult kind) (n : ℕ) (there : name_at store.heap a ≡ Some n) (uses : brought.in_use ≡ in_use_of all) where
    abbrev gives_view : Bool → CallEffect
    gives_view t = Leaves [] shared s (BufferResult (if t then View n else NoBuffer))

    view_is : (t : Bool) → nat_lt store.views 64 ≡ t → view_effect brought.in_use shared s n ≡ gives_view t
    view_is t e =
        let used : brought.in_use.views ≡ store.views = ap (λ (u : BuffersInUse). u.views) uses ∙ sym h.store_agrees.buffers.many in
        ap gives_view (ap (λ (m : ℕ). nat_lt m 64) used ∙ e)

    viewed : (b : Buffer) (space : Space) (views : ℕ) → MakesView a store.heap store.views b space views → Carries (answer.AcquiresView a) kind (view_effect brought.in_use shared s n) (record store { heap = space; views = views }) (given.Buffer b)
    viewed held.Null space views (over, same, as_many) =
        let same_store : record store { heap = space; views = views } ≡ store = λ i. record store { heap = same i; views = as_many i } in
        subst (λ (e : CallEffect). Carries (answer.AcquiresView a) kind e (record store { heap = space; views = views }) (given.Buffer held.Null)) (sym (view_is false (le-ltb store.views 64 over)))
        (subst (λ (x : Store). Carries (answer.AcquiresView a) kind (gives_view false) x (given.Buffer held.Null)) (sym same_store)
        (effected (answer.AcquiresView a) kind store (given.Buffer held.Null) shared s (BufferResult NoBuffer) refl refl refl (keeps_same store.heap shared)
        (agrees_same p w store shared all h.store_agrees (beside others (beside (acquired_by s) nothing_acquired)) (beside_nothing others (acquired_by s))) (buffer, in_slot.null)))
    viewed (held.Copy key) space views made = absurd made
    viewed (held.View x) space views (below, here, pinned, more) =
        let count = pins_at store.heap a + 1 in
        let after : Store = record store { heap = with_pins store.heap a count; views = store.views + 1 } in
        let same_store : record store { heap = space; views = views } ≡ after = λ i. record store { heap = pinned i; views = more i } in
        let next : Acquired = beside others (beside (acquired_by s) (acquired_of (View n))) in
        let within = name_within store.heap shared.heap a n h.store_agrees.heap there in
        subst (λ (e : CallEffect). Carries (answer.AcquiresView a) kind e (record store { heap = space; views = views }) (given.Buffer (held.View x))) (sym (view_is true (lt-ltb store.views 64 below)))
        (subst (λ (x' : Store). Carries (answer.AcquiresView a) kind (gives_view true) x' (given.Buffer (held.View x))) (sym same_store)
        (effected (answer.AcquiresView a) kind after (given.Buffer (held.View x)) shared s (BufferResult (View n)) refl refl refl (keeps_pinned p w store shared all h.store_agrees a count)
        (agrees_pinned p w store shared all h.store_agrees next a count (store.views + 1)
        (taken_view store.heap store.elements store.views (length shared.heap) a n all next (beside_more others (acquired_by s) (View n)) h.store_agrees.heap.unique there within.1 h.store_agrees.buffers))
        (buffer, in_slot.view (subst (λ (y : ℕ). name_at (with_pins store.heap a count) y ≡ Some n) (sym here) (names_pinned store.heap a count a n there)))))

  pub acquires_view : (a : ℕ) {kind : ResultKind} {of_source : SourceAnswer} → Does (answer.AcquiresView a) kind of_source → brought.in_use ≡ in_use_of all
      → (b : Buffer) (space : Space) (views : ℕ) → MakesView a store.heap store.views b space views → Carries (answer.AcquiresView a) kind (of of_source) (record store { heap = space; views = views }) (given.Buffer b)
  unfolding effect_of
  acquires_view a (row.acquires_view {kind = kind} n buffer there) uses b space views made = viewed a kind buffer n there uses b space views made

  -- ---- a release

  module _ (r : Release) (it : IsReleased brought store.heap shared s r) (lists : brought.buffers.copies ≡ store.elements) (own : brought.buffers.owner ≡ owner) where
    abbrev x : Identifier
    x = variable_given brought.args 1

    abbrev n : ℕ
    n = it.name

    abbrev type : ElementType
    type = it.holds.type

    abbrev b : variable.Buffer
    b = it.holds.buffer

    abbrev at : lookup x s.variables ≡ Some (Elements type b)
    at = it.holds.is

    agrees : BufferAgrees store.heap store.elements owner r.held b
    agrees =
        subst (λ (l : List (Option OwnedNumbers)). BufferAgrees store.heap l owner r.held b) lists
        (subst (λ (o : ℕ). BufferAgrees store.heap brought.buffers.copies o r.held b) own
        (subst (λ (y : Buffer). BufferAgrees store.heap brought.buffers.copies brought.buffers.owner y b) (sym it.held) it.holds.agrees))

    -- what buffers take without it
    abbrev next : Acquired
    next = beside others (beside (acquired_by (with_freed s x)) nothing_acquired)

    -- as many values in memory
    as_long : length (values_at store.heap r.object) ≡ length (values_of shared.heap n)
    as_long =
        let block : Named store.heap shared.heap r.object n = named store.heap shared.heap r.object n h.store_agrees.heap it.there in
        let is : object_at shared.heap n ≡ Some block.agrees.object = ap (object_at shared.heap) (sym block.birth) ∙ block.agrees.is in
        ap (λ (o : Option Block). length (option_map_or (λ (c : Block). c.values) o [])) block.at
        ∙ agree_length store.heap block.block.values block.agrees.object.values block.agrees.values
        ∙ sym (ap (λ (o : Option Object). length (option_map_or (λ (y : Object). y.values) o [])) is)

    -- numbers that go back
    record Back (y : Buffer) (c : variable.Buffer) : Type 0 where
      pub zs : List ℤ
      pub fit : AllByRecursion (FitsSigned w32) zs
      pub many : length zs ≡ length (values_of shared.heap n)
      pub space : copied_back store.elements r.object y store.heap ≡ written_back store.heap r.object zs
      pub elements : copied_elements (Some (Elements type c)) ≡ zs
      pub can : CanCopyBack store.elements r.object y store.heap

    back_of : {y : Buffer} {c : variable.Buffer} → BufferAgrees store.heap store.elements owner y c → IsCopyOf shared.heap n c → Back y c
    back_of in_slot.null is = absurd is
    back_of (in_slot.view named) is = absurd is
    back_of (in_slot.copy {zs = zs} found) is = record {
      zs = zs;
      fit = is.0;
      many = is.1;
      space = ap (λ (o : Option OwnedNumbers). written_back store.heap r.object (option_map_or (λ (c : OwnedNumbers). c.numbers) o [])) found;
      elements = refl;
      can = (owned owner zs, found, omega (arith, is.1, as_long));
    }

    back : copies_back r.mode ≡ true → Back r.held b
    back e = back_of agrees (it.copy e)

    pub can_copy_back : copies_back r.mode ≡ true → CanCopyBack store.elements r.object r.held store.heap
    can_copy_back e = (back e).can

    pub can_give_up : CanGiveUp r.held store.heap store.elements store.views
    can_give_up = by_buffer agrees at
      where
        by_buffer : {y : Buffer} {c : variable.Buffer} → BufferAgrees store.heap store.elements owner y c → lookup x s.variables ≡ Some (Elements type c) → CanGiveUp y store.heap store.elements store.views
        by_buffer in_slot.null there = tt
        by_buffer (in_slot.copy {zs = zs} found) there = (owned owner zs, found)
        by_buffer (in_slot.view {a = y} {n = m} named) there =
            let within = name_within store.heap shared.heap y m h.store_agrees.heap named in
            counted_view store.heap store.elements store.views (length shared.heap) y m next all (beside_freed others s x type (View m) there) h.store_agrees.heap.unique named within.1 h.store_agrees.buffers

    pub slot_there : r.slot < length brought.buffers.slots
    slot_there = slice_get_within brought.buffers.slots r.slot it.holds.held it.holds.there

    -- ---- numbers go back

    abbrev shared_back : Bool → Shared
    shared_back true = record shared { heap = with_numbers shared.heap n (copied_elements (lookup x s.variables)) }
    shared_back false = shared

    abbrev store_back : Store
    store_back = record store { heap = space_back store.elements r store.heap }

    record Backed (t : Bool) : Type 0 where
      pub stands : StoreAgrees p w store_back (shared_back t) all
      pub keeps : Keeps store.heap shared store_back.heap (shared_back t)

    backed : (t : Bool) → copies_back r.mode ≡ t → Backed t
    backed false e =
        let same : space_back store.elements r store.heap ≡ store.heap = ap (λ (t : Bool). if t then copied_back store.elements r.object r.held store.heap else store.heap) e in
        record {
          stands = subst (λ (space : Space). StoreAgrees p w (record store { heap = space }) shared all) (sym same) h.store_agrees;
          keeps = subst (λ (space : Space). Keeps store.heap shared space shared) (sym same) (keeps_same store.heap shared);
        }
    backed true e =
        let back_is = back e in
        let words = map value.Number (map (cast_unsigned w32) back_is.zs) in
        let same : space_back store.elements r store.heap ≡ written_back store.heap r.object back_is.zs = ap (λ (t : Bool). if t then copied_back store.elements r.object r.held store.heap else store.heap) e ∙ back_is.space in
        let elements : copied_elements (lookup x s.variables) ≡ back_is.zs = ap copied_elements at ∙ back_is.elements in
        let many : length (map Number back_is.zs) ≡ length (values_of shared.heap n) = length-map back_is.zs Number ∙ back_is.many in
        let keeps = λ (ws : List Value). length_overlaid ws 0 words in
        record {
          stands =
              subst (λ (space : Space). StoreAgrees p w (record store { heap = space }) (shared_back true) all) (sym same)
              (subst (λ (zs : List ℤ). StoreAgrees p w (record store { heap = written_back store.heap r.object back_is.zs }) (record shared { heap = with_numbers shared.heap n zs }) all) (sym elements)
              (values_agree p w store shared r.object (λ ws. overlaid ws 0 words) n (map Number back_is.zs) all h.store_agrees it.there keeps many
              (λ ws agree. subst (λ (l : List Value). ValuesAgree store.heap l (map Number back_is.zs)) (sym (overlaid_whole ws words (whole back_is.zs ws agree back_is.many))) (words_agree store.heap back_is.zs back_is.fit))));
          keeps =
              subst (λ (space : Space). Keeps store.heap shared space (shared_back true)) (sym same)
              (subst (λ (zs : List ℤ). Keeps store.heap shared (written_back store.heap r.object back_is.zs) (record shared { heap = with_numbers shared.heap n zs })) (sym elements)
              (values_keep p w store shared r.object (λ ws. overlaid ws 0 words) n (map Number back_is.zs) all h.store_agrees it.there keeps many));
        }
      where
        whole : (zs : List ℤ) (ws : List Value) → ValuesAgree store.heap ws (values_of shared.heap n) → length zs ≡ length (values_of shared.heap n) → length (map value.Number (map (cast_unsigned w32) zs)) ≡ length ws
        whole zs ws agree many = length-map (map (cast_unsigned w32) zs) value.Number ∙ length-map zs (cast_unsigned w32) ∙ many ∙ sym (agree_length store.heap ws (values_of shared.heap n) agree)

    -- ---- the buffer is given up

    module _ (shared' : Shared) (before : StoreAgrees p w store_back shared' all) (kept : (y m : ℕ) → name_at store.heap y ≡ Some m → name_at store_back.heap y ≡ Some m) (space : Space) (elements : List (Option OwnedNumbers)) (views : ℕ) where
      record LeavesStore : Type 0 where
        pub stands : StoreAgrees p w (record store { heap = space; elements = elements; views = views }) shared' next
        pub names : (y m : ℕ) → name_at store_back.heap y ≡ Some m → name_at space y ≡ Some m
        pub layout : layout_of space ≡ layout_of store_back.heap
        pub marking : space.marking ≡ store_back.heap.marking

      given_up : {y : Buffer} {c : variable.Buffer} → BufferAgrees store.heap store.elements owner y c → lookup x s.variables ≡ Some (Elements type c) → GivesUp y store_back.heap store.elements store.views space elements views → LeavesStore
      given_up in_slot.null there (heap, lists', as_many) =
          let same : record store { heap = space; elements = elements; views = views } ≡ store_back = λ i. record store { heap = heap i; elements = lists' i; views = as_many i } in
          record {
            stands = subst (λ (z : Store). StoreAgrees p w z shared' next) (sym same) (agrees_same p w store_back shared' all before next (lost (beside_freed others s x type NoBuffer there)));
            names = λ z m e. ap (λ (t : Space). name_at t z) heap ∙ e;
            layout = ap layout_of heap;
            marking = ap (λ (t : Space). t.marking) heap;
          }
        where
          lost : IsMoreBy NoBuffer next all → SameAcquired all next
          lost by = record { copied = omega (arith, by.copied); many = omega (arith, by.many); viewed = λ m. omega (arith, by.viewed m) }
      given_up (in_slot.copy {n = m} {zs = zs} found) there (heap, lists', as_many, fewer) =
          let same : record store { heap = space; elements = elements; views = views } ≡ record store_back { elements = elements } = λ i. record store { heap = heap i; elements = elements; views = as_many i } in
          record {
            stands = subst (λ (z : Store). StoreAgrees p w z shared' next) (sym same)
                (agrees_copies p w store_back shared' all before next elements
                (left_copy store_back.heap elements store.elements store.views (length shared'.heap) owner m zs next all (beside_freed others s x type (Copy m zs) there) (fewer (owned owner zs) found) before.buffers));
            names = λ z i e. ap (λ (t : Space). name_at t z) heap ∙ e;
            layout = ap layout_of heap;
            marking = ap (λ (t : Space). t.marking) heap;
          }
      given_up (in_slot.view {a = y} {n = m} named) there (heap, lists', as_many) =
          let count = pins_at store_back.heap y - 1 in
          let same : record store { heap = space; elements = elements; views = views } ≡ record store_back { heap = with_pins store_back.heap y count; views = store.views - 1 } = λ i. record store { heap = heap i; elements = lists' i; views = as_many i } in
          let named_there = kept y m named in
          let within = name_within store_back.heap shared'.heap y m before.heap named_there in
          record {
            stands = subst (λ (z : Store). StoreAgrees p w z shared' next) (sym same)
                (agrees_pinned p w store_back shared' all before next y count (store.views - 1)
                (left_view store_back.heap store.elements store.views (length shared'.heap) y m next all (beside_freed others s x type (View m) there) before.heap.unique named_there within.1 before.buffers));
            names = λ z i e. ap (λ (t : Space). name_at t z) heap ∙ names_pinned store_back.heap y count z i e;
            layout = ap layout_of heap ∙ layout_pins store_back.heap y count;
            marking = ap (λ (t : Space). t.marking) heap;
          }

    -- ---- both

    module _ (space : Space) (elements : List (Option OwnedNumbers)) (views : ℕ) where
      abbrev after : Store
      after = record store { heap = space; elements = elements; views = views }

      -- nothing is given
      no_result : (z : Store) → ResultAgrees (unit_tree p.unit) w.classes z owner given.Nothing GivesNothing NoResult
      no_result z = row.nothing

      freed_as : (t : Bool) → copies_back r.mode ≡ t → (shared_back t).statics ≡ shared.statics → GivesUp r.held store_back.heap store.elements store.views space elements views → Carries (answer.Releases r) GivesNothing (Leaves [] (shared_back t) (with_freed s x) NoResult) after given.Nothing
      freed_as t e statics gives =
          let first = backed t e in
          let second = given_up (shared_back t) first.stands first.keeps.names space elements views agrees at gives in
          effected (answer.Releases r) GivesNothing after given.Nothing (shared_back t) (with_freed s x) NoResult refl refl statics
          (record {
            names = λ y m at'. second.names y m (first.keeps.names y m at');
            statics = first.keeps.statics;
            shapes = first.keeps.shapes;
            room = first.keeps.room;
            laid = second.layout ∙ first.keeps.laid;
            marking = stays_on store.heap.marking store_back.heap.marking space.marking first.keeps.marking (stays_is store_back.heap.marking space.marking second.marking);
            few = first.keeps.few;
          })
          second.stands (no_result after)

      given_back : MayGiveUp (gives_up r.mode) r.held store_back.heap store.elements store.views space elements views → Carries (answer.Releases r) GivesNothing (of (released n it.mode)) after given.Nothing
      unfolding effect_of
      given_back gives = by_mode it.mode it.coded
        where
          by_mode : (m : ReleaseMode) → r.mode ≡ mode_code m → Carries (answer.Releases r) GivesNothing (of (released n m)) after given.Nothing
          by_mode CopyBackAndFree coded = freed_as true (ap copies_back coded) refl (subst (λ (t : Bool). MayGiveUp t r.held store_back.heap store.elements store.views space elements views) (ap gives_up coded) gives)
          by_mode FreeUncopied coded = freed_as false (ap copies_back coded) refl (subst (λ (t : Bool). MayGiveUp t r.held store_back.heap store.elements store.views space elements views) (ap gives_up coded) gives)
          by_mode CopyBack coded =
              let stays = subst (λ (t : Bool). MayGiveUp t r.held store_back.heap store.elements store.views space elements views) (ap gives_up coded) gives in
              let same : after ≡ store_back = λ i. record store { heap = stays.0 i; elements = stays.1 i; views = stays.2 i } in
              let first = backed true (ap copies_back coded) in
              subst (λ (z : Store). Carries (answer.Releases r) GivesNothing (Leaves [] (shared_back true) s NoResult) z given.Nothing) (sym same)
              (effected (answer.Releases r) GivesNothing store_back given.Nothing (shared_back true) s NoResult refl refl refl first.keeps
              (agrees_same p w store_back (shared_back true) all first.stands (beside others (beside (acquired_by s) nothing_acquired)) (beside_nothing others (acquired_by s))) (no_result store_back))

  pub releases : (r : Release) {kind : ResultKind} {of_source : SourceAnswer} → Does (answer.Releases r) kind of_source → brought.buffers.copies ≡ store.elements → brought.buffers.owner ≡ owner
      → (space : Space) (elements : List (Option OwnedNumbers)) (views : ℕ) → MayGiveUp (gives_up r.mode) r.held (space_back store.elements r store.heap) store.elements store.views space elements views
      → Carries (answer.Releases r) kind (of of_source) (record store { heap = space; elements = elements; views = views }) given.Nothing
  releases r (row.releases it) lists own space elements views gives = given_back r it lists own space elements views gives

-- ---- other lists

-- a list more leaves them
pub copies_more : (owner : ℕ) (zs : List ℤ) (a : ℕ) (b : Buffer) (before after : List (Option OwnedNumbers)) → MakesCopy owner zs before b after → CopiesStay (answer.AcquiresCopy a) before after
copies_more owner zs a held.Null before after (over, same) key c there left = ap (λ (l : List (Option OwnedNumbers)). value_at l key) same ∙ there
copies_more owner zs a (held.Copy new) before after (within, gains, more) key c there left =
    gains.others key (λ e. let none : value_at before key ≡ None = ap (value_at before) e ∙ gains.was_free in let both : Some c ≡ None = sym there ∙ none in absurd (cc)) ∙ there
copies_more owner zs a (held.View y) before after made key c there left = absurd made

-- a list less does
pub copies_fewer : (r : Release) (heap : Space) (before : List (Option OwnedNumbers)) (views : ℕ) (space : Space) (after : List (Option OwnedNumbers)) (views_after : ℕ) → MayGiveUp (gives_up r.mode) r.held heap before views space after views_after → CopiesStay (answer.Releases r) before after
copies_fewer r heap before views space after views_after may key c there left = by_test (gives_up r.mode) refl may
  where
    by_held : (y : Buffer) → y ≢ held.Copy key → GivesUp y heap before views space after views_after → value_at after key ≡ Some c
    by_held held.Null other gives = ap (λ (l : List (Option OwnedNumbers)). value_at l key) gives.1 ∙ there
    by_held (held.Copy old) other gives = ap (λ (l : List (Option OwnedNumbers)). value_at l key) gives.1 ∙ set_other before old key None (λ e. other (ap held.Copy (sym e))) ∙ there
    by_held (held.View y) other gives = ap (λ (l : List (Option OwnedNumbers)). value_at l key) gives.1 ∙ there

    by_test : (t : Bool) → gives_up r.mode ≡ t → MayGiveUp t r.held heap before views space after views_after → value_at after key ≡ Some c
    by_test true e gives = by_held r.held (left e) gives
    by_test false e stays = ap (λ (l : List (Option OwnedNumbers)). value_at l key) stays.1 ∙ there
