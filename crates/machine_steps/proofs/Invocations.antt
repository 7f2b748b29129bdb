-- After a call the machine's call in progress stands for the source's thread.
use Rattle.syntax.specs.Views.{unit_tree}
use Rattle.std.specs.Int.{w32, cast_signed}
use Rattle.std.specs.Ordering.{int_eq}
use Rattle.std.proofs.Math.Facts.{to_z-of_z}
use Rattle.std.proofs.lemmas.Bool.Decides.{Decides-int_eq, eqb_tells}
use Rattle.code.specs.Effect.{truth_word}
use Rattle.std.proofs.Common.{◌≡◌, ℕ, ℤ, pos, ◌+◌, Bool, true, false, ⊎_elim, inl, inr, List, [], ◌∷◌, ◌++◌, length, Option, Some, None, refl, sym, ap, ◌∙◌, subst, if◌then◌else◌}
use Rattle.std.specs.Global.{Vec}
use Rattle.std.specs.Option.{option_and_then, option_map}
use Rattle.std.specs.Prelude.{slice_get, slice_set, ◌==◌}
use Rattle.base.specs.Bytes.{Identifier, lookup}
use Rattle.class_rules.specs.Class.{Classes}
use Rattle.machine_scenes.specs.declared.handle.Handle.{Handle}
use Rattle.machine_scenes.specs.declared.handle.Handle.TheVariants as handle
use Rattle.heap.specs.Heap.{Space}
use Rattle.jni.specs.declared.function.JniFunction.{JniFunction}
use Rattle.jni.specs.JniFunction.{prototype}
use Rattle.jni.specs.declared.kinds.ResultKind.{ResultKind}
use Rattle.jni.specs.declared.kinds.ResultKind.TheVariants.{NewLocal, GivesInt, GivesField, GivesMethod, GivesBuffer}
use Rattle.type_rules.specs.declared.ty.ExprType.{ExprType}
use Rattle.type_rules.specs.declared.ty.ExprType.TheVariants.{Jint}
use Rattle.semantics.specs.Arguments.{Actual, address_given}
use Rattle.semantics.specs.CallEffects.{CallResult, ScalarResult, BufferResult}
use Rattle.semantics.specs.CallStep.{blank, filled, is_zero, put, put_assigned, static_result, received, tell_copy}
use Rattle.semantics.specs.Effect.{tasks_after}
use Rattle.semantics.specs.Object.{Reference}
use Rattle.semantics.specs.Term.{Done}
use Rattle.semantics.specs.declared.variable_kind.VariableKind.{VariableKind}
use Rattle.semantics.specs.declared.variable_kind.VariableKind.TheVariants as kinds
use Rattle.semantics.specs.Task.{Task, Branch, Target, Declared, Assigned, Tested, Dropped}
use Rattle.semantics.specs.Thread as source
use Rattle.semantics.specs.declared.event.Event.TheVariants.{Quiet}
use Rattle.semantics.specs.Thread.{Shared}
use Rattle.semantics.specs.declared.value.Value.{Value}
use Rattle.semantics.specs.declared.value.Value.TheVariants.{Int, Truth}
use Rattle.semantics.specs.Variable.{Buffer, NoBuffer, StaticReference, Variable, Variables, Scalar, LocalRef, FieldHandle, MethodHandle, Elements, LocalArray, assign}
use Rattle.semantics.specs.World.{World}
use Rattle.code.specs.Call.{Call}
use Rattle.code.specs.Depth.{Listing, depth_at, with_fewer, with_result, words_taken}
use Rattle.code.specs.declared.instr.Instr.TheVariants as instr
use Rattle.code.specs.declared.instr.Target.{Target as Destination}
use Rattle.code.specs.declared.instr.Target.TheVariants as destination
use Rattle.code_meaning.specs.Layout.{Known}
use Rattle.code_meaning.specs.Does.{GoesInto, TakesBuffer, TakesStatic, TakesTest, TakesField, TakesMethod, TakesNumber, TakesReference, TakesResult}
use Rattle.code_meaning.specs.Lowered.{Lowered}
use Rattle.code_meaning.specs.Slots as value
use Rattle.code_meaning.specs.Slots.{Visible, Shows, Slots, ValueHasType, kind_of_variable, static_index, type_of_array, visible_to, word_of, OfField, OfMethod}
use Rattle.code_meaning.specs.Stands.{IsStaticResult, StandsFor, number_type}
use Rattle.type_rules.specs.TypeRules.{is_droppable}
use Rattle.base.specs.declared.element.ElementType.{ElementType}
use Rattle.semantics_safety.specs.StepSafe.{HoldsNoBuffer}
use Rattle.machine_answers.specs.declared.answer.Given.{Given}
use Rattle.machine_answers.specs.declared.answer.Given.TheVariants as given
use Rattle.machine_scenes.specs.declared.activation.Activation.{Activation}
use Rattle.machine_threads.specs.InProgress.{CallStands}
use Rattle.machine_scenes.specs.FieldIds.{HandlesAgree}
use Rattle.machine_scenes.specs.StoreAgrees.{Keeps, StoreAgrees}
use Rattle.machine_scenes.specs.Locals.{FramesAgree, IsKeyOf, KeysAgree}
use Rattle.tables.specs.Locals.{LocalTable, AreStacked}
use Rattle.semantics_safety.specs.Owners.{Owners, is_target, level_held}
use Rattle.semantics_safety.proofs.NameLaws.{lookup_same, is_same}
use Rattle.std.specs.Str.{bytes_eq}
use Rattle.std.proofs.lemmas.Slice.Eq.{bytes_eq-Decides}
use Rattle.machine_answers.specs.Answers.{GivenAgrees}
use Rattle.machine_calls.specs.CarriedOut.{ResultAgrees, acquired_with}
use Rattle.machine_scenes.specs.Buffers.{Acquired, AreViewed, BuffersAgree, acquired_of, beside, nothing_acquired}
use Rattle.machine_scenes.specs.declared.buffer.Buffer.{Buffer as HeldBuffer}
use Rattle.machine_scenes.specs.declared.buffer.Buffer.TheVariants as held_as
use Rattle.tables.specs.Elements.{OwnedNumbers}
use Rattle.machine_scenes.specs.Statics.{StaticReference as InMemory}
use Rattle.machine_scenes.specs.declared.store.Store.{Store}
use Rattle.code_meaning.proofs.StaticLaws.{is_held}
use Rattle.code_meaning.proofs.OwnerLaws.{fewer_owners}
use Rattle.machine_calls.proofs.HeldStatics.{keys_put, weak_keys_put}
use Rattle.machine_calls.proofs.StaticStores.{with_same, with_static}
use Rattle.machine_steps.specs.Received.{HasRoom, MakesLocal, Receives, buffers_with, fields_with, numbers_with, stack_with, statics_with}
use Rattle.machine_steps.proofs.Calls.{Ready, depth_behind}
use Rattle.machine_threads.specs.SlotsHold.{IsSmallCopy, Meant, SlotsHold, slots_of, values_in}
use Rattle.machine_steps.proofs.Changes.{OthersOwn, buffer_by_kind, field_by_kind, method_by_kind, is_buffer_set, is_field_set, is_method_set, is_referred, is_set, local_by_kind, scalar_by_kind}
use Rattle.machine_steps.proofs.StillShown.{shows_stay}
use Rattle.machine_scenes.proofs.KeyLaws.{key_put, keys_left, live_there}
use Rattle.machine_steps.proofs.MadeKeys.{made_left, made_new, room_frame}
use Rattle.machine_scenes.proofs.LocalFrames.{as_many_frames}
use Rattle.machine_steps.proofs.Receives.{received_count, IsNoBuffer, field_handle, method_handle, handle_put, frames_received, no_buffer, received_is}
use Rattle.machine_steps.proofs.Acquisitions.{assigned_buffer, assigned_nothing, nothing_more, store_taken, taken_by}
use Rattle.machine_steps.proofs.SlotBuffers.{all_put}
use Rattle.machine_steps.proofs.ViewCounts.{views_same, views_taken}
use Rattle.machine_calls.proofs.BufferLaws.{buffer_put}
use Rattle.machine_steps.proofs.GivenResults.{IsBuffer, IsField, IsGlobal, IsMethodId, IsNumber, IsReference, buffer_given, field_given, frames_result, method_given, no_number, nothing_with, number_given, other_given, plain_result, reference_given, static_given}

-- ---- the source's thread

-- the thread of a call of function f, with these frames, this exception pending and this given
module _ (line : ℕ) (f : JniFunction) (args : List Actual) (rest : List Task) (s : source.Thread) (left : List source.Frame) (q : Reference) (c : CallResult) where
  -- before what was given goes to its target, where `isCopy` is still to be told
  abbrev pub resumption : Variables → Target → source.Thread
  resumption untold target = record (received (prototype f).result c (record s { variables = untold; frames = left; pending = q })) { tasks = Some (tasks_after line target (is_zero c) ++ rest); variables = tell_copy (address_given args 1) c untold }

  -- and afterwards, with these variables
  abbrev pub going : Variables → source.Thread
  going vs = record s { tasks = Some rest; variables = vs; frames = frames_received (prototype f).result c left; pending = q }

  module _ (untold : Variables) (told : tell_copy (address_given args 1) c untold ≡ s.variables) where
    resumed_is : (target : Target) → resumption untold target ≡ record (going s.variables) { tasks = Some (tasks_after line target (is_zero c) ++ rest) }
    resumed_is target =
        ap (λ (t : source.Thread). let r : source.Thread = record t { tasks = Some (tasks_after line target (is_zero c) ++ rest); variables = tell_copy (address_given args 1) c untold } in r) (received_is (prototype f).result c (record s { variables = untold; frames = left; pending = q }))
        ∙ ap (λ (vs : Variables). let r : source.Thread = record (going vs) { tasks = Some (tasks_after line target (is_zero c) ++ rest) } in r) told

    module _ (next : Shared) where
      dropped_is : put Dropped c next (resumption untold Dropped) ≡ source.Advances next (going s.variables) Quiet
      dropped_is = ap (put Dropped c next) (resumed_is Dropped)

      declared_is : (kind : VariableKind) (x : Identifier) (v : Variable) → filled (blank kind (length (frames_received (prototype f).result c left))) c ≡ v
          → put (Declared kind x) c next (resumption untold (Declared kind x)) ≡ source.Advances next (going (assign x v s.variables)) Quiet
      declared_is kind x v is = ap (put (Declared kind x) c next) (resumed_is (Declared kind x)) ∙ ap (λ (w : Variable). source.Advances next (going (assign x w s.variables)) Quiet) is

      assigned_is : (x : Identifier) (old v : Variable) → lookup x s.variables ≡ Some old → filled old c ≡ v
          → put (Assigned x) c next (resumption untold (Assigned x)) ≡ source.Advances next (going (assign x v s.variables)) Quiet
      assigned_is x old v at is =
          ap (put (Assigned x) c next) (resumed_is (Assigned x))
          ∙ ap (put_assigned x c next (going s.variables)) at
          ∙ ap (λ (w : Variable). source.Advances next (going (assign x w s.variables)) Quiet) is

-- ---- owners

-- the owners once a result is in its variable
abbrev pub put_owners : Target → Owners → Variables → Owners
put_owners target own vs x = if is_target target x then level_held (lookup x vs) else own x

-- a variable that refers to no object has no reference of its own, and those of the others stay
fewer_put : (kind : VariableKind) (x : Identifier) (v : Variable) (own : Owners) (vs : Variables) → level_held (Some v) ≡ None → (y : Identifier) (level : ℕ) → put_owners (Declared kind x) own (assign x v vs) y ≡ Some level → own y ≡ Some level
fewer_put kind x v own vs none y level = by_test (bytes_eq y x) refl
  where
    by_test : (b : Bool) → bytes_eq y x ≡ b → (if b then level_held (lookup y (assign x v vs)) else own y) ≡ Some level → own y ≡ Some level
    by_test false e is = is
    by_test true e is =
        let same : y ≡ x = (bytes_eq-Decides y x).0 e in
        let nothing : level_held (lookup y (assign x v vs)) ≡ None = ap (λ (z : Identifier). level_held (lookup z (assign x v vs))) same ∙ ap level_held (lookup_same x v vs) ∙ none in
        absurd (let clash : None ≡ Some level = sym nothing ∙ is in cc)

-- so does a static
fewer_static : (x : Identifier) (own : Owners) (vs : Variables) → lookup x vs ≡ None → (y : Identifier) (level : ℕ) → put_owners (Assigned x) own vs y ≡ Some level → own y ≡ Some level
fewer_static x own vs none y level = by_test (bytes_eq y x) refl
  where
    by_test : (b : Bool) → bytes_eq y x ≡ b → (if b then level_held (lookup y vs) else own y) ≡ Some level → own y ≡ Some level
    by_test false e is = is
    by_test true e is =
        let same : y ≡ x = (bytes_eq-Decides y x).0 e in
        absurd (let clash : None ≡ Some level = sym (ap (λ (z : Identifier). level_held (lookup z vs)) same ∙ ap level_held none) ∙ is in cc)

-- the others' stay
others_put : (kind : VariableKind) (x : Identifier) (own : Owners) (vs : Variables) → OthersOwn own (put_owners (Declared kind x) own vs) x
others_put kind x own vs y other = by_test (bytes_eq y x) refl
  where
    by_test : (b : Bool) → bytes_eq y x ≡ b → (if b then level_held (lookup y vs) else own y) ≡ own y
    by_test false e = refl
    by_test true e = absurd (other ((bytes_eq-Decides y x).0 e))

-- and the variable's level is its own
put_here : (kind : VariableKind) (x : Identifier) (v : Variable) (own : Owners) (vs : Variables) → put_owners (Declared kind x) own (assign x v vs) x ≡ level_held (Some v)
put_here kind x v own vs = ap (λ (b : Bool). if b then level_held (lookup x (assign x v vs)) else own x) ((bytes_eq-Decides x x).1 refl) ∙ ap level_held (lookup_same x v vs)

-- a call stands for its tasks also where fewer references are variables' own
fewer_stands : (p : Lowered) (classes : Classes) (space : Space) (copies : List (Option OwnedNumbers)) (k : ℕ) (call : Activation) (own own' : Owners) (shared : Shared) (s : source.Thread) (frames : List source.Frame) (tasks : List Task) → ((x : Identifier) (level : ℕ) → own' x ≡ Some level → own x ≡ Some level)
    → CallStands p classes space copies k call (visible_to own shared s) frames tasks → CallStands p classes space copies k call (visible_to own' shared s) frames tasks
fewer_stands p classes space copies k call own own' shared s frames tasks among h = record {
  code = h.code;
  of_function = h.of_function;
  known = h.known;
  stands = h.stands;
  meant = h.meant;
  holds = h.holds;
  shows = fewer_owners h.code h.known (visible_to own shared s) (slots_of call h.meant) h.shows own' among;
  depth = h.depth;
  frames_agree = h.frames_agree;
}

-- no variable has a name of no kind that is no array
nothing_named : (o : Option Variable) → kind_of_variable o ≡ None → type_of_array o ≡ None → o ≡ None
nothing_named None k t = refl
nothing_named (Some (Scalar v)) k t = absurd (cc)
nothing_named (Some (LocalRef level q)) k t = absurd (cc)
nothing_named (Some (FieldHandle f)) k t = absurd (cc)
nothing_named (Some (MethodHandle f)) k t = absurd (cc)
nothing_named (Some (Elements type b)) k t = absurd (cc)
nothing_named (Some (LocalArray type zs)) k t = absurd (cc)

-- a `jint` is 0 where its word is
zero_word : {v : Value} → ValueHasType v Jint → (word_of v == 0) ≡ is_zero (ScalarResult v)
zero_word (value.int {z = z} h) =
    ⊎_elim
    (λ (t : ((word_of (Int z) == 0) ≡ true) × (word_of (Int z) ≡ 0)).
    let number : z ≡ pos 0 = sym (to_z-of_z {w = w32} h) ∙ ap (cast_signed w32) t.1 in
    t.0 ∙ sym ((Decides-int_eq z (pos 0)).1 number))
    (λ (t : ((word_of (Int z) == 0) ≡ false) × (word_of (Int z) ≡ 0 → ⊥)). t.0 ∙ sym (unequal (int_eq z (pos 0)) refl t.1))
    (eqb_tells (word_of (Int z)) 0)
  where
    unequal : (b : Bool) → int_eq z (pos 0) ≡ b → (word_of (Int z) ≡ 0 → ⊥) → int_eq z (pos 0) ≡ false
    unequal true e differs = absurd (differs (ap (λ (y : ℤ). word_of (Int y)) ((Decides-int_eq z (pos 0)).0 e)))
    unequal false e differs = e

-- ---- the end of a call

-- the thread goes on with these tasks, and the machine's call stands for it
pub record Finishes (p : Lowered) (w : World) (old : Space) (shared : Shared) (store : Store) (statics : Vec InMemory) (next : Shared) (line : ℕ) (target : Target) (f : JniFunction) (args : List Actual) (rest : List Task) (s : source.Thread) (left : List source.Frame) (q : Reference) (c : CallResult) (untold : Variables) (others : Acquired) (k : ℕ) (own : Owners) (after : Activation) : Type 0 where
  pub now : Shared
  pub variables : Variables
  pub tasks : List Task
  pub steps : put target c next (resumption line f args rest s left q c untold target) ≡ source.Advances now (going line f args tasks s left q c variables) Quiet
  pub store_agrees : StoreAgrees p w (record store { statics = statics }) now (beside others (taken_by variables))
  pub keeps : Keeps old shared store.heap now
  pub views : AreViewed store.heap after.slots.buffers.items (going line f args tasks s left q c variables)
  pub stands : CallStands p w.classes store.heap store.elements k after (visible_to (put_owners target own variables) now (going line f args tasks s left q c variables)) (frames_received (prototype f).result c left) tasks

module _ (p : Lowered) (w : World) (old : Space) (old_copies : List (Option OwnedNumbers)) (store : Store) (others : Acquired) (k : ℕ) (own : Owners) (shared next : Shared) (keeps : Keeps old shared store.heap next) (s : source.Thread) (call : Activation) (code : Listing) (task : Task) (rest : List Task)
    (r : Ready p w.classes old old_copies k call code (visible_to own shared s) s.frames task rest) (line : ℕ) (f : JniFunction) (args : List Actual) (locals : LocalTable) (stacked : AreStacked locals) (room : HasRoom (prototype f).result locals) (keyed : KeysAgree store.heap locals call.slots.references.items r.meant.references r.meant.owners)
    (buffered : BuffersAgree store.heap store.elements k call.slots.buffers.items r.meant.buffers) (viewed : AreViewed store.heap call.slots.buffers.items s) (left : List source.Frame) (framed : FramesAgree store.heap locals left) (q : Reference) (g : Given) (c : CallResult) (untold : Variables) (told : tell_copy (address_given args 1) c untold ≡ s.variables) (told_taken : taken_by s.variables ≡ taken_by untold)
    (shares : StoreAgrees p w store next (beside others (beside (taken_by untold) (acquired_with c)))) (agrees : ResultAgrees (unit_tree p.unit) w.classes store k g (prototype f).result c) (small : (b : Buffer) → c ≡ BufferResult b → IsSmallCopy b) (apart : (b : HeldBuffer) (j key : ℕ) → g ≡ given.Buffer b → b ≡ held_as.Copy key → slice_get call.slots.buffers.items j ≡ Some (held_as.Copy key) → ⊥)
    (still : IsStaticResult (prototype f).result → next.statics ≡ shared.statics) (function : Call) (at : slice_get code.instrs call.place ≡ Some (instr.Call function)) (none_left : with_fewer (words_taken function.operands) (length call.stack) ≡ Some 0) (after : Activation) (statics : Vec InMemory) where
  abbrev space : Space
  space = store.heap

  abbrev kind : ResultKind
  kind = (prototype f).result

  -- the call with the local references that the effect leaves
  abbrev pub carried : Activation
  carried = record call { locals = locals }

  -- what buffers take once a result that is none is in its variable
  plain_shares : IsNoBuffer c → (vs : Variables) → taken_by vs ≡ taken_by s.variables → StoreAgrees p w store next (beside others (taken_by vs))
  plain_shares plain vs same =
      subst (λ (a : Acquired). StoreAgrees p w store next (beside others a)) (sym (same ∙ told_taken))
      (store_taken p w store next (beside others (beside (taken_by untold) nothing_acquired)) (beside others (taken_by untold)) (nothing_more others (taken_by untold))
      (subst (λ (a : Acquired). StoreAgrees p w store next (beside others (beside (taken_by untold) a))) (nothing_with c plain) shares))

  -- a variable that a target is holds no buffer before
  abbrev pub IsFree : Target → Type 0
  IsFree target = (x : Identifier) → is_target target x ≡ true → HoldsNoBuffer (lookup x s.variables)

  abbrev resuming : Variables → source.Thread
  resuming vs = going line f args rest s left q c vs

  -- what slots view once a result that is no buffer is in its variable
  plain_views : (vs : Variables) → after.slots.buffers.items ≡ call.slots.buffers.items → taken_by vs ≡ taken_by s.variables → AreViewed space after.slots.buffers.items (resuming vs)
  plain_views vs slots same = views_same space call.slots.buffers.items after.slots.buffers.items s (resuming vs) slots same viewed

  abbrev held : Slots
  held = slots_of call r.meant

  abbrev Ends : Target → Type 0
  Ends target = Finishes p w old shared store statics next line target f args rest s left q c untold others k own after

  -- the keys once a result is made a local reference
  kept_keys : (d : Destination) → Receives d kind None g carried after → KeysAgree space after.locals call.slots.references.items r.meant.references r.meant.owners
  kept_keys d receives = keys_left space space locals after.locals call.slots.references.items r.meant.references r.meant.owners keyed (λ i key n level at_key owned h. made_left space kind g locals after.locals receives.key stacked receives.makes key n level h)

  -- the slots hold what they did, where a result has gone elsewhere
  still_held : (d : Destination) → Receives d kind None g carried after → after.slots.references.items ≡ call.slots.references.items → after.slots.fields.items ≡ call.slots.fields.items → after.slots.buffers.items ≡ call.slots.buffers.items → SlotsHold (unit_tree p.unit) w.classes space store.elements k after.locals (values_in after) r.meant
  still_held d receives keys fields same_buffers = record {
    keys = subst (λ (l : List (Option ℕ)). KeysAgree space after.locals l r.meant.references r.meant.owners) (sym keys) (kept_keys d receives);
    fields = subst (λ (l : List (Option Handle)). HandlesAgree (unit_tree p.unit) w.classes l r.meant.fields) (sym fields) r.holds.fields;
    buffers = subst (λ (l : List HeldBuffer). BuffersAgree space store.elements k l r.meant.buffers) (sym same_buffers) buffered;
    small = r.holds.small;
  }

  frames_after : (d : Destination) → Receives d kind None g carried after → FramesAgree space after.locals (frames_received kind c left)
  frames_after d receives = frames_result (unit_tree p.unit) w.classes store k kind g c locals after.locals receives.key left stacked agrees receives.makes framed

  -- the statics hold what they did
  abbrev SameStatics : Type 0
  SameStatics = statics.items ≡ store.statics.items

  -- no word is on the stack afterwards
  abbrev HasNoWord : Type 0
  HasNoWord = with_result function.target 0 ≡ Some 0

  -- with these words on the stack it stands for these tasks
  stands_with : (words : List ℕ) (tasks : List Task) → with_result function.target 0 ≡ Some (length words) → (d : Destination) → Receives d kind None g carried after → stack_with d g ≡ words
      → (now : Owners) (names : Known) (vs : Variables) (meant : Meant) → SlotsHold (unit_tree p.unit) w.classes space store.elements k after.locals (values_in after) meant
      → StandsFor code names (call.place + 1) words tasks → Shows code names (visible_to now shared (resuming vs)) (slots_of after meant)
      → CallStands p w.classes space store.elements k after (visible_to now next (resuming vs)) (frames_received kind c left) tasks
  stands_with words tasks count d receives put now names vs meant holds stands shows = record {
    code = code;
    of_function = ap (slice_get p.codes) receives.function ∙ r.of_function;
    known = names;
    stands = subst (λ (n : ℕ). StandsFor code names n after.stack tasks) (sym receives.place) (subst (λ (l : List ℕ). StandsFor code names (call.place + 1) l tasks) (sym (receives.stack ∙ put)) stands);
    meant = meant;
    holds = holds;
    shows = shows_stay now shared next keeps.statics (resuming vs) code names (slots_of after meant) shows;
    depth =
        ap (depth_at code.instrs) receives.place
        ∙ depth_behind p w.classes old old_copies k call code (visible_to own shared s) s.frames task rest r (instr.Call function) at (length words) (λ leaves. leaves) (ap (option_and_then (with_result function.target)) none_left ∙ count)
        ∙ ap (λ (l : List ℕ). Some (length l)) (sym (receives.stack ∙ put));
    frames_agree = frames_after d receives;
  }

  -- what is shown of the slots that the call has then
  shown : {numbers : List ℕ} (names : Known) (visible : Visible) (meant : Meant) → after.slots.numbers.items ≡ numbers
      → Shows code names visible (record (slots_of after meant) { numbers = numbers }) → Shows code names visible (slots_of after meant)
  shown names visible meant same_numbers h = subst (λ (l : List ℕ). Shows code names visible (record (slots_of after meant) { numbers = l })) (sym same_numbers) h

  -- as many frames in memory as in the source
  frames_count : length locals.frames ≡ length left
  frames_count = as_many_frames space locals left framed

  stands_after : HasNoWord → (d : Destination) → stack_with d g ≡ [] → Receives d kind None g carried after → (now : Owners) (names : Known) (vs : Variables) (meant : Meant) → SlotsHold (unit_tree p.unit) w.classes space store.elements k after.locals (values_in after) meant
      → StandsFor code names (call.place + 1) [] rest → Shows code names (visible_to now shared (resuming vs)) (slots_of after meant)
      → CallStands p w.classes space store.elements k after (visible_to now next (resuming vs)) (frames_received kind c left) rest
  stands_after no_word d empty receives = stands_with [] rest no_word d receives empty

  -- ---- a number

  module _ (no_word : HasNoWord) (i : ℕ) (receives : Receives (destination.Number i) kind None g carried after) (of : ExprType) (x : Identifier) (takes : TakesNumber code r.known call.place call.stack held (visible_to own shared s) of i x rest) (n : IsNumber g c of) where
    number_stands : CallStands p w.classes space store.elements k after (visible_to own next (resuming (assign x (Scalar n.value) s.variables))) (frames_received kind c left) rest
    number_stands =
        let vs = assign x (Scalar n.value) s.variables in
        let numbers : after.slots.numbers.items ≡ slice_set call.slots.numbers.items i (word_of n.value) = receives.numbers ∙ ap (λ (h : Given). numbers_with (destination.Number i) h call.slots.numbers.items) n.same in
        stands_after no_word (destination.Number i) refl receives own takes.names vs r.meant (still_held (destination.Number i) receives receives.references receives.fields receives.buffers) takes.stands
        (shown takes.names (visible_to own shared (resuming vs)) r.meant numbers
        (takes.shows n.value (visible_to own shared (resuming vs)) n.well_typed (is_set own own shared s (resuming vs) x (λ y other. refl) n.value refl)))

  number_finishes : SameStatics → HasNoWord → (i : ℕ) (target : Target) → IsFree target → Receives (destination.Number i) kind None g carried after → (of : ExprType) → IsNumber g c of → GoesInto code r.known call.place call.stack held (visible_to own shared s) kinds.Number target (λ x. TakesNumber code r.known call.place call.stack held (visible_to own shared s) of i x rest) → Ends target
  number_finishes same_statics no_word i (Declared declared x) free receives of n goes = record {
    now = next;
    tasks = rest;
    store_agrees = with_same p w store next (beside others (taken_by (assign x (Scalar n.value) s.variables))) (plain_shares (subst IsNoBuffer (sym n.gave) tt) (assign x (Scalar n.value) s.variables) (assigned_nothing x (Scalar n.value) s.variables refl refl (free x (is_same x)))) statics same_statics;
    keeps = keeps;
    views = plain_views (assign x (Scalar n.value) s.variables) receives.buffers (assigned_nothing x (Scalar n.value) s.variables refl refl (free x (is_same x)));
    variables = assign x (Scalar n.value) s.variables;
    steps = declared_is line f args rest s left q c untold told next declared x (Scalar n.value) (ap (λ (k : VariableKind). filled (blank k (length (frames_received kind c left))) c) goes.0 ∙ ap (filled (blank kinds.Number 0)) n.gave);
    stands = fewer_stands p w.classes space store.elements k after own (put_owners (Declared declared x) own (assign x (Scalar n.value) s.variables)) next (resuming (assign x (Scalar n.value) s.variables)) (frames_received kind c left) rest (fewer_put declared x (Scalar n.value) own s.variables refl) (number_stands no_word i receives of x goes.1 n);
  }
  number_finishes same_statics no_word i (Assigned x) free receives of n goes =
      let old = scalar_by_kind (lookup x s.variables) goes.0 in
      record {
        now = next;
        tasks = rest;
        store_agrees = with_same p w store next (beside others (taken_by (assign x (Scalar n.value) s.variables))) (plain_shares (subst IsNoBuffer (sym n.gave) tt) (assign x (Scalar n.value) s.variables) (assigned_nothing x (Scalar n.value) s.variables refl refl (free x (is_same x)))) statics same_statics;
        keeps = keeps;
        views = plain_views (assign x (Scalar n.value) s.variables) receives.buffers (assigned_nothing x (Scalar n.value) s.variables refl refl (free x (is_same x)));
        variables = assign x (Scalar n.value) s.variables;
        steps = assigned_is line f args rest s left q c untold told next x (Scalar old.0) (Scalar n.value) old.1 (ap (filled (Scalar old.0)) n.gave);
        stands = fewer_stands p w.classes space store.elements k after own (put_owners (Assigned x) own (assign x (Scalar n.value) s.variables)) next (resuming (assign x (Scalar n.value) s.variables)) (frames_received kind c left) rest (fewer_put kinds.Number x (Scalar n.value) own s.variables refl) (number_stands no_word i receives of x goes.1 n);
      }
  number_finishes same_statics no_word i (Tested a b) free receives of n goes = absurd goes
  number_finishes same_statics no_word i Dropped free receives of n goes = absurd goes

  -- ---- a reference

  module _ (no_word : HasNoWord) (i : ℕ) (receives : Receives (destination.Local i) kind None g carried after) (x : Identifier) (takes : TakesReference code r.known call.place call.stack held (visible_to own shared s) i x rest) (n : IsReference space g c) (level : ℕ) (counted : length locals.frames ≡ level) (new : Owners) (stay : OthersOwn own new x) (here : new x ≡ level_held (Some (LocalRef level n.reference))) (local : kind ≡ NewLocal) where
    reference_stands : CallStands p w.classes space store.elements k after (visible_to new next (resuming (assign x (LocalRef level n.reference) s.variables))) (frames_received kind c left) rest
    reference_stands =
        let vs = assign x (LocalRef level n.reference) s.variables in
        let made = made_new space g n.address n.reference locals after.locals receives.key stacked (room_frame locals (subst (λ (k : ResultKind). HasRoom k locals) local room)) n.same n.agrees (subst (λ (k : ResultKind). MakesLocal k g locals receives.key after.locals) local receives.makes) in
        let meant : Meant = record r.meant { references = slice_set r.meant.references i n.reference; owners = slice_set r.meant.owners i (new x) } in
        stands_after no_word (destination.Local i) refl receives new takes.names vs meant
        (record {
          keys =
              subst (λ (l : List (Option ℕ)). KeysAgree space after.locals l meant.references meant.owners) (sym receives.references)
              (key_put space after.locals call.slots.references.items r.meant.references r.meant.owners i receives.key n.reference (new x) (kept_keys (destination.Local i) receives) made.null
              (λ place m own_level at named owned.
              let same : level ≡ own_level = let both : Some level ≡ Some own_level = ap (λ (q : Reference). level_held (Some (LocalRef level q))) (sym named) ∙ sym here ∙ owned in cc in
              subst (IsKeyOf space after.locals place m) (counted ∙ same) (made.key_of place m at named))
              (λ j place own_level at found owned. let live = live_there space locals call.slots.references.items r.meant.references r.meant.owners j place own_level keyed found owned in let clash : None ≡ Some live.0 = sym (made.fresh place at) ∙ live.1 in cc));
          fields = subst (λ (l : List (Option Handle)). HandlesAgree (unit_tree p.unit) w.classes l r.meant.fields) (sym receives.fields) r.holds.fields;
          buffers = subst (λ (l : List HeldBuffer). BuffersAgree space store.elements k l r.meant.buffers) (sym receives.buffers) buffered;
          small = r.holds.small;
        }) takes.stands
        (shown takes.names (visible_to new shared (resuming vs)) meant receives.numbers
        (takes.shows n.reference (visible_to new shared (resuming vs)) (is_referred own new shared s (resuming vs) x stay level n.reference refl)))

  -- a variable that takes a new local reference was declared where there were as many frames
  abbrev pub IsDeclaredThere : Target → Type 0
  IsDeclaredThere target = (x : Identifier) (level : ℕ) (old : Reference) → target ≡ Assigned x → lookup x s.variables ≡ Some (LocalRef level old) → level ≡ length left

  reference_finishes : IsNoBuffer c → kind ≡ NewLocal → SameStatics → HasNoWord → (i : ℕ) (target : Target) → IsFree target → IsDeclaredThere target → Receives (destination.Local i) kind None g carried after → IsReference space g c → GoesInto code r.known call.place call.stack held (visible_to own shared s) kinds.Reference target (λ x. TakesReference code r.known call.place call.stack held (visible_to own shared s) i x rest) → Ends target
  reference_finishes plain local same_statics no_word i (Declared declared x) free there receives n goes =
      let level = length (frames_received kind c left) in
      let counted : length locals.frames ≡ level = frames_count ∙ sym (received_count kind c left) in
      record {
        now = next;
        tasks = rest;
        store_agrees = with_same p w store next (beside others (taken_by (assign x (LocalRef level n.reference) s.variables))) (plain_shares plain (assign x (LocalRef level n.reference) s.variables) (assigned_nothing x (LocalRef level n.reference) s.variables refl refl (free x (is_same x)))) statics same_statics;
        keeps = keeps;
        views = plain_views (assign x (LocalRef level n.reference) s.variables) receives.buffers (assigned_nothing x (LocalRef level n.reference) s.variables refl refl (free x (is_same x)));
        variables = assign x (LocalRef level n.reference) s.variables;
        steps = declared_is line f args rest s left q c untold told next declared x (LocalRef level n.reference) (ap (λ (k : VariableKind). filled (blank k level) c) goes.0 ∙ n.fills level None);
        stands = reference_stands no_word i receives x goes.1 n level counted (put_owners (Declared declared x) own (assign x (LocalRef level n.reference) s.variables)) (others_put declared x own (assign x (LocalRef level n.reference) s.variables)) (put_here declared x (LocalRef level n.reference) own s.variables) local;
      }
  reference_finishes plain local same_statics no_word i (Assigned x) free there receives n goes =
      let old = local_by_kind (lookup x s.variables) goes.0 in
      let counted : length locals.frames ≡ old.0 = frames_count ∙ sym (there x old.0 old.1 refl old.2) in
      record {
        now = next;
        tasks = rest;
        store_agrees = with_same p w store next (beside others (taken_by (assign x (LocalRef old.0 n.reference) s.variables))) (plain_shares plain (assign x (LocalRef old.0 n.reference) s.variables) (assigned_nothing x (LocalRef old.0 n.reference) s.variables refl refl (free x (is_same x)))) statics same_statics;
        keeps = keeps;
        views = plain_views (assign x (LocalRef old.0 n.reference) s.variables) receives.buffers (assigned_nothing x (LocalRef old.0 n.reference) s.variables refl refl (free x (is_same x)));
        variables = assign x (LocalRef old.0 n.reference) s.variables;
        steps = assigned_is line f args rest s left q c untold told next x (LocalRef old.0 old.1) (LocalRef old.0 n.reference) old.2 (n.fills old.0 old.1);
        stands = reference_stands no_word i receives x goes.1 n old.0 counted (put_owners (Assigned x) own (assign x (LocalRef old.0 n.reference) s.variables)) (others_put kinds.Reference x own (assign x (LocalRef old.0 n.reference) s.variables)) (put_here kinds.Reference x (LocalRef old.0 n.reference) own s.variables) local;
      }
  reference_finishes plain local same_statics no_word i (Tested a b) free there receives n goes = absurd goes
  reference_finishes plain local same_statics no_word i Dropped free there receives n goes = absurd goes

  -- ---- a field ID

  module _ (no_word : HasNoWord) (i : ℕ) (receives : Receives (destination.FieldId i) kind None g carried after) (x : Identifier) (takes : TakesField code r.known call.place call.stack held (visible_to own shared s) i x rest) (n : IsField w.classes g c) where
    field_stands : CallStands p w.classes space store.elements k after (visible_to own next (resuming (assign x (FieldHandle n.field) s.variables))) (frames_received kind c left) rest
    field_stands =
        let vs = assign x (FieldHandle n.field) s.variables in
        let fields : after.slots.fields.items ≡ slice_set call.slots.fields.items i (option_map handle.Field n.handle) = receives.fields ∙ ap (λ (h : Given). fields_with (destination.FieldId i) h call.slots.fields.items) n.same in
        let meant : Meant = record r.meant { fields = slice_set r.meant.fields i (option_map OfField n.field) } in
        stands_after no_word (destination.FieldId i) refl receives own takes.names vs meant
        (record {
          keys = subst (λ (l : List (Option ℕ)). KeysAgree space after.locals l r.meant.references r.meant.owners) (sym receives.references) (kept_keys (destination.FieldId i) receives);
          fields = subst (λ (l : List (Option Handle)). HandlesAgree (unit_tree p.unit) w.classes l meant.fields) (sym fields) (handle_put (unit_tree p.unit) w.classes call.slots.fields.items r.meant.fields i (option_map handle.Field n.handle) (option_map OfField n.field) r.holds.fields (field_handle (unit_tree p.unit) w.classes n.handle n.field n.agrees));
          buffers = subst (λ (l : List HeldBuffer). BuffersAgree space store.elements k l r.meant.buffers) (sym receives.buffers) buffered;
          small = r.holds.small;
        }) takes.stands
        (shown takes.names (visible_to own shared (resuming vs)) meant receives.numbers
        (takes.shows n.field (visible_to own shared (resuming vs)) (is_field_set own own shared s (resuming vs) x (λ y other. refl) n.field refl)))

  field_finishes : IsNoBuffer c → SameStatics → HasNoWord → (i : ℕ) (target : Target) → IsFree target → Receives (destination.FieldId i) kind None g carried after → IsField w.classes g c → GoesInto code r.known call.place call.stack held (visible_to own shared s) kinds.Field target (λ x. TakesField code r.known call.place call.stack held (visible_to own shared s) i x rest) → Ends target
  field_finishes plain same_statics no_word i (Declared declared x) free receives n goes = record {
    now = next;
    tasks = rest;
    store_agrees = with_same p w store next (beside others (taken_by (assign x (FieldHandle n.field) s.variables))) (plain_shares plain (assign x (FieldHandle n.field) s.variables) (assigned_nothing x (FieldHandle n.field) s.variables refl refl (free x (is_same x)))) statics same_statics;
    keeps = keeps;
    views = plain_views (assign x (FieldHandle n.field) s.variables) receives.buffers (assigned_nothing x (FieldHandle n.field) s.variables refl refl (free x (is_same x)));
    variables = assign x (FieldHandle n.field) s.variables;
    steps = declared_is line f args rest s left q c untold told next declared x (FieldHandle n.field) (ap (λ (k : VariableKind). filled (blank k (length (frames_received kind c left))) c) goes.0 ∙ n.fills None);
    stands = fewer_stands p w.classes space store.elements k after own (put_owners (Declared declared x) own (assign x (FieldHandle n.field) s.variables)) next (resuming (assign x (FieldHandle n.field) s.variables)) (frames_received kind c left) rest (fewer_put declared x (FieldHandle n.field) own s.variables refl) (field_stands no_word i receives x goes.1 n);
  }
  field_finishes plain same_statics no_word i (Assigned x) free receives n goes =
      let old = field_by_kind (lookup x s.variables) goes.0 in
      record {
        now = next;
        tasks = rest;
        store_agrees = with_same p w store next (beside others (taken_by (assign x (FieldHandle n.field) s.variables))) (plain_shares plain (assign x (FieldHandle n.field) s.variables) (assigned_nothing x (FieldHandle n.field) s.variables refl refl (free x (is_same x)))) statics same_statics;
        keeps = keeps;
        views = plain_views (assign x (FieldHandle n.field) s.variables) receives.buffers (assigned_nothing x (FieldHandle n.field) s.variables refl refl (free x (is_same x)));
        variables = assign x (FieldHandle n.field) s.variables;
        steps = assigned_is line f args rest s left q c untold told next x (FieldHandle old.0) (FieldHandle n.field) old.1 (n.fills old.0);
        stands = fewer_stands p w.classes space store.elements k after own (put_owners (Assigned x) own (assign x (FieldHandle n.field) s.variables)) next (resuming (assign x (FieldHandle n.field) s.variables)) (frames_received kind c left) rest (fewer_put kinds.Field x (FieldHandle n.field) own s.variables refl) (field_stands no_word i receives x goes.1 n);
      }
  field_finishes plain same_statics no_word i (Tested a b) free receives n goes = absurd goes
  field_finishes plain same_statics no_word i Dropped free receives n goes = absurd goes

  -- ---- a method ID

  module _ (no_word : HasNoWord) (i : ℕ) (receives : Receives (destination.MethodId i) kind None g carried after) (x : Identifier) (takes : TakesMethod code r.known call.place call.stack held (visible_to own shared s) i x rest) (n : IsMethodId (unit_tree p.unit) w.classes g c) where
    method_stands : CallStands p w.classes space store.elements k after (visible_to own next (resuming (assign x (MethodHandle n.method) s.variables))) (frames_received kind c left) rest
    method_stands =
        let vs = assign x (MethodHandle n.method) s.variables in
        let fields : after.slots.fields.items ≡ slice_set call.slots.fields.items i (option_map handle.Method n.handle) = receives.fields ∙ ap (λ (h : Given). fields_with (destination.MethodId i) h call.slots.fields.items) n.same in
        let meant : Meant = record r.meant { fields = slice_set r.meant.fields i (option_map OfMethod n.method) } in
        stands_after no_word (destination.MethodId i) refl receives own takes.names vs meant
        (record {
          keys = subst (λ (l : List (Option ℕ)). KeysAgree space after.locals l r.meant.references r.meant.owners) (sym receives.references) (kept_keys (destination.MethodId i) receives);
          fields = subst (λ (l : List (Option Handle)). HandlesAgree (unit_tree p.unit) w.classes l meant.fields) (sym fields) (handle_put (unit_tree p.unit) w.classes call.slots.fields.items r.meant.fields i (option_map handle.Method n.handle) (option_map OfMethod n.method) r.holds.fields (method_handle (unit_tree p.unit) w.classes n.handle n.method n.agrees));
          buffers = subst (λ (l : List HeldBuffer). BuffersAgree space store.elements k l r.meant.buffers) (sym receives.buffers) buffered;
          small = r.holds.small;
        }) takes.stands
        (shown takes.names (visible_to own shared (resuming vs)) meant receives.numbers
        (takes.shows n.method (visible_to own shared (resuming vs)) (is_method_set own own shared s (resuming vs) x (λ y other. refl) n.method refl)))

  method_finishes : IsNoBuffer c → SameStatics → HasNoWord → (i : ℕ) (target : Target) → IsFree target → Receives (destination.MethodId i) kind None g carried after → IsMethodId (unit_tree p.unit) w.classes g c → GoesInto code r.known call.place call.stack held (visible_to own shared s) kinds.Method target (λ x. TakesMethod code r.known call.place call.stack held (visible_to own shared s) i x rest) → Ends target
  method_finishes plain same_statics no_word i (Declared declared x) free receives n goes = record {
    now = next;
    tasks = rest;
    store_agrees = with_same p w store next (beside others (taken_by (assign x (MethodHandle n.method) s.variables))) (plain_shares plain (assign x (MethodHandle n.method) s.variables) (assigned_nothing x (MethodHandle n.method) s.variables refl refl (free x (is_same x)))) statics same_statics;
    keeps = keeps;
    views = plain_views (assign x (MethodHandle n.method) s.variables) receives.buffers (assigned_nothing x (MethodHandle n.method) s.variables refl refl (free x (is_same x)));
    variables = assign x (MethodHandle n.method) s.variables;
    steps = declared_is line f args rest s left q c untold told next declared x (MethodHandle n.method) (ap (λ (k : VariableKind). filled (blank k (length (frames_received kind c left))) c) goes.0 ∙ n.fills None);
    stands = fewer_stands p w.classes space store.elements k after own (put_owners (Declared declared x) own (assign x (MethodHandle n.method) s.variables)) next (resuming (assign x (MethodHandle n.method) s.variables)) (frames_received kind c left) rest (fewer_put declared x (MethodHandle n.method) own s.variables refl) (method_stands no_word i receives x goes.1 n);
  }
  method_finishes plain same_statics no_word i (Assigned x) free receives n goes =
      let old = method_by_kind (lookup x s.variables) goes.0 in
      record {
        now = next;
        tasks = rest;
        store_agrees = with_same p w store next (beside others (taken_by (assign x (MethodHandle n.method) s.variables))) (plain_shares plain (assign x (MethodHandle n.method) s.variables) (assigned_nothing x (MethodHandle n.method) s.variables refl refl (free x (is_same x)))) statics same_statics;
        keeps = keeps;
        views = plain_views (assign x (MethodHandle n.method) s.variables) receives.buffers (assigned_nothing x (MethodHandle n.method) s.variables refl refl (free x (is_same x)));
        variables = assign x (MethodHandle n.method) s.variables;
        steps = assigned_is line f args rest s left q c untold told next x (MethodHandle old.0) (MethodHandle n.method) old.1 (n.fills old.0);
        stands = fewer_stands p w.classes space store.elements k after own (put_owners (Assigned x) own (assign x (MethodHandle n.method) s.variables)) next (resuming (assign x (MethodHandle n.method) s.variables)) (frames_received kind c left) rest (fewer_put kinds.Method x (MethodHandle n.method) own s.variables refl) (method_stands no_word i receives x goes.1 n);
      }
  method_finishes plain same_statics no_word i (Tested a b) free receives n goes = absurd goes
  method_finishes plain same_statics no_word i Dropped free receives n goes = absurd goes

  -- ---- a global reference

  static_finishes : IsNoBuffer c → (i : ℕ) (x : Identifier) → HasNoWord → Receives (destination.Static i) kind None g carried after → IsStaticResult kind → statics.items ≡ statics_with (destination.Static i) g store.statics.items → IsGlobal store g c
      → TakesStatic code r.known call.place call.stack held (visible_to own shared s) i x rest → Ends (Assigned x)
  static_finishes plain i x no_word receives global same_statics n takes =
      let h : StaticReference = static_result c in
      let now : Shared = record next { statics = assign x h next.statics } in
      let seen : Shared = record shared { statics = assign x h shared.statics } in
      let unnamed : lookup x s.variables ≡ None = nothing_named (lookup x s.variables) takes.static.no_variable.kind takes.static.no_variable.array_type in
      let place : static_index x next.statics ≡ Some i = ap (static_index x) (still global) ∙ takes.static.static.place in
      let assigned : statics.items ≡ slice_set store.statics.items i n.held = same_statics ∙ ap (λ (o : Given). statics_with (destination.Static i) o store.statics.items) n.same in
      let now_statics : now.statics ≡ seen.statics = ap (assign x h) (still global) in
      record {
        now = now;
        variables = s.variables;
        tasks = rest;
        steps =
            ap (put (Assigned x) c next) (resumed_is line f args rest s left q c untold told (Assigned x))
            ∙ ap (put_assigned x c next (resuming s.variables)) unnamed;
        store_agrees = with_static p w store next (beside others (taken_by s.variables)) (plain_shares plain s.variables refl) statics x i n.held h assigned place n.agrees (keys_put store.globals store.statics.items i n.held n.fresh.live shares.keys) (weak_keys_put store.weaks store.statics.items i n.held n.fresh.weak shares.weak_keys);
        keeps = record { names = keeps.names; statics = inr (x, h, now_statics); shapes = keeps.shapes; room = keeps.room; laid = keeps.laid; marking = keeps.marking; few = keeps.few };
        views = plain_views s.variables receives.buffers refl;
        stands = fewer_stands p w.classes space store.elements k after own (put_owners (Assigned x) own s.variables) now (resuming s.variables) (frames_received kind c left) rest (fewer_static x own s.variables unnamed) (record {
          code = code;
          of_function = ap (slice_get p.codes) receives.function ∙ r.of_function;
          known = takes.names;
          stands = subst (λ (m : ℕ). StandsFor code takes.names m after.stack rest) (sym receives.place) (subst (λ (l : List ℕ). StandsFor code takes.names (call.place + 1) l rest) (sym receives.stack) takes.stands);
          meant = r.meant;
          holds = still_held (destination.Static i) receives receives.references receives.fields receives.buffers;
          shows = shows_stay own seen now (inl now_statics) (resuming s.variables) code takes.names (slots_of after r.meant)
              (shown takes.names (visible_to own seen (resuming s.variables)) r.meant receives.numbers
              (takes.shows h (visible_to own seen (resuming s.variables)) (is_held own shared s x h unnamed)));
          depth =
              ap (depth_at code.instrs) receives.place
              ∙ depth_behind p w.classes old old_copies k call code (visible_to own shared s) s.frames task rest r (instr.Call function) at 0 (λ leaves. leaves) (ap (option_and_then (with_result function.target)) none_left ∙ no_word)
              ∙ ap (λ (l : List ℕ). Some (length l)) (sym receives.stack);
          frames_agree = frames_after (destination.Static i) receives;
        });
      }

  -- ---- the test of an `if`

  test_finishes : SameStatics → (target : Target) → with_result function.target 0 ≡ Some 1 → Receives destination.Test kind None g carried after → IsNumber g c Jint → TakesTest code r.known call.place call.stack held (visible_to own shared s) line target rest → Ends target
  test_finishes same_statics target count receives n takes =
      let word : stack_with destination.Test g ≡ truth_word (is_zero c) ∷ [] =
      ap (stack_with destination.Test) n.same ∙ ap (λ (b : Bool). truth_word b ∷ []) (zero_word n.well_typed ∙ sym (ap is_zero n.gave)) in
      let tasks : List Task = Branch line (Done (Truth (is_zero c))) takes.then' takes.else' ∷ rest in
      subst Ends (sym takes.is) (record {
        now = next;
        tasks = tasks;
        store_agrees = with_same p w store next (beside others (taken_by (s.variables))) (plain_shares (subst IsNoBuffer (sym n.gave) tt) (s.variables) refl) statics same_statics;
        keeps = keeps;
        views = plain_views s.variables receives.buffers refl;
        variables = s.variables;
        steps = ap (put (Tested takes.then' takes.else') c next) (resumed_is line f args rest s left q c untold told (Tested takes.then' takes.else'));
        stands = stands_with (truth_word (is_zero c) ∷ []) tasks count destination.Test receives word own r.known s.variables r.meant (still_held destination.Test receives receives.references receives.fields receives.buffers) (takes.stands (is_zero c))
            (shown r.known (visible_to own shared (resuming s.variables)) r.meant receives.numbers r.shows);
      })

  -- ---- a buffer

  module _ (no_word : HasNoWord) (element : ElementType) (i : ℕ) (receives : Receives (destination.Buffer element i) kind None g carried after) (t : ElementType) (x : Identifier) (takes : TakesBuffer code r.known call.place call.stack held (visible_to own shared s) t i x rest) (n : IsBuffer store k g c) where
    buffer_stands : CallStands p w.classes space store.elements k after (visible_to own next (resuming (assign x (Elements t n.buffer) s.variables))) (frames_received kind c left) rest
    buffer_stands =
        let vs = assign x (Elements t n.buffer) s.variables in
        let meant : Meant = record r.meant { buffers = slice_set r.meant.buffers i n.buffer } in
        let buffers : after.slots.buffers.items ≡ slice_set call.slots.buffers.items i n.held = receives.buffers ∙ ap (λ (h : Given). buffers_with (destination.Buffer element i) h call.slots.buffers.items) n.same in
        stands_after no_word (destination.Buffer element i) refl receives own takes.names vs meant
        (record {
          keys = subst (λ (l : List (Option ℕ)). KeysAgree space after.locals l r.meant.references r.meant.owners) (sym receives.references) (kept_keys (destination.Buffer element i) receives);
          fields = subst (λ (l : List (Option Handle)). HandlesAgree (unit_tree p.unit) w.classes l r.meant.fields) (sym receives.fields) r.holds.fields;
          buffers = subst (λ (l : List HeldBuffer). BuffersAgree space store.elements k l meant.buffers) (sym buffers) (buffer_put space store.elements k call.slots.buffers.items r.meant.buffers i n.held n.buffer buffered n.agrees (λ j key is at_key. apart n.held j key n.same is at_key));
          small = all_put IsSmallCopy r.meant.buffers i n.buffer r.holds.small n.small;
        }) takes.stands
        (shown takes.names (visible_to own shared (resuming vs)) meant receives.numbers
        (takes.shows (visible_to own shared s) (visible_to own shared (resuming vs)) held n.buffer r.shows (is_buffer_set own own shared s (resuming vs) x (λ y other. refl) t n.buffer refl)))

    buffer_views : HoldsNoBuffer (lookup x s.variables) → AreViewed space after.slots.buffers.items (resuming (assign x (Elements t n.buffer) s.variables))
    buffer_views none =
        let next : source.Thread = resuming (assign x (Elements t n.buffer) s.variables) in
        let buffers : after.slots.buffers.items ≡ slice_set call.slots.buffers.items i n.held = receives.buffers ∙ ap (λ (h : Given). buffers_with (destination.Buffer element i) h call.slots.buffers.items) n.same in
        subst (λ (l : List HeldBuffer). AreViewed space l next) (sym buffers) (views_taken space store.elements k call.slots.buffers.items i n.held x t n.buffer s next n.agrees none refl viewed)

    buffer_shares : HoldsNoBuffer (lookup x s.variables) → StoreAgrees p w store next (beside others (taken_by (assign x (Elements t n.buffer) s.variables)))
    buffer_shares none =
        store_taken p w store next (beside others (beside (taken_by s.variables) (acquired_of n.buffer))) (beside others (taken_by (assign x (Elements t n.buffer) s.variables))) (assigned_buffer others x t n.buffer s.variables none)
        (subst (λ (a : Acquired). StoreAgrees p w store next (beside others (beside a (acquired_of n.buffer)))) (sym told_taken)
        (subst (λ (a : Acquired). StoreAgrees p w store next (beside others (beside (taken_by untold) a))) n.takes shares))

  buffer_finishes : SameStatics → HasNoWord → (element : ElementType) (i : ℕ) (target : Target) → IsFree target → Receives (destination.Buffer element i) kind None g carried after → (t : ElementType) → IsBuffer store k g c
      → GoesInto code r.known call.place call.stack held (visible_to own shared s) (kinds.Buffer t) target (λ x. TakesBuffer code r.known call.place call.stack held (visible_to own shared s) t i x rest) → Ends target
  buffer_finishes same_statics no_word element i (Declared declared x) free receives t n goes = record {
    now = next;
    tasks = rest;
    store_agrees = with_same p w store next (beside others (taken_by (assign x (Elements t n.buffer) s.variables))) (buffer_shares no_word element i receives t x goes.1 n (free x (is_same x))) statics same_statics;
    keeps = keeps;
    views = buffer_views no_word element i receives t x goes.1 n (free x (is_same x));
    variables = assign x (Elements t n.buffer) s.variables;
    steps = declared_is line f args rest s left q c untold told next declared x (Elements t n.buffer) (ap (λ (k : VariableKind). filled (blank k (length (frames_received kind c left))) c) goes.0 ∙ n.fills t NoBuffer);
    stands = fewer_stands p w.classes space store.elements k after own (put_owners (Declared declared x) own (assign x (Elements t n.buffer) s.variables)) next (resuming (assign x (Elements t n.buffer) s.variables)) (frames_received kind c left) rest (fewer_put declared x (Elements t n.buffer) own s.variables refl) (buffer_stands no_word element i receives t x goes.1 n);
  }
  buffer_finishes same_statics no_word element i (Assigned x) free receives t n goes =
      let old = buffer_by_kind (lookup x s.variables) t goes.0 in
      record {
        now = next;
        tasks = rest;
        store_agrees = with_same p w store next (beside others (taken_by (assign x (Elements t n.buffer) s.variables))) (buffer_shares no_word element i receives t x goes.1 n (free x (is_same x))) statics same_statics;
        keeps = keeps;
        views = buffer_views no_word element i receives t x goes.1 n (free x (is_same x));
        variables = assign x (Elements t n.buffer) s.variables;
        steps = assigned_is line f args rest s left q c untold told next x (Elements t old.0) (Elements t n.buffer) old.1 (n.fills t old.0);
        stands = fewer_stands p w.classes space store.elements k after own (put_owners (Assigned x) own (assign x (Elements t n.buffer) s.variables)) next (resuming (assign x (Elements t n.buffer) s.variables)) (frames_received kind c left) rest (fewer_put (kinds.Buffer t) x (Elements t n.buffer) own s.variables refl) (buffer_stands no_word element i receives t x goes.1 n);
      }
  buffer_finishes same_statics no_word element i (Tested a b) free receives t n goes = absurd goes
  buffer_finishes same_statics no_word element i Dropped free receives t n goes = absurd goes

  -- ---- by where it goes

  pub finishes : (d : Destination) (target : Target) → (kind ≡ NewLocal → IsDeclaredThere target) → IsFree target → function.target ≡ d → TakesResult code r.known call.place call.stack held (visible_to own shared s) line d kind target rest → Receives d kind None g carried after → statics.items ≡ statics_with d g store.statics.items → Ends target
  finishes (destination.Number i) target there free same goes receives same_statics =
      number_finishes same_statics (ap (λ (d : Destination). with_result d 0) same) i target free receives goes.0
      (number_given (unit_tree p.unit) w.classes space kind g c goes.0 (other_given (unit_tree p.unit) w.classes store k kind g c (no_number kind goes.0 goes.1) (λ b. let clash : None ≡ Some goes.0 = sym (ap number_type b.1) ∙ goes.1 in cc) agrees) goes.1) goes.2
  finishes (destination.Local i) target there free same goes receives same_statics =
      let given = subst (λ (k : ResultKind). GivenAgrees (unit_tree p.unit) w.classes space k g c) goes.0 (other_given (unit_tree p.unit) w.classes store k kind g c (λ e. subst IsStaticResult goes.0 e) (λ b. let clash : NewLocal ≡ GivesBuffer b.0 = sym goes.0 ∙ b.1 in cc) agrees) in
      reference_finishes (no_buffer (unit_tree p.unit) w.classes space NewLocal g c given) goes.0 same_statics (ap (λ (d : Destination). with_result d 0) same) i target free (there goes.0) receives (reference_given (unit_tree p.unit) w.classes space g c given) goes.1
  finishes (destination.FieldId i) target there free same goes receives same_statics =
      let given = subst (λ (k : ResultKind). GivenAgrees (unit_tree p.unit) w.classes space k g c) goes.0 (other_given (unit_tree p.unit) w.classes store k kind g c (λ e. subst IsStaticResult goes.0 e) (λ b. let clash : GivesField ≡ GivesBuffer b.0 = sym goes.0 ∙ b.1 in cc) agrees) in
      field_finishes (no_buffer (unit_tree p.unit) w.classes space GivesField g c given) same_statics (ap (λ (d : Destination). with_result d 0) same) i target free receives (field_given (unit_tree p.unit) w.classes space g c given) goes.1
  finishes (destination.MethodId i) target there free same goes receives same_statics =
      let given = subst (λ (k : ResultKind). GivenAgrees (unit_tree p.unit) w.classes space k g c) goes.0 (other_given (unit_tree p.unit) w.classes store k kind g c (λ e. subst IsStaticResult goes.0 e) (λ b. let clash : GivesMethod ≡ GivesBuffer b.0 = sym goes.0 ∙ b.1 in cc) agrees) in
      method_finishes (no_buffer (unit_tree p.unit) w.classes space GivesMethod g c given) same_statics (ap (λ (d : Destination). with_result d 0) same) i target free receives (method_given (unit_tree p.unit) w.classes space g c given) goes.1
  finishes (destination.Static i) target there free same goes receives same_statics =
      subst Ends (sym goes.1.1)
      (static_finishes (plain_result (unit_tree p.unit) w.classes store k kind g c (λ b. subst IsStaticResult b.1 goes.0) agrees) i goes.1.0 (ap (λ (d : Destination). with_result d 0) same) receives goes.0 same_statics (static_given (unit_tree p.unit) w.classes store k kind g c goes.0 agrees) goes.1.2)
  finishes (destination.Buffer element i) target there free same goes receives same_statics =
      buffer_finishes same_statics (ap (λ (d : Destination). with_result d 0) same) element i target free receives goes.1.0 (buffer_given (unit_tree p.unit) w.classes store k goes.0.0 g c small (subst (λ (x : ResultKind). ResultAgrees (unit_tree p.unit) w.classes store k g x c) goes.0.1 agrees)) goes.1.2
  finishes destination.Test target there free same goes receives same_statics =
      test_finishes same_statics target (ap (λ (d : Destination). with_result d 0) same) receives
      (number_given (unit_tree p.unit) w.classes space kind g c Jint (other_given (unit_tree p.unit) w.classes store k kind g c (λ e. subst IsStaticResult goes.0 e) (λ b. let clash : GivesInt ≡ GivesBuffer b.0 = sym goes.0 ∙ b.1 in cc) agrees) (ap number_type goes.0)) goes.1
  finishes destination.Dropped target there free same goes receives same_statics =
      subst Ends (sym goes.0) (record {
        now = next;
        tasks = rest;
        store_agrees = with_same p w store next (beside others (taken_by s.variables)) (plain_shares (plain_result (unit_tree p.unit) w.classes store k kind g c (λ b. let clash : false ≡ true = sym (ap is_droppable b.1) ∙ goes.1 in cc) agrees) s.variables refl) statics same_statics;
        keeps = keeps;
        views = plain_views s.variables receives.buffers refl;
        variables = s.variables;
        steps = dropped_is line f args rest s left q c untold told next;
        stands = stands_after (ap (λ (d : Destination). with_result d 0) same) destination.Dropped refl receives own r.known s.variables r.meant (still_held destination.Dropped receives receives.references receives.fields receives.buffers) goes.2
            (shown r.known (visible_to own shared (resuming s.variables)) r.meant receives.numbers r.shows);
      })
