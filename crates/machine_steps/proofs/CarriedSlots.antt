-- What the slots show once an answer is carried out, and `isCopy` is told.
use Rattle.syntax.specs.Tree.{SourceUnit}
use Rattle.std.proofs.Common.{◌≡◌, ◌≢◌, ◌⊎◌, inl, inr, take, drop, ℕ, ℤ, ◌≤◌, Bool, true, false, List, [], ◌∷◌, length, Option, Some, None, refl, sym, ap, ◌∙◌, subst, arith, ⊎_elim}
use Rattle.std.specs.Prelude.{slice_get, slice_set, if◌then◌else◌}
use Rattle.std.specs.List.{AllByRecursion}
use Rattle.std.proofs.lemmas.List.{length-map, length-take}
use Rattle.std.proofs.lemmas.Option.{slice_get_within}
use Rattle.base.specs.Bytes.{Identifier, lookup}
use Rattle.base.specs.declared.element.ElementType.{ElementType}
use Rattle.class_rules.specs.Class.{Classes}
use Rattle.heap.specs.Heap.{Space, values_at}
use Rattle.jni.specs.declared.access.Access.{Access}
use Rattle.jni.specs.declared.function.JniFunction.{JniFunction}
use Rattle.jni.specs.declared.function.JniFunction.TheVariants.{GetBuffer}
use Rattle.jni.specs.JniFunction.{parameters_for, prototype}
use Rattle.jni.specs.declared.kinds.ParameterKind.{ParameterKind}
use Rattle.jni.specs.declared.kinds.ParameterKind.TheVariants.{IsCopy}
use Rattle.jni.specs.declared.kinds.ResultKind.{ResultKind}
use Rattle.jni.specs.declared.kinds.ResultKind.TheVariants.{GivesNothing}
use Rattle.syntax.specs.Views.{unit_tree}
use Rattle.jni.specs.declared.mode.ReleaseMode.{ReleaseMode}
use Rattle.jni.specs.declared.mode.ReleaseMode.TheVariants.{CopyBackAndFree, CopyBack, FreeUncopied}
use Rattle.semantics.specs.Arguments.{Actual, variable_given, variable_in_actual, address_given, address_in_actual}
use Rattle.semantics.specs.CallEffects.{CallEffect, CallResult, NoResult, NullResult, ScalarResult, ReferenceResult, WeakResult, FieldResult, MethodResult, BufferResult, begun_with, freed}
use Rattle.semantics.specs.CallStep.{makes_objects, tell_copy}
use Rattle.semantics.specs.Answer as source_answer
use Rattle.semantics.specs.Answer.{Answer as SourceAnswer}
use Rattle.semantics.specs.AnswerTable.{released}
use Rattle.semantics.specs.Heap.{numbers_of}
use Rattle.semantics.specs.Effect.{effect_of}
use Rattle.semantics.specs.Task.{Task}
use Rattle.semantics.specs.Thread as source
use Rattle.semantics.specs.Thread.{Shared, sight_of}
use Rattle.semantics.specs.declared.value.Value.TheVariants.{Flag}
use Rattle.semantics.specs.Variable as source_variable
use Rattle.semantics.specs.Variable.{Variables, Scalar, Elements, NoBuffer, Copy, View, assign, change}
use Rattle.semantics.specs.World.{World}
use Rattle.semantics_safety.specs.Owners.{Owners}
use Rattle.semantics_safety.proofs.ChangeCalls.{changed_is}
use Rattle.code.specs.Call.{Call, call_view}
use Rattle.code.specs.Depth.{Listing}
use Rattle.code.specs.Effect.{truth_word}
use Rattle.code.specs.declared.instr.Call.{Call as InMemory}
use Rattle.code.specs.declared.instr.Operand.{Operand}
use Rattle.code.specs.declared.instr.Operand.TheVariants as operand
use Rattle.type_rules.specs.declared.ty.ExprType.TheVariants as types
use Rattle.type_rules.specs.declared.ty.ExprType.TheVariants.{Buffer}
use Rattle.code_meaning.specs.Coding.{mode_code}
use Rattle.code_meaning.specs.Does as gives
use Rattle.code_meaning.specs.Does.{AllTogether, IsOperand}
use Rattle.code_meaning.specs.Fits.{HaveOwnSlots}
use Rattle.code_meaning.specs.Layout.{Known, Slot}
use Rattle.code_meaning.specs.Lowered.{Lowered}
use Rattle.code_meaning.specs.Slots as value
use Rattle.code_meaning.specs.Slots.{Shows, Slots, Visible, held_buffer, visible_to, word_of}
use Rattle.code_meaning.specs.Stands.{IsBufferResult}
use Rattle.code_meaning.proofs.SlotLaws.{fewer_shown, known_among, shows_buffer_again, shows_set}
use Rattle.tables.specs.Elements.{OwnedNumbers}
use Rattle.machine_scenes.specs.declared.activation.Activation.{Activation}
use Rattle.machine_answers.specs.declared.answer.Answer.{Answer}
use Rattle.machine_answers.specs.declared.answer.Answer.TheVariants as answers
use Rattle.machine_answers.specs.declared.answer.Given.{Given}
use Rattle.machine_answers.specs.declared.answer.Given.TheVariants as given
use Rattle.machine_scenes.specs.declared.buffer.Buffer.{Buffer as HeldBuffer}
use Rattle.machine_scenes.specs.declared.buffer.Buffer.TheVariants as held
use Rattle.machine_scenes.specs.declared.buffer.Release.{Release}
use Rattle.machine_scenes.specs.declared.store.Store.{Store}
use Rattle.machine_answers.specs.Answers.{Brought, IsAnswer, IsReleased, effect_told, is_carried}
use Rattle.machine_calls.proofs.AnswerCases.{as_answer, released as releases_so}
use Rattle.machine_answers.specs.Asked.{scene_of}
use Rattle.machine_scenes.specs.Buffers as in_slot
use Rattle.machine_scenes.specs.Buffers.{Acquired, AreViewed, BufferAgrees, BuffersAgree, gives_up}
use Rattle.machine_calls.specs.CarriedOut.{LeavesCopy, ResultAgrees, buffers_after, result_after, slots_after, variables_left}
use Rattle.machine_answers.specs.Copies.{overlaid, word_of as word_in, words_of}
use Rattle.machine_scenes.specs.Given.{operand_of}
use Rattle.machine_answers.specs.Answered.{IsAnswerTo}
use Rattle.machine_scenes.proofs.KeyLaws.{set_cases}
use Rattle.machine_steps.specs.Invoked.{AtCall}
use Rattle.machine_steps.specs.Received.{told_slot, told_with}
use Rattle.machine_threads.specs.SlotsHold.{IsSmallCopy, slots_of}
use Rattle.machine_steps.proofs.Acquisitions.{taken_by}
use Rattle.machine_steps.proofs.AskedCalls.{CalledAs, called as called_at, r as ready_at}
use Rattle.machine_steps.proofs.Calls.{Ready}
use Rattle.machine_steps.proofs.Changes.{buffer_by_kind, is_buffer_set, is_set}
use Rattle.machine_steps.proofs.CopiedArrays.{AreKept, Copied, Released, array_known, copied_taken, kept_or_copied, meant_after, shows_copied}
use Rattle.machine_steps.proofs.OwnersLeft.{brings as brought_in, leaves_owners, left_own, of_source as answer_of}
use Rattle.machine_steps.proofs.Receives.{IsNoBuffer, no_buffer, nothing_told, plain_static}
use Rattle.machine_steps.proofs.SlotBuffers.{all_put, buffers_nulled}
use Rattle.machine_steps.proofs.ViewCounts.{views_freed, views_same}

-- ---- the flag for `isCopy`

module _ (code : Listing) (known : Known) (place : ℕ) (stack : List ℕ) (slots : Slots) (visible : Visible) where
  -- an operand is the address of a flag, and this is its slot; or NULL
  record IsFlag (o : Operand) (a : Actual) : Type 0 where
    slot : ℕ
    variable : Identifier
    told : told_slot (Some o) ≡ Some slot
    address : address_in_actual (Some a) ≡ Some variable
    there : lookup variable known ≡ Some (record { ty = types.Flag; index = slot })

  abbrev IsNoFlag : Operand → Actual → Type 0
  IsNoFlag o a = (told_slot (Some o) ≡ None) × (address_in_actual (Some a) ≡ None)

  flag_operand : {o : Operand} {a : Actual} → IsOperand known visible IsCopy o a → IsFlag o a ⊎ IsNoFlag o a
  flag_operand (gives.told {i = i} {x = x} at) = inl (record { slot = i; variable = x; told = refl; address = refl; there = at })
  flag_operand gives.not_told = inr (refl, refl)
  flag_operand (gives.reference kind there) = absurd kind

  -- the second argument is the address of a flag, or NULL
  record TellsFlag (operands : List Operand) (args : List Actual) : Type 0 where
    slot : ℕ
    variable : Identifier
    told : told_slot (slice_get operands 1) ≡ Some slot
    address : address_given args 1 ≡ Some variable
    there : lookup variable known ≡ Some (record { ty = types.Flag; index = slot })

  abbrev TellsNothing : List Operand → List Actual → Type 0
  TellsNothing operands args = (told_slot (slice_get operands 1) ≡ None) × (address_given args 1 ≡ None)

  flag_given : {p : ParameterKind} {operands : List Operand} {args : List Actual} → AllTogether (IsOperand known visible) (p ∷ IsCopy ∷ []) operands args → TellsFlag operands args ⊎ TellsNothing operands args
  flag_given (gives.more first (gives.more {y = q} {z = b} second rest)) =
      ⊎_elim (λ (f : IsFlag q b). inl (record { slot = f.slot; variable = f.variable; told = f.told; address = f.address; there = f.there })) (λ (n : IsNoFlag q b). inr n) (flag_operand second)

  -- a buffer that is an operand has its slot
  slot_known : {q : ParameterKind} {i : ℕ} {a : Actual} → IsOperand known visible q (operand.Buffer i) a → (t : ElementType) × (writable : Bool) × (lookup (variable_in_actual (Some a)) known ≡ Some (record { ty = Buffer t writable; index = i }))
  slot_known (gives.buffer {t = t} {writable = writable} at) = (t, writable, at)
  slot_known (gives.reference kind there) = elim there [ ]

  buffer_known : {ps : List ParameterKind} {operands : List Operand} {args : List Actual} → AllTogether (IsOperand known visible) ps operands args → (i : ℕ) → operand_of operands 1 ≡ operand.Buffer i
      → (t : ElementType) × (writable : Bool) × (lookup (variable_given args 1) known ≡ Some (record { ty = Buffer t writable; index = i }))
  buffer_known gives.none i at = absurd (cc)
  buffer_known (gives.more first gives.none) i at = absurd (cc)
  buffer_known (gives.more first (gives.more {x = q} {z = b} second rest)) i at = slot_known (subst (λ (o : Operand). IsOperand known visible q o b) at second)

-- a function that gives a buffer
gets_buffer : (f : JniFunction) → IsBufferResult (prototype f).result → (access : Access) × (f ≡ GetBuffer access)
gets_buffer (GetBuffer a) h = (a, refl)
gets_buffer f h = absurd (let e = h.1 in cc)

-- ---- what is told

-- nothing is told of what is given
record TellsNone (g : Given) (c : CallResult) : Type 0 where
  numbers : (told : Option ℕ) (ns : List ℕ) → told_with told g ns ≡ ns
  variables : (x : Option Identifier) (vs : Variables) → tell_copy x c vs ≡ vs

-- or whether it is a copy
record Tells (b : Bool) (g : Given) (c : CallResult) : Type 0 where
  numbers : (i : ℕ) (ns : List ℕ) → told_with (Some i) g ns ≡ slice_set ns i (truth_word b)
  none : (ns : List ℕ) → told_with None g ns ≡ ns
  variables : (x : Identifier) (vs : Variables) → tell_copy (Some x) c vs ≡ assign x (Scalar (Flag b)) vs
  unnamed : (vs : Variables) → tell_copy None c vs ≡ vs

-- what is no copy and no view
abbrev IsUntold : Given → Type 0
IsUntold (given.Buffer (held.Copy key)) = ⊥
IsUntold (given.Buffer (held.View a)) = ⊥
IsUntold g = Unit {0}

untold_numbers : (g : Given) → IsUntold g → (told : Option ℕ) (ns : List ℕ) → told_with told g ns ≡ ns
untold_numbers (given.Buffer (held.Copy key)) h told ns = absurd h
untold_numbers (given.Buffer (held.View a)) h told ns = absurd h
untold_numbers (given.Buffer held.Null) h None ns = refl
untold_numbers (given.Buffer held.Null) h (Some i) ns = refl
untold_numbers g h None ns = refl
untold_numbers g h (Some i) ns = refl

no_buffer_told : (x : Option Identifier) (vs : Variables) → tell_copy x (BufferResult NoBuffer) vs ≡ vs
no_buffer_told None vs = refl
no_buffer_told (Some x) vs = refl

module _ (unit : SourceUnit) (classes : Classes) (store : Store) (k : ℕ) (kind : ResultKind) where
  abbrev Told : Given → CallResult → Type 0
  Told g c = TellsNone g c ⊎ (IsBufferResult kind × ((b : Bool) × Tells b g c))

  plain_told : (g : Given) (c : CallResult) → IsUntold g → IsNoBuffer c → Told g c
  plain_told g c untold plain = inl (record { numbers = untold_numbers g untold; variables = λ x vs. nothing_told x c vs plain })

  told_buffer : {b : HeldBuffer} {c : source_variable.Buffer} → IsBufferResult kind → BufferAgrees store.heap store.elements k b c → Told (given.Buffer b) (BufferResult c)
  told_buffer f in_slot.null = inl (record { numbers = untold_numbers (given.Buffer held.Null) tt; variables = no_buffer_told })
  told_buffer f (in_slot.copy found) = inr (f, (true, record { numbers = λ i ns. refl; none = λ ns. refl; variables = λ x vs. refl; unnamed = λ vs. refl }))
  told_buffer f (in_slot.view named) = inr (f, (false, record { numbers = λ i ns. refl; none = λ ns. refl; variables = λ x vs. refl; unnamed = λ vs. refl }))

  what_told : (g : Given) (c : CallResult) → ResultAgrees unit classes store k g kind c → Told g c
  what_told (given.Global s) c h = plain_told (given.Global s) c tt (plain_static kind c h.0)
  what_told (given.Buffer held.Null) NullResult h = plain_told (given.Buffer held.Null) NullResult tt tt
  what_told (given.Buffer (held.Copy key)) NullResult h = absurd (let e = h.1 in cc)
  what_told (given.Buffer (held.View a)) NullResult h = absurd (let e = h.1 in cc)
  what_told (given.Buffer b) (BufferResult c) h = told_buffer h.0 h.1
  what_told (given.Buffer b) NoResult h = absurd h.1
  what_told (given.Buffer b) (ScalarResult v) h = absurd h.1
  what_told (given.Buffer b) (ReferenceResult q) h = absurd h.1
  what_told (given.Buffer b) (FieldResult f) h = absurd h.1
  what_told (given.Buffer b) (MethodResult f) h = absurd h.1
  what_told (given.Buffer b) (WeakResult r) h = absurd h.1
  what_told g c h = plain_told g c tt (no_buffer unit classes store.heap kind g c h)

-- a flag is told
module _ (code : Listing) (known : Known) (own : Owners) (shared : Shared) (s : source.Thread) (slots : Slots) (shows : Shows code known (visible_to own shared s) slots) (owned : HaveOwnSlots known) where
  flag_shown : (x : Identifier) (i : ℕ) (b : Bool) → lookup x known ≡ Some (record { ty = types.Flag; index = i })
      → Shows code known (visible_to own shared (record s { variables = assign x (Scalar (Flag b)) s.variables })) (record slots { numbers = slice_set slots.numbers i (truth_word b) })
  flag_shown x i b at =
      let slot : Slot = record { ty = types.Flag; index = i } in
      let shown = shows.each x slot at in
      let new : source.Thread = record s { variables = assign x (Scalar (Flag b)) s.variables } in
      fewer_shown code known ((x, slot) ∷ known) (visible_to own shared new) (record slots { numbers = slice_set slots.numbers i (truth_word b) }) (known_among x slot known at)
      (shows_set code known (visible_to own shared s) (visible_to own shared new) slots x slot (Flag b) shows
      (record { within = omega (arith, slice_get_within slots.numbers i (word_of shown.value) shown.word, shows.numbers); own = owned x slot at }) tt value.flag
      (is_set own own shared s new x (λ y other. refl) (Flag b) refl))

  -- a buffer is given up
  freed_shown : (x : Identifier) (t : ElementType) (writable : Bool) (i : ℕ) → lookup x known ≡ Some (record { ty = Buffer t writable; index = i })
      → Shows code known (visible_to own shared (record s { variables = change x freed s.variables })) (record slots { buffers = slice_set slots.buffers i NoBuffer })
  freed_shown x t writable i at =
      let slot : Slot = record { ty = Buffer t writable; index = i } in
      let shown = shows.each x slot at in
      let variable = buffer_by_kind (lookup x s.variables) t shown.kind in
      let new : source.Thread = record s { variables = change x freed s.variables } in
      shows_buffer_again code known (visible_to own shared s) (visible_to own shared new) slots x t writable i NoBuffer shows at
      (record { within = omega (arith, slice_get_within slots.buffers i shown.buffer shown.there, shows.buffers); own = owned x slot at })
      (is_buffer_set own own shared s new x (λ y other. refl) t NoBuffer (changed_is x freed (Elements t variable.0) s.variables variable.1))

-- ---- buffers that the answer leaves

module _ (space : Space) (copies : List (Option OwnedNumbers)) (k : ℕ) (slots : List HeldBuffer) (buffers : List source_variable.Buffer) where
  agree_after : (a : Answer) → BuffersAgree space copies k slots buffers → BuffersAgree space copies k (buffers_after a slots) (meant_after a buffers)
  agree_after (answers.Releases r) h = by_test (gives_up r.mode)
    where
      by_test : (b : Bool) → BuffersAgree space copies k (if b then slice_set slots r.slot held.Null else slots) (if b then slice_set buffers r.slot NoBuffer else buffers)
      by_test true = buffers_nulled space copies k slots buffers r.slot h
      by_test false = h
  agree_after a h = h

  small_after : (a : Answer) → AllByRecursion IsSmallCopy buffers → AllByRecursion IsSmallCopy (meant_after a buffers)
  small_after (answers.Releases r) h = by_test (gives_up r.mode)
    where
      by_test : (b : Bool) → AllByRecursion IsSmallCopy (if b then slice_set buffers r.slot NoBuffer else buffers)
      by_test true = all_put IsSmallCopy buffers r.slot NoBuffer h tt
      by_test false = h
  small_after a h = h

  lists_left : (a : Answer) → BuffersAgree space copies k slots buffers → ((r : Release) → a ≡ answers.Releases r → slice_get slots r.slot ≡ Some r.held) → (i key : ℕ) → slice_get (buffers_after a slots) i ≡ Some (held.Copy key) → LeavesCopy a key
  lists_left (answers.Releases r) h there i key at = λ up is. by_place (set_cases slots r.slot i held.Null (held.Copy key) (subst (λ (b : Bool). slice_get (if b then slice_set slots r.slot held.Null else slots) i ≡ Some (held.Copy key)) up at)) is
    where
      by_place : ((i ≡ r.slot) × (held.Null ≡ held.Copy key)) ⊎ ((i ≢ r.slot) × (slice_get slots i ≡ Some (held.Copy key))) → r.held ≡ held.Copy key → ⊥
      by_place (inl (same, none)) is = cc
      by_place (inr (other, found)) is = other (h.apart i r.slot key found (there r refl ∙ ap (λ (b : HeldBuffer). Some b) is))
  lists_left a h there i key at = tt

-- ---- the call

module _ (p : Lowered) (w : World) (store : Store) (pending : Option ℕ) (call : Activation) (in_memory : InMemory) (others : Acquired) (k owner : ℕ) (own : Owners) (shared : Shared) (s : source.Thread) (task : Task) (rest : List Task) (h : AtCall p w store pending call in_memory others k owner own shared s task rest) where
  abbrev function : Call
  function = call_view in_memory

  abbrev r : Ready p w.classes store.heap store.elements owner call h.code (visible_to own shared s) s.frames task rest
  r = ready_at p w store pending call in_memory others k owner own shared s task rest h

  abbrev called : CalledAs p w store pending call h.code function others k owner own shared s task rest r (effect_of (sight_of shared s) task)
  called = called_at p w store pending call in_memory others k owner own shared s task rest h

  -- what the source's call answers, and what the call brings
  abbrev of_source : SourceAnswer
  of_source = answer_of p w store pending call in_memory others k owner own shared s task rest h

  abbrev brings : Brought
  brings = brought_in p w store pending call in_memory others k owner own shared s task rest h

  -- what that does
  abbrev effect : CallEffect
  effect = effect_told w.classes brings shared s of_source

  -- the variables that an answer leaves
  abbrev variables_told : SourceAnswer → Variables
  variables_told a = variables_left false s (effect_told w.classes brings shared s a)

  abbrev kind : ResultKind
  kind = (prototype called.f).result

  module _ (answer : Answer) (works : IsAnswerTo (scene_of (unit_tree p.unit) w.classes store call k pending) function answer)
      (does : IsAnswer w.classes brings store.heap call.locals shared s answer kind of_source) where
    abbrev own_left : Owners
    own_left = left_own p w store pending call in_memory others k owner own shared s task rest h answer works does

    -- the slots with these numbers and these buffers, for which the others stand as they did
    abbrev pub left_slots : List ℕ → List source_variable.Buffer → Slots
    left_slots numbers buffers = record { numbers = numbers; references = r.meant.references; owners = (leaves_owners p w store pending call in_memory others k owner own shared s task rest h answer works does).owners; fields = r.meant.fields; buffers = buffers }

    -- What slots show of the thread with these variables, once the answer is carried out, its result is this, and `isCopy` is told: number
    -- slots and buffers as they lie there, with what the buffers stand for. Lists are those of before.
    pub record ShowsLeft (c : CallResult) (vs : Variables) (numbers : List ℕ) (slots : List HeldBuffer) : Type 0 where
      pub buffers : List source_variable.Buffer
      pub shows : Shows h.code r.known (visible_to own_left shared (record s { variables = vs })) (left_slots numbers buffers)
      pub agree : BuffersAgree store.heap store.elements owner slots buffers
      pub small : AllByRecursion IsSmallCopy buffers
      -- no list that the answer ends is left in a slot
      pub left : (i key : ℕ) → slice_get slots i ≡ Some (held.Copy key) → LeavesCopy answer key
      pub kept : (vs ≡ s.variables) ⊎ (kind ≡ GivesNothing) ⊎ (IsBufferResult kind × (vs ≡ tell_copy (address_given called.args 1) c s.variables))

    -- ---- a release

    -- the call releases a buffer
    abbrev Frees : Release → Type 0
    Frees release = IsReleased brings store.heap shared s release

    -- it is that of the variable of argument 1
    released_known : (release : Release) → Frees release → (type : ElementType) × (writable : Bool) × (lookup (variable_given called.args 1) r.known ≡ Some (record { ty = Buffer type writable; index = release.slot }))
    released_known release f = buffer_known h.code r.known call.place call.stack (slots_of call r.meant) (visible_to own shared s) called.operands release.slot f.given

    -- ---- what carrying out the answer leaves

    abbrev Shown : Variables → List ℕ → List source_variable.Buffer → Type 0
    Shown vs numbers buffers = Shows h.code r.known (visible_to own_left shared (record s { variables = vs })) (left_slots numbers buffers)

    as_before : Shown s.variables call.slots.numbers.items r.meant.buffers
    as_before = (leaves_owners p w store pending call in_memory others k owner own shared s task rest h answer works does).shows

    same_shown : (vs : Variables) (numbers : List ℕ) (buffers : List source_variable.Buffer) → vs ≡ s.variables → numbers ≡ call.slots.numbers.items → buffers ≡ r.meant.buffers → Shown vs numbers buffers
    same_shown vs numbers buffers same_variables same_numbers same_buffers =
        subst (λ (us : Variables). Shown us numbers buffers) (sym same_variables)
        (subst (λ (l : List ℕ). Shown s.variables l buffers) (sym same_numbers)
        (subst (Shown s.variables call.slots.numbers.items) (sym same_buffers) as_before))

    abbrev ShownFreed : Release → Variables → Bool → Type 0
    ShownFreed release vs b = Shown vs call.slots.numbers.items (if b then slice_set r.meant.buffers release.slot NoBuffer else r.meant.buffers)

    release_shown : (release : Release) → (f : Frees release) → of_source ≡ released f.name f.mode → Shown (variables_left false s effect) call.slots.numbers.items (if gives_up release.mode then slice_set r.meant.buffers release.slot NoBuffer else r.meant.buffers)
    unfolding source_answer.effect_of
    release_shown release f told = subst (λ (a : SourceAnswer). ShownFreed release (variables_told a) (gives_up release.mode)) (sym told) (by_mode f.mode f.coded)
      where
        freed_here : ShownFreed release (change (variable_given called.args 1) freed s.variables) true
        freed_here =
            let it = released_known release f in
            freed_shown h.code r.known own_left shared s (left_slots call.slots.numbers.items r.meant.buffers) as_before called.own_slots (variable_given called.args 1) it.0 it.1 release.slot it.2

        by_mode : (mode : ReleaseMode) → release.mode ≡ mode_code mode → ShownFreed release (variables_told (released f.name mode)) (gives_up release.mode)
        by_mode CopyBack coded = subst (ShownFreed release s.variables) (sym (ap gives_up coded)) as_before
        by_mode CopyBackAndFree coded = subst (ShownFreed release (change (variable_given called.args 1) freed s.variables)) (sym (ap gives_up coded)) freed_here
        by_mode FreeUncopied coded = subst (ShownFreed release (change (variable_given called.args 1) freed s.variables)) (sym (ap gives_up coded)) freed_here

    abbrev WasCopied : Type 0
    WasCopied = Copied w.classes brings store.heap call.locals kind shared s answer of_source

    abbrev WasReleased : Type 0
    WasReleased = Released w.classes brings store.heap call.locals kind shared s answer of_source

    abbrev WasKept : Type 0
    WasKept = AreKept w.classes brings store.heap call.locals kind shared s answer of_source

    -- the variable of the array, the numbers that it begins with, and the variables with it
    abbrev array_variable : Identifier
    array_variable = variable_given called.args 3

    abbrev copied_numbers : WasCopied → List ℤ
    copied_numbers it = take it.region.count (drop it.region.start (numbers_of shared.heap it.copied.name))

    abbrev copied_variables : WasCopied → Variables
    copied_variables it = change array_variable (begun_with (copied_numbers it)) s.variables

    copied_left : (it : WasCopied) → variables_left false s effect ≡ copied_variables it
    unfolding source_answer.effect_of
    copied_left it = ap variables_told it.told

    few_copied : (it : WasCopied) → length (words_of store.heap it.region) ≤ it.copied.array.len
    few_copied it = omega (arith, it.copied.few, length-map (take it.region.count (drop it.region.start (values_at store.heap it.region.object))) word_in, length-take it.region.count (drop it.region.start (values_at store.heap it.region.object)))

    copied_shown : WasCopied → Shown (variables_left false s effect) (slots_after store.heap answer call.slots.numbers.items) (meant_after answer r.meant.buffers)
    copied_shown it =
        let c = it.copied in
        let named = array_known c.array called.operands c.given in
        let numbers : slots_after store.heap answer call.slots.numbers.items ≡ overlaid call.slots.numbers.items c.array.start (words_of store.heap it.region) =
        ap (λ (a : Answer). slots_after store.heap a call.slots.numbers.items) it.is ∙ ap (λ (i : ℕ). overlaid call.slots.numbers.items i (words_of store.heap it.region)) c.slot in
        let buffers : meant_after answer r.meant.buffers ≡ r.meant.buffers = ap (λ (a : Answer). meant_after a r.meant.buffers) it.is in
        subst (λ (us : Variables). Shown us (slots_after store.heap answer call.slots.numbers.items) (meant_after answer r.meant.buffers)) (sym (copied_left it))
        (subst (λ (l : List ℕ). Shown (copied_variables it) l (meant_after answer r.meant.buffers)) (sym numbers)
        (subst (Shown (copied_variables it) (overlaid call.slots.numbers.items c.array.start (words_of store.heap it.region))) (sym buffers)
        (shows_copied h.code r.known own_left shared s (left_slots call.slots.numbers.items r.meant.buffers) as_before array_variable named.0 c.array named.1 (words_of store.heap it.region) (copied_numbers it) c.words (few_copied it) called.own_slots)))

    released_shown : WasReleased → Shown (variables_left false s effect) (slots_after store.heap answer call.slots.numbers.items) (meant_after answer r.meant.buffers)
    released_shown it =
        subst (λ (a : Answer). Shown (variables_left false s effect) (slots_after store.heap a call.slots.numbers.items) (meant_after a r.meant.buffers)) (sym it.is) (release_shown it.release it.released it.told)

    -- ---- what the slots view

    abbrev Viewed : Variables → List HeldBuffer → Type 0
    Viewed vs slots = AreViewed store.heap slots (record s { variables = vs })

    same_viewed : (vs : Variables) (slots : List HeldBuffer) → taken_by vs ≡ taken_by s.variables → slots ≡ call.slots.buffers.items → Viewed vs slots
    same_viewed vs slots same_variables same_slots = views_same store.heap call.slots.buffers.items slots s (record s { variables = vs }) same_slots same_variables h.views

    freed_viewed : (release : Release) → Frees release → (vs : Variables) → vs ≡ change (variable_given called.args 1) freed s.variables → Viewed vs (slice_set call.slots.buffers.items release.slot held.Null)
    freed_viewed release f vs is =
        let x = variable_given called.args 1 in
        let it = released_known release f in
        let shown = r.shows.each x (record { ty = Buffer it.0 it.1; index = release.slot }) it.2 in
        let variable = buffer_by_kind (lookup x s.variables) it.0 shown.kind in
        let same : variable.0 ≡ shown.buffer = sym (ap held_buffer variable.1) ∙ shown.is in
        views_freed store.heap store.elements owner call.slots.buffers.items r.meant.buffers release.slot x it.0 shown.buffer s (record s { variables = vs }) r.holds.buffers.agree shown.there
        (variable.1 ∙ ap (λ (b : source_variable.Buffer). Some (Elements it.0 b)) same) is h.views

    abbrev ViewedIf : Release → Variables → Bool → Type 0
    ViewedIf release vs b = Viewed vs (if b then slice_set call.slots.buffers.items release.slot held.Null else call.slots.buffers.items)

    release_viewed : (release : Release) → (f : Frees release) → of_source ≡ released f.name f.mode → Viewed (variables_left false s effect) (buffers_after (answers.Releases release) call.slots.buffers.items)
    unfolding source_answer.effect_of
    release_viewed release f told = subst (λ (a : SourceAnswer). ViewedIf release (variables_told a) (gives_up release.mode)) (sym told) (by_mode f.mode f.coded)
      where
        by_mode : (mode : ReleaseMode) → release.mode ≡ mode_code mode → ViewedIf release (variables_told (released f.name mode)) (gives_up release.mode)
        by_mode CopyBack coded = subst (ViewedIf release s.variables) (sym (ap gives_up coded)) (same_viewed s.variables call.slots.buffers.items refl refl)
        by_mode CopyBackAndFree coded = subst (ViewedIf release (change (variable_given called.args 1) freed s.variables)) (sym (ap gives_up coded)) (freed_viewed release f _ refl)
        by_mode FreeUncopied coded = subst (ViewedIf release (change (variable_given called.args 1) freed s.variables)) (sym (ap gives_up coded)) (freed_viewed release f _ refl)

    copied_viewed : WasCopied → Viewed (variables_left false s effect) (buffers_after answer call.slots.buffers.items)
    copied_viewed it =
        let c = it.copied in
        let named = array_known c.array called.operands c.given in
        same_viewed (variables_left false s effect) (buffers_after answer call.slots.buffers.items)
        (ap taken_by (copied_left it)
        ∙ copied_taken h.code r.known own_left shared s (left_slots call.slots.numbers.items r.meant.buffers) as_before array_variable named.0 c.array named.1 (words_of store.heap it.region) (copied_numbers it) c.words (few_copied it))
        (ap (λ (a : Answer). buffers_after a call.slots.buffers.items) it.is)

    released_viewed : WasReleased → Viewed (variables_left false s effect) (buffers_after answer call.slots.buffers.items)
    released_viewed it =
        subst (λ (a : Answer). Viewed (variables_left false s effect) (buffers_after a call.slots.buffers.items)) (sym it.is) (release_viewed it.release it.released it.told)

    -- what it leaves before `isCopy` is told
    record Carried (vs : Variables) : Type 0 where
      views : Viewed vs (buffers_after answer call.slots.buffers.items)
      shows : Shown vs (slots_after store.heap answer call.slots.numbers.items) (meant_after answer r.meant.buffers)
      kept : (vs ≡ s.variables) ⊎ (kind ≡ GivesNothing)

    -- what copies numbers or releases a buffer makes nothing
    abbrev MakesNone : SourceAnswer → Type 0
    MakesNone a = makes_objects (effect_told w.classes brings shared s a) ≡ false

    none_copied : (it : WasCopied) → MakesNone of_source
    unfolding source_answer.effect_of
    none_copied it = subst MakesNone (sym it.told) refl

    none_released : (it : WasReleased) → MakesNone of_source
    unfolding source_answer.effect_of
    none_released it = subst MakesNone (sym it.told) (by_mode it.released.mode)
      where
        by_mode : (mode : ReleaseMode) → MakesNone (released it.released.name mode)
        by_mode CopyBack = refl
        by_mode CopyBackAndFree = refl
        by_mode FreeUncopied = refl

    carried : (refused : Bool) → (refused ≡ true → makes_objects effect ≡ true) → WasKept ⊎ (WasCopied ⊎ WasReleased) → Carried (variables_left refused s effect)
    carried false could (inl kept) = record { views = same_viewed (variables_left false s effect) (buffers_after answer call.slots.buffers.items) (ap taken_by kept.0) (kept.2 call.slots.buffers.items); shows = same_shown _ _ _ kept.0 (kept.1 call.slots.numbers.items) (kept.3 r.meant.buffers); kept = inl kept.0 }
    carried true could (inl kept) = record { views = same_viewed s.variables (buffers_after answer call.slots.buffers.items) refl (kept.2 call.slots.buffers.items); shows = same_shown _ _ _ refl (kept.1 call.slots.numbers.items) (kept.3 r.meant.buffers); kept = inl refl }
    carried false could (inr (inl it)) = record { views = copied_viewed it; shows = copied_shown it; kept = inr it.nothing }
    carried true could (inr (inl it)) = absurd (let e : false ≡ true = sym (none_copied it) ∙ could refl in cc)
    carried false could (inr (inr it)) = record { views = released_viewed it; shows = released_shown it; kept = inr it.nothing }
    carried true could (inr (inr it)) = absurd (let e : false ≡ true = sym (none_released it) ∙ could refl in cc)

    -- each view in slots is one of a variable's
    pub views_left : (refused : Bool) → is_carried answer ≡ true → (refused ≡ true → makes_objects effect ≡ true) → AreViewed store.heap (buffers_after answer call.slots.buffers.items) (record s { variables = variables_left refused s effect })
    views_left refused runs could = (carried refused could (kept_or_copied w.classes brings store.heap call.locals shared s runs does)).views

    -- ---- and once it is told

    flag_or_none : IsBufferResult kind → TellsFlag h.code r.known call.place call.stack (slots_of call r.meant) (visible_to own shared s) function.operands called.args ⊎ TellsNothing h.code r.known call.place call.stack (slots_of call r.meant) (visible_to own shared s) function.operands called.args
    flag_or_none buffer =
        let by = gets_buffer called.f buffer in
        flag_given h.code r.known call.place call.stack (slots_of call r.meant) (visible_to own shared s)
        (subst (λ (f : JniFunction). AllTogether (IsOperand r.known (visible_to own shared s)) (parameters_for f (length called.args)) function.operands called.args) by.1 called.operands)

    module _ (vs : Variables) (numbers : List ℕ) (buffers : List source_variable.Buffer) (shows : Shown vs numbers buffers) (g : Given) (c : CallResult) where
      abbrev ToldShown : Type 0
      ToldShown = Shown (tell_copy (address_given called.args 1) c vs) (told_with (told_slot (slice_get function.operands 1)) g numbers) buffers

      none_told : TellsNone g c → ToldShown
      none_told t =
          subst (λ (us : Variables). Shown us (told_with (told_slot (slice_get function.operands 1)) g numbers) buffers) (sym (t.variables (address_given called.args 1) vs))
          (subst (λ (l : List ℕ). Shown vs l buffers) (sym (t.numbers (told_slot (slice_get function.operands 1)) numbers)) shows)

      flag_told : (b : Bool) → Tells b g c → IsBufferResult kind → ToldShown
      flag_told b t buffer = by_flag (flag_or_none buffer)
        where
          by_flag : TellsFlag h.code r.known call.place call.stack (slots_of call r.meant) (visible_to own shared s) function.operands called.args ⊎ TellsNothing h.code r.known call.place call.stack (slots_of call r.meant) (visible_to own shared s) function.operands called.args → ToldShown
          by_flag (inl f) =
              let variables = ap (λ (x : Option Identifier). tell_copy x c vs) f.address ∙ t.variables f.variable vs in
              let are : told_with (told_slot (slice_get function.operands 1)) g numbers ≡ slice_set numbers f.slot (truth_word b) = ap (λ (o : Option ℕ). told_with o g numbers) f.told ∙ t.numbers f.slot numbers in
              subst (λ (us : Variables). Shown us (told_with (told_slot (slice_get function.operands 1)) g numbers) buffers) (sym variables)
              (subst (λ (l : List ℕ). Shown (assign f.variable (Scalar (Flag b)) vs) l buffers) (sym are)
              (flag_shown h.code r.known own_left shared (record s { variables = vs }) (left_slots numbers buffers) shows called.own_slots f.variable f.slot b f.there))
          by_flag (inr n) =
              subst (λ (us : Variables). Shown us (told_with (told_slot (slice_get function.operands 1)) g numbers) buffers) (sym (ap (λ (x : Option Identifier). tell_copy x c vs) n.1 ∙ t.unnamed vs))
              (subst (λ (l : List ℕ). Shown vs l buffers) (sym (ap (λ (o : Option ℕ). told_with o g numbers) n.0 ∙ t.none numbers)) shows)

    released_there : (release : Release) → answer ≡ answers.Releases release → slice_get call.slots.buffers.items release.slot ≡ Some release.held
    released_there release is =
        let d = releases_so (as_answer is does) in
        d.holds.there ∙ ap (λ (b : HeldBuffer). Some b) (sym d.held)

    pub shows_left : (refused : Bool) (after : Store) (g : Given) → is_carried answer ≡ true
        → (refused ≡ true → makes_objects effect ≡ true) → ResultAgrees (unit_tree p.unit) w.classes after owner g kind (result_after kind refused effect)
        → ShowsLeft (result_after kind refused effect) (tell_copy (address_given called.args 1) (result_after kind refused effect) (variables_left refused s effect))
        (told_with (told_slot (slice_get function.operands 1)) g (slots_after store.heap answer call.slots.numbers.items)) (buffers_after answer call.slots.buffers.items)
    shows_left refused after g runs could agrees =
        by_told (carried refused could (kept_or_copied w.classes brings store.heap call.locals shared s runs does))
        (what_told (unit_tree p.unit) w.classes after owner kind g (result_after kind refused effect) agrees)
      where
        by_told : Carried (variables_left refused s effect) → Told (unit_tree p.unit) w.classes after owner kind g (result_after kind refused effect)
            → ShowsLeft (result_after kind refused effect) (tell_copy (address_given called.args 1) (result_after kind refused effect) (variables_left refused s effect))
            (told_with (told_slot (slice_get function.operands 1)) g (slots_after store.heap answer call.slots.numbers.items)) (buffers_after answer call.slots.buffers.items)
        by_told there told = record {
          buffers = meant_after answer r.meant.buffers;
          shows = ⊎_elim (λ t. none_told (variables_left refused s effect) (slots_after store.heap answer call.slots.numbers.items) (meant_after answer r.meant.buffers) there.shows g (result_after kind refused effect) t)
              (λ t. flag_told (variables_left refused s effect) (slots_after store.heap answer call.slots.numbers.items) (meant_after answer r.meant.buffers) there.shows g (result_after kind refused effect) t.1.0 t.1.1 t.0) told;
          agree = agree_after store.heap store.elements owner call.slots.buffers.items r.meant.buffers answer r.holds.buffers;
          small = small_after store.heap store.elements owner call.slots.buffers.items r.meant.buffers answer r.holds.small;
          left = lists_left store.heap store.elements owner call.slots.buffers.items r.meant.buffers answer r.holds.buffers released_there;
          kept = ⊎_elim (λ t. ⊎_elim (λ same. inl (t.variables (address_given called.args 1) (variables_left refused s effect) ∙ same)) (λ nothing. inr (inl nothing)) there.kept)
              (λ t. ⊎_elim (λ same. inr (inr (t.0, ap (tell_copy (address_given called.args 1) (result_after kind refused effect)) same))) (λ nothing. inr (inl nothing)) there.kept) told;
        }
