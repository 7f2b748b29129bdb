-- What an instruction did is the effect of the first of the tasks.
use Rattle.std.proofs.Common.{◌≡◌, ◌≢◌, ℕ, suc, ℤ, pos, ◌+◌, ◌<◌, Bool, true, false, List, [], ◌∷◌, ◌++◌, length, replicate, Option, Some, None, refl, sym, ap, ◌∙◌, subst, arith, if◌then◌else◌}
use Rattle.std.specs.Prelude.{slice_get, slice_set, nat_lt, IsSome, IsTrue}
use Rattle.std.specs.Bool.{beq}
use Rattle.std.specs.Int.{w32, cast_signed}
use Rattle.std.proofs.lemmas.Bool.{ltb-true}
use Rattle.base.specs.Bytes.{Identifier, lookup}
use Rattle.base.specs.declared.element.ElementType.{ElementType}
use Rattle.class_rules.specs.Class.{Classes}
use Rattle.jni.specs.declared.function.JniFunction.{JniFunction}
use Rattle.heap.specs.Heap.{Space}
use Rattle.code.specs.declared.instr.Instr.{Instr}
use Rattle.code.specs.declared.instr.Instr.TheVariants as instr
use Rattle.code.specs.Call.{Call}
use Rattle.code.specs.declared.instr.NullableVariable.{NullableVariable}
use Rattle.code.specs.declared.instr.NullableVariable.TheVariants as nullable
use Rattle.code_meaning.specs.Layout.{Known}
use Rattle.code.specs.declared.instr.Plain.{Plain}
use Rattle.code.specs.declared.instr.Plain.TheVariants as plain
use Rattle.code.specs.Effect.{truth_word, plain_of, IsPlain}
use Rattle.code.specs.Depth.{Listing, depth_after, depth_at, LeadsInside, Leaves, within_slots}
use Rattle.syntax.specs.Views.{unit_tree}
use Rattle.semantics.specs.Arguments.{Actual}
use Rattle.semantics.specs.CallEffects.{CallResult}
use Rattle.semantics.specs.Effect as effects
use Rattle.semantics.specs.Effect.{Effect, Becomes, Sets, SetsNull, SetsElement, MakesArray, Prints, Calls, TrapsAt, NoEffect, effect_of}
use Rattle.semantics.specs.Task.{Task, Target}
use Rattle.semantics.specs.Thread as source
use Rattle.semantics.specs.Thread.{Shared, sight_of}
use Rattle.semantics.specs.ThreadStep.{with_tasks, after_effect, next_effect, set_element}
use Rattle.semantics.specs.declared.trap.Trap.{Trap}
use Rattle.semantics.specs.Value.{convert}
use Rattle.semantics.specs.Variable.{Variable, Scalar, LocalArray, assign}
use Rattle.semantics_safety.specs.Owners.{Owners, after_effect as owners_left}
use Rattle.semantics_safety.specs.StepSafe.{HoldsNoBuffer, SetsWhole}
use Rattle.tables.specs.Elements.{OwnedNumbers}
use Rattle.code_meaning.specs.Coding.{element_of}
use Rattle.code_meaning.specs.Slots as lower
use Rattle.code_meaning.specs.Slots.{Visible, Slots, visible_to, Shows, IsSet, IsMade, IsElementSet}
use Rattle.code_meaning.specs.Stands.{StandsFor}
use Rattle.std.specs.Global.{Vec}
use Rattle.code_meaning.specs.Does.{IsStoredIn, kind_of_target, GoesOn, Writes, WritesBuffer, StoresNull, PrintsTop, CallsFunction, Stops, Works, AtEnd, IsReturn}
use Rattle.code_meaning.specs.Lowered.{Lowered}
use Rattle.semantics.specs.declared.event.Event.{Event}
use Rattle.semantics.specs.declared.event.Event.TheVariants as event
use Rattle.machine_scenes.specs.declared.activation.Activation.{Activation}
use Rattle.machine_steps.specs.declared.execute.Executed.TheVariants.{Did, Returned}
use Rattle.machine_steps.specs.Executes as agrees
use Rattle.semantics.specs.World.{World}
use Rattle.machine_scenes.specs.declared.store.Store.{Store}
use Rattle.machine_scenes.specs.HeapAgrees.{ReferenceAgrees, times}
use Rattle.machine_scenes.specs.declared.buffer.Buffer.{Buffer as HeldBuffer}
use Rattle.machine_steps.proofs.ViewCounts.{views_nulled}
use Rattle.machine_scenes.specs.StoreAgrees.{StoreAgrees}
use Rattle.machine_scenes.specs.Buffers.{Acquired, AreViewed, acquired_by, beside, viewed_in}
use Rattle.machine_steps.specs.Executes.{Executes, IsSteady, in_use_with}
use Rattle.machine_threads.specs.InProgress.{CallStands, WorkAgrees}
use Rattle.machine_answers.specs.Asked.{references_of}
use Rattle.machine_scenes.specs.Statics.{StaticReference}
use Rattle.machine_steps.specs.Moved.{HasMoved, end_of_path, PathIsSeen}
use Rattle.machine_threads.specs.SlotsHold.{slots_of, values_in}
use Rattle.machine_steps.specs.Variables.{is_null, HasSlot, nulled_buffers, nulled_slots, nulled_statics}
use Rattle.machine_steps.proofs.Acquisitions.{assigned_nothing, assigned_same, copied_there, store_same, taken_by, viewed_there}
use Rattle.machine_steps.proofs.SlotBuffers.{buffers_count}
use Rattle.machine_steps.proofs.ReturnedResults.{return_agrees}
use Rattle.machine_steps.specs.Returned.{given_by}
use Rattle.machine_steps.proofs.Calls.{does_cases, Ready, holds_with, plain_instr, plain_works, LooksAtSlots, no_return, stands_at, runs, room, leads, depth_behind, fields_count}
use Rattle.machine_steps.proofs.Changes.{array_of, is_set, is_made, is_element_set}
use Rattle.machine_scenes.proofs.Keeping.{keeps_same}
use Rattle.machine_scenes.proofs.KeyLaws.{keys_count}
use Rattle.machine_steps.proofs.Elements.{SetsWhatIsThere, sets_what_is_there}
use Rattle.machine_steps.proofs.NullLaws.{puts_null, nulled_agree, variable_null_agrees}
use Rattle.machine_calls.proofs.StaticStores.{keeps_but_statics}
use Rattle.machine_steps.proofs.NulledStatics.{may_be_nulled, store_nulled}
use Rattle.machine_calls.proofs.HeldStatics.{place_below}

-- ---- a plain instruction

-- a plain instruction's answer, by its parts
abbrev pub Answer : Type 0
Answer = Option (Plain × List ℕ × List ℕ)

path_of : Answer → Plain
path_of None = plain.Next
path_of (Some x) = x.0

stack_of : Answer → List ℕ
stack_of None = []
stack_of (Some x) = x.1

numbers_of : Answer → List ℕ
numbers_of None = []
numbers_of (Some x) = x.2

same_path : (o u : Plain) (a b m n : List ℕ) → ◌≡◌ {A = Answer} (Some (o, a, m)) (Some (u, b, n)) → o ≡ u
unfolding path_of
same_path o u a b m n h = ap path_of h

same_stack : (o u : Plain) (a b m n : List ℕ) → ◌≡◌ {A = Answer} (Some (o, a, m)) (Some (u, b, n)) → a ≡ b
unfolding stack_of
same_stack o u a b m n h = ap stack_of h

same_numbers : (o u : Plain) (a b m n : List ℕ) → ◌≡◌ {A = Answer} (Some (o, a, m)) (Some (u, b, n)) → m ≡ n
unfolding numbers_of
same_numbers o u a b m n h = ap numbers_of h

-- the depth at the end of a path
depth_at_end : (code : Listing) (place : ℕ) (path : Plain) (depth : ℕ) (P : ℕ → Type 0) → LeadsInside code.instrs place path depth → AtEnd P place path → depth_at code.instrs (end_of_path place path) ≡ Some depth
depth_at_end code place plain.Next depth P h end = h.words
depth_at_end code place (plain.Skip n) depth P h end = h.words
depth_at_end code place (plain.Back n) depth P h end = h.1.words
depth_at_end code place (plain.Trap trap line) depth P h end = absurd end

at_end : (place : ℕ) (path : Plain) (P : ℕ → Type 0) → AtEnd P place path → P (end_of_path place path)
at_end place plain.Next P end = end
at_end place (plain.Skip n) P end = end
at_end place (plain.Back n) P end = end.1
at_end place (plain.Trap trap line) P end = absurd end

quiet_at_end : (place : ℕ) (path : Plain) (P : ℕ → Type 0) (e : Event) → AtEnd P place path → PathIsSeen path e → e ≡ event.Quiet
quiet_at_end place plain.Next P e end seen = seen
quiet_at_end place (plain.Skip n) P e end seen = seen
quiet_at_end place (plain.Back n) P e end seen = seen
quiet_at_end place (plain.Trap trap line) P e end seen = absurd end

no_return_test : (i : Instr) → IsReturn i → LooksAtSlots i → ⊥
no_return_test (instr.TestNull variable equal) r h = r
no_return_test (instr.LoadBuffer slot line) r h = r
no_return_test (instr.StoreBuffer type slot line) r h = r
no_return_test i r h = h

-- a number of words with room for a test of NULL
pub few_words : (variable : NullableVariable) (equal : Bool) (n : ℕ) → IsSome (depth_after (instr.TestNull variable equal) n) → n < 64
few_words variable equal n h = by_test (nat_lt n 64) refl h
  where
    by_test : (b : Bool) → nat_lt n 64 ≡ b → IsSome (if b then Some (suc n) else None) → n < 64
    by_test true e k = ltb-true n 64 e
    by_test false e k = absurd (cc (k))

-- one word more than this number
one_more : (n : ℕ) → IsSome (depth_after (instr.Push 0) n) → depth_after (instr.Push 0) n ≡ Some (suc n)
one_more n h = by_test (nat_lt n 64) h
  where
    by_test : (b : Bool) → IsSome (if b then Some (suc n) else None) → (if b then Some (suc n) else None) ≡ Some (suc n)
    by_test true k = refl
    by_test false k = absurd (cc (k))

-- NULL in a variable changes no owner
null_shows : (code : Listing) (known : Known) (visible : Visible) (slots : Slots) (v : NullableVariable) → Shows code known visible (lower.with_null v slots)
    → Shows code known visible (record { numbers = (lower.with_null v slots).numbers; references = (lower.with_null v slots).references; owners = slots.owners; fields = (lower.with_null v slots).fields; buffers = (lower.with_null v slots).buffers })
null_shows code known visible slots (nullable.Local i) h = h
null_shows code known visible slots (nullable.Static i) h = h
null_shows code known visible slots (nullable.FieldId i) h = h
null_shows code known visible slots (nullable.Buffer i) h = h

-- An instruction that isn't plain has one of these effects.
module _ (p : Lowered) (classes : Classes) (space : Space) (copies : List (Option OwnedNumbers)) (k : ℕ) (call : Activation) (code : Listing) (visible : Visible) (frames : List source.Frame) (task : Task) (rest : List Task) (r : Ready p classes space copies k call code visible frames task rest) (possible : effect_of visible.sight task ≢ NoEffect)
    (i : Instr) (at : slice_get code.instrs call.place ≡ Some i) where
  abbrev slots : Slots
  slots = slots_of call r.meant

  pub other_cases : (P : Effect → Type 0) → (IsPlain i → ⊥) → (LooksAtSlots i → (tasks : List Task) → GoesOn code r.known call.place call.stack slots visible (tasks ++ rest) → P (Becomes tasks))
      → ((target : Target) (h : StoresNull code r.known call.place call.stack slots visible target rest) → i ≡ instr.StoreNull h.variable → P (SetsNull target))
      → ((x : Identifier) (j : ℕ) (z : ℤ) (h : WritesBuffer code r.known call.place call.stack slots visible x j z rest) → i ≡ instr.StoreBuffer (element_of h.type) h.slot h.line → P (SetsElement x j z))
      → ((z : ℤ) → PrintsTop code r.known call.place call.stack slots visible z rest → i ≡ instr.PutJint → P (Prints z))
      → ((line : ℕ) (target : Target) (f : JniFunction) (args : List Actual) (h : CallsFunction code r.known call.place call.stack slots visible line target f args rest) → i ≡ instr.Call h.call → P (Calls line target f args))
      → (IsReturn i → (given : CallResult) → P (effects.Returns given))
      → (LooksAtSlots i → (reason : Trap) (line : ℕ) (h : Stops code r.known call.place call.stack slots visible reason line) → Works visible slots i call.stack (plain.Trap h.trap line) call.stack → P (TrapsAt reason line))
      → P (effect_of visible.sight task)
  other_cases P not_plain becomes nulls stores prints calls returns traps =
      does_cases code r.known call.place call.stack slots visible rest (λ e. e ≢ NoEffect → P e)
      (λ tasks h some. becomes (looks i not_plain h.path h.after (works_here h.here h.path h.after h.at h.works)) tasks h)
      (λ x v h some. absurd (writes (IsSet visible x v) h))
      (λ target h some. nulls target h (cc (at, h.at)))
      (λ x j z t a h some. absurd (writes (IsElementSet visible t x j z) h))
      (λ x j z h some. stores x j z h (cc (at, h.at)))
      (λ t x n h some. absurd (writes (IsMade visible t x n) h))
      (λ z h some. prints z h (cc (at, h.at)))
      (λ line target f args h some. calls line target f args h (cc (at, h.at)))
      (λ h given some. let same : h.here ≡ i = cc (at, h.at) in returns (subst IsReturn same h.returns) given)
      (λ trap line h some. let works = works_here h.here (plain.Trap h.trap line) call.stack h.at h.works in traps (looks i not_plain (plain.Trap h.trap line) call.stack works) trap line h works)
      (λ some. absurd (some refl))
      (effect_of visible.sight task) r.does possible
    where
      writes : (changed : Visible → Type 0) → Writes code r.known call.place call.stack slots visible changed rest → ⊥
      writes changed h =
          let same : h.here ≡ i = cc (at, h.at) in
          not_plain (plain_instr i call.stack slots.numbers _ (subst (λ (j : Instr). plain_of j call.stack slots.numbers ≡ Some (plain.Next, [], h.numbers)) same h.plain))

      works_here : (j : Instr) (path : Plain) (after : List ℕ) → slice_get code.instrs call.place ≡ Some j → Works visible slots j call.stack path after → Works visible slots i call.stack path after
      works_here j path after there works = let same : j ≡ i = cc (at, there) in subst (λ (g : Instr). Works visible slots g call.stack path after) same works

      looks : (j : Instr) → (IsPlain j → ⊥) → (path : Plain) (after : List ℕ) → Works visible slots j call.stack path after → LooksAtSlots j
      looks (instr.TestNull variable equal) n path after w = tt
      looks (instr.LoadBuffer slot line) n path after w = tt
      looks (instr.StoreBuffer type slot line) n path after w = tt
      looks j n path after w = absurd (n (plain_instr j call.stack slots.numbers (path, after, slots.numbers) w))

  -- the variable that is made NULL has its slot
  pub slot_there : (variable : NullableVariable) (statics : ℕ) → i ≡ instr.StoreNull variable → length visible.statics ≡ statics → HasSlot (length call.slots.references.items) (length call.slots.fields.items) (length call.slots.buffers.items) statics variable
  slot_there (nullable.Local j) statics is same =
      let within : within_slots code.slots (instr.StoreNull (nullable.Local j)) ≡ true = subst (λ (h : Instr). IsTrue (within_slots code.slots h)) is (runs p classes space copies k call code visible frames task rest r i at).slots in
      let below : j < code.slots.references = ltb-true j code.slots.references within in
      omega (arith, below, keys_count space call.locals call.slots.references.items r.meant.references r.meant.owners r.holds.keys, r.shows.references)
  slot_there (nullable.FieldId j) statics is same =
      let within : within_slots code.slots (instr.StoreNull (nullable.FieldId j)) ≡ true = subst (λ (h : Instr). IsTrue (within_slots code.slots h)) is (runs p classes space copies k call code visible frames task rest r i at).slots in
      let below : j < code.slots.field_ids = ltb-true j code.slots.field_ids within in
      omega (arith, below, fields_count (unit_tree p.unit) classes call.slots.fields.items r.meant.fields r.holds.fields, r.shows.fields)
  slot_there (nullable.Buffer j) statics is same =
      let within : within_slots code.slots (instr.StoreNull (nullable.Buffer j)) ≡ true = subst (λ (h : Instr). IsTrue (within_slots code.slots h)) is (runs p classes space copies k call code visible frames task rest r i at).slots in
      let below : j < code.slots.buffers = ltb-true j code.slots.buffers within in
      omega (arith, below, buffers_count space copies k call.slots.buffers.items r.meant.buffers r.holds.buffers, r.shows.buffers)
  slot_there (nullable.Static j) statics is same =
      other_cases (λ effect. j < statics) (λ plain. subst IsPlain is plain) (λ test tasks h. absurd (subst LooksAtSlots is test))
      (λ target h met.
      let variable : h.variable ≡ nullable.Static j = let both : instr.StoreNull h.variable ≡ instr.StoreNull (nullable.Static j) = sym met ∙ is in cc in
      let stored = subst (λ (v : NullableVariable). IsStoredIn code r.known call.place call.stack slots visible v (kind_of_target code r.known call.place call.stack slots visible target) h.name) variable h.stored in
      omega (arith, same, place_below h.name visible.statics j stored.1.static.place))
      (λ x n z h met. absurd (let both : instr.StoreBuffer (element_of h.type) h.slot h.line ≡ instr.StoreNull (nullable.Static j) = sym met ∙ is in cc))
      (λ z h met. absurd (let both : instr.PutJint ≡ instr.StoreNull (nullable.Static j) = sym met ∙ is in cc))
      (λ line target f args h met. absurd (let both : instr.Call h.call ≡ instr.StoreNull (nullable.Static j) = sym met ∙ is in cc))
      (λ returns. absurd (subst IsReturn is returns))
      (λ test reason line h works. absurd (subst LooksAtSlots is test))

  -- a call's instruction calls the function of the first task
  pub call_cases : (function : Call) → i ≡ instr.Call function → (P : Effect → Type 0)
      → ((line : ℕ) (target : Target) (f : JniFunction) (args : List Actual) → CallsFunction code r.known call.place call.stack slots visible line target f args rest → P (Calls line target f args))
      → P (effect_of visible.sight task)
  call_cases function is P calls =
      other_cases P (λ plain. subst IsPlain is plain) (λ test tasks h. absurd (subst LooksAtSlots is test)) (λ target h same. absurd (let both : instr.StoreNull h.variable ≡ instr.Call function = sym same ∙ is in cc))
      (λ x n z h same. absurd (let both : instr.StoreBuffer (element_of h.type) h.slot h.line ≡ instr.Call function = sym same ∙ is in cc))
      (λ z h same. absurd (let both : instr.PutJint ≡ instr.Call function = sym same ∙ is in cc)) (λ line target f args h same. calls line target f args h) (λ returns. absurd (subst IsReturn is returns))
      (λ test reason line h works. absurd (subst LooksAtSlots is test))

-- ---- what an instruction did

module _ (p : Lowered) (w : World) (store : Store) (others : Acquired) (k owner : ℕ) (own : Owners) (shared : Shared) (s : source.Thread) (shares : StoreAgrees p w store shared (beside others (acquired_by s))) (pending : Option ℕ) (pends : ReferenceAgrees store.heap pending s.pending) (call : Activation) (code : Listing) (task : Task) (rest : List Task)
    (r : Ready p w.classes store.heap store.elements owner call code (visible_to own shared s) s.frames task rest) (tasks_are : s.tasks ≡ Some (task ∷ rest)) (views : AreViewed store.heap call.slots.buffers.items s) (steady : IsSteady (unit_tree p.unit) w.classes own shared s) (i : Instr) (at : slice_get code.instrs call.place ≡ Some i) where
  abbrev classes : Classes
  classes = w.classes

  abbrev space : Space
  space = store.heap

  abbrev seen : Visible
  seen = visible_to own shared s

  abbrev held : Slots
  held = slots_of call r.meant

  -- the task has an effect
  pub possible_here : effect_of (sight_of shared s) task ≢ NoEffect
  possible_here e = steady.possible (task ∷ rest) tasks_are (ap (next_effect shared s) tasks_are ∙ e)

  -- An effect of a step that breaks nothing: an element that it sets is there, and a variable that it sets as a whole holds no buffer.
  abbrev Allowed : Effect → Type 0
  Allowed effect = SetsWhatIsThere seen.sight effect × ((x : Identifier) → SetsWhole x effect → HoldsNoBuffer (lookup x s.variables)) × (effect ≢ NoEffect)

  allowed_here : Allowed (effect_of seen.sight task)
  allowed_here = (sets_what_is_there seen.sight task, λ x h. steady.free x (subst (SetsWhole x) (sym (ap (next_effect shared s) tasks_are)) h), possible_here)

  -- an instruction on the stack and the number slots alone
  module _ (after : Activation) (e : Event) (path : Plain) (stack numbers : List ℕ) (is : plain_of i call.stack call.slots.numbers.items ≡ Some (path, stack, numbers))
      (m : HasMoved call after (end_of_path call.place path) stack (record (values_in call) { numbers = numbers })) (path_seen : PathIsSeen path e) where
    becomes : IsPlain i → (tasks : List Task) → GoesOn code r.known call.place call.stack held seen (tasks ++ rest) → agrees.GoesOn p w store store others k owner own shared s rest after pending (Becomes tasks) false e
    becomes works tasks h =
        let same : h.here ≡ i = cc (h.at, at) in
        let plain_is : plain_of i call.stack call.slots.numbers.items ≡ Some (h.path, h.after, call.slots.numbers.items) = plain_works seen held i call.stack h.path h.after works (subst (λ (j : Instr). Works seen held j call.stack h.path h.after) same h.works) in
        let path_is : h.path ≡ path = same_path _ _ _ _ _ _ (sym plain_is ∙ is) in
        let after_is : h.after ≡ stack = same_stack _ _ _ _ _ _ (sym plain_is ∙ is) in
        let numbers_are : call.slots.numbers.items ≡ numbers = same_numbers _ _ _ _ _ _ (sym plain_is ∙ is) in
        let end : AtEnd (λ q. StandsFor code h.names q stack (tasks ++ rest)) call.place path =
        subst (λ (u : Plain). AtEnd (λ q. StandsFor code h.names q stack (tasks ++ rest)) call.place u) path_is (subst (λ (st : List ℕ). AtEnd (λ q. StandsFor code h.names q st (tasks ++ rest)) call.place h.path) after_is h.stands) in
        let next : source.Thread = with_tasks s (tasks ++ rest) in
        record {
          next = next;
          steps = ap (λ (v : Event). source.Advances shared next v) (sym (quiet_at_end call.place path (λ q. StandsFor code h.names q stack (tasks ++ rest)) e end path_seen));
          work = stands_at p classes space store.elements owner call code seen s.frames task rest r after (end_of_path call.place path) stack (record (values_in call) { numbers = numbers }) r.meant h.names (visible_to own shared next) (tasks ++ rest)
              (depth_at_end code call.place path (length stack) (λ q. StandsFor code h.names q stack (tasks ++ rest)) (leads p classes space store.elements owner call code seen s.frames task rest r i at path stack numbers is) end) m (holds_with p classes space store.elements owner call code seen s.frames task rest r numbers)
              (at_end call.place path (λ q. StandsFor code h.names q stack (tasks ++ rest)) end)
              (subst (λ (ns : List ℕ). Shows code h.names (visible_to own shared next) (record { numbers = ns; references = r.meant.references; owners = r.meant.owners; fields = r.meant.fields; buffers = r.meant.buffers })) numbers_are h.shows);
          next_shared = shared;
          store_agrees = shares;
          keeps = keeps_same space shared;
          keeps_copies = λ key c there other. there;
          views = subst (λ (l : List HeldBuffer). AreViewed space l s) (sym m.buffers) views;
          pending_agrees = pends;
          calls = refl;
          callers = refl;
          ending = refl;
          short = λ e. absurd (cc);
        }

    writes : (did : Effect) (changed : Visible → Type 0) → Writes code r.known call.place call.stack held seen changed rest → (vs : _) → after_effect (unit_tree p.unit) classes (in_use_with others s) k shared s rest did ≡ source.Advances shared (record s { tasks = Some rest; variables = vs }) event.Quiet
        → changed (visible_to own shared (record s { tasks = Some rest; variables = vs })) → taken_by vs ≡ taken_by s.variables → owners_left (unit_tree p.unit) classes k shared s did own e vs ≡ own → agrees.GoesOn p w store store others k owner own shared s rest after pending did false e
    writes did changed h vs steps shown taken left =
        let same : h.here ≡ i = cc (h.at, at) in
        let plain_is : plain_of i call.stack call.slots.numbers.items ≡ Some (plain.Next, [], h.numbers) = subst (λ (j : Instr). plain_of j call.stack call.slots.numbers.items ≡ Some (plain.Next, [], h.numbers)) same h.plain in
        let path_is : path ≡ plain.Next = same_path _ _ _ _ _ _ (sym is ∙ plain_is) in
        let after_is : [] ≡ stack = same_stack _ _ _ _ _ _ (sym plain_is ∙ is) in
        let numbers_are : h.numbers ≡ numbers = same_numbers _ _ _ _ _ _ (sym plain_is ∙ is) in
        let quiet : e ≡ event.Quiet = subst (λ (w : Plain). PathIsSeen w e) path_is path_seen in
        let next : source.Thread = record s { tasks = Some rest; variables = vs } in
        let end : LeadsInside code.instrs call.place plain.Next (length stack) = subst (λ (w : Plain). LeadsInside code.instrs call.place w (length stack)) path_is (leads p classes space store.elements owner call code seen s.frames task rest r i at path stack numbers is) in
        record {
          next = next;
          steps = steps ∙ ap (λ (v : Event). source.Advances shared next v) (sym quiet);
          work = subst (λ (o : Owners). CallStands p classes space store.elements owner after (visible_to o shared next) s.frames rest) (sym left)
              (stands_at p classes space store.elements owner call code seen s.frames task rest r after (call.place + 1) stack (record (values_in call) { numbers = numbers }) r.meant h.names (visible_to own shared next) rest end.words
              (subst (λ (w : Plain). HasMoved call after (end_of_path call.place w) stack (record (values_in call) { numbers = numbers })) path_is m) (holds_with p classes space store.elements owner call code seen s.frames task rest r numbers)
              (subst (λ (st : List ℕ). StandsFor code h.names (call.place + 1) st rest) after_is h.stands)
              (subst (λ (ns : List ℕ). Shows code h.names (visible_to own shared next) (record { numbers = ns; references = r.meant.references; owners = r.meant.owners; fields = r.meant.fields; buffers = r.meant.buffers })) numbers_are (h.shows (visible_to own shared next) shown)));
          next_shared = shared;
          store_agrees = store_same p w store shared others s.variables vs taken shares;
          keeps = keeps_same space shared;
          keeps_copies = λ key c there other. there;
          views = λ n. let same : times n (viewed_in space after.slots.buffers.items) ≡ times n (viewed_in space call.slots.buffers.items) = ap (λ (l : List HeldBuffer). times n (viewed_in space l)) m.buffers in
              omega (arith, same, views n, ap (λ (a : Acquired). times n a.viewed) taken);
          pending_agrees = pends;
          calls = refl;
          callers = refl;
          ending = refl;
          short = λ e. absurd (cc);
        }

    traps : IsPlain i → (reason : Trap) (line : ℕ) → Stops code r.known call.place call.stack held seen reason line → agrees.GoesOn p w store store others k owner own shared s rest after pending (TrapsAt reason line) false e
    traps works reason line h =
        let same : h.here ≡ i = cc (h.at, at) in
        let plain_is : plain_of i call.stack call.slots.numbers.items ≡ Some (plain.Trap h.trap line, call.stack, call.slots.numbers.items) = plain_works seen held i call.stack (plain.Trap h.trap line) call.stack works (subst (λ (j : Instr). Works seen held j call.stack (plain.Trap h.trap line) call.stack) same h.works) in
        let path_is : path ≡ plain.Trap h.trap line = same_path _ _ _ _ _ _ (sym is ∙ plain_is) in
        let after_is : call.stack ≡ stack = same_stack _ _ _ _ _ _ (sym plain_is ∙ is) in
        let numbers_are : call.slots.numbers.items ≡ numbers = same_numbers _ _ _ _ _ _ (sym plain_is ∙ is) in
        let seen_trap : PathIsSeen (plain.Trap h.trap line) e = subst (λ (w : Plain). PathIsSeen w e) path_is path_seen in
        let trap_is : reason ≡ seen_trap.0 = sym h.is ∙ sym seen_trap.1 in
        let stands : CallStands p classes space store.elements owner after seen s.frames (task ∷ rest) =
        stands_at p classes space store.elements owner call code seen s.frames task rest r after call.place stack (record (values_in call) { numbers = numbers }) r.meant r.known seen (task ∷ rest) (r.depth ∙ ap (λ (st : List ℕ). Some (length st)) after_is)
        (subst (λ (w : Plain). HasMoved call after (end_of_path call.place w) stack (record (values_in call) { numbers = numbers })) path_is m) (holds_with p classes space store.elements owner call code seen s.frames task rest r numbers)
        (subst (λ (st : List ℕ). StandsFor code r.known call.place st (task ∷ rest)) after_is r.stands)
        (subst (λ (ns : List ℕ). Shows code r.known seen (record { numbers = ns; references = r.meant.references; owners = r.meant.owners; fields = r.meant.fields; buffers = r.meant.buffers })) numbers_are r.shows) in
        record {
          next = s;
          steps = ap (λ (t : Trap). source.Advances shared s (event.Trapped t line)) trap_is ∙ ap (λ (v : Event). source.Advances shared s v) (sym seen_trap.2);
          work = subst (λ (o : Option (List Task)). WorkAgrees p classes space store.elements owner seen (Some after) s.frames o) (sym tasks_are) stands;
          next_shared = shared;
          store_agrees = shares;
          keeps = keeps_same space shared;
          keeps_copies = λ key c there other. there;
          views = subst (λ (l : List HeldBuffer). AreViewed space l s) (sym m.buffers) views;
          pending_agrees = pends;
          calls = refl;
          callers = refl;
          ending = refl;
          short = λ e. absurd (cc);
        }

    sets_element : (x : Identifier) (j : ℕ) (z : ℤ) (t : ElementType) → seen.array_type x ≡ Some t → Writes code r.known call.place call.stack held seen (IsElementSet seen t x j z) rest → SetsWhatIsThere seen.sight (SetsElement x j z)
        → agrees.GoesOn p w store store others k owner own shared s rest after pending (SetsElement x j z) false e
    sets_element x j z t type h there =
        let array = array_of (lookup x s.variables) t type in
        let v : Variable = LocalArray t (slice_set array.0 j (convert t z)) in
        writes (SetsElement x j z) (IsElementSet seen t x j z) h (assign x v s.variables) (ap (set_element shared (with_tasks s rest) x j z) array.1)
        (is_element_set own own shared s (record s { tasks = Some rest; variables = assign x v s.variables }) x (λ y other. refl) t array.0 j z there.0 array.1 there.1 refl) (assigned_same x v s.variables (sym (ap copied_there array.1)) (sym (ap viewed_there array.1))) refl

    pub plain_executes : Executes p w store store others k owner own shared s rest after pending (effect_of (sight_of shared s) task) (Did e)
    plain_executes =
        let works : IsPlain i = plain_instr i call.stack call.slots.numbers.items (path, stack, numbers) is in
        does_cases code r.known call.place call.stack held seen rest (λ effect. Allowed effect → Executes p w store store others k owner own shared s rest after pending effect (Did e))
        (λ tasks h allowed. becomes works tasks h)
        (λ x v h allowed. writes (Sets x v) (IsSet seen x v) h (assign x (Scalar v) s.variables) refl (is_set own own shared s (record s { tasks = Some rest; variables = assign x (Scalar v) s.variables }) x (λ y other. refl) v refl) (assigned_nothing x (Scalar v) s.variables refl refl (allowed.1 x refl)) refl)
        (λ target h. absurd (let same : i ≡ instr.StoreNull h.variable = cc (at, h.at) in subst IsPlain same works))
        (λ x j z t type h allowed. sets_element x j z t type h allowed.0)
        (λ x j z h. absurd (let same : i ≡ instr.StoreBuffer (element_of h.type) h.slot h.line = cc (at, h.at) in subst IsPlain same works))
        (λ t x n h allowed. let v : Variable = LocalArray t (replicate n (pos 0)) in writes (MakesArray t x n) (IsMade seen t x n) h (assign x v s.variables) refl (is_made own own shared s (record s { tasks = Some rest; variables = assign x v s.variables }) x (λ y other. refl) t n refl) (assigned_nothing x v s.variables refl refl (allowed.1 x refl)) refl)
        (λ z h. absurd (let same : i ≡ instr.PutJint = cc (at, h.at) in subst IsPlain same works))
        (λ line target f args h. absurd (let same : i ≡ instr.Call h.call = cc (at, h.at) in subst IsPlain same works))
        (λ h. absurd (no_return i (let same : h.here ≡ i = cc (at, h.at) in subst IsReturn same h.returns) works))
        (λ reason line h allowed. traps works reason line h)
        (λ allowed. absurd (allowed.2 refl))
        (effect_of seen.sight task) r.does allowed_here

  -- a test of NULL
  pub test_executes : (variable : NullableVariable) (equal : Bool) (after : Activation) → i ≡ instr.TestNull variable equal → HasMoved call after (call.place + 1) (truth_word (beq (is_null (references_of store call) call.slots.fields.items call.slots.buffers.items variable) equal) ∷ call.stack) (values_in call)
      → Executes p w store store others k owner own shared s rest after pending (effect_of (sight_of shared s) task) (Did event.Quiet)
  test_executes variable equal after is m =
      other_cases p classes space store.elements owner call code seen s.frames task rest r possible_here i at (λ effect. Executes p w store store others k owner own shared s rest after pending effect (Did event.Quiet)) (λ plain. subst IsPlain is plain)
      (λ test tasks h. goes tasks h)
      (λ target h same. absurd (let both : instr.StoreNull h.variable ≡ instr.TestNull variable equal = sym same ∙ is in cc))
      (λ x n z h same. absurd (let both : instr.StoreBuffer (element_of h.type) h.slot h.line ≡ instr.TestNull variable equal = sym same ∙ is in cc))
      (λ z h same. absurd (let both : instr.PutJint ≡ instr.TestNull variable equal = sym same ∙ is in cc))
      (λ line target f args h same. absurd (let both : instr.Call h.call ≡ instr.TestNull variable equal = sym same ∙ is in cc))
      (λ returns. absurd (subst IsReturn is returns))
      (λ test reason line h works. absurd (let v = subst (λ (j : Instr). Works seen held j call.stack (plain.Trap h.trap line) call.stack) is works in let clash : plain.Trap h.trap line ≡ plain.Next = v.2 in cc))
    where
      goes : (tasks : List Task) → GoesOn code r.known call.place call.stack held seen (tasks ++ rest) → agrees.GoesOn p w store store others k owner own shared s rest after pending (Becomes tasks) false event.Quiet
      goes tasks h =
          let same : h.here ≡ instr.TestNull variable equal = cc (h.at, at, is) in
          let v = subst (λ (j : Instr). Works seen held j call.stack h.path h.after) same h.works in
          let null : is_null (references_of store call) call.slots.fields.items call.slots.buffers.items variable ≡ v.0 = variable_null_agrees (unit_tree p.unit) classes space store.elements owner (references_of store call) call.slots.fields.items call.slots.buffers.items seen held variable v.0 r.holds.keys shares.statics r.holds.fields r.holds.buffers v.1 in
          let words : h.after ≡ truth_word (beq (is_null (references_of store call) call.slots.fields.items call.slots.buffers.items variable) equal) ∷ call.stack = v.3 ∙ ap (λ (b : Bool). truth_word (beq b equal) ∷ call.stack) (sym null) in
          let next : source.Thread = with_tasks s (tasks ++ rest) in
          let stack : List ℕ = truth_word (beq (is_null (references_of store call) call.slots.fields.items call.slots.buffers.items variable) equal) ∷ call.stack in
          let end : StandsFor code h.names (call.place + 1) stack (tasks ++ rest) =
          subst (λ (u : Plain). AtEnd (λ q. StandsFor code h.names q stack (tasks ++ rest)) call.place u) v.2 (subst (λ (st : List ℕ). AtEnd (λ q. StandsFor code h.names q st (tasks ++ rest)) call.place h.path) words h.stands) in
          record {
            next = next;
            steps = refl;
            work = stands_at p classes space store.elements owner call code seen s.frames task rest r after (call.place + 1) stack (values_in call) r.meant h.names (visible_to own shared next) (tasks ++ rest)
                (depth_behind p classes space store.elements owner call code seen s.frames task rest r i at (length stack) (λ leaves. subst Leaves is leaves)
                (ap (λ (j : Instr). depth_after j (length call.stack)) is ∙ one_more (length call.stack) (subst (λ (j : Instr). IsSome (depth_after j (length call.stack))) is (room p classes space store.elements owner call code seen s.frames task rest r i at)))) m r.holds end h.shows;
            next_shared = shared;
            store_agrees = shares;
            keeps = keeps_same space shared;
            keeps_copies = λ key c there other. there;
            views = subst (λ (l : List HeldBuffer). AreViewed space l s) (sym m.buffers) views;
            pending_agrees = pends;
            calls = refl;
            callers = refl;
            ending = refl;
            short = λ e. absurd (cc);
          }

  -- NULL is stored
  pub store_executes : (variable : NullableVariable) (after : Activation) (statics : Vec StaticReference) → i ≡ instr.StoreNull variable → statics.items ≡ nulled_statics variable store.statics.items → HasMoved call after (call.place + 1) call.stack (nulled_slots variable (values_in call))
      → Executes p w store (record store { statics = statics }) others k owner own shared s rest after pending (effect_of (sight_of shared s) task) (Did event.Quiet)
  store_executes variable after statics is nulled_are m =
      other_cases p classes space store.elements owner call code seen s.frames task rest r possible_here i at (λ effect. Allowed effect → Executes p w store (record store { statics = statics }) others k owner own shared s rest after pending effect (Did event.Quiet)) (λ plain. subst IsPlain is plain)
      (λ test tasks h. absurd (subst LooksAtSlots is test))
      (λ target h same allowed. stores target h allowed.1 (let both : instr.StoreNull h.variable ≡ instr.StoreNull variable = sym same ∙ is in cc))
      (λ x n z h same. absurd (let both : instr.StoreBuffer (element_of h.type) h.slot h.line ≡ instr.StoreNull variable = sym same ∙ is in cc))
      (λ z h same. absurd (let both : instr.PutJint ≡ instr.StoreNull variable = sym same ∙ is in cc))
      (λ line target f args h same. absurd (let both : instr.Call h.call ≡ instr.StoreNull variable = sym same ∙ is in cc))
      (λ returns. absurd (subst IsReturn is returns))
      (λ test reason line h works. absurd (subst LooksAtSlots is test))
      allowed_here
    where
      stores : (target : Target) (h : StoresNull code r.known call.place call.stack held seen target rest) → ((x : Identifier) → SetsWhole x (SetsNull target) → HoldsNoBuffer (lookup x s.variables)) → h.variable ≡ variable → agrees.GoesOn p w store (record store { statics = statics }) others k owner own shared s rest after pending (SetsNull target) false event.Quiet
      stores target h free same =
          let kind = kind_of_target code r.known call.place call.stack held seen target in
          let null = puts_null own shared s rest code r.known call.place call.stack held target h.name h.is h.takes free in
          let next : source.Thread = record s { tasks = Some rest; variables = null.variables } in
          let now : Shared = record shared { statics = lower.nulled_statics kind h.name shared.statics } in
          let stored = subst (λ (v : NullableVariable). IsStoredIn code r.known call.place call.stack held seen v kind h.name) same h.stored in
          let nulled = nulled_agree (unit_tree p.unit) classes space store.elements owner call.locals call.slots.references.items call.slots.fields.items call.slots.buffers.items held variable r.holds.keys r.holds.fields r.holds.buffers r.holds.small in
          let m' : HasMoved call after (call.place + 1) [] (record (nulled_slots variable (values_in call)) { numbers = (lower.with_null variable held).numbers }) =
          record { function = m.function; place = m.place; stack = m.stack ∙ h.empty; numbers = m.numbers ∙ sym nulled.numbers; references = m.references; fields = m.fields; buffers = m.buffers; locals = m.locals } in
          record {
            next = next;
            steps = null.steps;
            work = stands_at p classes space store.elements owner call code seen s.frames task rest r after (call.place + 1) [] (record (nulled_slots variable (values_in call)) { numbers = (lower.with_null variable held).numbers }) (record r.meant { references = (lower.with_null variable held).references; fields = (lower.with_null variable held).fields; buffers = (lower.with_null variable held).buffers }) h.names (visible_to own now next) rest
                (depth_behind p classes space store.elements owner call code seen s.frames task rest r i at 0 (λ leaves. subst Leaves is leaves) (ap (λ (j : Instr). depth_after j (length call.stack)) is ∙ ap (λ (st : List ℕ). Some (length st)) h.empty)) m' (record { keys = nulled.references; fields = nulled.fields; buffers = nulled.buffers_agree; small = nulled.small }) h.stands
                (null_shows code h.names (visible_to own now next) held variable (subst (λ (v : NullableVariable). Shows code h.names (visible_to own now next) (lower.with_null v held)) same (h.shows (visible_to own now next) null.nulled)));
            next_shared = now;
            store_agrees = store_same p w (record store { statics = statics }) now others s.variables null.variables null.taken (store_nulled p w store shared (beside others (acquired_by s)) shares own code r.known call.place call.stack held s statics h.name variable kind stored nulled_are);
            keeps = keeps_but_statics p w store shared (beside others (acquired_by s)) shares now.statics shared.globals (may_be_nulled kind h.name shared.statics);
            keeps_copies = λ key c there other. there;
            views = λ n. let same : times n (viewed_in space after.slots.buffers.items) ≡ times n (viewed_in space (nulled_buffers variable call.slots.buffers.items)) = ap (λ (l : List HeldBuffer). times n (viewed_in space l)) m.buffers in
                omega (arith, same, views_nulled space call.slots.buffers.items variable n, views n, ap (λ (a : Acquired). times n a.viewed) null.taken);
            pending_agrees = pends;
            calls = refl;
            callers = refl;
            ending = refl;
            short = λ e. absurd (cc);
          }

  -- a print
  pub put_executes : (word : ℕ) (after : Activation) (stack : List ℕ) → i ≡ instr.PutJint → call.stack ≡ word ∷ stack → HasMoved call after (call.place + 1) stack (values_in call)
      → Executes p w store store others k owner own shared s rest after pending (effect_of (sight_of shared s) task) (Did (event.PrintedNumber (cast_signed w32 word)))
  put_executes word after stack put top m =
      other_cases p classes space store.elements owner call code seen s.frames task rest r possible_here i at (λ effect. Executes p w store store others k owner own shared s rest after pending effect (Did (event.PrintedNumber (cast_signed w32 word)))) (λ plain. subst IsPlain put plain)
      (λ test tasks h. absurd (subst LooksAtSlots put test))
      (λ target h same. absurd (let both : instr.StoreNull h.variable ≡ instr.PutJint = sym same ∙ put in cc))
      (λ x n z h same. absurd (let both : instr.StoreBuffer (element_of h.type) h.slot h.line ≡ instr.PutJint = sym same ∙ put in cc))
      (λ z h same. prints z h)
      (λ line target f args h same. absurd (let both : instr.Call h.call ≡ instr.PutJint = sym same ∙ put in cc))
      (λ returns. absurd (subst IsReturn put returns))
      (λ test reason line h works. absurd (subst LooksAtSlots put test))
    where
      prints : (z : ℤ) → PrintsTop code r.known call.place call.stack held seen z rest → agrees.GoesOn p w store store others k owner own shared s rest after pending (Prints z) false (event.PrintedNumber (cast_signed w32 word))
      prints z h =
          let words : word ≡ h.word = cc (top, h.top) in
          let nothing : [] ≡ stack = cc (top, h.top) in
          let number : z ≡ cast_signed w32 word = sym h.is ∙ ap (λ (w : ℕ). cast_signed w32 w) (sym words) in
          record {
            next = with_tasks s rest;
            steps = ap (λ (n : ℤ). source.Advances shared (with_tasks s rest) (event.PrintedNumber n)) number;
            work = stands_at p classes space store.elements owner call code seen s.frames task rest r after (call.place + 1) stack (values_in call) r.meant r.known seen rest
                (depth_behind p classes space store.elements owner call code seen s.frames task rest r i at (length stack) (λ leaves. subst Leaves put leaves) (ap (λ (j : Instr). depth_after j (length call.stack)) put ∙ ap (λ (st : List ℕ). depth_after instr.PutJint (length st)) top)) m r.holds
                (subst (λ (st : List ℕ). StandsFor code r.known (call.place + 1) st rest) nothing h.stands) r.shows;
            next_shared = shared;
            store_agrees = shares;
            keeps = keeps_same space shared;
            keeps_copies = λ key c there other. there;
            views = subst (λ (l : List HeldBuffer). AreViewed space l s) (sym m.buffers) views;
            pending_agrees = pends;
            calls = refl;
            callers = refl;
            ending = refl;
            short = λ e. absurd (cc);
          }

  -- a return
  pub return_executes : IsReturn i → (after : Activation) → Executes p w store store others k owner own shared s rest after pending (effect_of (sight_of shared s) task) (Returned (given_by i call))
  return_executes is after =
      other_cases p classes space store.elements owner call code seen s.frames task rest r possible_here i at (λ effect. effect_of (sight_of shared s) task ≡ effect → Executes p w store store others k owner own shared s rest after pending effect (Returned (given_by i call))) (no_return i is)
      (λ test tasks h. absurd (no_return_test i is test))
      (λ target h same. absurd (subst IsReturn same is))
      (λ x n z h same. absurd (subst IsReturn same is))
      (λ z h same. absurd (subst IsReturn same is))
      (λ line target f args h same. absurd (subst IsReturn same is))
      (λ returns given gives. ((given, refl, return_agrees p classes space store.elements owner call code own shared s task rest r i at given (steady.owned task rest tasks_are) gives), shares, refl, pends))
      (λ test reason line h works. absurd (no_return_test i is test)) refl
