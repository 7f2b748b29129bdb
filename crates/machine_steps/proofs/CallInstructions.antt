-- A call that the machine makes does what the source's call does.
use Rattle.std.proofs.Common.{◌≡◌, ◌⊎◌, inl, inr, ℕ, ◌+◌, ◌≤◌, Bool, true, false, List, [], ◌∷◌, length, Option, Some, None, refl, sym, ap, ◌∙◌, subst, arith, length-set}
use Rattle.std.specs.Global.{Vec}
use Rattle.std.specs.Vec.{with_items}
use Rattle.std.proofs.lemmas.List.{with_items_is}
use Rattle.std.specs.Prelude.{slice_get, slice_set, if◌then◌else◌}
use Rattle.heap.specs.Heap.{name_at}
use Rattle.base.specs.Bytes.{Identifier, lookup}
use Rattle.base.specs.declared.element.ElementType.{ElementType}
use Rattle.jni.specs.declared.function.JniFunction.{JniFunction}
use Rattle.jni.specs.declared.function.JniFunction.TheVariants.{GetBuffer}
use Rattle.jni.specs.JniFunction.{prototype}
use Rattle.jni.specs.declared.kinds.ResultKind.{ResultKind}
use Rattle.jni.specs.declared.kinds.ResultKind.TheVariants.{NewLocal, GivesInt, GivesField, GivesMethod, GivesNothing, GivesBuffer}
use Rattle.syntax.specs.Views.{unit_tree}
use Rattle.semantics.specs.Arguments.{Actual, address_given}
use Rattle.semantics.specs.CallEffects.{CallEffect, CallResult}
use Rattle.semantics.specs.CallStep.{call_step, tell_copy, trap_of_call}
use Rattle.semantics.specs.Answer.{Answer as SourceAnswer}
use Rattle.semantics.specs.Checks.{frames_after as source_frames_after}
use Rattle.semantics.specs.Effect.{Calls, Effect, NoEffect, effect_of}
use Rattle.semantics.specs.Object.{sizes}
use Rattle.semantics.specs.Task.{Assigned, Declared, Dropped, Target, Task, Tested}
use Rattle.semantics.specs.Thread as source
use Rattle.semantics.specs.Thread.{BuffersInUse, Shared, sight_of}
use Rattle.semantics.specs.Variable.{LocalRef, Variable, Variables}
use Rattle.semantics.specs.World.{World}
use Rattle.semantics_safety.specs.Owners.{Owners, is_target}
use Rattle.semantics_safety.specs.StepSafe.{HoldsNoBuffer, IsTold, SetsWhole}
use Rattle.code.specs.Call.{Call, call_view}
use Rattle.code.specs.declared.instr.Call.{Call as InMemory}
use Rattle.code.specs.declared.instr.Instr.TheVariants as instr
use Rattle.code.specs.declared.instr.Target.{Target as Destination}
use Rattle.code.specs.declared.instr.Target.TheVariants as destination
use Rattle.code_meaning.specs.Does.{CallsFunction, TakesBuffer, TakesResult}
use Rattle.code_meaning.specs.Layout.{Known}
use Rattle.code_meaning.specs.Lowered.{Lowered}
use Rattle.code_meaning.specs.Slots.{SeesBuffers, Shows, kind_of_variable, visible_to}
use Rattle.code_meaning.specs.Stands.{IsBufferResult, IsStaticResult, StandsFor, number_type}
use Rattle.type_rules.specs.TypeRules.{is_droppable}
use Rattle.code_meaning.proofs.BufferLaws.{sees_buffers}
use Rattle.tables.specs.Locals.{LocalTable, AreStacked}
use Rattle.world_values.specs.SoundWorlds.{IsSound}
use Rattle.machine_scenes.specs.declared.activation.Activation.{Activation}
use Rattle.machine_scenes.specs.declared.activation.Slots.{Slots as SlotsInMemory}
use Rattle.machine_answers.specs.declared.answer.Answer.{Answer}
use Rattle.machine_answers.specs.declared.answer.Answer.TheVariants as answers
use Rattle.machine_answers.specs.declared.answer.Given.{Given}
use Rattle.machine_answers.specs.declared.answer.Given.TheVariants as given
use Rattle.machine_scenes.specs.declared.buffer.Buffer.{Buffer as HeldBuffer}
use Rattle.machine_scenes.specs.declared.buffer.Buffer.TheVariants as held
use Rattle.machine_scenes.specs.Statics.{StaticReference}
use Rattle.machine_scenes.specs.declared.store.Store.{Store}
use Rattle.machine_answers.specs.Answers.{Brought, IsAnswer, effect_told, is_carried}
use Rattle.machine_answers.specs.Asked.{scene_of}
use Rattle.machine_scenes.specs.Buffers.{Acquired, AreViewed, BuffersAgree, acquired_by, beside, gives_up}
use Rattle.machine_calls.specs.CarriedOut.{CarriesOut, CopiesStay, GoesByRoom, IsNewCopy, IsShortOf, buffers_after, frames_left, made_by, pending_after, result_after, shared_after, slots_after, variables_left}
use Rattle.machine_answers.specs.Answered.{IsAnswerTo}
use Rattle.machine_calls.proofs.BufferLaws.{buffers_stay, keeps_others, new_apart}
use Rattle.machine_scenes.proofs.KeyLaws.{fewer_owned, keys_left}
use Rattle.semantics.specs.declared.event.Event.TheVariants as event
use Rattle.machine_steps.specs.Executes.{GoesOn, after_any, in_use_with}
use Rattle.machine_threads.specs.InProgress.{CallStands}
use Rattle.machine_steps.specs.Invoked.{AtCall}
use Rattle.machine_steps.specs.Received.{Receives, numbers_with, statics_with, told_slot, told_with}
use Rattle.machine_threads.specs.SlotsHold.{slots_of}
use Rattle.machine_steps.proofs.Acquisitions.{taken_by}
use Rattle.machine_steps.proofs.AskedCalls.{CalledAs, called as called_at, cells_wanted, effect_is, next_is, r as ready_at, room_after}
use Rattle.machine_steps.proofs.Calls.{Ready, ready, ready_known, ready_owners}
use Rattle.machine_steps.proofs.CallsLeft.{stays_with, step_leaves}
use Rattle.machine_steps.proofs.CarriedSlots.{ShowsLeft, shows_left, views_left}
use Rattle.machine_steps.proofs.CopiedArrays.{AreKept, Copied, Released, kept_or_copied}
use Rattle.machine_steps.proofs.EffectFrames.{left_is}
use Rattle.machine_steps.proofs.Effects.{call_cases}
use Rattle.machine_steps.proofs.GivenBuffers.{gives_buffer, small_given, told_free, told_kind, told_nothing, told_number}
use Rattle.machine_steps.proofs.Invocations.{finishes, going}
use Rattle.machine_steps.proofs.OwnersLeft.{LeavesOwners, brings as brought_in, leaves_owners, left_own as owners_left, of_source as answer_of}
use Rattle.machine_steps.proofs.SlotBuffers.{buffers_count, elements_fit}
use Rattle.machine_steps.proofs.ViewCounts.{views_same, views_stay}

-- ---- slots

-- as many slots are left
pub buffers_long : (answer : Answer) (buffers : List HeldBuffer) → length (buffers_after answer buffers) ≡ length buffers
buffers_long (answers.Releases r) buffers = by_mode (gives_up r.mode)
  where
    by_mode : (b : Bool) → length (if b then slice_set buffers r.slot held.Null else buffers) ≡ length buffers
    by_mode true = length-set buffers r.slot held.Null
    by_mode false = refl
buffers_long answer buffers = refl

told_long : (told : Option ℕ) (g : Given) (numbers : List ℕ) → length (told_with told g numbers) ≡ length numbers
told_long (Some i) (given.Buffer (held.Copy key)) numbers = length-set numbers i 1
told_long (Some i) (given.Buffer (held.View a)) numbers = length-set numbers i 0
told_long told g numbers = refl

-- a vector of them
with_told_is : (told : Option ℕ) (g : Given) (numbers : Vec ℕ) → (with_items numbers (told_with told g numbers.items)).items ≡ told_with told g numbers.items
with_told_is told g numbers = with_items_is numbers (told_with told g numbers.items) (told_long told g numbers.items ∙ sym numbers.ok.0)

-- the slots with the flag for `isCopy`
abbrev told_slots : (told : Option ℕ) (g : Given) (slots : SlotsInMemory) → SlotsInMemory
told_slots told g slots = record slots { numbers = with_items slots.numbers (told_with told g slots.numbers.items) }

-- the call with its result in its place once `isCopy` has been told
told_before : (target : Destination) (kind : ResultKind) (told : Option ℕ) (g : Given) (call after : Activation) → Receives target kind told g call after → Receives target kind None g (record call { slots = told_slots told g call.slots }) after
told_before target kind told g call after h = record {
  function = h.function;
  place = h.place;
  stack = h.stack;
  numbers = h.numbers ∙ ap (numbers_with target g) (sym (with_told_is told g call.slots.numbers));
  key = h.key;
  makes = h.makes;
  references = h.references;
  fields = h.fields;
  buffers = h.buffers;
}

module _ (p : Lowered) (w : World) (store : Store) (pending : Option ℕ) (call : Activation) (in_memory : InMemory) (others : Acquired) (k owner : ℕ) (own : Owners) (shared : Shared) (s : source.Thread) (task : Task) (rest : List Task) (h : AtCall p w store pending call in_memory others k owner own shared s task rest) where
  abbrev function : Call
  function = call_view in_memory

  abbrev r : Ready p w.classes store.heap store.elements owner call h.code (visible_to own shared s) s.frames task rest
  r = ready_at p w store pending call in_memory others k owner own shared s task rest h

  abbrev called : CalledAs p w store pending call h.code function others k owner own shared s task rest r (effect_of (sight_of shared s) task)
  called = called_at p w store pending call in_memory others k owner own shared s task rest h

  abbrev kind : ResultKind
  kind = (prototype called.f).result

  -- the variable that is told whether a buffer is a copy
  abbrev told_variable : Option Identifier
  told_variable = address_given called.args 1

  -- it holds no buffer
  told_of : (f : JniFunction) (args : List Actual) (x : Identifier) → IsBufferResult (prototype f).result → address_given args 1 ≡ Some x → IsTold f args x
  told_of (GetBuffer access) args x b is = is
  told_of f args x b is = absurd (let clash : (prototype f).result ≡ GivesBuffer b.0 = b.1 in cc)

  told_holds : IsBufferResult kind → (x : Identifier) → told_variable ≡ Some x → HoldsNoBuffer (lookup x s.variables)
  told_holds b x is = h.steady.free x (subst (SetsWhole x) (sym (next_is p w store pending call in_memory others k owner own shared s task rest h)) (inr (told_of called.f called.args x b is)))

  -- and so does the target
  target_holds : (x : Identifier) → is_target called.target x ≡ true → HoldsNoBuffer (lookup x s.variables)
  target_holds x target = h.steady.free x (subst (SetsWhole x) (sym (next_is p w store pending call in_memory others k owner own shared s task rest h)) (inl target))

  -- where nothing is given nothing is a target
  no_target : (d : Destination) (kind : ResultKind) (target : Target) (x : Identifier) → kind ≡ GivesNothing → TakesResult h.code r.known call.place call.stack (slots_of call r.meant) (visible_to own shared s) called.line d kind target rest → is_target target x ≡ true → ⊥
  no_target (destination.Number i) kind target x nothing goes is = let clash : None ≡ Some goes.0 = sym (ap number_type nothing) ∙ goes.1 in cc
  no_target (destination.Local i) kind target x nothing goes is = let clash : GivesNothing ≡ NewLocal = sym nothing ∙ goes.0 in cc
  no_target (destination.FieldId i) kind target x nothing goes is = let clash : GivesNothing ≡ GivesField = sym nothing ∙ goes.0 in cc
  no_target (destination.MethodId i) kind target x nothing goes is = let clash : GivesNothing ≡ GivesMethod = sym nothing ∙ goes.0 in cc
  no_target (destination.Static i) kind target x nothing goes is = subst IsStaticResult nothing goes.0
  no_target (destination.Buffer element i) kind target x nothing goes is = let clash : GivesNothing ≡ GivesBuffer goes.0.0 = sym nothing ∙ goes.0.1 in cc
  no_target destination.Test kind target x nothing goes is = let clash : GivesNothing ≡ GivesInt = sym nothing ∙ goes.0 in cc
  no_target destination.Dropped kind target x nothing goes is = let clash : false ≡ true = sym (ap (λ (t : Target). is_target t x) goes.0) ∙ is in cc

  abbrev in_use : BuffersInUse
  in_use = in_use_with others s

  -- what the source's call answers, and what the call brings
  abbrev of_source : SourceAnswer
  of_source = answer_of p w store pending call in_memory others k owner own shared s task rest h

  abbrev brings : Brought
  brings = brought_in p w store pending call in_memory others k owner own shared s task rest h

  module _ (answer : Answer) (works : IsAnswerTo (scene_of (unit_tree p.unit) w.classes store call k pending) function answer)
      (does : IsAnswer w.classes brings store.heap call.locals shared s answer kind of_source) where
    abbrev left_own : Owners
    left_own = owners_left p w store pending call in_memory others k owner own shared s task rest h answer works does

    abbrev owners : LeavesOwners p w store pending call in_memory others k owner own shared s task rest h of_source answer
    owners = leaves_owners p w store pending call in_memory others k owner own shared s task rest h answer works does

    abbrev Shown : CallResult → Variables → List ℕ → List HeldBuffer → Type 0
    Shown c vs numbers slots = ShowsLeft p w store pending call in_memory others k owner own shared s task rest h answer works does c vs numbers slots

    -- ---- the call with fewer owners, and with these slots, stands for the thread with these variables
    module _ (sound : IsSound w) (c : CallResult) (vs : Variables) (numbers : Vec ℕ) (slots : Vec HeldBuffer) (left : Shown c vs numbers.items slots.items) (count : length slots.items ≡ length call.slots.buffers.items) where
      abbrev call_left : Activation
      call_left = record call { slots = record call.slots { numbers = numbers; buffers = slots } }

      abbrev thread_left : source.Thread
      thread_left = record s { variables = vs }

      left_stands : CallStands p w.classes store.heap store.elements owner call_left (visible_to left_own shared thread_left) s.frames (task ∷ rest)
      left_stands = record {
        code = h.code;
        of_function = h.of_function;
        known = r.known;
        stands = r.stands;
        meant = record r.meant { owners = owners.owners; buffers = left.buffers };
        holds = record {
          keys = fewer_owned store.heap call.locals call.slots.references.items r.meant.references r.meant.owners owners.owners r.holds.keys owners.among;
          fields = r.holds.fields;
          buffers = left.agree;
          small = left.small;
        };
        shows = left.shows;
        depth = r.depth;
        frames_agree = r.frames_agree;
      }

      left_sees : SeesBuffers (visible_to left_own shared thread_left) left.buffers
      left_sees =
          let few : store.heap.cells ≤ 1048576 = omega (arith, h.shares.cells, sound.cells) in
          sees_buffers left_own shared thread_left left.buffers (elements_fit p w store shared (beside others (acquired_by s)) h.shares owner slots.items left.buffers few left.agree left.small)

      left_sees_stands : SeesBuffers (visible_to left_own shared thread_left) left_stands.meant.buffers
      unfolding left_stands
      left_sees_stands = left_sees

      left_ready : Ready p w.classes store.heap store.elements owner call_left h.code (visible_to left_own shared thread_left) s.frames task rest
      left_ready = ready p w.classes store.heap store.elements owner call_left h.code (visible_to left_own shared thread_left) s.frames task rest h.lowered h.of_function left_stands left_sees_stands

      left_owners : left_ready.meant.owners ≡ owners.owners
      unfolding left_ready left_stands
      left_owners = ready_owners p w.classes store.heap store.elements owner call_left h.code (visible_to left_own shared thread_left) s.frames task rest h.lowered h.of_function left_stands left_sees_stands

      left_known : left_ready.known ≡ r.known
      unfolding left_ready left_stands
      left_known = ready_known p w.classes store.heap store.elements owner call_left h.code (visible_to left_own shared thread_left) s.frames task rest h.lowered h.of_function left_stands left_sees_stands

      -- as many buffers
      left_count : length left_ready.meant.buffers ≡ length r.meant.buffers
      left_count =
          buffers_count store.heap store.elements owner slots.items left_ready.meant.buffers left_ready.holds.buffers
          ∙ count
          ∙ sym (buffers_count store.heap store.elements owner call.slots.buffers.items r.meant.buffers r.holds.buffers)

      -- where the result goes is there for these too
      abbrev Goes : (line : ℕ) → Destination → ResultKind → Target → Type 0
      Goes line d kind target = TakesResult h.code left_ready.known call.place call.stack (slots_of call_left left_ready.meant) (visible_to left_own shared thread_left) line d kind target rest

      abbrev GoesThere : Effect → Type 0
      GoesThere effect = (line : ℕ) (target : Target) (f : JniFunction) (args : List Actual) → effect ≡ Calls line target f args → Goes line function.target (prototype f).result target

      goes_by : (line : ℕ) (target : Target) (f : JniFunction) (args : List Actual) → CallsFunction h.code left_ready.known call.place call.stack (slots_of call_left left_ready.meant) (visible_to left_own shared thread_left) line target f args rest → GoesThere (Calls line target f args)
      goes_by line target f args c line' target' f' args' is =
          let same : c.call ≡ function = let both : instr.Call c.call ≡ instr.Call function = cc (h.at, c.at) in cc in
          let same_line : line ≡ line' = cc in
          let same_target : target ≡ target' = cc in
          let same_function : f ≡ f' = cc in
          let goes = subst (λ (x : Call). Goes line x.target (prototype f).result target) same c.goes in
          subst (λ (x : JniFunction). Goes line' function.target (prototype x).result target') same_function
          (subst (λ (x : Target). Goes line' function.target (prototype f).result x) same_target
          (subst (λ (x : ℕ). Goes x function.target (prototype f).result target) same_line goes))

      -- with the variables of before the step is the same
      goes_same : vs ≡ s.variables → Goes called.line function.target kind called.target
      goes_same same =
          let is : effect_of (sight_of shared thread_left) task ≡ Calls called.line called.target called.f called.args = ap (λ (us : Variables). effect_of (sight_of shared (record s { variables = us })) task) same ∙ called.is in
          call_cases p w.classes store.heap store.elements owner call_left h.code (visible_to left_own shared thread_left) s.frames task rest left_ready (λ none. let clash : Calls called.line called.target called.f called.args ≡ NoEffect = sym is ∙ none in cc) (instr.Call function) h.at function refl GoesThere goes_by called.line called.target called.f called.args is

      abbrev Went : Destination → ResultKind → Target → Type 0
      Went d kind target = TakesResult h.code r.known call.place call.stack (slots_of call r.meant) (visible_to own shared s) called.line d kind target rest

      -- and nothing goes nowhere
      nowhere : (d : Destination) (kind : ResultKind) → kind ≡ GivesNothing → Went d kind called.target → Goes called.line d kind called.target
      nowhere (destination.Number i) kind nothing goes = absurd (let clash : None ≡ Some goes.0 = sym (ap number_type nothing) ∙ goes.1 in cc)
      nowhere (destination.Local i) kind nothing goes = absurd (let clash : GivesNothing ≡ NewLocal = sym nothing ∙ goes.0 in cc)
      nowhere (destination.FieldId i) kind nothing goes = absurd (let clash : GivesNothing ≡ GivesField = sym nothing ∙ goes.0 in cc)
      nowhere (destination.MethodId i) kind nothing goes = absurd (let clash : GivesNothing ≡ GivesMethod = sym nothing ∙ goes.0 in cc)
      nowhere (destination.Static i) kind nothing goes = absurd (subst IsStaticResult nothing goes.0)
      nowhere (destination.Buffer element i) kind nothing goes = absurd (let clash : GivesNothing ≡ GivesBuffer goes.0.0 = sym nothing ∙ goes.0.1 in cc)
      nowhere destination.Test kind nothing goes = absurd (let clash : GivesNothing ≡ GivesInt = sym nothing ∙ goes.0 in cc)
      nowhere destination.Dropped kind nothing goes = (goes.0, goes.1, subst (λ (names : Known). StandsFor h.code names (call.place + 1) [] rest) (sym left_known) goes.2)

      -- a buffer goes where it went, once `isCopy` has been told
      buffer_takes : (t : ElementType) (i : ℕ) (x : Identifier) → TakesBuffer h.code r.known call.place call.stack (slots_of call r.meant) (visible_to own shared s) t i x rest
          → TakesBuffer h.code left_ready.known call.place call.stack (slots_of call_left left_ready.meant) (visible_to left_own shared thread_left) t i x rest
      buffer_takes t i x takes = record {
        within = omega (arith, takes.within, left_count);
        names = takes.names;
        shows = λ told new now b shown set. takes.shows told new now b (subst (λ (names : Known). Shows h.code names told now) left_known shown) set;
        stands = takes.stands;
      }

      buffer_goes : ((x : Identifier) → kind_of_variable (lookup x vs) ≡ kind_of_variable (lookup x s.variables)) → (d : Destination) (kind : ResultKind) (target : Target) → IsBufferResult kind → Went d kind target → Goes called.line d kind target
      buffer_goes kinds (destination.Number i) kind target b goes = absurd (let clash : None ≡ Some goes.0 = sym (ap number_type b.1) ∙ goes.1 in cc)
      buffer_goes kinds (destination.Local i) kind target b goes = absurd (let clash : GivesBuffer b.0 ≡ NewLocal = sym b.1 ∙ goes.0 in cc)
      buffer_goes kinds (destination.FieldId i) kind target b goes = absurd (let clash : GivesBuffer b.0 ≡ GivesField = sym b.1 ∙ goes.0 in cc)
      buffer_goes kinds (destination.MethodId i) kind target b goes = absurd (let clash : GivesBuffer b.0 ≡ GivesMethod = sym b.1 ∙ goes.0 in cc)
      buffer_goes kinds (destination.Static i) kind target b goes = absurd (subst IsStaticResult b.1 goes.0)
      buffer_goes kinds (destination.Buffer element i) kind (Declared declared x) b goes = (goes.0, (goes.1.0, goes.1.1, (goes.1.2.0, buffer_takes goes.1.0 i x goes.1.2.1)))
      buffer_goes kinds (destination.Buffer element i) kind (Assigned x) b goes = (goes.0, (goes.1.0, goes.1.1, (kinds x ∙ goes.1.2.0, buffer_takes goes.1.0 i x goes.1.2.1)))
      buffer_goes kinds (destination.Buffer element i) kind (Tested a e) b goes = absurd goes.1.2
      buffer_goes kinds (destination.Buffer element i) kind Dropped b goes = absurd goes.1.2
      buffer_goes kinds destination.Test kind target b goes = absurd (let clash : GivesBuffer b.0 ≡ GivesInt = sym b.1 ∙ goes.0 in cc)
      buffer_goes kinds destination.Dropped kind target b goes = absurd (let clash : false ≡ true = sym (ap is_droppable b.1) ∙ goes.1 in cc)

      goes_left : Goes called.line function.target kind called.target
      goes_left = by_kept left.kept
        where
          by_kept : (vs ≡ s.variables) ⊎ ((kind ≡ GivesNothing) ⊎ (IsBufferResult kind × (vs ≡ tell_copy told_variable c s.variables))) → Goes called.line function.target kind called.target
          by_kept (inl same) = goes_same same
          by_kept (inr (inl nothing)) = nowhere function.target kind nothing called.goes
          by_kept (inr (inr told)) =
              let number = told_number h.code r.known call.place call.stack (slots_of call r.meant) own shared s r.shows called.f (length called.args) told.0 called.operands in
              buffer_goes (λ x. ap (λ (us : Variables). kind_of_variable (lookup x us)) told.1 ∙ told_kind told_variable x c s.variables number) function.target kind called.target told.0 called.goes

      -- a variable that takes a local reference was there before
      was_there : kind ≡ NewLocal → (x : Identifier) (v : Variable) → lookup x vs ≡ Some v → lookup x s.variables ≡ Some v
      was_there local x v at = by_kept left.kept
        where
          by_kept : (vs ≡ s.variables) ⊎ ((kind ≡ GivesNothing) ⊎ (IsBufferResult kind × (vs ≡ tell_copy told_variable c s.variables))) → lookup x s.variables ≡ Some v
          by_kept (inl same) = ap (λ (us : Variables). lookup x us) (sym same) ∙ at
          by_kept (inr (inl nothing)) = absurd (let clash : NewLocal ≡ GivesNothing = sym local ∙ nothing in cc)
          by_kept (inr (inr told)) = absurd (let clash : NewLocal ≡ GivesBuffer told.0.0 = sym local ∙ told.0.1 in cc)

      -- the target holds no buffer before
      left_free : (x : Identifier) → is_target called.target x ≡ true → HoldsNoBuffer (lookup x vs)
      left_free x target = by_kept left.kept
        where
          by_kept : (vs ≡ s.variables) ⊎ ((kind ≡ GivesNothing) ⊎ (IsBufferResult kind × (vs ≡ tell_copy told_variable c s.variables))) → HoldsNoBuffer (lookup x vs)
          by_kept (inl same) = subst (λ (us : Variables). HoldsNoBuffer (lookup x us)) (sym same) (target_holds x target)
          by_kept (inr (inl nothing)) = absurd (no_target function.target kind called.target x nothing called.goes target)
          by_kept (inr (inr told)) = subst (λ (us : Variables). HoldsNoBuffer (lookup x us)) (sym told.1) (told_free told_variable x c s.variables (target_holds x target))

      -- the buffers in slots stand for what they did, where an answer left their lists
      left_buffered : (store' : Store) → ((a n : ℕ) → name_at store.heap a ≡ Some n → name_at store'.heap a ≡ Some n) → CopiesStay answer store.elements store'.elements → BuffersAgree store'.heap store'.elements owner slots.items left_ready.meant.buffers
      left_buffered store' names copies = buffers_stay store.heap store'.heap store.elements store'.elements owner names slots.items left_ready.meant.buffers left_ready.holds.buffers (λ i key l at has. copies key l has (left.left i key at))

    -- ---- what carrying out the answer leaves

    -- what the source's call does
    abbrev effect : CallEffect
    effect = effect_told w.classes brings shared s of_source

    -- a function that gives a buffer leaves the variables as they were
    untold_same : (refused : Bool) → is_carried answer ≡ true → IsBufferResult kind → variables_left refused s effect ≡ s.variables
    untold_same true runs b = refl
    untold_same false runs b = by_answer (kept_or_copied w.classes brings store.heap call.locals shared s runs does)
      where
        by_answer : AreKept w.classes brings store.heap call.locals kind shared s answer of_source ⊎ (Copied w.classes brings store.heap call.locals kind shared s answer of_source ⊎ Released w.classes brings store.heap call.locals kind shared s answer of_source)
            → variables_left false s effect ≡ s.variables
        by_answer (inl it) = it.0
        by_answer (inr (inl it)) = absurd (let clash : GivesNothing ≡ GivesBuffer b.0 = sym it.nothing ∙ b.1 in cc)
        by_answer (inr (inr it)) = absurd (let clash : GivesNothing ≡ GivesBuffer b.0 = sym it.nothing ∙ b.1 in cc)

    -- a step of the call is one of the first task
    stepped : (refused : Bool) (t : source.Thread) (next : Shared) → call_step (unit_tree p.unit) w.classes in_use k shared s called.line called.target called.f called.args rest refused ≡ source.Advances next t event.Quiet
        → after_any (unit_tree p.unit) w.classes in_use k shared s rest refused (Calls called.line called.target called.f called.args) ≡ source.Advances next t event.Quiet
    stepped false t next h = h
    stepped true t next h = h

    module _ (sound : IsSound w) (runs : is_carried answer ≡ true) (free : trap_of_call w.classes shared s called.target called.f called.args ≡ None) (refused : Bool) (store' : Store) (pending' : Option ℕ) (locals : LocalTable) (g : Given) (carried : CarriesOut p w store.heap call.locals answer kind others owner shared s effect refused store' pending' locals g)
        (stacked : AreStacked locals) (copies : CopiesStay answer store.elements store'.elements) (new_copy : IsNewCopy store.elements g) (numbers : Vec ℕ) (slots : Vec HeldBuffer) (numbers_are : numbers.items ≡ slots_after store.heap answer call.slots.numbers.items) (slots_are : slots.items ≡ buffers_after answer call.slots.buffers.items) where
      abbrev gave : CallResult
      gave = result_after kind refused effect

      abbrev untold : Variables
      untold = variables_left refused s effect

      abbrev told_variables : Variables
      told_variables = tell_copy told_variable gave untold

      abbrev told : Option ℕ
      told = told_slot (slice_get function.operands 1)

      abbrev told_numbers : Vec ℕ
      told_numbers = with_items numbers (told_with told g numbers.items)

      count : length slots.items ≡ length call.slots.buffers.items
      count = ap length slots_are ∙ buffers_long answer call.slots.buffers.items

      left_shown : Shown gave told_variables told_numbers.items slots.items
      left_shown =
          let numbers_left : told_numbers.items ≡ told_with told g (slots_after store.heap answer call.slots.numbers.items) = with_told_is told g numbers ∙ ap (told_with told g) numbers_are in
          subst (λ (l : List ℕ). Shown gave told_variables l slots.items) (sym numbers_left)
          (subst (Shown gave told_variables (told_with told g (slots_after store.heap answer call.slots.numbers.items))) (sym slots_are)
          (shows_left p w store pending call in_memory others k owner own shared s task rest h answer works does refused store' g runs carried.could_refuse carried.given_agrees))

      -- what the variable that is told of a buffer was
      told_taken : taken_by told_variables ≡ taken_by untold
      told_taken =
          told_nothing told_variable gave untold
          (λ b x is at.
          let buffer = gives_buffer (unit_tree p.unit) w.classes store' owner kind g gave b carried.given_agrees is in
          subst (λ (us : Variables). HoldsNoBuffer (lookup x us)) (sym (untold_same refused runs buffer)) (told_holds buffer x at))

      -- each view that is left in a slot is a variable's
      told_viewed : AreViewed store'.heap slots.items (record s { variables = told_variables })
      told_viewed =
          views_stay store.heap store'.heap store.elements owner slots.items left_shown.buffers (record s { variables = told_variables }) (record s { variables = told_variables }) carried.keeps.names left_shown.agree.agree refl
          (views_same store.heap (buffers_after answer call.slots.buffers.items) slots.items (record s { variables = untold }) (record s { variables = told_variables }) slots_are told_taken
          (views_left p w store pending call in_memory others k owner own shared s task rest h answer works does refused runs carried.could_refuse))

      -- what was carried out and received is what the source's call leaves
      pub goes_on : (after : Activation) (statics : Vec StaticReference) → Receives function.target kind told g (record call { locals = locals; slots = record call.slots { numbers = numbers; buffers = slots } }) after
          → statics.items ≡ statics_with function.target g store'.statics.items → GoesOn p w store (record store' { statics = statics }) others k owner own shared s rest after pending' (effect_of (sight_of shared s) task) refused event.Quiet
      goes_on after statics received put =
          let next = shared_after w.classes refused shared effect in
          let left = frames_left refused s effect in
          let q = pending_after w.classes refused shared s effect in
          let left_frames : kind ≡ NewLocal → left ≡ source_frames_after called.f s.frames = λ local. left_is (unit_tree p.unit) w.classes in_use k shared s called.args called.f local refused carried.could_refuse in
          let ready_left = left_ready sound gave told_variables told_numbers slots left_shown count in
          let keyed = keys_left store.heap store'.heap call.locals locals call.slots.references.items ready_left.meant.references ready_left.meant.owners ready_left.holds.keys
          (λ i key n level at_key owned is. carried.left key n level is (owners.left i key level at_key (subst (λ (l : List (Option ℕ)). slice_get l i ≡ Some (Some level)) (left_owners sound gave told_variables told_numbers slots left_shown count) owned))) in
          let ends = finishes p w store.heap store.elements store' others owner left_own shared next carried.keeps (record s { variables = told_variables }) (record call { slots = record call.slots { numbers = told_numbers; buffers = slots } }) h.code task rest ready_left called.line called.f called.args locals stacked
          (room_after p w store pending call in_memory others k owner own shared s task rest h free refused store' pending' locals g answer carried) keyed (left_buffered sound gave told_variables told_numbers slots left_shown count store' carried.keeps.names copies) told_viewed left carried.frames_agree q g gave untold refl told_taken carried.store_agrees carried.given_agrees
          (λ b is. small_given refused b (gives_buffer (unit_tree p.unit) w.classes store' owner kind g gave b carried.given_agrees is) does is)
          (λ b j key is copy at. new_apart store.heap store.elements owner slots.items ready_left.meant.buffers b ready_left.holds.buffers (subst (IsNewCopy store.elements) is new_copy) j key copy at)
          carried.still function h.at called.left after statics function.target called.target
          (λ local x level old is at.
          h.steady.declared called.line x called.f called.args level old (next_is p w store pending call in_memory others k owner own shared s task rest h ∙ ap (λ (t : Target). Calls called.line t called.f called.args) is) local (was_there sound gave told_variables told_numbers slots left_shown count local x (LocalRef level old) at)
          ∙ ap (λ (fs : List source.Frame). length fs) (sym (left_frames local)))
          (left_free sound gave told_variables told_numbers slots left_shown count) refl (goes_left sound gave told_variables told_numbers slots left_shown count)
          (told_before function.target kind told g (record call { locals = locals; slots = record call.slots { numbers = numbers; buffers = slots } }) after received) put in
          let steps = step_leaves (unit_tree p.unit) w.classes in_use k shared s called.line called.target called.f called.args rest refused effect (effect_is p w store pending call in_memory others k owner own shared s task rest h free)
          (stays_with w.classes brings shared s runs does) carried.could_refuse in
          subst (λ (e : Effect). GoesOn p w store (record store' { statics = statics }) others k owner own shared s rest after pending' e refused event.Quiet) (sym called.is) (record {
            next_shared = ends.now;
            next = going called.line called.f called.args ends.tasks s left q gave ends.variables;
            steps = stepped refused (going called.line called.f called.args ends.tasks s left q gave ends.variables) ends.now (◌∙◌ {c = source.Advances ends.now (going called.line called.f called.args ends.tasks s left q gave ends.variables) event.Quiet} steps ends.steps);
            store_agrees = ends.store_agrees;
            keeps = ends.keeps;
            keeps_copies = keeps_others store'.elements does copies;
            work = ends.stands;
            pending_agrees = carried.pending_agrees;
            views = ends.views;
            calls = refl {a = s.calls};
            callers = refl {a = s.callers};
            ending = refl {a = s.ending};
            short = λ was.
                subst (λ (n : ℕ). IsShortOf n store.heap store'.heap) (sym (cells_wanted p w store pending call in_memory others k owner own shared s task rest h free))
                (subst (λ (b : Bool). GoesByRoom b (sizes (made_by w.classes effect)) store.heap store'.heap) was carried.room);
          })
