-- Where the machine is at a call, all is there that is asked of it.
use Rattle.std.proofs.Common.{◌≡◌, ◌≢◌, ℕ, Bool, true, false, not, List, [], ◌∷◌, length, Option, Some, None, refl, sym, ap, ◌∙◌, subst, arith}
use Rattle.std.specs.Prelude.{slice_get}
use Rattle.std.specs.List.{AllZip}
use Rattle.class_rules.specs.Class.{Classes}
use Rattle.heap.specs.Heap.{Space}
use Rattle.jni.specs.declared.function.JniFunction.{JniFunction}
use Rattle.jni.specs.declared.function.JniFunction.TheVariants.{DeleteLocalRef}
use Rattle.jni.specs.JniFunction.{parameters_for, prototype}
use Rattle.jni.specs.declared.kinds.ParameterKind.{ParameterKind}
use Rattle.jni.specs.declared.kinds.ResultKind.{ResultKind}
use Rattle.jni.specs.declared.kinds.ResultKind.TheVariants.{NewLocal, NewGlobal, NewWeak, GivesFlag, GivesInt, GivesField, GivesMethod, GivesNothing, GivesBuffer}
use Rattle.syntax.specs.Views.{unit_tree}
use Rattle.semantics.specs.Arguments.{Actual, reference_given, variable_given}
use Rattle.semantics.specs.CallEffects.{level_of}
use Rattle.semantics.specs.CallStep.{trap_of_call, waits_with}
use Rattle.semantics.specs.Effect.{Calls, Effect, effect_of}
use Rattle.semantics.specs.Task.{Assigned, Declared, Dropped, Target, Task, Tested}
use Rattle.semantics.specs.Thread as source
use Rattle.semantics.specs.Thread.{BuffersInUse, Shared, sight_of}
use Rattle.semantics.specs.Variable.{LocalRef, Variable}
use Rattle.semantics.specs.World.{World}
use Rattle.base.specs.Bytes.{Identifier, lookup}
use Rattle.code.specs.Call.{Call, call_view}
use Rattle.code.specs.Depth.{Listing, with_fewer, words_taken}
use Rattle.code.specs.declared.instr.Call.{Call as InMemory}
use Rattle.code.specs.declared.instr.Instr.TheVariants as instr
use Rattle.code.specs.declared.instr.Operand.{Operand}
use Rattle.code.specs.declared.instr.Target.{Target as Destination}
use Rattle.code.specs.declared.instr.Target.TheVariants as destination
use Rattle.code_meaning.specs.Does as gives
use Rattle.code_meaning.specs.Does.{AllTogether, CallsFunction, IsOperand, TakesResult}
use Rattle.code_meaning.specs.Lowered.{Lowered}
use Rattle.code_meaning.specs.Fits.{HaveOwnSlots}
use Rattle.code_meaning.specs.Slots.{Visible, visible_to}
use Rattle.machine_scenes.specs.declared.store.Store.{Store}
use Rattle.machine_scenes.specs.declared.activation.Activation.{Activation}
use Rattle.machine_scenes.specs.Locals.{FramesAgree, IsKeyGiven}
use Rattle.machine_answers.specs.Answered.{TwoCalls}
use Rattle.machine_answers.specs.Asked.{IsAsked, references_of}
use Rattle.machine_scenes.specs.Statics.{all_held}
use Rattle.machine_calls.specs.CarriedOut.{IsPossible}
use Rattle.machine_answers.proofs.TrapsSeen.{is_too_deep, with_depth}
use Rattle.tables.specs.Locals.{has_room}
use Rattle.machine_scenes.specs.Given.{held_in, key_at, operand_of}
use Rattle.machine_steps.specs.Invoked.{AtCall, trap_at}
use Rattle.machine_steps.specs.Received.{HasRoom, HasTarget, HasTold, HasStatic, told_slot}
use Rattle.machine_steps.proofs.Arguments.{all_given, arrays_held, none_left_after}
use Rattle.machine_answers.proofs.CallTraps.{found_as_seen, found_trap as checks_find, seen_is}
use Rattle.machine_steps.proofs.Calls.{Ready, fields_count, ready}
use Rattle.machine_threads.specs.SlotsHold.{slots_of}
use Rattle.machine_steps.proofs.Effects.{call_cases}
use Rattle.machine_scenes.proofs.KeyLaws.{keys_count}
use Rattle.machine_steps.proofs.OwnedKeys.{DeletesKey, deletes_key, operands_owned}
use Rattle.semantics_safety.specs.Owners.{Owners}
use Rattle.tables.specs.Locals.{LocalTable}
use Rattle.machine_scenes.specs.Locals.{locals_after}
use Rattle.machine_scenes.proofs.LocalFrames.{full_where}
use Rattle.machine_steps.proofs.StaticArguments.{static_held}
use Rattle.semantics.specs.AnswerTable.{call_effect}
use Rattle.semantics.specs.CallSight.{is_full}
use Rattle.semantics.specs.Checks.{frames_after as source_frames_after}
use Rattle.semantics.specs.ThreadStep.{next_effect}
use Rattle.machine_calls.proofs.HeldStatics.{place_below}
use Rattle.std.specs.Prelude.{◌&&◌}
use Rattle.semantics.specs.Object.{sizes}
use Rattle.world_values.specs.SoundWorlds.{IsSound}
use Rattle.semantics.specs.CallEffects.{Halts}
use Rattle.semantics.specs.CallStep.{after_call, checked, effect_of_call}
use Rattle.semantics.specs.declared.trap.Trap.{Trap}
use Rattle.machine_answers.specs.declared.answer.Answer.{Answer}
use Rattle.machine_answers.specs.declared.answer.Given.{Given}
use Rattle.semantics.specs.declared.event.Event.TheVariants as event
use Rattle.machine_steps.specs.declared.execute.Executed.TheVariants.{Did}
use Rattle.machine_steps.specs.Executes.{Executes, GoesOn, cells_made}
use Rattle.machine_threads.specs.InProgress.{WorkAgrees}
use Rattle.machine_calls.specs.CarriedOut.{CarriesOut, frames_left, made_by}
use Rattle.machine_answers.specs.Checked.{puts_local}
use Rattle.machine_answers.proofs.CallTraps.{free_seen, room_left}
use Rattle.machine_steps.proofs.EffectFrames.{left_is}
use Rattle.machine_scenes.proofs.LocalFrames.{frames_left as frames_after_agree}
use Rattle.semantics.specs.ThreadStep.{after_effect}
use Rattle.semantics.proofs.HeapGrows.{effect_keeps}
use Rattle.machine_steps.proofs.CellsMade.{call_cells}
use Rattle.machine_scenes.proofs.Keeping.{keeps_same}
use Rattle.machine_steps.specs.Executes.{in_use_with}
use Rattle.base.specs.declared.element.ElementType.{ElementType}
use Rattle.base.specs.declared.element.ElementType.TheVariants.{Int as JInt, Short as JShort, Byte as JByte, Char as JChar}
use Rattle.code_meaning.specs.Coding.{element_of}
use Rattle.code_meaning.specs.Slots.{held_buffer, kind_of_variable}
use Rattle.type_rules.specs.declared.ty.ExprType.TheVariants as types
use Rattle.type_rules.specs.declared.ty.ExprType.TheVariants.{Buffer}
use Rattle.std.proofs.lemmas.Option.{slice_get_within}
use Rattle.code_meaning.specs.Slots.{word_of}
use Rattle.semantics.specs.CallStep.{element_type, target_element}
use Rattle.semantics.specs.Effect.{NoEffect}
use Rattle.semantics.specs.declared.variable_kind.VariableKind.{VariableKind}
use Rattle.semantics.specs.declared.variable_kind.VariableKind.TheVariants as kinds
use Rattle.semantics.specs.Variable as source_variable
use Rattle.semantics.specs.Variable.{Scalar, FieldHandle, MethodHandle, Elements, LocalArray}
use Rattle.semantics_safety.specs.StepSafe.{MayMeetView}
use Rattle.tables.specs.Elements.{OwnedNumbers}
use Rattle.machine_scenes.specs.Buffers.{Acquired, holding}
use Rattle.machine_answers.specs.Sights.{element_wanted}
use Rattle.machine_scenes.specs.Given.{HasBuffer}
use Rattle.machine_steps.proofs.Changes.{buffer_by_kind, field_by_kind, method_by_kind, local_by_kind, scalar_by_kind}
use Rattle.machine_steps.proofs.OwnedKeys.{called as invoked}
use Rattle.machine_steps.proofs.SlotBuffers.{buffer_held, buffers_count}

-- ---- the place

-- where the result goes is there
module _ (p : Lowered) (classes : Classes) (space : Space) (copies : List (Option OwnedNumbers)) (k : ℕ) (call : Activation) (code : Listing) (visible : Visible) (frames : List source.Frame) (task : Task) (rest : List Task) (r : Ready p classes space copies k call code visible frames task rest) where
  pub target_there : (line : ℕ) (d : Destination) (kind : ResultKind) (target : Target) → TakesResult code r.known call.place call.stack (slots_of call r.meant) visible line d kind target rest → HasTarget d call
  target_there line destination.Dropped kind target h = (tt, tt, tt, tt)
  target_there line (destination.Number i) kind (Declared declared x) h = (h.2.1.within, tt, tt, tt)
  target_there line (destination.Number i) kind (Assigned x) h = (h.2.1.within, tt, tt, tt)
  target_there line (destination.Number i) kind (Tested a b) h = absurd h.2
  target_there line (destination.Number i) kind Dropped h = absurd h.2
  target_there line (destination.Local i) kind (Declared declared x) h = (tt, omega (arith, h.1.1.within, keys_count space call.locals call.slots.references.items r.meant.references r.meant.owners r.holds.keys), tt, tt)
  target_there line (destination.Local i) kind (Assigned x) h = (tt, omega (arith, h.1.1.within, keys_count space call.locals call.slots.references.items r.meant.references r.meant.owners r.holds.keys), tt, tt)
  target_there line (destination.Local i) kind (Tested a b) h = absurd h.1
  target_there line (destination.Local i) kind Dropped h = absurd h.1
  target_there line (destination.FieldId i) kind (Declared declared x) h = (tt, tt, omega (arith, h.1.1.within, fields_count (unit_tree p.unit) classes call.slots.fields.items r.meant.fields r.holds.fields), tt)
  target_there line (destination.MethodId i) kind (Declared declared x) h = (tt, tt, omega (arith, h.1.1.within, fields_count (unit_tree p.unit) classes call.slots.fields.items r.meant.fields r.holds.fields), tt)
  target_there line (destination.FieldId i) kind (Assigned x) h = (tt, tt, omega (arith, h.1.1.within, fields_count (unit_tree p.unit) classes call.slots.fields.items r.meant.fields r.holds.fields), tt)
  target_there line (destination.MethodId i) kind (Assigned x) h = (tt, tt, omega (arith, h.1.1.within, fields_count (unit_tree p.unit) classes call.slots.fields.items r.meant.fields r.holds.fields), tt)
  target_there line (destination.FieldId i) kind (Tested a b) h = absurd h.1
  target_there line (destination.MethodId i) kind (Tested a b) h = absurd h.1
  target_there line (destination.FieldId i) kind Dropped h = absurd h.1
  target_there line (destination.MethodId i) kind Dropped h = absurd h.1
  target_there line (destination.Static i) kind target h = (tt, tt, tt, tt)
  target_there line (destination.Buffer element i) kind (Declared declared x) h = (tt, tt, tt, omega (arith, h.1.2.1.within, buffers_count space copies k call.slots.buffers.items r.meant.buffers r.holds.buffers))
  target_there line (destination.Buffer element i) kind (Assigned x) h = (tt, tt, tt, omega (arith, h.1.2.1.within, buffers_count space copies k call.slots.buffers.items r.meant.buffers r.holds.buffers))
  target_there line (destination.Buffer element i) kind (Tested a b) h = absurd h.1.2
  target_there line (destination.Buffer element i) kind Dropped h = absurd h.1.2
  target_there line destination.Test kind target h = (tt, tt, tt, tt)

-- ---- buffers

-- the elements of a buffer into which a call puts
wanted_of : (t : ElementType) (i : ℕ) → element_wanted (destination.Buffer (element_of t) i) ≡ t
wanted_of JInt i = refl
wanted_of JShort i = refl
wanted_of JByte i = refl
wanted_of JChar i = refl

no_elements : (o : Option Variable) → kind_of_variable o ≡ None → element_type o ≡ JInt
no_elements None h = refl
no_elements (Some (Scalar v)) h = absurd (cc)
no_elements (Some (LocalRef level r)) h = absurd (cc)
no_elements (Some (FieldHandle f)) h = absurd (cc)
no_elements (Some (MethodHandle f)) h = absurd (cc)
no_elements (Some (Elements t b)) h = absurd (cc)
no_elements (Some (LocalArray t zs)) h = refl

module _ (p : Lowered) (classes : Classes) (space : Space) (copies : List (Option OwnedNumbers)) (k : ℕ) (call : Activation) (code : Listing) (own : Owners) (shared : Shared) (s : source.Thread) (frames : List source.Frame) (task : Task) (rest : List Task) (r : Ready p classes space copies k call code (visible_to own shared s) frames task rest) where
  declared_as : (x : Identifier) (a b : VariableKind) → a ≡ b → target_element s.variables (Declared b x) ≡ target_element s.variables (Declared a x)
  declared_as x a b same = ap (λ (kind : VariableKind). target_element s.variables (Declared kind x)) (sym same)

  -- the target wants what the source's does
  element_there : (line : ℕ) (d : Destination) (kind : ResultKind) (target : Target) → TakesResult code r.known call.place call.stack (slots_of call r.meant) (visible_to own shared s) line d kind target rest → element_wanted d ≡ target_element s.variables target
  element_there line destination.Dropped kind target h = sym (ap (target_element s.variables) h.0)
  element_there line (destination.Number i) kind (Declared declared x) h = declared_as x declared kinds.Number h.2.0
  element_there line (destination.Number i) kind (Assigned x) h = sym (ap element_type (scalar_by_kind (lookup x s.variables) h.2.0).1)
  element_there line (destination.Number i) kind (Tested a b) h = absurd h.2
  element_there line (destination.Number i) kind Dropped h = absurd h.2
  element_there line (destination.Local i) kind (Declared declared x) h = declared_as x declared kinds.Reference h.1.0
  element_there line (destination.Local i) kind (Assigned x) h = sym (ap element_type (local_by_kind (lookup x s.variables) h.1.0).2)
  element_there line (destination.Local i) kind (Tested a b) h = absurd h.1
  element_there line (destination.Local i) kind Dropped h = absurd h.1
  element_there line (destination.FieldId i) kind (Declared declared x) h = declared_as x declared kinds.Field h.1.0
  element_there line (destination.MethodId i) kind (Declared declared x) h = declared_as x declared kinds.Method h.1.0
  element_there line (destination.FieldId i) kind (Assigned x) h = sym (ap element_type (field_by_kind (lookup x s.variables) h.1.0).1)
  element_there line (destination.MethodId i) kind (Assigned x) h = sym (ap element_type (method_by_kind (lookup x s.variables) h.1.0).1)
  element_there line (destination.FieldId i) kind (Tested a b) h = absurd h.1
  element_there line (destination.MethodId i) kind (Tested a b) h = absurd h.1
  element_there line (destination.FieldId i) kind Dropped h = absurd h.1
  element_there line (destination.MethodId i) kind Dropped h = absurd h.1
  element_there line (destination.Static i) kind target h = sym (ap (target_element s.variables) h.1.1 ∙ no_elements (lookup h.1.0 s.variables) h.1.2.static.no_variable.kind)
  element_there line (destination.Buffer element i) kind (Declared declared x) h = ap (λ (e : ElementType). element_wanted (destination.Buffer e i)) h.1.1 ∙ wanted_of h.1.0 i ∙ declared_as x declared (kinds.Buffer h.1.0) h.1.2.0
  element_there line (destination.Buffer element i) kind (Assigned x) h = ap (λ (e : ElementType). element_wanted (destination.Buffer e i)) h.1.1 ∙ wanted_of h.1.0 i ∙ sym (ap element_type (buffer_by_kind (lookup x s.variables) h.1.0 h.1.2.0).1)
  element_there line (destination.Buffer element i) kind (Tested a b) h = absurd h.1.2
  element_there line (destination.Buffer element i) kind Dropped h = absurd h.1.2
  element_there line destination.Test kind target h = sym (ap (target_element s.variables) h.1.is)

  -- an operand that is a buffer has what the slot holds
  one_buffer : {q : ParameterKind} {o : Operand} {a : Actual} → IsOperand r.known (visible_to own shared s) q o a → HasBuffer space (holding call.slots.buffers.items copies k) s.variables o a
  one_buffer (gives.buffer {t = t} {writable = writable} {i = i} {x = x} at) =
      let shown = r.shows.each x (record { ty = Buffer t writable; index = i }) at in
      let variable = buffer_by_kind (lookup x s.variables) t shown.kind in
      let same : variable.0 ≡ shown.buffer = sym (ap held_buffer variable.1) ∙ shown.is in
      let slot = buffer_held space copies k call.slots.buffers.items r.meant.buffers i shown.buffer r.holds.buffers shown.there in
      (x, refl, record { type = t; buffer = shown.buffer; is = variable.1 ∙ ap (λ (b : source_variable.Buffer). Some (Elements t b)) same; held = slot.0; there = slot.1; agrees = slot.2 })
  one_buffer (gives.reference kind (gives.null takes)) = tt
  one_buffer h = tt

  buffers_there : {ps : List ParameterKind} {operands : List Operand} {args : List Actual} → AllTogether (IsOperand r.known (visible_to own shared s)) ps operands args → AllZip (HasBuffer space (holding call.slots.buffers.items copies k) s.variables) operands args
  buffers_there gives.none = tt
  buffers_there (gives.more h rest) = (one_buffer h, buffers_there rest)

  -- the slot of the flag for `isCopy` is there
  one_told : {q : ParameterKind} {o : Operand} {a : Actual} → IsOperand r.known (visible_to own shared s) q o a → HasTold (told_slot (Some o)) (length call.slots.numbers.items)
  one_told (gives.told {i = i} {x = x} at) = let shown = r.shows.each x (record { ty = types.Flag; index = i }) at in slice_get_within call.slots.numbers.items i (word_of shown.value) shown.word
  one_told (gives.reference kind (gives.null takes)) = tt
  one_told h = tt

  told_there : {ps : List ParameterKind} {operands : List Operand} {args : List Actual} → AllTogether (IsOperand r.known (visible_to own shared s)) ps operands args → HasTold (told_slot (slice_get operands 1)) (length call.slots.numbers.items)
  told_there gives.none = tt
  told_there (gives.more first gives.none) = tt
  told_there (gives.more first (gives.more second rest)) = one_told second

-- a local reference has room in frames of which the source's have
pub room_by : (kind : ResultKind) (locals : LocalTable) (left checked_frames : List source.Frame) (space : Space) → (kind ≡ NewLocal → left ≡ checked_frames) → FramesAgree space locals left → (kind ≡ NewLocal → is_full (slice_get checked_frames 0) ≡ false) → HasRoom kind locals
room_by NewLocal locals left checked_frames space same agree room = there (has_room locals) (sym (full_where space locals left agree) ∙ ap (λ (fs : List source.Frame). is_full (slice_get fs 0)) (same refl) ∙ room refl)
  where
    there : (b : Bool) → not b ≡ false → b ≡ true
    there true h = refl
    there false h = absurd (cc)
room_by kind locals left checked_frames space same agree room = tt

-- ---- the call

-- the first task is a call, whose arguments the operands give
pub record CalledAs (p : Lowered) (w : World) (store : Store) (pending : Option ℕ) (call : Activation) (code : Listing) (function : Call) (others : Acquired) (k owner : ℕ) (own : Owners) (shared : Shared) (s : source.Thread) (task : Task) (rest : List Task)
    (r : Ready p w.classes store.heap store.elements owner call code (visible_to own shared s) s.frames task rest) (effect : Effect) : Type 0 where
  pub line : ℕ
  pub target : Target
  pub f : JniFunction
  pub args : List Actual
  pub is : effect ≡ Calls line target f args
  pub asked : IsAsked p w store pending call function others k owner shared s target f args
  pub same_line : function.line ≡ line
  pub operands : AllTogether (IsOperand r.known (visible_to own shared s)) (parameters_for f (length args)) function.operands args
  pub goes : TakesResult code r.known call.place call.stack (slots_of call r.meant) (visible_to own shared s) line function.target (prototype f).result target rest
  pub left : with_fewer (words_taken function.operands) (length call.stack) ≡ Some 0
  pub own_slots : HaveOwnSlots r.known

module _ (p : Lowered) (w : World) (store : Store) (pending : Option ℕ) (call : Activation) (in_memory : InMemory) (others : Acquired) (k owner : ℕ) (own : Owners) (shared : Shared) (s : source.Thread) (task : Task) (rest : List Task) (h : AtCall p w store pending call in_memory others k owner own shared s task rest) where
  abbrev pub function : Call
  function = call_view in_memory

  -- what all buffers take before the step
  abbrev in_use : BuffersInUse
  in_use = in_use_with others s

  pub r : Ready p w.classes store.heap store.elements owner call h.code (visible_to own shared s) s.frames task rest
  r = ready p w.classes store.heap store.elements owner call h.code (visible_to own shared s) s.frames task rest h.lowered h.of_function h.stands h.sees

  possible_effect : effect_of (sight_of shared s) task ≢ NoEffect
  possible_effect e = h.steady.possible (task ∷ rest) h.tasks (ap (next_effect shared s) h.tasks ∙ e)

  abbrev pub Called : Effect → Type 0
  Called effect = CalledAs p w store pending call h.code function others k owner own shared s task rest r effect

  -- the key of a reference that is deleted, and the static whose reference ends
  own_key : (args : List Actual) → DeletesKey p w.classes store.heap store.elements owner call h.code own shared s task rest r function.operands args
      → IsKeyGiven store.heap call.locals (key_at (references_of store call) (operand_of function.operands 0)) (reference_given args 0) (level_of (lookup (variable_given args 0) s.variables))
  own_key args d =
      subst (λ (o : Operand). IsKeyGiven store.heap call.locals (key_at (references_of store call) o) (reference_given args 0) (level_of (lookup (variable_given args 0) s.variables))) (sym d.is)
      (subst (λ (x : Identifier). IsKeyGiven store.heap call.locals (held_in (slice_get call.slots.references.items d.slot)) (reference_given args 0) (level_of (lookup x s.variables))) (sym d.variable) d.key)

  called_by : (line : ℕ) (target : Target) (f : JniFunction) (args : List Actual) → CallsFunction h.code r.known call.place call.stack (slots_of call r.meant) (visible_to own shared s) line target f args rest → effect_of (sight_of shared s) task ≡ Calls line target f args → Called (Calls line target f args)
  called_by line target f args c step =
      let same : c.call ≡ function = let both : instr.Call c.call ≡ instr.Call function = cc (h.at, c.at) in cc in
      let operands = subst (λ (x : Call). AllTogether (IsOperand r.known (visible_to own shared s)) (parameters_for f (length args)) x.operands args) same c.given in
      let goes = subst (λ (x : Call). TakesResult h.code r.known call.place call.stack (slots_of call r.meant) (visible_to own shared s) line x.target (prototype f).result target rest) same c.goes in
      let owned = operands_owned p w.classes store.heap store.elements owner call h.code own shared s task rest r line target f args step (h.steady.owned task rest h.tasks) operands in
      let given = all_given p w.classes store.heap store.elements owner call h.code (visible_to own shared s) s.frames task rest r (all_held store.globals store.weaks store.statics.items) h.shares.statics owned operands in
      record {
        line = line;
        target = target;
        f = f;
        args = args;
        is = refl;
        asked = record {
          store_agrees = h.shares;
          pending_agrees = h.pending_agrees;
          frames_agree = r.frames_agree;
          same_function = ap (λ (x : Call). x.function) (sym same) ∙ c.same_function;
          count = c.count;
          given = given;
          arrays = arrays_held h.code r.known call.place call.stack (slots_of call r.meant) own shared s r.shows operands;
          buffers = buffers_there p w.classes store.heap store.elements owner call h.code own shared s s.frames task rest r operands;
          key = λ deletes. own_key args
              (deletes_key p w.classes store.heap store.elements owner call h.code own shared s task rest r line target f args step (h.steady.owned task rest h.tasks)
              (subst (λ (g : JniFunction). AllTogether (IsOperand r.known (visible_to own shared s)) (parameters_for g (length args)) function.operands args) deletes operands));
          held = λ deletes i at. static_held p w.classes store.heap store.elements owner call h.code own shared s task rest r (all_held store.globals store.weaks store.statics.items) h.shares.statics i operands at;
          wanted = element_there p w.classes store.heap store.elements owner call h.code own shared s s.frames task rest r line function.target (prototype f).result target goes;
          typed = h.steady.objects;
          typed_variables = h.steady.variables;
          critical = λ views. subst MayMeetView (invoked (sight_of shared s) task line target f args step).is (h.steady.view task rest h.tasks views);
          ready =
              ap (λ (n : ℕ). waits_with w.classes k shared s (Calls n target f args)) (ap (λ (x : Call). x.line) (sym same) ∙ c.same_line)
              ∙ ap (waits_with w.classes k shared s) (sym step) ∙ h.ready;
          release = λ access same_release. h.steady.release line target access args (ap (next_effect shared s) h.tasks ∙ step ∙ ap (λ (g : JniFunction). Calls line target g args) same_release);
          methods = λ same_function. h.steady.methods line target args (ap (next_effect shared s) h.tasks ∙ step ∙ ap (λ (g : JniFunction). Calls line target g args) same_function);
          words = c.words;
          texts = ap (λ (x : Call). x.texts) (sym same) ∙ c.texts;
        };
        same_line = ap (λ (x : Call). x.line) (sym same) ∙ c.same_line;
        operands = operands;
        goes = goes;
        left = none_left_after given c.words;
        own_slots = c.own_slots;
      }

  pub called : Called (effect_of (sight_of shared s) task)
  called = call_cases p w.classes store.heap store.elements owner call h.code (visible_to own shared s) s.frames task rest r possible_effect (instr.Call function) h.at function refl (λ (e : Effect). effect_of (sight_of shared s) task ≡ e → Called e) called_by refl

  -- the step is the call
  pub next_is : next_effect shared s s.tasks ≡ Calls called.line called.target called.f called.args
  next_is = ap (next_effect shared s) h.tasks ∙ called.is

  -- the trap that is found of it
  abbrev pub found : Option Trap
  found = checks_find p w store pending call function others k owner shared s called.target called.f called.args called.asked

  pub found_same : trap_at p w store pending call k in_memory ≡ found
  found_same = sym (found_as_seen p w store pending call function others k owner shared s called.target called.f called.args called.asked)

  -- how deep calls are is checked after it
  abbrev pub deep : Bool
  deep = is_too_deep called.f (length s.callers)

  -- so it is the source's
  pub trap_is : with_depth deep (trap_at p w store pending call k in_memory) ≡ trap_of_call w.classes shared s called.target called.f called.args
  trap_is = seen_is p w store pending call function others k owner shared s called.target called.f called.args called.asked

  -- where it is found
  pub trap_found_is : (trap : Trap) → trap_at p w store pending call k in_memory ≡ Some trap → trap_of_call w.classes shared s called.target called.f called.args ≡ Some trap
  trap_found_is trap is = sym trap_is ∙ ap (with_depth deep) is

  -- the key that DeleteLocalRef is given
  pub deleted : called.f ≡ DeleteLocalRef → DeletesKey p w.classes store.heap store.elements owner call h.code own shared s task rest r function.operands called.args
  deleted deletes =
      deletes_key p w.classes store.heap store.elements owner call h.code own shared s task rest r called.line called.target called.f called.args called.is (h.steady.owned task rest h.tasks)
      (subst (λ (f : JniFunction). AllTogether (IsOperand r.known (visible_to own shared s)) (parameters_for f (length called.args)) function.operands called.args) deletes called.operands)

  -- this and the source's
  abbrev pub two_calls : IsSound w → TwoCalls
  two_calls sound = record { p = p; w = w; sound = sound; store = store; pending = pending; activation = call; call = function; others = others; k = k; owner = owner; shared = shared; s = s; target = called.target; args = called.args }

  -- its slot is there
  pub has_target : HasTarget in_memory.target call
  has_target = target_there p w.classes store.heap store.elements owner call h.code (visible_to own shared s) s.frames task rest r called.line function.target (prototype called.f).result called.target called.goes

  -- and so is the flag's
  pub has_told : HasTold (told_slot (slice_get in_memory.operands.items 1)) (length call.slots.numbers.items)
  has_told = told_there p w.classes store.heap store.elements owner call h.code own shared s s.frames task rest r called.operands

  -- its static is there, as long as there are as many
  pub has_static : (statics : ℕ) → length shared.statics ≡ statics → HasStatic in_memory.target statics
  has_static statics count = static_within statics count function.target called.goes
    where
      static_within : (statics : ℕ) → length shared.statics ≡ statics → (d : Destination) → TakesResult h.code r.known call.place call.stack (slots_of call r.meant) (visible_to own shared s) called.line d (prototype called.f).result called.target rest → HasStatic d statics
      static_within statics count (destination.Static i) goes = omega (arith, count, place_below goes.1.0 shared.statics i goes.1.2.static.static.place)
      static_within statics count (destination.Number i) goes = tt
      static_within statics count (destination.Local i) goes = tt
      static_within statics count (destination.FieldId i) goes = tt
      static_within statics count (destination.MethodId i) goes = tt
      static_within statics count (destination.Buffer element i) goes = tt
      static_within statics count destination.Test goes = tt
      static_within statics count destination.Dropped goes = tt

  -- a call of it can be carried out
  pub possible : IsPossible p w store pending call.locals others shared s
  possible = record { store_agrees = h.shares; pending_agrees = h.pending_agrees; frames_agree = r.frames_agree }

  -- nothing was found
  module _ (free : trap_of_call w.classes shared s called.target called.f called.args ≡ None) where
    -- the source's frames have room
    source_room : (prototype called.f).result ≡ NewLocal → is_full (slice_get (source_frames_after called.f s.frames) 0) ≡ false
    source_room local =
        full_where store.heap (locals_after called.f call.locals) (source_frames_after called.f s.frames) (frames_after_agree store.heap called.f call.locals s.frames r.frames_agree)
        ∙ by_kind (prototype called.f).result (has_room (locals_after called.f call.locals)) local (room_left p w store pending call function others k owner shared s called.target called.f called.args called.asked (free_seen p w store pending call function others k owner shared s called.target called.f called.args called.asked free))
      where
        by_kind : (kind : ResultKind) (b : Bool) → kind ≡ NewLocal → (puts_local kind && not b) ≡ false → not b ≡ false
        by_kind NewLocal b local h = h
        by_kind NewGlobal b local h = absurd (cc)
        by_kind NewWeak b local h = absurd (cc)
        by_kind GivesFlag b local h = absurd (cc)
        by_kind GivesInt b local h = absurd (cc)
        by_kind GivesField b local h = absurd (cc)
        by_kind GivesMethod b local h = absurd (cc)
        by_kind GivesNothing b local h = absurd (cc)
        by_kind (GivesBuffer a) b local h = absurd (cc)

    -- the effect of the source's call
    pub effect_is : effect_of_call (unit_tree p.unit) w.classes in_use k shared s called.line called.target called.f called.args rest ≡ call_effect (unit_tree p.unit) w.classes in_use k shared s called.args called.f
    effect_is = ap (λ (o : Option Trap). checked o (call_effect (unit_tree p.unit) w.classes in_use k shared s called.args called.f)) free

  -- a local reference has room in the frames that the call leaves
  pub room_after : (free : trap_of_call w.classes shared s called.target called.f called.args ≡ None) (refused : Bool) (store' : Store) (pending' : Option ℕ) (locals : LocalTable) (g : Given) (answer : Answer)
      → CarriesOut p w store.heap call.locals answer (prototype called.f).result others owner shared s (call_effect (unit_tree p.unit) w.classes in_use k shared s called.args called.f) refused store' pending' locals g → HasRoom (prototype called.f).result locals
  room_after free refused store' pending' locals g answer carried = room_by (prototype called.f).result locals (frames_left refused s (call_effect (unit_tree p.unit) w.classes in_use k shared s called.args called.f)) (source_frames_after called.f s.frames) store'.heap
      (λ local. left_is (unit_tree p.unit) w.classes in_use k shared s called.args called.f local refused carried.could_refuse) carried.frames_agree (source_room free)

  -- a trap stops the thread where it is
  -- a check found it
  pub found_trap : (trap : Trap) → trap_of_call w.classes shared s called.target called.f called.args ≡ Some trap → effect_of_call (unit_tree p.unit) w.classes in_use k shared s called.line called.target called.f called.args rest ≡ Halts trap
  found_trap trap found = ap (λ (o : Option Trap). checked o (call_effect (unit_tree p.unit) w.classes in_use k shared s called.args called.f)) found

  -- the call stops the machine
  pub traps : (trap : Trap) (line : ℕ) → line ≡ function.line → effect_of_call (unit_tree p.unit) w.classes in_use k shared s called.line called.target called.f called.args rest ≡ Halts trap
      → Executes p w store store others k owner own shared s rest call pending (effect_of (sight_of shared s) task) (Did (event.Trapped trap line))
  traps trap line same found =
      subst (λ (e : Effect). GoesOn p w store store others k owner own shared s rest call pending e false (event.Trapped trap line)) (sym called.is) (record {
        next_shared = shared;
        next = s;
        steps =
            ap (after_call (unit_tree p.unit) w.classes in_use k shared s called.line called.target called.f called.args rest) found
            ∙ ap (λ (n : ℕ). source.Advances shared s (event.Trapped trap n)) (sym (same ∙ called.same_line));
        store_agrees = h.shares;
        keeps = keeps_same store.heap shared;
        keeps_copies = λ key c there other. there;
        work = subst (λ (o : Option (List Task)). WorkAgrees p w.classes store.heap store.elements owner (visible_to own shared s) (Some call) s.frames o) (sym h.tasks) h.stands;
        pending_agrees = h.pending_agrees;
        views = h.views;
        calls = refl;
        callers = refl;
        ending = refl;
        short = λ e. absurd (cc);
      })

  -- what the step makes is what the effect makes
  pub cells_wanted : trap_of_call w.classes shared s called.target called.f called.args ≡ None
      → cells_made shared (after_effect (unit_tree p.unit) w.classes in_use k shared s rest (Calls called.line called.target called.f called.args)) ≡ sizes (made_by w.classes (call_effect (unit_tree p.unit) w.classes in_use k shared s called.args called.f))
  cells_wanted free = call_cells (unit_tree p.unit) w.classes in_use k shared s called.line called.target called.f called.args rest _ (effect_is free) (effect_keeps (unit_tree p.unit) w.classes in_use k shared s called.args called.f)
