-- What stands in memory for each kind of answer, by what a call sees.
use Rattle.std.proofs.Common.{◌≡◌, ℕ, ◌-◌, ◌<◌, ◌≤◌, true, false, List, ◌∷◌, length, Option, Some, None, refl, sym, ap, ◌∙◌, subst, arith}
use Rattle.std.specs.Prelude.{◌==◌}
use Rattle.std.specs.Option.{option_map_or}
use Rattle.std.proofs.lemmas.Bool.Decides.{nat_tests}
use Rattle.base.specs.Bytes.{lookup}
use Rattle.class_rules.specs.ClassIds.{class_id}
use Rattle.classes.specs.declared.class.FieldHandle.{FieldHandle}
use Rattle.code.specs.declared.instr.Operand.TheVariants as operand
use Rattle.heap.specs.Heap.{name_at}
use Rattle.jni.specs.declared.function.JniFunction.{JniFunction}
use Rattle.jni.specs.declared.function.JniFunction.TheVariants.{DeleteLocalRef}
use Rattle.jni.specs.JniFunction.{parameters_for, prototype}
use Rattle.jni.specs.declared.kinds.ParameterKind.{ParameterKind}
use Rattle.jni.specs.declared.kinds.ParameterKind.TheVariants.{FieldID}
use Rattle.jni.specs.declared.kinds.ResultKind.{ResultKind}
use Rattle.semantics.specs.Answer as source
use Rattle.semantics.specs.AnswerTable as table
use Rattle.semantics.specs.AnswerTable.{call_answer}
use Rattle.semantics.specs.CallSight.{CallSight}
use Rattle.semantics.specs.Arguments.{name_or_zero, reference_given, variable_given}
use Rattle.semantics.specs.CallEffects.{same_reference, level_of}
use Rattle.semantics.specs.CallSight as seen
use Rattle.semantics.specs.Object.{Object, Reference}
use Rattle.semantics.specs.Variable.{StaticReference}
use Rattle.code_meaning.specs.Does.{AllTogether}
use Rattle.code_meaning.specs.Slots.{static_index}
use Rattle.machine_scenes.specs.declared.references.Held.{Held}
use Rattle.machine_scenes.specs.Given.{IsGiven, ReferenceIsThere, class_of_given, field_at, key_at, operand_of}
use Rattle.machine_scenes.specs.HeapAgrees.{HeapAgrees, ReferenceAgrees}
use Rattle.machine_scenes.specs.Locals.{IsKeyGiven}
use Rattle.machine_scenes.specs.Statics.{static_at}
use Rattle.machine_scenes.proofs.BlocksOfNames.{name_within}
use Rattle.machine_scenes.proofs.OperandsThere.{address_of}
use Rattle.machine_answers.specs.declared.answer.Answer.{Answer}
use Rattle.machine_answers.specs.declared.answer.Answer.TheVariants as replies
use Rattle.machine_answers.specs.declared.answer.Given.TheVariants as given
use Rattle.machine_answers.specs.Answers.{IsAnswer}
use Rattle.machine_answers.specs.Answers as row
use Rattle.machine_answers.specs.Asked.{deletes_static}
use Rattle.machine_answers.specs.Checked.{some_missing}
use Rattle.machine_answers.specs.Sights.{call_seen, held_seen, name_seen}
use Rattle.machine_answers.proofs.CallOperands.{GivenObject, second_field}
use Rattle.machine_answers.proofs.CallTraps.{none_lacking, objects_there}
use Rattle.machine_answers.proofs.SightParts.{name_seen_is, object_there_is}
use Rattle.machine_answers.proofs.SightsAgree.{held_is, sights_agree, static_given}
use Rattle.machine_answers.specs.Answered.{TwoCalls, Asked, Passes, Does, brought, unit, scene}
use Rattle.machine_answers.proofs.TwoCalls.{agrees, at, built_in_class, fields, object_of, references}

module _ (both : TwoCalls) where
  open both use {p, w, store, pending, activation, call, others, k, owner, shared, s, target, sound, args}

  -- what a call of a function sees
  abbrev pub sight : JniFunction → CallSight
  sight f = call_seen (scene both) activation.locals (length s.callers) (record call { function = f })

  -- an answer in memory stands for this one
  abbrev pub Stands : Answer → ResultKind → source.Answer → Type 0
  Stands x kind a = IsAnswer w.classes (brought both) store.heap activation.locals shared s x kind a

  -- what is worked out is this, which stands for an answer
  pub stands : {x answer : Answer} {kind : ResultKind} {a : source.Answer} → answer ≡ x → Stands x kind a → Stands answer kind a
  stands {kind = kind} {a = a} is h = subst (λ (y : Answer). Stands y kind a) (sym is) h

  -- ---- what a call sees is what the source's call sees

  pub of_call : (f : JniFunction) → Asked both f → Asked both call.function
  of_call f h = subst (λ (g : JniFunction). Asked both g) (sym h.same_function) h

  pub same_sight : (f : JniFunction) → Asked both f → sight f ≡ seen.sight_of_call shared s f args
  same_sight f h =
      subst (λ (g : JniFunction). sight g ≡ seen.sight_of_call shared s g args) h.same_function
      (sights_agree p w store pending activation call others k owner shared s target args (of_call f h))

  -- an answer that stands for what the table says of the call is what the source's call does
  pub does : (f : JniFunction) → Asked both f → {answer : Answer} → Stands answer (prototype f).result (call_answer (unit both) w.classes k (sight f) f) → Does both f answer
  does f h {answer} it =
      subst (λ (x : CallSight). Stands answer (prototype f).result (call_answer (unit both) w.classes k x f)) (same_sight f h) it

  -- and the other way round
  pub back : (f : JniFunction) → Asked both f → {answer : Answer} → Does both f answer → Stands answer (prototype f).result (call_answer (unit both) w.classes k (sight f) f)
  back f h {answer} it =
      subst (λ (x : CallSight). Stands answer (prototype f).result (call_answer (unit both) w.classes k x f)) (sym (same_sight f h)) it

  -- ---- arguments

  -- the object of an argument has the name by which it is seen
  pub named : (f : JniFunction) → Asked both f → (i : ℕ) → ReferenceAgrees store.heap (at both i) (name_seen store.heap (at both i))
  named f h i = subst (ReferenceAgrees store.heap (at both i)) (sym (name_seen_is store.heap (at both i) (reference_given args i) (agrees both f h i))) (agrees both f h i)

  pub there : (f : JniFunction) → Asked both f → (i : ℕ) → ReferenceIsThere store.heap (at both i)
  there f h i = address_of store.heap (references both) call.operands i (objects_there p w store pending activation call others k owner shared s target f args h)

  pub pending_named : (f : JniFunction) → Asked both f → ReferenceAgrees store.heap pending (name_seen store.heap pending)
  pending_named f h = subst (ReferenceAgrees store.heap pending) (sym (name_seen_is store.heap pending s.pending h.pending_agrees)) h.pending_agrees

  -- an argument that isn't NULL
  pub first_name : (g : GivenObject (unit both) w.classes store.heap (references both) (fields both) call.operands args 0) → name_at store.heap g.address ≡ Some (name_or_zero (name_seen store.heap (at both 0)))
  first_name g = g.named ∙ ap (λ (n : ℕ). Some n) (sym (ap (λ (o : Option ℕ). name_or_zero (name_seen store.heap o)) g.at ∙ ap name_or_zero g.named))

  -- ---- objects

  -- the class object of a class of the table
  abbrev pub InTable : ℕ → Type 0
  InTable c = (0 < c) × (c ≤ length w.classes)

  -- the class of an object is one
  pub class_of_first : (f : JniFunction) → Asked both f → (g : GivenObject (unit both) w.classes store.heap (references both) (fields both) call.operands args 0) → InTable (class_of_given store.heap (at both 0))
  class_of_first f h g =
      let object = object_of both f h g.address g.name g.named in
      let known = h.typed.objects g.name object.0 object.1 in
      let class : class_of_given store.heap (at both 0) ≡ object.0.class =
      ap (class_of_given store.heap) g.at ∙ ap (λ (x : Object). x.class) (object_there_is store.heap shared.heap h.store_agrees.heap g.address g.name g.named)
      ∙ ap (λ (o : Option Object). option_map_or (λ (x : Object). x.class) o 0) object.1 in
      (omega (arith, known.low, class), omega (arith, known.high, class))

  -- an object has a name, so that its number isn't that of NULL
  has_name : (o : Option ℕ) (n : ℕ) → HeapAgrees store.heap shared.heap → ReferenceAgrees store.heap o (Some n) → ((0 == n) ≡ false) × ((n == 0) ≡ false)
  has_name None n same h = absurd h
  has_name (Some a) n same h =
      let low = (name_within store.heap shared.heap a n same h).0 in
      let first : (0 == n) ≡ false = grind (arith, nat_tests, low) in
      let second : (n == 0) ≡ false = grind (arith, nat_tests, low) in
      (first, second)

  -- both are NULL or one object, where both have one name or none
  pub same_names : (o r : Option ℕ) (m n : Reference) → HeapAgrees store.heap shared.heap → ReferenceAgrees store.heap o m → ReferenceAgrees store.heap r n → (name_or_zero m == name_or_zero n) ≡ same_reference m n
  same_names o r None None same h g = refl
  same_names o r None (Some n) same h g = (has_name r n same g).0
  same_names o r (Some m) None same h g = (has_name o m same h).1
  same_names o r (Some m) (Some n) same h g = refl

  -- ---- answers

  -- an exception of a built-in class after Class
  pub raised : {kind : ResultKind} (c : ℕ) → 2 < c → c ≤ 42 → Stands (replies.Throws (class_id c)) kind (source.Raises c)
  raised c low high = row.throws (built_in_class both c low high)

  -- the key of a reference that is deleted, by the name by which it is seen
  pub own_key : (f : JniFunction) → Asked both f → f ≡ DeleteLocalRef
      → IsKeyGiven store.heap activation.locals (key_at (references both) (operand_of call.operands 0)) (name_seen store.heap (at both 0)) (level_of (lookup (variable_given args 0) s.variables))
  own_key f h is =
      subst (λ (r : Reference). IsKeyGiven store.heap activation.locals (key_at (references both) (operand_of call.operands 0)) r (level_of (lookup (variable_given args 0) s.variables)))
      (sym (name_seen_is store.heap (at both 0) (reference_given args 0) (agrees both f h 0))) (h.key is)

  -- a static that holds this, which is named by the first argument
  pub record IsStatic (i : ℕ) (x : Held) : Type 0 where
    pub place : static_index (variable_given args 0) shared.statics ≡ Some i
    pub there : lookup (variable_given args 0) shared.statics ≡ Some (held_seen store.heap x)

  pub static_named : (f : JniFunction) → Asked both f → deletes_static f ≡ true
      → (i : ℕ) × (operand_of call.operands 0 ≡ operand.Static i) × IsStatic i (static_at (references both) i)
  static_named f h ends =
      let static = static_given p w store pending activation call others k owner shared s target args (of_call f h) (ap deletes_static h.same_function ∙ ends) in
      let found = h.held ends static.0 static.1 in
      (static.0, static.1, record { place = found.place; there = found.there ∙ ap (λ (r : StaticReference). Some r) (sym (held_is store.heap (static_at (references both) static.0) found.reference found.agrees)) })

  -- the field ID of argument 1 isn't NULL
  pub handle_given : (f : JniFunction) (q : ParameterKind) (parameters : List ParameterKind) → parameters_for f (length args) ≡ q ∷ FieldID ∷ parameters → Asked both f → Passes both
      → (x : FieldHandle) × (field_at (fields both) (operand_of call.operands 1) ≡ Some x)
  handle_given f q parameters are h free =
      second_field (unit both) w.classes store.heap (references both) (fields both) q parameters (subst (λ (l : List ParameterKind). AllTogether (IsGiven (unit both) w.classes store.heap (references both) (fields both)) l call.operands args) are h.given)
      (subst (λ (l : List ParameterKind). some_missing (references both) (fields both) l call.operands ≡ false) are (none_lacking p w store pending activation call others k owner shared s target f args h free))
