-- What a call sees in memory is what the source's call sees.
use Rattle.std.proofs.Common.{inl, inr, ◌≡◌, ℕ, zero, suc, ◌+◌, ◌<◌, ◌≤◌, Bool, true, List, [], ◌∷◌, length, Option, Some, None, refl, sym, ap, ◌∙◌, subst, arith}
use Rattle.std.specs.Prelude.{◌⊎◌, is_some, IsSome, if◌then◌else◌, pos, drop, map, slice_get, take}
use Rattle.std.specs.List.{AllZip}
use Rattle.std.specs.Option.{option_map}
use Rattle.base.specs.Bytes.{lookup}
use Rattle.base.specs.declared.element.ElementType.{ElementType}
use Rattle.code.specs.Call.{Call}
use Rattle.code.specs.declared.instr.Operand.{Operand}
use Rattle.code.specs.declared.instr.Operand.TheVariants as operand
use Rattle.jni.specs.declared.function.JniFunction.{JniFunction}
use Rattle.jni.specs.declared.function.JniFunction.TheVariants.{DeleteGlobalRef, DeleteWeakGlobalRef}
use Rattle.jni.specs.JniFunction.{parameters_for, prototype}
use Rattle.jni.specs.declared.kinds.ParameterKind.{ParameterKind}
use Rattle.jni.specs.declared.kinds.ParameterKind.TheVariants.{ArrayVariable, StaticVariable, WeakVariable}
use Rattle.semantics.specs.Arguments.{Actual, name_or_zero, number_in_actual, reference_in_actual, variable_given, variable_in_actual}
use Rattle.semantics.specs.CallEffects.{local_array}
use Rattle.semantics.specs.CallSight as source
use Rattle.semantics.specs.Thread as source_thread
use Rattle.semantics.specs.CallSight.{ArgumentSight, CallSight}
use Rattle.semantics.specs.Checks.{go_together, trap_of}
use Rattle.semantics.specs.Heap.{Heap}
use Rattle.semantics.specs.Variable.{Variable, Variables}
use Rattle.code_meaning.specs.Does as list
use Rattle.code_meaning.specs.Does.{AllTogether, texts_given, words_given}
use Rattle.machine_scenes.specs.Given as given
use Rattle.machine_scenes.specs.Given.{HasArray, IsGiven, ReferenceIsGiven, operand_of, operand_or_null}
use Rattle.machine_scenes.specs.HeapAgrees.{HeapAgrees}
use Rattle.machine_scenes.specs.Scenes.{Scene}
use Rattle.machine_answers.specs.Sights.{argument_seen, each_seen, element_wanted, elements_seen, kinds, number_at, operand_seen, takes_word, text_seen, texts_of, words_of, array_in}
use Rattle.machine_answers.proofs.ArgumentPlaces.{Place, There, Past, at_kind, place_at, with_each}
use Rattle.machine_answers.proofs.SightArguments.{sight_is}
use Rattle.machine_answers.proofs.SightPlaces.{number_is, text_is}
use Rattle.tables.specs.Locals.{LocalTable, popped}
use Rattle.heap.specs.Heap.{Space}
use Rattle.monitors.specs.declared.monitors.Monitor.{Monitor}
use Rattle.machine_scenes.specs.MonitorsAgree.{MonitorAgrees}
use Rattle.classes.specs.FieldViews.{field_of}
use Rattle.classes.specs.declared.class.FieldHandle.{FieldHandle}
use Rattle.class_rules.specs.Fields.{FieldId}
use Rattle.syntax.specs.Views.{unit_tree}
use Rattle.semantics.specs.CallStep.{target_element}
use Rattle.semantics.specs.Task.{Target}
use Rattle.semantics.specs.Thread.{Shared, Thread}
use Rattle.semantics.specs.Variable.{StaticReference, Empty, Live, Weakly, Cleared, Deleted}
use Rattle.semantics.specs.World.{World}
use Rattle.code_meaning.specs.Lowered.{Lowered}
use Rattle.machine_scenes.specs.declared.activation.Activation.{Activation}
use Rattle.machine_scenes.specs.declared.references.Held.{Held}
use Rattle.machine_scenes.specs.declared.references.Held.TheVariants as held
use Rattle.machine_scenes.specs.declared.store.Store.{Store}
use Rattle.machine_scenes.specs.Buffers.{Acquired}
use Rattle.machine_scenes.specs.FieldIds.{FieldAgrees}
use Rattle.machine_scenes.specs.Given.{field_at, field_there, name_there, operand_at}
use Rattle.machine_scenes.specs.StoreAgrees.{HeldAgrees}
use Rattle.machine_scenes.specs.Statics.{References, static_at}
use Rattle.machine_scenes.specs.declared.handle.Handle.{Handle}
use Rattle.syntax.specs.Tree.{SourceUnit}
use Rattle.class_rules.specs.Class.{Classes}
use Rattle.machine_scenes.proofs.LocalFrames.{frame_ended, full_where}
use Rattle.semantics.specs.Object.{Object, Reference}
use Rattle.monitors.specs.Monitors.{monitor_of}
use Rattle.machine_scenes.proofs.Handles.{class_of_field, class_within}
use Rattle.machine_answers.specs.Asked.{HeldStatic, IsAsked, deletes_static, references_of, scene_of}
use Rattle.machine_answers.specs.Sights.{call_seen, class_object_seen, deleted_seen, held_seen, monitor_seen, object_seen}
use Rattle.machine_answers.proofs.LongTables.{classes_loaded}
use Rattle.machine_answers.proofs.TrapsSeen.{depth_last, trap_without}
use Rattle.semantics.proofs.CheckLaws.{together_without}
use Rattle.machine_answers.proofs.SightParts.{name_is, name_seen_is, object_there_is, still_kind}

-- as many are seen as there are, each as it is
each_is : (seen : ℕ → ArgumentSight) (is : Actual → ArgumentSight) (os : List Operand) (args : List Actual) → length os ≡ length args → ((i : ℕ) (a : Actual) → slice_get args i ≡ Some a → seen i ≡ is a) → each_seen seen os ≡ map is args
each_is seen is [] [] count h = refl
each_is seen is [] (a ∷ args) count h = absurd (cc)
each_is seen is (o ∷ os) [] count h = absurd (cc)
each_is seen is (o ∷ os) (a ∷ args) count h =
    ap (λ (s : ArgumentSight). s ∷ each_seen (λ i. seen (suc i)) os) (h 0 a refl)
    ∙ ap (λ (ss : List ArgumentSight). is a ∷ ss) (each_is (λ i. seen (suc i)) is os args (let e : length os ≡ length args = cc in e) (λ i b e. h (suc i) b e))

as_many : {G : ParameterKind → Operand → Actual → Type 0} {ps : List ParameterKind} {os : List Operand} {args : List Actual} → AllTogether G ps os args → length os ≡ length args
as_many list.none = refl
as_many (list.more h rest) = ap suc (as_many rest)

-- a call that sees this, with the arguments of the source's call
module _ (scene : Scene) (locals : LocalTable) (callers : ℕ) (call : Call) (heap : Heap) (args : List Actual) (agrees : HeapAgrees scene.space heap)
    (all : AllTogether (IsGiven scene.unit scene.classes scene.space scene.references scene.fields) (parameters_for call.function (length args)) call.operands args)
    (words : scene.stack ≡ words_given args) (texts : call.texts ≡ texts_given args) where
  abbrev Given : ParameterKind → Operand → Actual → Type 0
  Given p o a = IsGiven scene.unit scene.classes scene.space scene.references scene.fields p o a

  count : length call.operands ≡ length args
  count = as_many all

  -- the kinds of the parameters, by the operands or the arguments
  same_kinds : kinds scene locals callers call ≡ parameters_for call.function (length args)
  same_kinds = ap (λ n. parameters_for call.function n) count

  -- what is seen at a place is what the source sees there
  pub argument_is : (i : ℕ) → argument_seen scene locals callers call i ≡ source.argument_seen heap (slice_get args i)
  argument_is i =
      ap (λ (ps : List ParameterKind). by_kinds ps) same_kinds
      ∙ by_place (place_at i all)
    where
      by_kinds : List ParameterKind → ArgumentSight
      by_kinds ps =
          operand_seen scene (slice_get ps i) (operand_of call.operands i)
          (if takes_word (slice_get ps i) (operand_of call.operands i) then number_at scene.stack (words_of (drop (suc i) ps) (drop (suc i) call.operands)) else pos 0)
          (text_seen call.texts (slice_get ps i) (texts_of (take i ps)))

      by_place : Place Given (parameters_for call.function (length args)) call.operands args i → by_kinds (parameters_for call.function (length args)) ≡ source.argument_seen heap (slice_get args i)
      by_place (There p o a at_p at_o at_a h) =
          ap (λ (q : Option ParameterKind). operand_seen scene q (operand_of call.operands i)
          (if takes_word q (operand_of call.operands i) then number_at scene.stack (words_of (drop (suc i) (parameters_for call.function (length args))) (drop (suc i) call.operands)) else pos 0)
          (text_seen call.texts q (texts_of (take i (parameters_for call.function (length args)))))) at_p
          ∙ ap (λ (r : Option Operand). operand_seen scene (Some p) (operand_or_null r)
          (if takes_word (Some p) (operand_or_null r) then number_at scene.stack (words_of (drop (suc i) (parameters_for call.function (length args))) (drop (suc i) call.operands)) else pos 0)
          (text_seen call.texts (Some p) (texts_of (take i (parameters_for call.function (length args)))))) at_o
          ∙ ap (λ z. operand_seen scene (Some p) o z (text_seen call.texts (Some p) (texts_of (take i (parameters_for call.function (length args))))))
          (number_is scene i all words at_a h)
          ∙ ap (λ (t : List ℕ). operand_seen scene (Some p) o (number_in_actual (Some a)) t)
          (text_is scene i all texts at_a h)
          ∙ sight_is scene heap agrees h
          ∙ sym (ap (source.argument_seen heap) at_a)
      by_place (Past at_p at_o at_a) =
          ap (λ (q : Option ParameterKind). operand_seen scene q (operand_of call.operands i)
          (if takes_word q (operand_of call.operands i) then number_at scene.stack (words_of (drop (suc i) (parameters_for call.function (length args))) (drop (suc i) call.operands)) else pos 0)
          (text_seen call.texts q (texts_of (take i (parameters_for call.function (length args)))))) at_p
          ∙ ap (λ (r : Option Operand). operand_seen scene None (operand_or_null r) (pos 0) []) at_o
          ∙ sym (ap (source.argument_seen heap) at_a)

  -- and so of all
  pub arguments_are : each_seen (argument_seen scene locals callers call) call.operands ≡ map (λ (a : Actual). source.argument_seen heap (Some a)) args
  arguments_are = each_is (argument_seen scene locals callers call) (λ (a : Actual). source.argument_seen heap (Some a)) call.operands args count
      (λ i a e. argument_is i ∙ ap (source.argument_seen heap) e)

-- ---- what is around the arguments

-- the monitor of an object
pub monitor_is : (o : Option Monitor) (m : Option source_thread.Monitor) → MonitorAgrees o m → option_map monitor_seen o ≡ m
monitor_is None None h = refl
monitor_is None (Some m) h = absurd h
monitor_is (Some x) None h = absurd h
monitor_is (Some x) (Some m) h =
    let put = λ (object owner count : ℕ). let y : source_thread.Monitor = record { object = object; owner = owner; count = count } in Some y in
    ap (λ (n : ℕ). put n x.owner x.count) h.0 ∙ ap (λ (n : ℕ). put m.object n x.count) h.1 ∙ ap (λ (n : ℕ). put m.object m.owner n) h.2

-- what a static holds
pub held_is : (space : Space) (h : Held) (r : StaticReference) → HeldAgrees space h r → held_seen space h ≡ r
held_is space held.Empty Empty h = refl
held_is space (held.At a) (Live n) h = ap (λ (o : Option ℕ). Live (name_or_zero o)) h
held_is space (held.Weakly a) (Weakly n) h = ap (λ (o : Option ℕ). Weakly (name_or_zero o)) h
held_is space held.Cleared Cleared h = refl
held_is space held.Deleted Deleted h = refl
held_is space x r h = absurd h

-- an array is given where one is asked for
array_is : (numbers : List ℕ) (vs : Variables) {T : ElementType} {unit : SourceUnit} {classes : Classes} {space : Space} {references : References} {fields : List (Option Handle)} {o : Operand} {a : Actual} → IsGiven unit classes space references fields (ArrayVariable T) o a → HasArray numbers vs o a
    → (array_in o).len ≡ length (local_array (lookup (variable_in_actual (Some a)) vs))
array_is numbers vs given.array h =
    sym (ap (λ (b : Actual). length (local_array (lookup (variable_in_actual (Some b)) vs))) h.1 ∙ ap (λ (v : Option Variable). length (local_array v)) h.2.is ∙ h.2.count)
array_is numbers vs (given.reference kind there) h = absurd kind

-- a field ID is NULL or that of a field
known_field : (scene : Scene) {p : ParameterKind} {o : Operand} {a : Actual} → IsGiven scene.unit scene.classes scene.space scene.references scene.fields p o a → (h : FieldHandle) → field_at scene.fields o ≡ Some h → IsSome (field_of scene.classes h)
known_field scene (given.field {f = f} there) h e = by_field f (subst (λ (x : Option FieldHandle). FieldAgrees scene.classes x f) e there)
  where
    by_field : (f : Option FieldId) → FieldAgrees scene.classes (Some h) f → IsSome (field_of scene.classes h)
    by_field None agrees = absurd agrees
    by_field (Some f) agrees = ap is_some agrees
known_field scene (given.reference kind (given.null takes)) h e = absurd (cc)
known_field scene there h e = absurd (cc)

-- a parameter for a static alone is given one
abbrev IsOfStatics : ParameterKind → Type 0
IsOfStatics StaticVariable = Unit {0}
IsOfStatics WeakVariable = Unit {0}
IsOfStatics p = ⊥

statics_alone : {space : Space} {references : References} {p : ParameterKind} {o : Operand} {r : StaticReference} → IsOfStatics p → ReferenceIsGiven space references p o r → (i : ℕ) × (o ≡ operand.Static i)
statics_alone of (given.static {i = i} takes agrees) = (i, refl)
statics_alone {p = StaticVariable} of (given.null takes) = absurd takes
statics_alone {p = WeakVariable} of (given.null takes) = absurd takes
statics_alone {p = StaticVariable} of (given.local r takes agrees) = absurd takes
statics_alone {p = WeakVariable} of (given.local r takes agrees) = absurd takes
statics_alone of h = absurd of

static_alone : {unit : SourceUnit} {classes : Classes} {space : Space} {references : References} {fields : List (Option Handle)} {p : ParameterKind} {o : Operand} {a : Actual} → IsOfStatics p → IsGiven unit classes space references fields p o a → (i : ℕ) × (o ≡ operand.Static i)
static_alone of (given.reference kind there) = statics_alone of there
static_alone of h = absurd of

-- ---- the call

-- Store, frames and pending exception of a thread agree with the source's, and each operand gives what the argument at its place is.
module _ (p : Lowered) (w : World) (store : Store) (pending : Option ℕ) (activation : Activation) (call : Call) (others : Acquired) (k owner : ℕ) (shared : Shared) (s : Thread) (target : Target) (args : List Actual)
    (h : IsAsked p w store pending activation call others k owner shared s target call.function args) where
  abbrev scene : Scene
  scene = scene_of (unit_tree p.unit) w.classes store activation k pending

  abbrev seen : ℕ → ArgumentSight
  seen i = argument_seen scene activation.locals (length s.callers) call i

  same : (i : ℕ) → seen i ≡ source.argument_seen shared.heap (slice_get args i)
  same i = argument_is scene activation.locals (length s.callers) call shared.heap args h.store_agrees.heap h.given h.words h.texts i

  -- the class object of a class of the table
  declaring_is : (c : ℕ) → (c ≡ 0) ⊎ (c ≤ length w.classes) → object_seen store.heap (class_object_seen store.loaded.items c) ≡ source.object_seen shared.heap c
  declaring_is zero within = refl
  declaring_is (suc i) (inl e) = absurd (cc)
  declaring_is (suc i) (inr within) = by_address (slice_get store.loaded.items i) refl
    where
      there : (xs : List ℕ) (j : ℕ) → j < length xs → slice_get xs j ≡ None → ⊥
      there [] j below e = absurd (omega (arith, below))
      there (x ∷ xs) zero below e = absurd (cc)
      there (x ∷ xs) (suc j) below e = there xs j (omega (arith, below)) e

      by_address : (o : Option ℕ) → slice_get store.loaded.items i ≡ o → object_seen store.heap o ≡ source.object_seen shared.heap (suc i)
      by_address None e = absurd (there store.loaded.items i (omega (arith, within, classes_loaded w, h.store_agrees.table.counted)) e)
      by_address (Some a) e =
          let next : i + 1 ≡ suc i = omega arith in
          object_there_is store.heap shared.heap h.store_agrees.heap a (i + 1) (h.store_agrees.table.named i a e) ∙ ap (source.object_seen shared.heap) next

  -- the class that declares the field of the second argument is one of the table
  class_within_table : (field_there w.classes (field_at scene.fields (operand_of call.operands 1))).class ≡ 0 ⊎ ((field_there w.classes (field_at scene.fields (operand_of call.operands 1))).class ≤ length w.classes)
  class_within_table = by_place (place_at 1 h.given)
    where
      by_handle : (o : Option Operand) (x : Option FieldHandle) → field_at scene.fields (operand_or_null o) ≡ x → ((i : FieldHandle) → x ≡ Some i → IsSome (field_of w.classes i))
          → ((field_there w.classes x).class ≡ 0) ⊎ ((field_there w.classes x).class ≤ length w.classes)
      by_handle o None e known = inl refl
      by_handle o (Some i) e known = inr (subst (λ (c : ℕ). c ≤ length w.classes) (class_of_field w.classes i (known i refl)) (class_within w.classes i (known i refl)).1)

      by_place : Place (IsGiven scene.unit scene.classes scene.space scene.references scene.fields) (parameters_for call.function (length args)) call.operands args 1
          → ((field_there w.classes (field_at scene.fields (operand_of call.operands 1))).class ≡ 0) ⊎ ((field_there w.classes (field_at scene.fields (operand_of call.operands 1))).class ≤ length w.classes)
      by_place (There q o a at_p at_o at_a there) =
          by_handle (slice_get call.operands 1) (field_at scene.fields (operand_of call.operands 1)) refl
          (λ i e. known_field scene there i (sym (ap (λ (x : Option Operand). field_at scene.fields (operand_or_null x)) at_o) ∙ e))
      by_place (Past at_p at_o at_a) = inl (ap (λ (x : Option Operand). (field_there w.classes (field_at scene.fields (operand_or_null x))).class) at_o)

  elements_are : elements_seen (slice_get (prototype call.function).parameters 3) (operand_of call.operands 3) ≡ source.elements_seen s.variables (slice_get (prototype call.function).parameters 3) (variable_given args 3)
  elements_are = by_kind (slice_get (prototype call.function).parameters 3) refl
    where
      fourth : (q : ParameterKind) → slice_get (prototype call.function).parameters 3 ≡ Some q → slice_get (parameters_for call.function (length args)) 3 ≡ Some q
      fourth q e = still_kind (prototype call.function).parameters _ 3 q e

      by_place : {T : ElementType} → slice_get (parameters_for call.function (length args)) 3 ≡ Some (ArrayVariable T) → (array_in (operand_of call.operands 3)).len ≡ length (local_array (lookup (variable_given args 3) s.variables))
      by_place is =
          let fourth = at_kind 3 (with_each h.given h.arrays) is in
          ap (λ (x : Option Operand). (array_in (operand_or_null x)).len) fourth.at
          ∙ array_is activation.slots.numbers.items s.variables fourth.given.0 fourth.given.1
          ∙ sym (ap (λ (x : Option Actual). length (local_array (lookup (variable_in_actual x) s.variables))) fourth.is)

      by_kind : (q : Option ParameterKind) → slice_get (prototype call.function).parameters 3 ≡ q → elements_seen q (operand_of call.operands 3) ≡ source.elements_seen s.variables q (variable_given args 3)
      by_kind (Some (ArrayVariable T)) e =
          by_place (fourth (ArrayVariable T) e)
      by_kind q e = refl

  monitor_alike : option_map monitor_seen (monitor_of store.monitors (name_there store.heap (operand_at scene.references (operand_of call.operands 0))))
      ≡ source_thread.monitor_of shared.monitors (name_or_zero (reference_in_actual (slice_get args 0)))
  monitor_alike =
      let name : name_there store.heap (operand_at scene.references (operand_of call.operands 0)) ≡ name_or_zero (reference_in_actual (slice_get args 0)) =
      name_is store.heap (operand_at scene.references (operand_of call.operands 0)) ∙ ap (λ (a : ArgumentSight). name_or_zero a.reference) (same 0) in
      ap (λ (n : ℕ). option_map monitor_seen (monitor_of store.monitors n)) name
      ∙ monitor_is (monitor_of store.monitors (name_or_zero (reference_in_actual (slice_get args 0)))) (source_thread.monitor_of shared.monitors (name_or_zero (reference_in_actual (slice_get args 0))))
      (h.store_agrees.monitors.at (name_or_zero (reference_in_actual (slice_get args 0))))

  -- beside what the static holds that it deletes, it sees what the source's call sees
  pub others_agree : {o o' : Option StaticReference} → o ≡ o' → record (call_seen scene activation.locals (length s.callers) call) { held = o } ≡ record (source.sight_of_call shared s call.function args) { held = o' }
  others_agree held_alike =
      let declares = declaring_is (field_there w.classes (field_at scene.fields (operand_of call.operands 1))).class class_within_table ∙ ap (λ (a : ArgumentSight). source.object_seen shared.heap a.field.class) (same 1) in
      let all = arguments_are scene activation.locals (length s.callers) call shared.heap args h.store_agrees.heap h.given h.words h.texts in
      let room = full_where store.heap activation.locals s.frames h.frames_agree in
      let below = full_where store.heap (popped activation.locals) (drop 1 s.frames) (frame_ended store.heap activation.locals s.frames h.frames_agree) in
      whole all (same 0) (same 1) (same 2) declares monitor_alike elements_are held_alike (name_seen_is store.heap pending s.pending h.pending_agrees) (sym room) (sym below)
    where
      sight : List ArgumentSight → (first second third : ArgumentSight) → Object → Option source_thread.Monitor → ℕ → Option StaticReference → Reference → (full below : Bool) → CallSight
      sight all first second third declaring monitor elements held pending full below =
          record { arguments = all; first = first; second = second; third = third; declaring = declaring; monitor = monitor; elements = elements; held = held; pending = pending; is_full = full; is_full_below = below; callers = length s.callers }

      whole : {a a' : List ArgumentSight} {b b' c c' d d' : ArgumentSight} {e e' : Object} {m m' : Option source_thread.Monitor} {n n' : ℕ} {o o' : Option StaticReference} {q q' : Reference} {r r' t t' : Bool}
          → a ≡ a' → b ≡ b' → c ≡ c' → d ≡ d' → e ≡ e' → m ≡ m' → n ≡ n' → o ≡ o' → q ≡ q' → r ≡ r' → t ≡ t' → sight a b c d e m n o q r t ≡ sight a' b' c' d' e' m' n' o' q' r' t'
      whole a b c d e m n o q r t = cc

  -- so its checks, which don't look at that, find the same
  abbrev mine : CallSight
  mine = call_seen scene activation.locals (length s.callers) call

  abbrev theirs : CallSight
  theirs = source.sight_of_call shared s call.function args

  -- the element types of the buffers that they are to fill
  abbrev my_element : ElementType
  my_element = element_wanted call.target

  abbrev their_element : ElementType
  their_element = target_element s.variables target

  pub same_together : go_together w.classes mine my_element call.function ≡ go_together w.classes theirs their_element call.function
  same_together =
      sym (together_without w.classes mine mine.monitor None mine.callers my_element call.function)
      ∙ ap (λ (sight : CallSight). go_together w.classes sight my_element call.function) (others_agree {o = None} {o' = None} refl)
      ∙ together_without w.classes theirs theirs.monitor None theirs.callers my_element call.function
      ∙ ap (λ (element : ElementType). go_together w.classes theirs element call.function) h.wanted

  pub same_trap : trap_of w.classes mine my_element call.function ≡ trap_of w.classes theirs their_element call.function
  same_trap =
      depth_last w.classes mine my_element call.function
      ∙ sym (trap_without w.classes mine mine.monitor None mine.callers my_element call.function)
      ∙ ap (λ (sight : CallSight). trap_of w.classes sight my_element call.function) (others_agree {o = None} {o' = None} refl)
      ∙ trap_without w.classes theirs theirs.monitor None theirs.callers my_element call.function
      ∙ sym (depth_last w.classes theirs my_element call.function)
      ∙ ap (λ (element : ElementType). trap_of w.classes theirs element call.function) h.wanted

  -- the first operand of a function that ends the reference of a static is a static
  pub static_given : deletes_static call.function ≡ true → (i : ℕ) × (operand_of call.operands 0 ≡ operand.Static i)
  static_given deletes_one = by_kind (first_kind call.function deletes_one)
    where
      first_kind : (f : JniFunction) → deletes_static f ≡ true → (slice_get (parameters_for f (length args)) 0 ≡ Some StaticVariable) ⊎ (slice_get (parameters_for f (length args)) 0 ≡ Some WeakVariable)
      first_kind DeleteGlobalRef e = inl refl
      first_kind DeleteWeakGlobalRef e = inr refl
      first_kind f e = absurd (cc)

      of_kind : {q : ParameterKind} → IsOfStatics q → slice_get (parameters_for call.function (length args)) 0 ≡ Some q → (i : ℕ) × (operand_of call.operands 0 ≡ operand.Static i)
      of_kind of e = let first = at_kind 0 h.given e in let is = static_alone of first.given in (is.0, ap operand_or_null first.at ∙ is.1)

      by_kind : (slice_get (parameters_for call.function (length args)) 0 ≡ Some StaticVariable) ⊎ (slice_get (parameters_for call.function (length args)) 0 ≡ Some WeakVariable) → (i : ℕ) × (operand_of call.operands 0 ≡ operand.Static i)
      by_kind (inl e) = of_kind tt e
      by_kind (inr e) = of_kind tt e

  -- what is deleted is there
  held_alike : deleted_seen scene call.function (operand_of call.operands 0) ≡ source.held_seen shared.statics call.function (variable_given args 0)
  held_alike = by_function call.function (λ deletes_one. let static = static_given deletes_one in (static.0, static.1, h.held deletes_one static.0 static.1))
    where
      Is : JniFunction → Type 0
      Is f = deletes_static f ≡ true → (i : ℕ) × (operand_of call.operands 0 ≡ operand.Static i) × HeldStatic store.heap (references_of store activation) shared (variable_given args 0) i

      by_function : (f : JniFunction) → Is f → deleted_seen scene f (operand_of call.operands 0) ≡ source.held_seen shared.statics f (variable_given args 0)
      by_function DeleteGlobalRef is =
          let there = is refl in
          ap (deleted_seen scene DeleteGlobalRef) there.1 ∙ ap (λ (r : StaticReference). Some r) (held_is store.heap (static_at scene.references there.0) there.2.reference there.2.agrees) ∙ sym there.2.there
      by_function DeleteWeakGlobalRef is =
          let there = is refl in
          ap (deleted_seen scene DeleteWeakGlobalRef) there.1 ∙ ap (λ (r : StaticReference). Some r) (held_is store.heap (static_at scene.references there.0) there.2.reference there.2.agrees) ∙ sym there.2.there
      by_function f is = refl

  -- it sees what the source's call sees
  pub sights_agree : call_seen scene activation.locals (length s.callers) call ≡ source.sight_of_call shared s call.function args
  sights_agree = others_agree held_alike
