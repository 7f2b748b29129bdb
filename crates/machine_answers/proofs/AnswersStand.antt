-- An answer stands for the source's where it is seen as that, and what it names is there: a row for each answer.
use Rattle.std.proofs.Common.{Fits, ◌≡◌, ℕ, zero, suc, ◌<◌, ◌≤◌, ◌^◌, Bool, true, false, not, List, [], ◌∷◌, ◌++◌, length, map, Option, Some, None, slice_get, refl, sym, ap, ◌∙◌, subst, arith, inl, inr}
use Rattle.std.specs.Prelude.{◌==◌, ◌&&◌, ◌-◌, FitsSigned, if◌then◌else◌, is_none, is_some, nat_lt, replicate}
use Rattle.std.specs.Int.{w32, cast_signed, cast_unsigned}
use Rattle.std.specs.Option.{option_map, option_map_or}
use Rattle.std.proofs.lemmas.Bool.{and_parts, eqb-true, ltb-true}
use Rattle.std.proofs.Math.Facts.{of_z-to_z, sfits_to_z, to_z_pos}
use Rattle.base.specs.Bytes.{lookup}
use Rattle.base.specs.declared.element.ElementType.{ElementType}
use Rattle.base.specs.declared.element.ElementType.TheVariants.{Int as JInt, Short as JShort, Byte as JByte, Char as JChar}
use Rattle.class_rules.specs.BuiltIns.{array_index_out_of_bounds, array_store_exception, class_class, illegal_monitor_state, negative_array_size, no_class_def_found_error, no_such_field_error, number_array, string_class, string_index_out_of_bounds, throwable_class}
use Rattle.syntax.specs.Parts.{functions_of}
use Rattle.syntax.specs.Tree.{Function, SourceUnit}
use Rattle.class_rules.specs.Class.{ArrayOfObjects, Classes, Plain, array_name, assignable, class_kind, class_name}
use Rattle.class_rules.specs.declared.class_id.ClassId.{ClassId}
use Rattle.code.specs.Call.{Call}
use Rattle.code.specs.Effect.{truth_word}
use Rattle.code.specs.declared.instr.Operand.{Operand}
use Rattle.code.specs.declared.instr.Operand.TheVariants as operand
use Rattle.heap.specs.Heap.{Block, Space, block_at, name_at, values_at}
use Rattle.heap.specs.declared.value.Value.{Value}
use Rattle.heap.specs.declared.value.Value.TheVariants as cell
use Rattle.jni.specs.declared.function.JniFunction.{JniFunction}
use Rattle.jni.specs.declared.function.JniFunction.TheVariants.{DeleteLocalRef, MonitorEnter}
use Rattle.jni.specs.JniFunction.{calls_method, parameters_for, prototype}
use Rattle.jni.specs.Subjects.{subject_of}
use Rattle.jni.specs.declared.kinds.ParameterKind.{ParameterKind}
use Rattle.jni.specs.declared.kinds.ParameterKind.TheVariants.{ClassObject, NonNull, NumberArray, Passed, StringObject}
use Rattle.jni.specs.declared.kinds.ResultKind.{ResultKind}
use Rattle.jni.specs.declared.kinds.ResultKind.TheVariants.{GivesBuffer, GivesInt, GivesNothing, NewLocal}
use Rattle.semantics.specs.Answer as source
use Rattle.semantics.specs.Arguments.{name_or_zero, object_given, variable_given}
use Rattle.semantics.specs.AnswerTable.{monitor_entered, monitor_left, method_called}
use Rattle.semantics.specs.CallEffects.{CallResult, level_of, MethodResult}
use Rattle.semantics.specs.CallSight.{CallSight, name_of_first, name_of_second}
use Rattle.semantics.specs.CallStep.{is_owned_by_other, target_element, trap_of_call}
use Rattle.semantics.specs.Checks.{go_together}
use Rattle.semantics.specs.Answer.{Region}
use Rattle.semantics.specs.Heap.{numbers_of, values_of}
use Rattle.semantics.specs.Method.{MethodId}
use Rattle.semantics.specs.Object.{Object, ObjectValue, Number, Reference, Refers}
use Rattle.semantics.specs.Thread.{monitor_of as monitor_in}
use Rattle.semantics.specs.declared.trap.Trap.{Trap}
use Rattle.semantics.specs.Variable.{Cleared, Weakly}
use Rattle.semantics.proofs.AnswerFacts.{IsMade, IsOfKind, IsRaised, NoClass, NoElement, NoField, NoMethod, NoOwner, NoSize, NoStore, NoUnit, OfClass, OfField, OfFlag, OfInt, OfMethod, OfNothing, OfNumbers, OfReference, OfReferences, OfText, OfWeak, Takes}
use Rattle.semantics.proofs.AnswerKinds.{AnswersAs, CallKind, Copying, Disowning, EndingGlobal, EndingLocal, EndingNoLocal, EndingNoStatic, EndingWeak, EndsLocal, EndsStatic, Ensuring, EnsuringNone, Filling, FillingNone, Giving, Halting, IsChecked, Making, MakingGlobal, Owning, Pending, Popping, Pushing, PushingNone, Raising, RaisingWith, SettingRegion, Viewing, Writing, answers_as, call_kind}
use Rattle.world_values.proofs.LoadedWorlds.{class_within}
use Rattle.code_meaning.specs.Fits.{IsReferenceKind}
use Rattle.monitors.specs.Monitors.{entering, leaving, monitor_of}
use Rattle.monitors.specs.declared.monitors.Enter.{Enter}
use Rattle.monitors.specs.declared.monitors.Enter.TheVariants.{Entered}
use Rattle.monitors.specs.declared.monitors.Exit.{Exit}
use Rattle.monitors.specs.declared.monitors.Exit.TheVariants.{Left}
use Rattle.monitors.specs.declared.monitors.Object.{Object as MonitorObject}
use Rattle.machine_scenes.proofs.ForetoldMonitors.{may_enter, owns}
use Rattle.machine_scenes.specs.declared.array_region.ArrayRegion.{ArrayRegion}
use Rattle.machine_scenes.specs.declared.new_object.New.{New}
use Rattle.machine_scenes.specs.declared.new_object.New.TheVariants as news
use Rattle.machine_scenes.specs.declared.references.Held.{Held}
use Rattle.machine_scenes.specs.declared.references.Held.TheVariants as held
use Rattle.machine_scenes.specs.declared.handle.MethodHandle.{MethodHandle}
use Rattle.machine_scenes.specs.FieldIds.{IsMethod}
use Rattle.machine_scenes.specs.Given.{key_at, method_at, name_there as name_of, operand_of}
use Rattle.machine_scenes.specs.HeapAgrees.{ReferenceAgrees, ValueAgrees, ValuesAgree}
use Rattle.machine_scenes.specs.Locals.{IsKeyGiven}
use Rattle.machine_scenes.specs.NewObjects.{Describes, IsMakeable}
use Rattle.machine_scenes.specs.Scenes.{Scene}
use Rattle.machine_scenes.specs.Statics.{static_at}
use Rattle.machine_answers.specs.declared.answer.Answer.{Answer}
use Rattle.machine_answers.specs.declared.answer.Answer.TheVariants as replies
use Rattle.machine_answers.specs.declared.answer.Given.{Given}
use Rattle.machine_answers.specs.declared.answer.Given.TheVariants as given
use Rattle.machine_answers.specs.Answered.{TwoCalls, Asked, IsAnswerTo, Passes, scene, unit}
use Rattle.machine_answers.specs.Answers.{GivenAgrees}
use Rattle.machine_answers.specs.Answers as row
use Rattle.machine_answers.specs.AnswersSeen.{CallsMethod, EndsFirst, IsSeen, IsThere, WhenPassed, answer_seen, answer_there, given_seen, given_there, held_name, is_at, is_entered, is_key, is_left, is_static_at, is_weak, made_seen, named, new_there, owned_seen, reference_there, region_seen, region_there, same_buffer, takes_object, value_there, GivesMethod, IsThereOrMethod}
use Rattle.machine_answers.specs.Asked.{deletes_static}
use Rattle.machine_answers.specs.Checked.{may_be_null}
use Rattle.machine_answers.specs.Sights.{array_in, held_seen, name_seen, value_seen, method_seen}
use Rattle.machine_answers.specs.WorkedOut.{buffer_there, slot_of}
use Rattle.machine_answers.proofs.BufferAnswers.{buffer_is, copy_acquired, is_release, release_is, released_so}
use Rattle.machine_answers.proofs.CallOperands.{few_there, own_making}
use Rattle.machine_answers.proofs.CallTraps.{goes_together, same_pending, seen_is}
use Rattle.machine_answers.proofs.FieldPlaces.{field_given, place_inside, class_named, static_given, static_inside_it}
use Rattle.machine_answers.proofs.FieldValues.{values_there}
use Rattle.machine_answers.proofs.KindAnswers.{InTable, IsStatic, Stands, class_of_first, does, named as named_at, own_key, pending_named, same_names, same_sight, sight, static_named}
use Rattle.machine_answers.proofs.LongTables.{class_is_no_throwable, class_is_plain}
use Rattle.machine_answers.proofs.MonitorAnswers.{changes_monitor, entered, left}
use Rattle.machine_answers.proofs.RegionAnswers.{copied_in, copied_out, numbers_are}
use Rattle.machine_answers.proofs.SightParts.{name_is, name_seen_is}
use Rattle.machine_answers.proofs.SightsAgree.{monitor_is}
use Rattle.machine_answers.proofs.TrapsSeen.{with_depth}
use Rattle.machine_answers.proofs.MethodAnswers.{called_method}
use Rattle.tables.specs.Locals.{LocalTable}
use Rattle.machine_answers.proofs.TwoCalls.{all, at, built_in_class, class_given, method_error, object_given_at, references, fields, table_of}

-- ---- what is given

there_named : (o : Option Block) → is_some o ≡ true → option_map (λ (b : Block). b.birth) o ≡ None → ⊥
there_named None there none = absurd (cc)
there_named (Some b) there none = absurd (cc)

-- an address by its name
pub reference_agrees : (space : Space) (a : Option ℕ) (r : Reference) → name_seen space a ≡ r → reference_there space a ≡ true → ReferenceAgrees space a r
reference_agrees space None None is there = tt
reference_agrees space None (Some n) is there = absurd (cc)
reference_agrees space (Some a) None is there = absurd (there_named (block_at space a) there is)
reference_agrees space (Some a) (Some n) is there = is

name_there : (o : Option Block) → is_some o ≡ true → option_map (λ (b : Block). b.birth) o ≡ Some (name_or_zero (option_map (λ (b : Block). b.birth) o))
name_there None there = absurd (cc)
name_there (Some b) there = refl

-- the name of an object that is there
pub named_there : (space : Space) (a : ℕ) → is_some (block_at space a) ≡ true → name_at space a ≡ Some (named space a)
named_there space a there = name_there (block_at space a) there

-- what a cell holds
pub value_agrees : (space : Space) (v : Value) → value_there space v ≡ true → ValueAgrees space v (value_seen space v)
value_agrees space (cell.Number word) there =
    let fits : Fits w32 word = record { fits = ltb-true word (2 ^ 32) there } in (sfits_to_z {w = w32} fits, sym (of_z-to_z {w = w32} fits))
value_agrees space cell.Null there = tt
value_agrees space (cell.Block a) there = subst (ReferenceAgrees space (Some a)) (sym (named_there space a there)) (named_there space a there)

flag_word : (word : ℕ) (b : Bool) → nat_lt word 2 ≡ true → not (word == 0) ≡ b → word ≡ truth_word b
flag_word zero true small is = absurd (cc)
flag_word zero false small is = refl
flag_word (suc zero) true small is = refl
flag_word (suc zero) false small is = absurd (cc)
flag_word (suc (suc n)) b small is = absurd (let few = ltb-true (suc (suc n)) 2 small in omega (arith, few))

module _ (scene : Scene) where
  -- what is given is of the kind of the function's result
  pub given_agrees : {kind : ResultKind} {c : CallResult} (g : Given) → IsOfKind scene.unit scene.classes kind c → given_seen scene kind g ≡ c → given_there scene.space kind g ≡ true → GivenAgrees scene.unit scene.classes scene.space kind g c
  given_agrees (given.Reference a) (OfReference r) is there = let same : name_seen scene.space a ≡ r = cc in row.reference (reference_agrees scene.space a r same there)
  given_agrees g (OfReference r) is there = absurd (cc)
  given_agrees given.Nothing (OfWeak r) is there = absurd (cc)
  given_agrees g (OfWeak r) is there = absurd (cc)
  given_agrees (given.Number word) (OfFlag b) is there = let same : not (word == 0) ≡ b = cc in row.flag (flag_word word b there same)
  given_agrees g (OfFlag b) is there = absurd (cc)
  given_agrees (given.Number word) (OfInt z) is there =
      let same : cast_signed w32 word ≡ z = cc in
      let fits : Fits w32 word = record { fits = ltb-true word (2 ^ 32) there } in
      row.int (sym (of_z-to_z {w = w32} fits) ∙ ap (cast_unsigned w32) same) (subst (FitsSigned w32) same (sfits_to_z {w = w32} fits))
  given_agrees g (OfInt z) is there = absurd (cc)
  given_agrees (given.FieldId None) (OfField f found) is there = absurd (cc)
  given_agrees (given.FieldId (Some h)) (OfField f found) is there = row.field (cc)
  given_agrees g (OfField f found) is there = absurd (cc)
  given_agrees given.Nothing (OfMethod m class name text found) is there = absurd (cc)
  given_agrees g (OfMethod m class name text found) is there = absurd (cc)
  given_agrees given.Nothing OfNothing is there = row.nothing
  given_agrees g OfNothing is there = absurd (cc)

-- the method of a handle
pub method_named : (u : SourceUnit) (classes : Classes) (h : MethodHandle) (m : MethodId) → IsMethod u classes h m → method_seen u (Some h) ≡ Some m
method_named u classes h m is =
    ap (option_map (λ (f : Function). let n : MethodId = record { class = h.class.number; function = f } in n)) is.function
    ∙ ap (λ (c : ℕ). let n : MethodId = record { class = c; function = m.function } in Some n) is.class

-- it is given where a method is
method_given : {u : SourceUnit} {classes : Classes} {sight : CallSight} {f : JniFunction} {of : CallKind} {kind : ResultKind} {a : source.Answer} (space : Space) (h : MethodHandle) (m : MethodId) → IsMethod u classes h m
    → AnswersAs u classes sight f of kind a → source.Gives (MethodResult (Some m)) ≡ a → (c : CallResult) × (GivenAgrees u classes space kind (given.MethodId (Some h)) c) × (source.Gives c ≡ a)
method_given {u = u} {classes = classes} space h m is (Giving (OfMethod n class name text found)) same =
    let one : m ≡ n = cc in (MethodResult (Some n), row.method (subst (IsMethod u classes h) one is), refl)
method_given space h m is rows same = absurd (cc)

-- ---- functions

ends_static : (f : JniFunction) → call_kind f ≡ EndsStatic → deletes_static f ≡ true
ends_static f of = grind (arith, of)

same_static : (o : Operand) (i j : ℕ) → o ≡ operand.Static j → is_static_at o i ≡ true → j ≡ i
same_static (operand.Static m) i j is there = let at : m ≡ j = cc in sym at ∙ eqb-true m i there
same_static o i j is there = absurd (cc)

key_is : (o : Option ℕ) (key : ℕ) → is_key o key ≡ true → o ≡ Some key
key_is None key there = absurd (cc)
key_is (Some k) key there = ap (λ (n : ℕ). Some n) (eqb-true k key there)

first_part : (a b : Bool) → (a && b) ≡ true → a ≡ true
first_part a b is = (and_parts a b is).0

came_in : (came : Enter) → is_entered came ≡ true → came ≡ Entered
came_in Entered is = refl
came_in came is = absurd (cc)

came_out : (came : Exit) → is_left came ≡ true → came ≡ Left
came_out Left is = refl
came_out came is = absurd (cc)

-- a parameter for an object that isn't NULL
abbrev is_object : Option ParameterKind → Bool
is_object (Some NonNull) = true
is_object (Some StringObject) = true
is_object (Some (NumberArray T)) = true
is_object p = false

object_kind : (q : ParameterKind) → is_object (Some q) ≡ true → IsReferenceKind q × (may_be_null q ≡ false)
object_kind NonNull is = (tt, refl)
object_kind StringObject is = (tt, refl)
object_kind (NumberArray T) is = (tt, refl)
object_kind q is = absurd (cc)

first_kind : (f : JniFunction) → takes_object (subject_of f) ≡ true → is_object (slice_get (prototype f).parameters 0) ≡ true
first_kind f takes = grind (arith, takes)

-- ---- a call

module _ (both : TwoCalls) where
  open both use {p, w, store, pending, activation, call, others, k, owner, shared, s, target, sound, args}

  -- objects of a class after Class can be made
  pub makeable : (c : ℕ) → InTable both c → (c ≡ class_class → ⊥) → IsMakeable w.classes c
  makeable c within never = record { low = within.0; high = within.1; no_class = never }

  makes_numbers : (T : ElementType) → IsMakeable w.classes (number_array T)
  makes_numbers JInt = built_in_class both 23 (omega arith) (omega arith)
  makes_numbers JShort = built_in_class both 22 (omega arith) (omega arith)
  makes_numbers JByte = built_in_class both 20 (omega arith) (omega arith)
  makes_numbers JChar = built_in_class both 21 (omega arith) (omega arith)

  module _ (f : JniFunction) (h : Asked both f) (free : Passes both) where
    abbrev seen : CallSight
    seen = sight both f

    checked : IsChecked w.classes seen f
    checked = (
      target_element s.variables target,
      subst (λ (x : CallSight). go_together w.classes x (target_element s.variables target) f ≡ true) (sym (same_sight both f h))
          (goes_together p w store pending activation call others k owner shared s target f args h free),
    )

    -- the classes that arguments are
    first_class : Takes f 0 ClassObject → InTable both (name_of_first seen)
    first_class takes = by_parameters (parameters_for f (length args)) refl (takes (length args))
      where
        by_parameters : (ps : List ParameterKind) → parameters_for f (length args) ≡ ps → slice_get ps 0 ≡ Some ClassObject → InTable both (name_of_first seen)
        by_parameters [] are is = absurd (cc)
        by_parameters (q ∷ ps) are is = let first : q ≡ ClassObject = cc in class_given both f [] ps (are ∙ ap (λ (x : ParameterKind). x ∷ ps) first) h free

    second_class : Takes f 1 ClassObject → InTable both (name_of_second seen)
    second_class takes = by_parameters (parameters_for f (length args)) refl (takes (length args))
      where
        by_parameters : (ps : List ParameterKind) → parameters_for f (length args) ≡ ps → slice_get ps 1 ≡ Some ClassObject → InTable both (name_of_second seen)
        by_parameters [] are is = absurd (cc)
        by_parameters (q ∷ []) are is = absurd (cc)
        by_parameters (q ∷ r ∷ ps) are is = let second : r ≡ ClassObject = cc in class_given both f (q ∷ []) ps (are ∙ ap (λ (x : ParameterKind). q ∷ x ∷ ps) second) h free

    -- what is made and what is raised can be made
    made : {o : Object} → IsMade w.classes seen f o → IsMakeable w.classes o.class
    made (OfClass takes own) = makeable _ (first_class takes) (own_making w.classes _ (ap not own))
    made (OfNumbers T n) = makes_numbers T
    made (OfReferences n takes plain fits) =
        let class = second_class takes in
        let array = sound.declares.arrays (name_of_second seen) class.0 class.1 plain in
        subst (IsMakeable w.classes) (sym (ap (λ (o : Option ℕ). option_map_or (λ (c : ℕ). c) o 0) array.1))
        (makeable array.0 (class_within w.classes (array_name (class_name w.classes (name_of_second seen))) array.0 array.1)
        (λ e. absurd (let clash : Plain ≡ ArrayOfObjects (name_of_second seen) = sym (class_is_plain w.classes sound.grown) ∙ ap (class_kind w.classes) (sym e) ∙ array.2 in cc)))
    made (OfText takes) = built_in_class both string_class (omega arith) (omega arith)

    raised : {c : ℕ} → IsRaised f c → IsMakeable w.classes c
    raised NoClass = built_in_class both no_class_def_found_error (omega arith) (omega arith)
    raised NoField = built_in_class both no_such_field_error (omega arith) (omega arith)
    raised (NoMethod of) = method_error both (h.methods of)
    raised NoElement = built_in_class both array_index_out_of_bounds (omega arith) (omega arith)
    raised NoUnit = built_in_class both string_index_out_of_bounds (omega arith) (omega arith)
    raised NoStore = built_in_class both array_store_exception (omega arith) (omega arith)
    raised NoSize = built_in_class both negative_array_size (omega arith) (omega arith)
    raised NoOwner = built_in_class both illegal_monitor_state (omega arith) (omega arith)

    throwable : Takes f 0 ClassObject → assignable w.classes (name_of_first seen) throwable_class ≡ true → IsMakeable w.classes (name_of_first seen)
    throwable takes below =
        makeable _ (first_class takes)
        (λ e. absurd (let clash : false ≡ true = sym (class_is_no_throwable w.classes sound.grown) ∙ ap (λ (c : ℕ). assignable w.classes c throwable_class) (sym e) ∙ below in cc))

    -- ---- answers

    -- a local reference that ends
    local_ends : (key n : ℕ) → call_kind f ≡ EndsLocal → name_seen store.heap (at both 0) ≡ Some n → is_key (key_at (references both) (operand_of call.operands 0)) key ≡ true
        → Stands both (replies.Deletes key) GivesNothing (source.DeletesLocal 0 n)
    local_ends key n of is there =
        let local : f ≡ DeleteLocalRef = grind (arith, of) in
        row.deletes n 0 (
        subst (λ (r : Reference). IsKeyGiven store.heap activation.locals (Some key) r (level_of (lookup (variable_given args 0) s.variables))) is
        (subst (λ (o : Option ℕ). IsKeyGiven store.heap activation.locals o (name_seen store.heap (at both 0)) (level_of (lookup (variable_given args 0) s.variables)))
        (key_is _ key there) (own_key both f h local)))

    -- a static of which the reference ends
    static_ends : (i : ℕ) → call_kind f ≡ EndsStatic → is_static_at (operand_of call.operands 0) i ≡ true → IsStatic both i (static_at (references both) i)
    static_ends i of there =
        let static = static_named both f h (ends_static f of) in
        subst (λ (j : ℕ). IsStatic both j (static_at (references both) j)) (same_static _ i static.0 static.1 there) static.2

    global_ends : (i : ℕ) (x : Held) → is_at x ≡ true → IsStatic both i x → Stands both (replies.DeletesGlobal i) GivesNothing (source.DeletesGlobal 0 (held_name (held_seen store.heap x)))
    global_ends i (held.At a) is it = row.deletes_global (name_or_zero (name_at store.heap a)) 0 (record { place = it.place; there = it.there })
    global_ends i x is it = absurd (cc)

    weak_ends : (i : ℕ) (x : Held) → is_weak x ≡ true → IsStatic both i x → Stands both (replies.DeletesWeak i) GivesNothing (source.DeletesWeak 0)
    weak_ends i (held.Weakly a) is it = row.deletes_weak 0 (record { place = it.place; held = Weakly (name_or_zero (name_at store.heap a)); there = it.there; weak = tt })
    weak_ends i held.Cleared is it = row.deletes_weak 0 (record { place = it.place; held = Cleared; there = it.there; weak = tt })
    weak_ends i x is it = absurd (cc)

    -- an object that is made
    describes : (new : New) → new_there store.heap new ≡ true → IsMakeable w.classes (made_seen (scene both) call new).class → Describes w.classes call.texts store.heap new (made_seen (scene both) call new)
    describes (news.Fresh class) there makes = record { object = refl; makeable = makes }
    describes (news.Array array) there makes = record { object = (value_seen store.heap array.value, value_agrees store.heap array.value there, refl); makeable = makes }
    describes (news.Text place) there makes = record { object = refl; makeable = makes }
    describes (news.Exception class message) there makes = absurd (cc)

    thrown : {kind : ResultKind} (class : ClassId) (c : ℕ) → class.number ≡ c → IsMakeable w.classes c → Stands both (replies.Throws class) kind (source.Raises c)
    thrown {kind = kind} class c same makes =
        subst (λ (n : ℕ). Stands both (replies.Throws class) kind (source.Raises n)) same (row.throws (subst (IsMakeable w.classes) (sym same) makes))

    -- the object of a region has a name
    region_named : (r : ArrayRegion) → region_there store.heap (array_in (operand_of call.operands 3)) r ≡ true → name_at store.heap r.object ≡ Some (named store.heap r.object)
    region_named r there = named_there store.heap r.object (first_part _ _ (first_part _ _ (first_part _ _ there)))

    -- an answer that changes a monitor gives a number
    of_monitor : {of : CallKind} {kind : ResultKind} {a : source.Answer} → AnswersAs (unit both) w.classes seen f of kind a → changes_monitor a ≡ true → kind ≡ GivesInt
    of_monitor (Owning n count) is = refl
    of_monitor (Disowning n) is = refl
    of_monitor rows is = absurd (cc)

    -- the monitor of an object is the source's
    owned : (n : ℕ) → owned_seen (scene both) n ≡ monitor_in shared.monitors n
    owned n = monitor_is (monitor_of store.monitors n) (monitor_in shared.monitors n) (h.store_agrees.monitors.at n)

    enters : {kind : ResultKind} {a : source.Answer} (o : MonitorObject) → monitor_entered o.name (owned_seen (scene both) o.name) ≡ a → kind ≡ GivesInt → name_at store.heap o.address ≡ Some o.name
        → entering k (monitor_of store.monitors o.name) ≡ Entered → Stands both (replies.Enters o) kind a
    enters {kind = kind} o is gives there came =
        let may = may_enter k store.monitors shared.monitors h.store_agrees.monitors o.name (sym came) in
        subst (λ (y : source.Answer). Stands both (replies.Enters o) kind y) (ap (monitor_entered o.name) (sym (owned o.name)) ∙ is)
        (subst (λ (q : ResultKind). Stands both (replies.Enters o) q (monitor_entered o.name (monitor_in shared.monitors o.name))) (sym gives)
        (row.enters (record { there = there; own = may.own; few = may.few })))

    exits : {kind : ResultKind} {a : source.Answer} (n : ℕ) → monitor_left k n (owned_seen (scene both) n) ≡ a → kind ≡ GivesInt → leaving k (monitor_of store.monitors n) ≡ Left → Stands both (replies.Exits n) kind a
    exits {kind = kind} n is gives came =
        let own = owns k store.monitors shared.monitors h.store_agrees.monitors n (sym came) in
        subst (λ (y : source.Answer). Stands both (replies.Exits n) kind y) (ap (monitor_left k n) (sym (owned n)) ∙ is)
        (subst (λ (q : ResultKind). Stands both (replies.Exits n) q (monitor_left k n (monitor_in shared.monitors n))) (sym gives)
        (row.exits (record { monitor = own.monitor; owned = own.owned; own = own.own })))

    -- the answer to a call whose answer is of a row
    stand : {of : CallKind} {kind : ResultKind} {a : source.Answer} (x : Answer) → call_kind f ≡ of → AnswersAs (unit both) w.classes seen f of kind a → answer_seen (scene both) call kind x ≡ a
        → answer_there (scene both) call kind x ≡ true → Stands both x kind a
    stand (replies.Gives g) of (Giving given) is there = row.gives (given_agrees (scene both) g given (cc) there)
    stand (replies.Gives g) of (EndingNoLocal none) is there = row.gives (given_agrees (scene both) g OfNothing (cc) there)
    stand (replies.Gives g) of EndingNoStatic is there = row.gives (given_agrees (scene both) g OfNothing (cc) there)
    stand (replies.MakesWeak a) of (Giving (OfWeak r)) is there = let same : name_seen store.heap a ≡ r = cc in row.makes_weak r (reference_agrees store.heap a r same there)
    stand (replies.Writes a i v) of (Writing n j u write) is there =
        let parts = and_parts (is_some (block_at store.heap a) && nat_lt i (length (values_at store.heap a))) (value_there store.heap v) there in
        let inside = and_parts (is_some (block_at store.heap a)) (nat_lt i (length (values_at store.heap a))) parts.0 in
        subst (λ (y : source.Answer). Stands both (replies.Writes a i v) GivesNothing y) is
        (row.writes (record {
          there = named_there store.heap a inside.0;
          agrees = value_agrees store.heap v parts.1;
          within = ltb-true i (length (values_at store.heap a)) inside.1;
        }))
    stand (replies.Makes new) of (Making o checks) is there =
        let same : made_seen (scene both) call new ≡ o = cc in
        subst (λ (x : Object). Stands both (replies.Makes new) NewLocal (source.Makes x)) same
        (row.makes (describes new there (subst (λ (x : Object). IsMakeable w.classes x.class) (sym same) (made (checks checked)))))
    stand (replies.Throws class) of (Raising c raises) is there = thrown class c (cc) (raised raises)
    stand (replies.Throws class) of (FillingNone c raises) is there = thrown class c (cc) (raised raises)
    stand (replies.Raises class place) of (RaisingWith object text checks) is there =
        let same : class.number ≡ name_of_first seen = cc in
        subst (λ (y : source.Answer). Stands both (replies.Raises class place) GivesInt y) is
        (row.raises (built_in_class both string_class (omega arith) (omega arith)) (subst (IsMakeable w.classes) (sym same) (throwable object (checks checked))))
    stand {kind = kind} (replies.Pends a g) of (Pending r given) is there =
        let parts = and_parts (reference_there store.heap a) (given_there store.heap kind g) there in
        let same : name_seen store.heap a ≡ r = cc in
        row.pends r (reference_agrees store.heap a r same parts.0) (given_agrees (scene both) g given (cc) parts.1)
    stand {kind = kind} (replies.Halts trap) of (Halting t) is there = subst (λ (y : source.Answer). Stands both (replies.Halts trap) kind y) is row.halts
    stand (replies.Ensures n) of (Ensuring m) is there = subst (λ (y : source.Answer). Stands both (replies.Ensures n) GivesInt y) is row.ensures
    stand (replies.Pushes n) of (Pushing m) is there = subst (λ (y : source.Answer). Stands both (replies.Pushes n) GivesInt y) is row.pushes
    stand replies.RefusesFrames of EnsuringNone is there = row.refuses
    stand replies.RefusesFrames of PushingNone is there = row.refuses
    stand (replies.Pops a) of (Popping r) is there = let same : name_seen store.heap a ≡ r = cc in row.pops r (reference_agrees store.heap a r same there)
    stand (replies.Deletes key) of (EndingLocal n first) is there = local_ends key n of first there
    stand (replies.MakesGlobal a) of (MakingGlobal r) is there = let same : name_seen store.heap a ≡ r = cc in row.makes_global r (reference_agrees store.heap a r same there)
    stand (replies.DeletesGlobal i) of (EndingGlobal n) is there =
        let parts = and_parts (is_static_at (operand_of call.operands 0) i) (is_at (static_at (references both) i)) there in
        subst (λ (y : source.Answer). Stands both (replies.DeletesGlobal i) GivesNothing y) is (global_ends i (static_at (references both) i) parts.1 (static_ends i of parts.0))
    stand (replies.DeletesWeak i) of EndingWeak is there =
        let parts = and_parts (is_static_at (operand_of call.operands 0) i) (is_weak (static_at (references both) i)) there in weak_ends i (static_at (references both) i) parts.1 (static_ends i of parts.0)
    stand (replies.CopiesOut r) of (Filling q region) is there =
        subst (λ (y : source.Answer). Stands both (replies.CopiesOut r) GivesNothing y) is (copied_out both f h r (region_named r there) there region.array)
    stand (replies.CopiesIn r) of (SettingRegion q region) is there =
        let same : region_seen store.heap r ≡ q = cc in
        let name : named store.heap r.object ≡ name_of_first seen = ap (λ (x : Region). x.object) same ∙ region.object in
        subst (λ (y : source.Answer). Stands both (replies.CopiesIn r) GivesNothing y) is
        (copied_in both f h r (region_named r there) there region.array
        (subst (λ (n : ℕ). values_of shared.heap n ≡ map Number (numbers_of shared.heap n)) (sym name) (numbers_are both f h free region.numbers)))
    stand (replies.AcquiresCopy a) of (Copying {access = access} gets plain) is there =
        subst (λ (y : source.Answer). Stands both (replies.AcquiresCopy a) (GivesBuffer access) y) is (copy_acquired both f h a access (named_there store.heap a there))
    stand (replies.AcquiresView a) of (Viewing {access = access} gets critical) is there =
        subst (λ (y : source.Answer). Stands both (replies.AcquiresView a) (GivesBuffer access) y) is (row.acquires_view (named store.heap a) (access, refl) (named_there store.heap a there))
    stand (replies.Releases r) of rows is there =
        let slot = slot_of (operand_of call.operands 1) == r.slot in
        let parts = and_parts (is_some (block_at store.heap r.object) && slot) (same_buffer (buffer_there activation.slots.buffers.items r.slot) r.held) there in
        let first = and_parts (is_some (block_at store.heap r.object)) slot parts.0 in
        released_so both f h r (named_there store.heap r.object first.0) (eqb-true _ r.slot first.1) (buffer_is _ r.held parts.1) of rows is (ap is_release (sym is) ∙ release_is (named store.heap r.object) r.mode)
    stand (replies.Enters o) of rows is there =
        let parts = and_parts (is_key (name_at store.heap o.address) o.name) (is_entered (entering k (monitor_of store.monitors o.name))) there in
        enters o is (of_monitor rows (ap changes_monitor (sym is) ∙ entered k o.name (monitor_of store.monitors o.name) parts.1)) (key_is _ o.name parts.0) (came_in _ parts.1)
    stand (replies.Exits n) of rows is there = exits n is (of_monitor rows (ap changes_monitor (sym is) ∙ left k n (monitor_of store.monitors n) there)) (came_out _ there)
    stand replies.Calls of rows is there = called (method_seen (unit both) (method_at (fields both) (operand_of call.operands 1))) is there
      where
        called : {kind : ResultKind} {a : source.Answer} (o : Option MethodId) → method_called o ≡ a → is_some o ≡ true → Stands both replies.Calls kind a
        called None is there = absurd (cc)
        called {kind = kind} (Some m) is there = subst (λ (y : source.Answer). Stands both replies.Calls kind y) is (row.calls m)
    stand x of rows is there = absurd (cc)

    -- the answer that gives a method ID
    stand_method : {of : CallKind} {kind : ResultKind} {a : source.Answer} (x : Answer) → AnswersAs (unit both) w.classes seen f of kind a → answer_seen (scene both) call kind x ≡ a
        → GivesMethod (scene both) x → Stands both x kind a
    stand_method {kind = kind} (replies.Gives (given.MethodId (Some g))) rows is (n, method) =
        let it = method_given store.heap g n method rows (ap (λ (o : Option MethodId). source.Gives (MethodResult o)) (sym (method_named (unit both) w.classes g n method)) ∙ is) in
        subst (λ (y : source.Answer). Stands both (replies.Gives (given.MethodId (Some g))) kind y) it.2 (row.gives it.1)
    stand_method x rows is h = absurd h

-- ---- what is known of a call that has passed its checks

cell_there : (space : Space) (v : Value) (u : ObjectValue) → ValueAgrees space v u → (b : ℕ) → v ≡ cell.Block b → is_some (block_at space b) ≡ true
cell_there space (cell.Block a) (Refers (Some n)) agrees b is = named_block (block_at space b) (ap (name_at space) (let e : b ≡ a = cc in e) ∙ agrees)
  where
    named_block : {n : ℕ} (o : Option Block) → option_map (λ (b : Block). b.birth) o ≡ Some n → is_some o ≡ true
    named_block None is = absurd (cc)
    named_block (Some b) is = refl
cell_there space (cell.Block a) (Refers None) agrees b is = absurd agrees
cell_there space (cell.Block a) (Number z) agrees b is = absurd agrees
cell_there space (cell.Number word) u agrees b is = absurd (cc)
cell_there space cell.Null u agrees b is = absurd (cc)

cells_there : (space : Space) (vs : List Value) (us : List ObjectValue) (i b : ℕ) → ValuesAgree space vs us → slice_get vs i ≡ Some (cell.Block b) → is_some (block_at space b) ≡ true
cells_there space [] us i b agree is = absurd (cc)
cells_there space (v ∷ vs) [] i b agree is = absurd agree
cells_there space (v ∷ vs) (u ∷ us) zero b agree is = cell_there space v u agree.0 b (let e : v ≡ cell.Block b = cc in e)
cells_there space (v ∷ vs) (u ∷ us) (suc i) b agree is = cells_there space vs us i b agree.1 is

some_key : (space : Space) (locals : LocalTable) (key : Option ℕ) (r : Reference) (level : ℕ) → IsKeyGiven space locals key r level → is_some key ≡ is_some r
some_key space locals None None level own = refl
some_key space locals (Some key) (Some n) level own = refl
some_key space locals key r level own = absurd own

agreed_there : (space : Space) (a : Option ℕ) (r : Reference) → ReferenceAgrees space a r → reference_there space a ≡ true
agreed_there space None r agrees = refl
agreed_there space (Some a) (Some n) agrees = by_block (block_at space a) agrees
  where
    by_block : (o : Option Block) → option_map (λ (b : Block). b.birth) o ≡ Some n → is_some o ≡ true
    by_block None is = absurd (cc)
    by_block (Some b) is = refl
agreed_there space (Some a) None agrees = absurd agrees

module _ (both : TwoCalls) where
  open both use {p, w, store, pending, activation, call, others, k, owner, shared, s, target, sound, args}

  module _ (f : JniFunction) (h : Asked both f) (free : Passes both) where
    heap_cells : (a i b : ℕ) → slice_get (values_at store.heap a) i ≡ Some (cell.Block b) → is_some (block_at store.heap b) ≡ true
    heap_cells a i b is = by_name (name_at store.heap a) refl
      where
        by_name : (o : Option ℕ) → name_at store.heap a ≡ o → is_some (block_at store.heap b) ≡ true
        by_name (Some n) there = cells_there store.heap (values_at store.heap a) (values_of shared.heap n) i b (values_there p w store shared (all both) h.store_agrees a n there) is
        by_name None there = absurd (nothing_there (block_at store.heap a) there is)
          where
            nothing_there : (o : Option Block) → option_map (λ (b : Block). b.birth) o ≡ None → slice_get (option_map_or (λ (b : Block). b.values) o []) i ≡ Some (cell.Block b) → ⊥
            nothing_there None none is = cc
            nothing_there (Some c) none is = cc

    name : (i : ℕ) → name_of store.heap (at both i) ≡ name_or_zero (name_seen store.heap (at both i))
    name i = name_is store.heap (at both i)

    -- the object of the first argument
    first_object : takes_object (subject_of f) ≡ true → is_some (name_seen store.heap (at both 0)) ≡ true
    first_object takes = by_parameters (prototype f).parameters refl (first_kind f takes)
      where
        by_parameters : (ps : List ParameterKind) → (prototype f).parameters ≡ ps → is_object (slice_get ps 0) ≡ true → is_some (name_seen store.heap (at both 0)) ≡ true
        by_parameters [] are is = absurd (cc)
        by_parameters (q ∷ ps) are is =
            let kind = object_kind q is in
            let more = if calls_method f then replicate (length args - length (prototype f).parameters) Passed else [] in
            let object = object_given_at both f [] q (ps ++ more) kind.0 kind.1 (ap (λ (l : List ParameterKind). l ++ more) are) h free in
            ap (λ (o : Option ℕ). is_some (name_seen store.heap o)) object.at ∙ ap is_some object.named

    -- the thread doesn't wait, so no other thread owns the object
    not_owned : f ≡ MonitorEnter → is_owned_by_other k (owned_seen (scene both) (name_of store.heap (at both 0))) ≡ false
    not_owned of =
        let here : Asked both MonitorEnter = subst (λ (g : JniFunction). Asked both g) of h in
        let none : trap_of_call w.classes shared s target MonitorEnter args ≡ None = sym (seen_is p w store pending activation call others k owner shared s target MonitorEnter args here) ∙ ap (with_depth false) free in
        ap (λ (x : CallSight). is_owned_by_other k x.monitor) (same_sight both MonitorEnter here)
        ∙ ap (λ (o : Option Trap). is_none o && is_owned_by_other k (monitor_in shared.monitors (object_given args 0))) (sym none) ∙ here.ready

    -- the method of a call of one
    method_there : calls_method f ≡ true → is_some (method_seen (unit both) (method_at (fields both) (operand_of call.operands 1))) ≡ true
    method_there calls =
        let it = called_method both f calls h free in
        ap (λ (o : Option MethodHandle). is_some (method_seen (unit both) o)) it.at ∙ ap is_some (method_named (unit both) w.classes it.handle it.method it.is)

    -- what holds of it
    passed : {P : Type 0} → WhenPassed (scene both) (record call { function = f }) P → P
    passed so =
        so (λ c in_table. name_seen_is store.heap _ (Some c) (table_of both f h c in_table.0 in_table.1))
        (λ is. class_of_first both f h (object_given_at both f [] NonNull [] tt refl (ap (λ (g : JniFunction). parameters_for g (length args)) is) h free))
        (sym (same_pending store.heap pending _ (pending_named both f h)))
        ((λ i. name 0 i == name 1 i) ∙ same_names both (at both 0) (at both 1) (name_seen store.heap (at both 0)) (name_seen store.heap (at both 1)) h.store_agrees.heap (named_at both f h 0) (named_at both f h 1))
        (to_z_pos w32 (few_there store.heap (at both 0) h.store_agrees.laid_out (omega (arith, sound.cells, h.store_agrees.cells))))
        (λ is. some_key store.heap activation.locals (key_at (references both) (operand_of call.operands 0)) (name_seen store.heap (at both 0)) (level_of (lookup (variable_given args 0) s.variables)) (own_key both f h is))
        first_object
        not_owned
        (field_given both f h free)
        (place_inside both f h free)
        (static_given both f h free)
        (class_named both f h free)
        (static_inside_it both f h free)

    by_there : {a : source.Answer} (x : Answer) → AnswersAs (unit both) w.classes (sight both f) f (call_kind f) (prototype f).result a
        → answer_seen (scene both) (record call { function = f }) (prototype f).result x ≡ a → IsThereOrMethod (scene both) (record call { function = f }) x → Stands both x (prototype f).result a
    by_there x rows is (inl there) = stand both f h free x refl rows is (there (agreed_there store.heap pending s.pending h.pending_agrees) heap_cells method_there)
    by_there x rows is (inr method) = stand_method both f h free x rows is method

-- an answer that is seen as the source's stands for it
pub answers_by : (sees : Scene) (call : Call) (x : Answer) → IsSeen sees call x → IsThereOrMethod sees call x → EndsFirst sees call x → CallsMethod call x → IsAnswerTo sees call x
unfolding IsAnswerTo
answers_by sees call x is there ends calls = record {
  stands = λ both f same here h free.
      let called : (record call { function = f }) ≡ call = ap (λ (g : JniFunction). record call { function = g }) (sym h.same_function ∙ ap (λ (c : Call). c.function) here) in
      let seen : IsSeen (scene both) (record both.call { function = f }) x =
      subst (λ (y : Scene). IsSeen y (record both.call { function = f }) x) (sym same) (subst (λ (c : Call). IsSeen sees c x) (sym (ap (λ (c : Call). record c { function = f }) here ∙ called)) is) in
      let found : IsThereOrMethod (scene both) (record both.call { function = f }) x =
      subst (λ (y : Scene). IsThereOrMethod y (record both.call { function = f }) x) (sym same) (subst (λ (c : Call). IsThereOrMethod sees c x) (sym (ap (λ (c : Call). record c { function = f }) here ∙ called)) there) in
      does both f h
      (by_there both f h free x (answers_as (unit both) both.w.classes both.k (sight both f) f) (passed both f h free (seen both.activation.locals (length both.s.callers))) found);
  ends = ends;
  calls = calls;
}

-- where it gives no method ID
pub answers_seen : (sees : Scene) (call : Call) (x : Answer) → IsSeen sees call x → IsThere sees call x → EndsFirst sees call x → CallsMethod call x → IsAnswerTo sees call x
answers_seen sees call x is there ends calls = answers_by sees call x is (inl there) ends calls
