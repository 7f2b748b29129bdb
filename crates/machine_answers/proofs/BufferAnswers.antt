-- What stands in memory for a buffer that is acquired or released.
use Rattle.std.proofs.Common.{◌≡◌, ℕ, Bool, true, false, length, Option, Some, refl, sym, ap, ◌∙◌, subst}
use Rattle.std.specs.Prelude.{if◌then◌else◌, slice_get, unwrap_or}
use Rattle.std.proofs.lemmas.Bool.{eq-eqb, eqb-true}
use Rattle.base.specs.declared.element.ElementType.{ElementType}
use Rattle.base.specs.Bytes.{lookup}
use Rattle.syntax.specs.Tree.{SourceUnit}
use Rattle.class_rules.specs.Class.{Classes}
use Rattle.code.specs.declared.instr.Operand.TheVariants as operand
use Rattle.heap.specs.Heap.{name_at, values_at}
use Rattle.jni.specs.declared.access.Access.{Access}
use Rattle.jni.specs.declared.access.Access.TheVariants.{ElementsCopy, ArrayView, CharsCopy, CharsView}
use Rattle.jni.specs.Access.{is_critical}
use Rattle.jni.specs.declared.function.JniFunction.{JniFunction}
use Rattle.jni.specs.declared.function.JniFunction.TheVariants.{GetBuffer, ReleaseBuffer}
use Rattle.jni.specs.JniFunction.{parameters_for}
use Rattle.jni.specs.declared.kinds.ParameterKind.TheVariants.{BufferVariable}
use Rattle.jni.specs.declared.kinds.ResultKind.{ResultKind}
use Rattle.jni.specs.declared.kinds.ResultKind.TheVariants.{GivesBuffer, GivesNothing}
use Rattle.jni.specs.declared.mode.ReleaseMode.{ReleaseMode}
use Rattle.jni.specs.declared.mode.ReleaseMode.TheVariants.{CopyBackAndFree, CopyBack, FreeUncopied}
use Rattle.region_rules.specs.RegionRules.{is_critical_call}
use Rattle.semantics.specs.Answer as source
use Rattle.semantics.specs.AnswerTable.{call_answer, released}
use Rattle.semantics.specs.Arguments.{name_or_zero, object_given, reference_given, variable_given}
use Rattle.semantics.specs.CallSight.{CallSight, name_of_first}
use Rattle.semantics.specs.Heap.{values_of}
use Rattle.semantics.specs.Variable.{Elements, NoBuffer, Copy, View}
use Rattle.semantics.specs.Variable as variable
use Rattle.semantics.proofs.AnswerKinds.{AnswersAs, CallKind, CopyingBack, Freeing, ReleasesBuffer, call_kind}
use Rattle.semantics_safety.specs.StepSafe.{came_from}
use Rattle.semantics_typing.proofs.Arguments.{variable_typed}
use Rattle.code_meaning.specs.Coding.{mode_code}
use Rattle.machine_scenes.specs.declared.buffer.Buffer.{Buffer}
use Rattle.machine_scenes.specs.declared.buffer.Buffer.TheVariants as held
use Rattle.machine_scenes.specs.declared.buffer.Release.{Release}
use Rattle.machine_scenes.specs.Buffers.{HoldsBuffer, IsCopyOf, copies_back}
use Rattle.machine_scenes.specs.Given.{operand_of}
use Rattle.machine_scenes.proofs.HeldSums.{views_there}
use Rattle.machine_answers.specs.declared.answer.Answer.TheVariants as replies
use Rattle.machine_answers.specs.Answers as row
use Rattle.machine_answers.specs.Answered.{TwoCalls, unit, brought, Asked}
use Rattle.machine_answers.specs.AnswersSeen.{named, same_buffer}
use Rattle.machine_answers.specs.WorkedOut.{buffer_there, mode_of, slot_of}
use Rattle.machine_answers.proofs.BufferOperands.{given_buffer, numbers_fit}
use Rattle.machine_answers.proofs.FieldValues.{values_there}
use Rattle.machine_answers.proofs.KindAnswers.{Stands, sight}
use Rattle.machine_answers.proofs.RegionOperands.{all_words}
use Rattle.machine_answers.proofs.SightParts.{name_seen_is}
use Rattle.machine_answers.proofs.TwoCalls.{agrees, all, at}

-- ---- what the table says, by the access

module _ (unit : SourceUnit) (classes : Classes) (k : ℕ) (sight : CallSight) where
  pub buffer_got : (access : Access) → call_answer unit classes k sight (GetBuffer access) ≡ (if is_critical access then source.Views (name_of_first sight) else source.Copies (name_of_first sight))
  unfolding call_answer
  buffer_got (ElementsCopy T) = refl
  buffer_got ArrayView = refl
  buffer_got CharsCopy = refl
  buffer_got CharsView = refl

  pub buffer_released : (access : Access) → call_answer unit classes k sight (ReleaseBuffer access) ≡ released (name_of_first sight) (mode_of access sight.third.mode)
  unfolding call_answer
  buffer_released (ElementsCopy T) = refl
  buffer_released ArrayView = refl
  buffer_released CharsCopy = refl
  buffer_released CharsView = refl

-- ---- what a slot holds

pub buffer_own : (a : Buffer) → same_buffer a a ≡ true
buffer_own held.Null = refl
buffer_own (held.Copy a) = eq-eqb a a refl
buffer_own (held.View a) = eq-eqb a a refl

pub buffer_is : (a b : Buffer) → same_buffer a b ≡ true → a ≡ b
buffer_is held.Null held.Null same = refl
buffer_is (held.Copy a) (held.Copy b) same = ap (λ (n : ℕ). held.Copy n) (eqb-true a b same)
buffer_is (held.View a) (held.View b) same = ap (λ (n : ℕ). held.View n) (eqb-true a b same)
buffer_is a b same = absurd (cc)

-- ---- a release

-- an answer that releases a buffer
abbrev pub is_release : source.Answer → Bool
is_release (source.CopiesBack n i frees) = true
is_release (source.Frees i) = true
is_release a = false

pub release_is : (n : ℕ) (mode : ReleaseMode) → is_release (released n mode) ≡ true
release_is n CopyBackAndFree = refl
release_is n CopyBack = refl
release_is n FreeUncopied = refl

coded : (mode : ReleaseMode) → mode ≡ mode_code mode
coded CopyBackAndFree = refl
coded CopyBack = refl
coded FreeUncopied = refl

-- numbers go back into this object
object_is : (n m : ℕ) (mode : ReleaseMode) (frees : Bool) → released n mode ≡ source.CopiesBack m 1 frees → n ≡ m
object_is n m CopyBackAndFree frees is = cc
object_is n m CopyBack frees is = cc
object_is n m FreeUncopied frees is = absurd (cc)

-- none do where the buffer is given up alone
none_back : (n : ℕ) (mode : ReleaseMode) → released n mode ≡ source.Frees 1 → copies_back mode ≡ false
none_back n CopyBackAndFree is = absurd (cc)
none_back n CopyBack is = absurd (cc)
none_back n FreeUncopied is = refl

releases_one : (f : JniFunction) (access : Access) → call_kind f ≡ ReleasesBuffer access → f ≡ ReleaseBuffer access
releases_one (ReleaseBuffer own) access of = let same : own ≡ access = cc in ap (λ (a : Access). ReleaseBuffer a) same
releases_one f access of = absurd (cc)

module _ (both : TwoCalls) (f : JniFunction) (h : Asked both f) where
  open both use {p, w, store, pending, activation, call, others, k, shared, s, target, sound, args}

  -- numbers of an object are copied
  pub copy_acquired : (a : ℕ) (access : Access) → name_at store.heap a ≡ Some (named store.heap a) → Stands both (replies.AcquiresCopy a) (GivesBuffer access) (source.Copies (named store.heap a))
  copy_acquired a access there =
      row.acquires_copy (access, refl)
      (record {
        name = named store.heap a;
        there = there;
        words = all_words store.heap (values_at store.heap a) (values_of shared.heap (named store.heap a)) (values_there p w store shared (all both) h.store_agrees a (named store.heap a) there);
      })

  -- the buffer of elements that is released is a copy of the array
  copy_there : (T : ElementType) → f ≡ ReleaseBuffer (ElementsCopy T) → (t : ElementType) (x : variable.Buffer) → lookup (variable_given args 1) s.variables ≡ Some (Elements t x) → IsCopyOf shared.heap (object_given args 0) x
  copy_there T of t x there = by_buffer x there (ap came_from (sym there) ∙ h.release (ElementsCopy T) of)
    where
      by_buffer : (x : variable.Buffer) → lookup (variable_given args 1) s.variables ≡ Some (Elements t x) → came_from (Some (Elements t x)) ≡ Some (object_given args 0) → IsCopyOf shared.heap (object_given args 0) x
      by_buffer NoBuffer there from = absurd (cc)
      by_buffer (View n) there from = absurd (let no : false ≡ true = sym (ap is_critical_call of) ∙ h.critical (views_there s (variable_given args 1) t n there) in cc)
      by_buffer (Copy n zs) there from =
          let same : n ≡ object_given args 0 = cc in
          let typed = variable_typed w.classes shared.heap (variable_given args 1) s.variables (Elements t (Copy n zs)) h.typed_variables there in
          (numbers_fit t zs typed.1, typed.2 ∙ ap (λ (m : ℕ). length (values_of shared.heap m)) same)

  module _ (r : Release) (there : name_at store.heap r.object ≡ Some (named store.heap r.object)) (slot : slot_of (operand_of call.operands 1) ≡ r.slot) (holds : buffer_there activation.slots.buffers.items r.slot ≡ r.held) where
    abbrev Copied : Type 0
    Copied = (t : ElementType) (x : variable.Buffer) → lookup (variable_given args 1) s.variables ≡ Some (Elements t x) → copies_back r.mode ≡ true → IsCopyOf shared.heap (named store.heap r.object) x

    -- the buffer of the second argument is released
    given_up : {access : Access} → f ≡ ReleaseBuffer access → Copied → Stands both (replies.Releases r) GivesNothing (released (named store.heap r.object) r.mode)
    given_up {access = access} of copied =
        let second : slice_get (parameters_for f (length args)) 1 ≡ Some (BufferVariable access) = ap (λ (g : JniFunction). slice_get (parameters_for g (length args)) 1) of in
        let b = given_buffer (brought both).buffers s.variables h.given h.buffers second in
        let same : b.slot ≡ r.slot = sym (ap slot_of b.at) ∙ slot in
        let own = subst (λ (i : ℕ). HoldsBuffer store.heap (brought both).buffers i (lookup (variable_given args 1) s.variables)) same b.holds in
        row.releases (record {
          given = b.at ∙ ap (λ (i : ℕ). operand.Buffer i) same;
          holds = own;
          held = sym holds ∙ ap (λ (o : Option Buffer). unwrap_or o held.Null) own.there;
          name = named store.heap r.object;
          there = there;
          copy = copied own.type own.buffer own.is;
          mode = r.mode;
          coded = coded r.mode;
        })

    pub released_so : {of : CallKind} {kind : ResultKind} {a : source.Answer} → call_kind f ≡ of → AnswersAs (unit both) w.classes (sight both f) f of kind a → released (named store.heap r.object) r.mode ≡ a → is_release a ≡ true → Stands both (replies.Releases r) kind a
    released_so of (CopyingBack T frees back freed) is release =
        let name : named store.heap r.object ≡ object_given args 0 =
        object_is (named store.heap r.object) (name_of_first (sight both f)) r.mode frees is ∙ ap name_or_zero (name_seen_is store.heap (at both 0) (reference_given args 0) (agrees both f h 0)) in
        subst (λ (y : source.Answer). Stands both (replies.Releases r) GivesNothing y) is
        (given_up back (λ t x at goes. subst (λ (n : ℕ). IsCopyOf shared.heap n x) (sym name) (copy_there T back t x at)))
    released_so of (Freeing {access = access} frees) is release =
        subst (λ (y : source.Answer). Stands both (replies.Releases r) GivesNothing y) is
        (given_up (releases_one f access of) (λ t x at back. absurd (let no : false ≡ true = sym (none_back (named store.heap r.object) r.mode is) ∙ back in cc)))
    released_so of rows is release = absurd (cc)
