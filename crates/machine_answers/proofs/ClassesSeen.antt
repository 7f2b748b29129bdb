-- Classes, field IDs and method IDs that are given, as they are seen.
use Rattle.std.proofs.Common.{inl, inr, ◌≡◌, ◌≢◌, ℕ, ◌-◌, true, Option, Some, None, slice_get, refl, sym, ap, ◌∙◌, subst}
use Rattle.class_rules.specs.Fields.{FieldId}
use Rattle.code.specs.Call.{Call}
use Rattle.heap.specs.Heap.{IsAddress}
use Rattle.jni.specs.declared.function.JniFunction.{JniFunction}
use Rattle.jni.specs.declared.function.JniFunction.TheVariants.{GetObjectClass, GetStaticMethodID}
use Rattle.jni.specs.declared.kinds.ResultKind.TheVariants.{GivesField, GivesMethod as MethodGiven, NewLocal}
use Rattle.jni.specs.JniFunction.{prototype}
use Rattle.semantics.specs.Answer.{Gives as Giving}
use Rattle.semantics.specs.AnswerTable as table
use Rattle.semantics.specs.AnswerTable.{call_answer, gives_reference}
use Rattle.semantics.specs.CallEffects.{FieldResult, MethodResult}
use Rattle.semantics.specs.Method.{MethodId}
use Rattle.tables.specs.Locals.{LocalTable}
use Rattle.machine_scenes.specs.Given.{class_of_given}
use Rattle.machine_scenes.specs.Scenes.{Scene}
use Rattle.machine_answers.specs.declared.answer.Answer.{Answer}
use Rattle.machine_answers.specs.AnswersSeen.{GivesMethod, IsInTable, IsSeen, IsThere, IsThereOrMethod, answer_seen, answer_there, reference_there}
use Rattle.machine_answers.specs.Sights.{call_seen, name_seen}
use Rattle.machine_answers.specs.WorkedOut.{IsFoundField, IsFoundMethod, class_object, found_class, reference}
use Rattle.machine_answers.proofs.AnswersStand.{method_named}

module _ (scene : Scene) (call : Call) where
  -- class objects are named by their classes
  abbrev AreNamed : Type 0
  AreNamed = (c : ℕ) → IsInTable scene.classes c → name_seen scene.space (class_object scene.loaded (Some c)) ≡ Some c

  -- each is there
  abbrev AreThere : Type 0
  AreThere = (i a : ℕ) → slice_get scene.loaded i ≡ Some a → IsAddress scene.space a

  -- what is seen of an answer to a call of a function, where nothing is asked but this of classes
  pub seen_as : (x : Answer) (f : JniFunction) → call.function ≡ f
      → ((locals : LocalTable) (callers : ℕ) → AreNamed → (f ≡ GetObjectClass → IsInTable scene.classes (class_of_given scene.space (reference scene call 0)))
      → answer_seen scene call (prototype f).result x ≡ call_answer scene.unit scene.classes scene.thread (call_seen scene locals callers (record call { function = f })) f)
      → IsSeen scene call x
  seen_as x f is so =
      subst (λ (g : JniFunction). IsSeen scene (record call { function = g }) x) (sym is)
      (λ locals callers named known pending same count key object owned field_given inside static_given class_named within. so locals callers named known)

  pub there_as : (x : Answer) (f : JniFunction) → call.function ≡ f → answer_there scene call (prototype f).result x ≡ true → IsThere scene call x
  there_as x f is there = λ pending cells methods. subst (λ (g : JniFunction). answer_there scene call (prototype g).result x ≡ true) (sym is) there

  pub there_or : (x : Answer) → (call.function ≢ GetStaticMethodID → IsThere scene call x) → (call.function ≡ GetStaticMethodID → IsThereOrMethod scene call x) → IsThereOrMethod scene call x
  there_or x there method = by_function call.function refl
    where
      by_function : (f : JniFunction) → call.function ≡ f → IsThereOrMethod scene call x
      by_function GetStaticMethodID is = method is
      by_function f is = inl (there (λ e. let same : f ≡ GetStaticMethodID = sym is ∙ e in cc))

  -- ---- classes

  pub class_seen : AreNamed → (o : Option ℕ) → ((c : ℕ) → o ≡ Some c → IsInTable scene.classes c) → name_seen scene.space (class_object scene.loaded o) ≡ o
  class_seen named None known = refl
  class_seen named (Some c) known = named c (known c refl)

  pub class_there : AreThere → (o : Option ℕ) → reference_there scene.space (class_object scene.loaded o) ≡ true
  class_there there None = refl
  class_there there (Some c) = by_address (slice_get scene.loaded (c - 1)) refl
    where
      by_address : (o : Option ℕ) → slice_get scene.loaded (c - 1) ≡ o → reference_there scene.space o ≡ true
      by_address None e = refl
      by_address (Some a) e = there (c - 1) a e

  pub found_seen : AreNamed → (o : Option ℕ) → ((c : ℕ) → o ≡ Some c → IsInTable scene.classes c) → answer_seen scene call NewLocal (found_class scene.loaded o) ≡ table.found_class o
  found_seen named None known = refl
  found_seen named (Some c) known = ap gives_reference (class_seen named (Some c) known)

  pub found_there : AreThere → (o : Option ℕ) → answer_there scene call NewLocal (found_class scene.loaded o) ≡ true
  found_there there None = refl
  found_there there (Some c) = class_there there (Some c)

  -- ---- fields and methods

  pub field_seen : (o : Option FieldId) (x : Answer) → IsFoundField scene.classes o x → answer_seen scene call GivesField x ≡ table.found_field o
  field_seen None x is = ap (answer_seen scene call GivesField) is
  field_seen (Some f) x is = ap (answer_seen scene call GivesField) is.1 ∙ ap (λ (r : Option FieldId). Giving (FieldResult r)) is.2

  pub field_there : (o : Option FieldId) (x : Answer) → IsFoundField scene.classes o x → answer_there scene call GivesField x ≡ true
  field_there None x is = ap (answer_there scene call GivesField) is
  field_there (Some f) x is = ap (answer_there scene call GivesField) is.1

  pub method_seen : (o : Option MethodId) (x : Answer) → IsFoundMethod scene.unit scene.classes o x → answer_seen scene call MethodGiven x ≡ table.found_method o
  method_seen None x is = ap (answer_seen scene call MethodGiven) is
  method_seen (Some m) x (h, given, is) = ap (answer_seen scene call MethodGiven) given ∙ ap (λ (r : Option MethodId). Giving (MethodResult r)) (method_named scene.unit scene.classes h m is)

  pub method_there : (o : Option MethodId) (x : Answer) → call.function ≡ GetStaticMethodID → IsFoundMethod scene.unit scene.classes o x → IsThereOrMethod scene call x
  method_there None x of is = inl (there_as x GetStaticMethodID of (ap (answer_there scene call MethodGiven) is))
  method_there (Some m) x of (h, given, is) = inr (subst (GivesMethod scene) (sym given) (m, is))
