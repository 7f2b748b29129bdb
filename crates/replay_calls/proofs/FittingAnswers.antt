-- What the table gives of each answer: regions that are there, and calls of methods by functions that call one.
use Rattle.std.proofs.Common.{◌≡◌, ℕ, ℤ, ◌+◌, ◌≤◌, Bool, true, false, List, length, refl, sym, subst}
use Rattle.std.proofs.lemmas.Bool.{le-leb}
use Rattle.syntax.specs.Tree.{SourceUnit}
use Rattle.class_rules.specs.Class.{Classes}
use Rattle.jni.specs.declared.function.JniFunction.{JniFunction}
use Rattle.jni.specs.JniFunction.{calls_method}
use Rattle.jni.specs.declared.kinds.ResultKind.{ResultKind}
use Rattle.semantics.specs.Answer.{Answer, Calls, Region}
use Rattle.semantics.specs.AnswerTable.{call_answer}
use Rattle.semantics.specs.CallSight.{CallSight, call_seen}
use Rattle.semantics.specs.Arguments.{Actual, variable_given}
use Rattle.semantics.specs.Heap.{values_of}
use Rattle.semantics.specs.Method.{MethodId}
use Rattle.semantics.specs.Object.{Reference}
use Rattle.semantics.specs.Thread.{Frame, Shared}
use Rattle.semantics.specs.Variable.{Variables}
use Rattle.semantics.proofs.AnswerFacts.{IsRegion}
use Rattle.semantics.proofs.AnswerKinds.{AnswersAs, CallKind, Calling, CallsNone, Filling, SettingRegion, answers_as, calls_none}
use Rattle.semantics.proofs.CheckLaws.{few_there}
use Rattle.replay_calls.specs.Answers.{FitsCall, HasRoom, IsInside, array_given}

module _ (unit : SourceUnit) (classes : Classes) (k : ℕ) (s : Shared) (vs : Variables) (frames : List Frame) (callers : ℕ) (pending : Reference) (args : List Actual) where
  -- the local array of the call
  abbrev array : List ℤ
  array = array_given vs args

  abbrev sight : JniFunction → CallSight
  sight f = call_seen s vs frames callers pending f args

  region_fits : (f : JniFunction) (r : Region) → IsRegion classes (sight f) f r → IsInside s.heap r × HasRoom array r
  region_fits f r is =
      let within = subst (λ (n : ℕ). r.start + r.count ≤ length (values_of s.heap n)) (sym is.object) is.within in
      let few = few_there vs _ (variable_given args 3) r.count is.few in
      (le-leb (r.start + r.count) (length (values_of s.heap r.object)) within, le-leb r.count (length array) few)

  fits : (f : JniFunction) {kind : CallKind} {result : ResultKind} {a : Answer} → ((m : MethodId) → a ≡ Calls m → calls_method f ≡ true) → AnswersAs unit classes (sight f) f kind result a → FitsCall s.heap array f a
  fits f called (SettingRegion r is) = region_fits f r is
  fits f called (Filling r is) = region_fits f r is
  fits f called (Calling m is) = called m refl
  fits f called other = tt

  -- a method is called by no other function
  called : (f : JniFunction) (b : Bool) → calls_method f ≡ b → (m : MethodId) → call_answer unit classes k (sight f) f ≡ Calls m → calls_method f ≡ true
  called f true is m e = is
  called f false is m e = absurd (subst CallsNone e (calls_none unit classes k (sight f) f is))

  pub answer_fits : (f : JniFunction) → FitsCall s.heap array f (call_answer unit classes k (sight f) f)
  answer_fits f = fits f (called f (calls_method f) refl) (answers_as unit classes k (sight f) f)
