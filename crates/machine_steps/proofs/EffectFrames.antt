-- Where a call's result is put when it is a local reference.
use Rattle.std.proofs.Common.{◌≡◌, Bool, true, false, List, refl, subst, ℕ}
use Rattle.class_rules.specs.Class.{Classes}
use Rattle.jni.specs.declared.function.JniFunction.{JniFunction}
use Rattle.jni.specs.declared.function.JniFunction.TheVariants.{PopLocalFrame}
use Rattle.jni.specs.JniFunction.{prototype}
use Rattle.jni.specs.declared.kinds.ResultKind.{ResultKind}
use Rattle.jni.specs.declared.kinds.ResultKind.TheVariants.{NewLocal}
use Rattle.syntax.specs.Tree.{SourceUnit}
use Rattle.semantics.specs.Answer.{Answer, effect_of}
use Rattle.semantics.specs.AnswerTable.{call_answer, call_effect}
use Rattle.semantics.specs.CallSight.{CallSight, sight_of_call}
use Rattle.semantics.specs.Checks.{frames_after}
use Rattle.semantics.specs.Arguments.{Actual}
use Rattle.semantics.specs.CallStep.{makes_objects}
use Rattle.semantics.specs.Thread.{BuffersInUse, Shared, Thread}
use Rattle.semantics.proofs.AnswerFacts.{OfReference}
use Rattle.semantics.proofs.AnswerKinds.{AnswersAs, CallKind, Calling, Giving, Halting, Making, Pending, Popping, PopsFrame, Raising, answers_as, call_kind}
use Rattle.machine_calls.specs.CarriedOut.{frames_left}

-- calls of a kind leave all frames
abbrev pops_none : CallKind → Bool
pops_none PopsFrame = false
pops_none kind = true

module _ (unit : SourceUnit) (classes : Classes) (in_use : BuffersInUse) (k : ℕ) (shared : Shared) (s : Thread) (args : List Actual) where
  -- so do answers that give a local reference
  kept : {sight : CallSight} {f : JniFunction} {kind : CallKind} {a : Answer} → pops_none kind ≡ true → AnswersAs unit classes sight f kind NewLocal a → frames_left false s (effect_of classes in_use k shared s args a) ≡ s.frames
  unfolding effect_of
  kept keeps (Giving (OfReference r)) = refl
  kept keeps (Pending q (OfReference r)) = refl
  kept keeps (Raising class is) = refl
  kept keeps (Making o is) = refl
  kept keeps (Popping r) = absurd (cc)
  kept keeps (Calling m is) = refl
  kept keeps (Halting trap) = refl

  -- it is put into the frames that the call leaves, which are the frames that were checked for room
  pub left_is : (f : JniFunction) → (prototype f).result ≡ NewLocal → (refused : Bool) → (refused ≡ true → makes_objects (call_effect unit classes in_use k shared s args f) ≡ true)
      → frames_left refused s (call_effect unit classes in_use k shared s args f) ≡ frames_after f s.frames
  unfolding call_answer effect_of
  left_is PopLocalFrame n true could = absurd (let e = could refl in cc)
  left_is PopLocalFrame n false could = refl
  left_is f n true could = refl
  left_is f n false could =
      let sight = sight_of_call shared s f args in
      kept refl (subst (λ (kind : ResultKind). AnswersAs unit classes sight f (call_kind f) kind (call_answer unit classes k sight f)) n (answers_as unit classes k sight f))
