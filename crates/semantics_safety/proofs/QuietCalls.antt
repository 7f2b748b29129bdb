-- Calls of quiet functions are quiet.
use Rattle.std.proofs.Common.{◌≡◌, ℕ, List, [], ◌∷◌, Some, None, refl, sym, subst}
use Rattle.std.specs.Prelude.{nat_le}
use Rattle.std.proofs.lemmas.Bool.{cond_both}
use Rattle.base.specs.Limits.{most_references}
use Rattle.syntax.specs.Tree.{SourceUnit}
use Rattle.class_rules.specs.Class.{Classes}
use Rattle.jni.specs.declared.access.Access.{Access}
use Rattle.jni.specs.declared.function.JniFunction.TheVariants as functions
use Rattle.jni.specs.declared.function.JniFunction.{JniFunction}
use Rattle.jni.specs.JniFunction.{prototype}
use Rattle.jni.specs.declared.kinds.ResultKind.{ResultKind}
use Rattle.jni.specs.declared.kinds.ResultKind.TheVariants.{NewLocal, NewGlobal, NewWeak, GivesFlag, GivesField, GivesMethod, GivesInt, GivesNothing, GivesBuffer}
use Rattle.semantics.specs.Answer.{Answer, effect_of}
use Rattle.semantics.specs.Arguments.{Actual}
use Rattle.semantics.specs.CallEffects.{CallResult, with_capacity}
use Rattle.semantics.specs.AnswerTable.{call_effect}
use Rattle.semantics.specs.CallSight.{CallSight, sight_of_call}
use Rattle.semantics.specs.CallStep.{failure}
use Rattle.semantics.specs.Thread.{Frame, Thread, Shared, BuffersInUse, capacities}
use Rattle.semantics.proofs.AnswerFacts.{IsOfKind, OfField, OfFlag, OfInt, OfMethod, OfNothing, OfReference, OfWeak}
use Rattle.semantics.proofs.AnswerKinds.{AnswersAs, Disowning, Ensuring, EnsuringNone, Giving, Halting, Making, MakingGlobal, Owning, Pending, Quiet, Raising, RaisingWith, SettingRegion, Writing, answers_of, call_kind}
use Rattle.semantics_safety.proofs.ResultLaws.{Simple, AnInt, AFlag, AField, NoField, AMethod, NoMethod, AGlobal, NoGlobal, AWeak, NoWeak, NoLocal, NullLocal, NoResultThere}
use Rattle.semantics_safety.proofs.QuietLaws.{Gives, Plainly, ALocal, IsPlain, IsQuiet}
use Rattle.semantics_safety.proofs.FrameLaws.{references_of}

-- a function that fails gives NULL, 0 or nothing
failure_is_simple : (kind : ResultKind) → ((access : Access) → kind ≡ GivesBuffer access → ⊥) → Simple kind (failure kind)
failure_is_simple NewLocal differs = NoLocal
failure_is_simple NewGlobal differs = NoGlobal
failure_is_simple NewWeak differs = NoWeak
failure_is_simple GivesFlag differs = AFlag _
failure_is_simple GivesInt differs = AnInt _
failure_is_simple GivesField differs = NoField
failure_is_simple GivesMethod differs = NoMethod
failure_is_simple GivesNothing differs = NoResultThere
failure_is_simple (GivesBuffer access) differs = absurd (differs access refl)

gives_no_buffer : (f : JniFunction) → IsPlain (call_kind f) → (access : Access) → (prototype f).result ≡ GivesBuffer access → ⊥
gives_no_buffer (functions.GetBuffer a) h access e = h
gives_no_buffer f h access e = cc

pub fails_simply : (f : JniFunction) → IsPlain (call_kind f) → Simple (prototype f).result (failure (prototype f).result)
fails_simply f h = failure_is_simple (prototype f).result (gives_no_buffer f h)

module _ (unit : SourceUnit) (classes : Classes) (in_use : BuffersInUse) (k : ℕ) (s : Shared) (t : Thread) (args : List Actual) where
  of_kind : {kind : ResultKind} {given : CallResult} → IsOfKind unit classes kind given → Gives kind given
  of_kind (OfReference None) = Plainly NullLocal
  of_kind (OfReference (Some n)) = ALocal n
  of_kind (OfWeak r) = Plainly (AWeak r)
  of_kind (OfFlag b) = Plainly (AFlag b)
  of_kind (OfInt z) = Plainly (AnInt z)
  of_kind (OfField f found) = Plainly (AField (Some f))
  of_kind (OfMethod m class name text found) = Plainly (AMethod (Some m))
  of_kind OfNothing = Plainly NoResultThere

  capacity_stays : (n : ℕ) (frames : List Frame) → references_of (with_capacity n frames) ≡ references_of frames
  capacity_stays n [] = refl
  capacity_stays n (frame ∷ below) = refl

  answer_quiet : {sight : CallSight} {f : JniFunction} {kind : ResultKind} {a : Answer} → Simple kind (failure kind) → AnswersAs unit classes sight f Quiet kind a → IsQuiet s t kind (effect_of classes in_use k s t args a)
  unfolding effect_of
  answer_quiet fails (Giving given) = (refl, refl, refl, of_kind given)
  answer_quiet fails (Pending r given) = (refl, refl, refl, of_kind given)
  answer_quiet fails (Raising class is) = fails
  answer_quiet fails (RaisingWith class text is) = (refl, refl, refl, Plainly (AnInt _))
  answer_quiet fails (Writing n i v is) = (refl, refl, refl, Plainly NoResultThere)
  answer_quiet fails (SettingRegion r is) = (refl, refl, refl, Plainly NoResultThere)
  answer_quiet fails (Making o is) = (refl, refl, refl, ALocal _)
  answer_quiet fails (MakingGlobal r) = (refl, refl, refl, Plainly (AGlobal r))
  answer_quiet fails (Ensuring n) =
      cond_both (nat_le (capacities (with_capacity n t.frames)) most_references) _ _ (IsQuiet s t GivesInt)
      (λ e. (refl, capacity_stays n t.frames, refl, Plainly (AnInt _))) (λ e. (refl, refl, refl, Plainly (AnInt _)))
  answer_quiet fails EnsuringNone = (refl, refl, refl, Plainly (AnInt _))
  answer_quiet fails (Owning n count) = (refl, refl, refl, Plainly (AnInt _))
  answer_quiet fails (Disowning n) = (refl, refl, refl, Plainly (AnInt _))
  answer_quiet fails (Halting trap) = tt

  pub effect_quiet : (f : JniFunction) → call_kind f ≡ Quiet → IsQuiet s t (prototype f).result (call_effect unit classes in_use k s t args f)
  effect_quiet f quiet =
      (answer_quiet (fails_simply f (subst IsPlain (sym quiet) tt)) (answers_of unit classes k (sight_of_call s t f args) f Quiet quiet))
