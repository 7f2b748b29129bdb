-- The step of each call of the JNI keeps what holds of its thread, and so does each step within a call.
use Rattle.std.proofs.Common.{◌≡◌, refl, ℕ, Bool, true, false, List, ◌∷◌, Some, sym, subst, arith}
use Rattle.class_rules.specs.Class.{Classes}
use Rattle.syntax.specs.Tree.{SourceUnit}
use Rattle.jni.specs.declared.function.JniFunction.{JniFunction}
use Rattle.jni.specs.declared.function.JniFunction.TheVariants.{DeleteLocalRef, PushLocalFrame, PopLocalFrame, GetBuffer, ReleaseBuffer}
use Rattle.jni.specs.JniFunction.{calls_method}
use Rattle.semantics.specs.Arguments.{Actual, actuals}
use Rattle.semantics.specs.CallEffects.{CallResult}
use Rattle.semantics.specs.Effect.{Effect, Becomes, Sets, SetsNull, SetsElement, MakesArray, Prints, Calls, Returns, TrapsAt, NoEffect, effect_of}
use Rattle.semantics.specs.Task.{Task, Target, Operand, Invoke}
use Rattle.semantics.specs.Thread.{Thread, Shared, BuffersInUse, sight_of}
use Rattle.semantics.specs.ThreadStep.{after_effect, step_within}
use Rattle.semantics.proofs.AnswerKinds.{CallKind, CallsMethod, EndsLocal, EndsStatic, FillsArray, GetsBuffer, PopsFrame, PushesFrame, Quiet, ReleasesBuffer, call_kind}
use Rattle.semantics_safety.proofs.OwnerLaws.{CallLands}
use Rattle.semantics_safety.specs.Owners.{Owners, after_effect as owners_after}
use Rattle.semantics_safety.specs.Points.{Point}
use Rattle.semantics_safety.specs.Stands.{Goes, Stands}
use Rattle.semantics_safety.specs.Wanted.{Runs, GoesOn}
use Rattle.semantics_safety.specs.Follows.{Follows}
use Rattle.semantics_safety.specs.WeakNames.{WeakNames}
use Rattle.semantics_safety.proofs.ChangeCalls.{static_call_lands, region_call_lands}
use Rattle.semantics_safety.proofs.EffectLaws.{effect_follows}
use Rattle.semantics_safety.proofs.FrameCalls.{delete_lands, push_lands, pop_lands}
use Rattle.semantics_safety.proofs.GetCalls.{get_lands}
use Rattle.semantics_safety.proofs.NullLaws.{null_lands}
use Rattle.semantics_safety.proofs.QuietLaws.{IsPlain}
use Rattle.semantics_safety.proofs.QuietSteps.{call_lands}
use Rattle.semantics_safety.proofs.ReleaseCalls.{release_lands}
use Rattle.semantics_safety.proofs.StepLaws.{LandsBy, plain_lands}

module _ (unit : SourceUnit) (classes : Classes) (in_use : BuffersInUse) (k : ℕ) (s : Shared) (t : Thread) (line : ℕ) (rest : List Task) (p : Point) {weak : WeakNames} {own : Owners} (stands : Stands weak own s.statics t.variables t.frames p) (whole : Goes weak own s.statics t t.tasks) where
  -- the step of a call, by the kind of its function
  pub each_call_lands : (f : JniFunction) (target : Target) (operands : List Operand) (args : List Actual) → args ≡ actuals (sight_of s t) f operands → calls_method f ≡ false → Runs (Invoke line target f operands) (GoesOn rest) p → CallLands unit classes in_use k s t line rest weak own target f args
  each_call_lands f target operands args is own_call runs = by_kind (call_kind f) refl
    where
      -- where it lands as that of a function that the region rules know, with what is looked up
      known : (g : JniFunction) → f ≡ g → (Runs (Invoke line target g operands) (GoesOn rest) p → CallLands unit classes in_use k s t line rest weak own target g (actuals (sight_of s t) g operands)) → CallLands unit classes in_use k s t line rest weak own target f args
      known g same lands =
          subst (λ (l : List Actual). CallLands unit classes in_use k s t line rest weak own target f l) (sym is)
          (subst (λ (h : JniFunction). CallLands unit classes in_use k s t line rest weak own target h (actuals (sight_of s t) h operands)) (sym same)
          (lands (subst (λ (h : JniFunction). Runs (Invoke line target h operands) (GoesOn rest) p) same runs)))

      by_kind : (kind : CallKind) → call_kind f ≡ kind → CallLands unit classes in_use k s t line rest weak own target f args
      by_kind Quiet of = call_lands unit classes in_use k s t line f args rest p stands (subst IsPlain (sym of) tt) whole of target operands runs
      by_kind EndsStatic of = static_call_lands unit classes in_use k s t line rest p stands whole f target operands args of runs
      by_kind FillsArray of = region_call_lands unit classes in_use k s t line rest p stands whole f target operands args is of runs
      by_kind EndsLocal of = known DeleteLocalRef (grind (arith, of)) (delete_lands unit classes in_use k s t line rest p stands whole target operands)
      by_kind PushesFrame of = known PushLocalFrame (grind (arith, of)) (push_lands unit classes in_use k s t line rest p stands whole target operands _)
      by_kind PopsFrame of = known PopLocalFrame (grind (arith, of)) (pop_lands unit classes in_use k s t line rest p stands whole target operands _)
      by_kind (GetsBuffer access) of = known (GetBuffer access) (grind (arith, of)) (get_lands unit classes in_use k s t line rest p stands whole access target operands)
      by_kind (ReleasesBuffer access) of = known (ReleaseBuffer access) (grind (arith, of)) (release_lands unit classes in_use k s t line rest p stands whole access target operands)
      by_kind CallsMethod of = absurd (grind (arith, of, own_call))

-- an effect that doesn't return
abbrev pub IsNoReturn : Effect → Type 0
IsNoReturn (Returns given) = ⊥
IsNoReturn e = Unit {0}

-- an effect that neither returns nor calls a method
abbrev pub IsWithin : Effect → Type 0
IsWithin (Returns given) = ⊥
IsWithin (Calls line target f args) = calls_method f ≡ false
IsWithin e = Unit {0}

-- an effect returns, calls a method, or does neither
pub data Path (e : Effect) : Type 0 where
  Returning : (given : CallResult) → e ≡ Returns given → Path e
  Calling : (line : ℕ) (target : Target) (f : JniFunction) (args : List Actual) → e ≡ Calls line target f args → calls_method f ≡ true → Path e
  Within : IsWithin e → Path e

path_of_call : (line : ℕ) (target : Target) (f : JniFunction) (args : List Actual) (b : Bool) → calls_method f ≡ b → Path (Calls line target f args)
path_of_call line target f args true is = Calling line target f args refl is
path_of_call line target f args false is = Within is

pub path_of : (e : Effect) → Path e
path_of (Returns given) = Returning given refl
path_of (Calls line target f args) = path_of_call line target f args (calls_method f) refl
path_of (Becomes tasks) = Within tt
path_of (Sets x v) = Within tt
path_of (SetsNull target) = Within tt
path_of (SetsElement x i z) = Within tt
path_of (MakesArray u x n) = Within tt
path_of (Prints z) = Within tt
path_of (TrapsAt trap line) = Within tt
path_of NoEffect = Within tt

module _ (unit : SourceUnit) (classes : Classes) (in_use : BuffersInUse) (k : ℕ) (s : Shared) (t : Thread) (task : Task) (rest : List Task) (p : Point) {weak : WeakNames} {own : Owners} (stands : Stands weak own s.statics t.variables t.frames p) (runs : Runs task (GoesOn rest) p) (whole : Goes weak own s.statics t t.tasks) where
  each_lands : (e : Effect) → IsWithin e → Follows weak own (sight_of s t) s.statics t.variables t.frames p rest e → LandsBy weak (owners_after unit classes k s t e own) s.statics (after_effect unit classes in_use k s t rest e)
  each_lands (Calls line target f args) away (operands, is, ready, r) = each_call_lands unit classes in_use k s t line rest p stands whole f target operands args is away r
  each_lands (SetsNull target) away h = null_lands unit classes in_use k s t rest p stands target h
  each_lands (Returns given) away h = absurd away
  each_lands NoEffect away h = absurd h
  each_lands e away h = plain_lands unit classes in_use k s t rest p stands (sight_of s t) e tt whole h

  -- each step within a call but a return, unmarked, leads to a point again, and is possible
  pub each_step_lands : IsWithin (effect_of (sight_of s t) task) → LandsBy weak (owners_after unit classes k s t (effect_of (sight_of s t) task) own) s.statics (step_within unit classes in_use k s t false (Some (task ∷ rest)))
  each_step_lands away = each_lands (effect_of (sight_of s t) task) away (effect_follows s.heap s.statics t.variables t.frames p stands rest task runs)
