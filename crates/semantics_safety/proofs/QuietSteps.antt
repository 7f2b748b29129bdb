-- The step of a plain call keeps what holds of its thread, and is possible.
use Rattle.std.proofs.Common.{◌≡◌, ℕ, false, List, [], ◌∷◌, map, Option, Some, None, refl, subst, length}
use Rattle.std.specs.Prelude.{slice_get}
use Rattle.base.specs.declared.element.ElementType.{ElementType}
use Rattle.class_rules.specs.Class.{Classes}
use Rattle.jni.specs.declared.access.Access.{Access}
use Rattle.jni.specs.declared.function.JniFunction.TheVariants as functions
use Rattle.jni.specs.declared.function.JniFunction.{JniFunction}
use Rattle.jni.specs.declared.function.JniFunction.TheVariants.{PushLocalFrame}
use Rattle.jni.specs.JniFunction.{prototype}
use Rattle.jni.specs.declared.kinds.ResultKind.{ResultKind}
use Rattle.jni.specs.declared.kinds.ResultKind.TheVariants.{NewLocal}
use Rattle.semantics.specs.Answer.{Answer}
use Rattle.semantics.specs.Arguments.{Actual}
use Rattle.semantics.specs.CallEffects.{CallEffect}
use Rattle.semantics.specs.CallStep.{trap_of_call, target_element, checked}
use Rattle.semantics.specs.AnswerTable.{call_effect}
use Rattle.semantics.specs.CallSight.{is_full, sight_of_call}
use Rattle.semantics.specs.Checks.{frames_after, lacks_room, trap_of}
use Rattle.semantics.specs.declared.trap.Trap.{Trap}
use Rattle.region_rules.specs.RegionStates as states
use Rattle.region_rules.specs.RegionStates.{RegionState, get_of}
use Rattle.semantics.specs.Task.{Task, Target, Declared, Assigned, Tested, Dropped, Operand, Invoke}
use Rattle.semantics.specs.Thread.{Frame, Thread, Shared, BuffersInUse}
use Rattle.base.specs.Bytes.{Identifier}
use Rattle.syntax.specs.Tree.{SourceUnit}
use Rattle.semantics.proofs.CheckLaws.{passed}
use Rattle.semantics.proofs.AnswerKinds.{Quiet, answers_as, call_kind}
use Rattle.semantics_safety.proofs.OwnerLaws.{AnswerLands, CallLands, RefusedLands, none_ended}
use Rattle.semantics_safety.specs.Owners.{Owners, answer_to, left_by}
use Rattle.semantics_safety.specs.Points.{Point}
use Rattle.semantics_safety.specs.Stands.{Goes, Stands}
use Rattle.semantics_safety.specs.Wanted.{Runs, ResultGoes, GoesOn, call_seen, operand_argument, at}
use Rattle.semantics_safety.specs.WeakNames.{WeakNames}
use Rattle.semantics_safety.proofs.QuietCalls.{effect_quiet, fails_simply}
use Rattle.semantics_safety.proofs.FrameLaws.{HasFrame}
use Rattle.semantics_safety.proofs.QuietLaws.{IsNoTest, IsPlain, free_call, plain_ended, plain_free, quiet_lands, refused_lands}
use Rattle.semantics_safety.proofs.LevelLaws.{frames_stay}

plain_no_push : (f : JniFunction) → IsPlain (call_kind f) → f ≡ PushLocalFrame → ⊥
plain_no_push f h e = subst (λ (g : JniFunction). IsPlain (call_kind g)) e h

-- ---- room for a local reference

pub has_frame : (frames : List Frame) → is_full (slice_get frames 0) ≡ false → HasFrame frames
has_frame [] h = absurd (cc)
has_frame (frame ∷ below) h = tt

-- a call that no trap stopped has room for its result
pub has_room : (classes : Classes) (s : Shared) (t : Thread) (element : ElementType) (f : JniFunction) (args : List Actual) → trap_of classes (sight_of_call s t f args) element f ≡ None → (prototype f).result ≡ NewLocal → is_full (slice_get (frames_after f t.frames) 0) ≡ false
has_room classes s t element f args none is =
    has_no_full f (subst (λ (kind : ResultKind). lacks_room classes (sight_of_call s t f args) f kind ≡ false) is (passed classes (sight_of_call s t f args) element f none).room)
  where
    has_no_full : (g : JniFunction) → lacks_room classes (sight_of_call s t g args) g NewLocal ≡ false → is_full (slice_get (frames_after g t.frames) 0) ≡ false
    has_no_full functions.PopLocalFrame h = h
    has_no_full g h = cc

module _ (unit : SourceUnit) (classes : Classes) (in_use : BuffersInUse) (k : ℕ) (s : Shared) (t : Thread) (line : ℕ) (f : JniFunction) (args : List Actual) (rest : List Task) (p : Point) {weak : WeakNames} {own : Owners} (stands : Stands weak own s.statics t.variables t.frames p) (plain : IsPlain (call_kind f)) (whole : Goes weak own s.statics t t.tasks) where
  goes_at : (target : Target) (operands : List Operand) → ResultGoes target (prototype f).result (get_of (call_seen f operands)) (GoesOn rest) (at p (states.after_call p.regions (call_seen f operands)))
      → ResultGoes target (prototype f).result (get_of (call_seen f operands)) (GoesOn rest) p
  goes_at target operands h = subst (λ (regions : RegionState). ResultGoes target (prototype f).result (get_of (call_seen f operands)) (GoesOn rest) (at p regions)) (free_call f p.regions (map operand_argument operands) (plain_free (call_kind f) plain)) h

  -- what the call answers
  abbrev answer : Answer
  answer = answer_to unit classes k s t f args

  left : (y : Identifier) → own y ≡ left_by answer args (length t.frames) own y
  left y = none_ended (call_kind f) (plain_ended (call_kind f) plain) (answers_as unit classes k (sight_of_call s t f args) f) args (length t.frames) own y

  room : (target : Target) → trap_of_call classes s t target f args ≡ None → (prototype f).result ≡ NewLocal → HasFrame t.frames
  room target none is = has_frame t.frames (subst (λ (frames : List Frame). is_full (slice_get frames 0) ≡ false) (frames_stay f t.frames (plain_free (call_kind f) plain)) (has_room classes s t (target_element t.variables target) f args none is))

  abbrev EffectLands : Target → CallEffect → Type 0
  EffectLands target e = AnswerLands unit classes in_use k s t line rest weak own target f args answer e

  by_trap : (target : Target) → (((prototype f).result ≡ NewLocal → HasFrame t.frames) → EffectLands target (call_effect unit classes in_use k s t args f)) → (o : Option Trap) → trap_of_call classes s t target f args ≡ o → EffectLands target (checked o (call_effect unit classes in_use k s t args f))
  by_trap target lands None e = lands (room target e)
  by_trap target lands (Some trap) e = (whole, λ x r g. (r, g))

  -- where it does, so does the call's step, unmarked
  pub plain_call_lands : (target : Target) (operands : List Operand)
      → ((get : Option (Access × Option Identifier)) → IsNoTest target → ((prototype f).result ≡ NewLocal → HasFrame t.frames) → ResultGoes target (prototype f).result get (GoesOn rest) p → EffectLands target (call_effect unit classes in_use k s t args f))
      → Runs (Invoke line target f operands) (GoesOn rest) p → CallLands unit classes in_use k s t line rest weak own target f args
  plain_call_lands (Tested a b) operands lands r = absurd (plain_no_push f plain r.1)
  plain_call_lands (Declared kind x) operands lands r = by_trap (Declared kind x) (λ room. lands (get_of (call_seen f operands)) tt room (goes_at (Declared kind x) operands r.2)) (trap_of_call classes s t (Declared kind x) f args) refl
  plain_call_lands (Assigned x) operands lands r = by_trap (Assigned x) (λ room. lands (get_of (call_seen f operands)) tt room (goes_at (Assigned x) operands r.2)) (trap_of_call classes s t (Assigned x) f args) refl
  plain_call_lands Dropped operands lands r = by_trap Dropped (λ room. lands (get_of (call_seen f operands)) tt room (goes_at Dropped operands r.2)) (trap_of_call classes s t Dropped f args) refl

  -- the step of a quiet call, unmarked
  pub call_lands : call_kind f ≡ Quiet → (target : Target) (operands : List Operand) → Runs (Invoke line target f operands) (GoesOn rest) p → CallLands unit classes in_use k s t line rest weak own target f args
  call_lands quiet target operands runs =
      plain_call_lands target operands (λ get away room goes.
      quiet_lands unit classes in_use k s t line target f args rest p stands answer left get (call_effect unit classes in_use k s t args f) away whole room
      (effect_quiet unit classes in_use k s t args f quiet) goes) runs

  refused_at : (target : Target) (operands : List Operand) → IsNoTest target → ResultGoes target (prototype f).result (get_of (call_seen f operands)) (GoesOn rest) p
      → RefusedLands unit classes in_use k s t line rest weak own target f args
  refused_at target operands away h = refused_lands unit classes in_use k s t line target f args rest p stands answer left (get_of (call_seen f operands)) _ away (fails_simply f plain) h

  -- and any, marked as refused
  pub refused_call_lands : (target : Target) (operands : List Operand) → Runs (Invoke line target f operands) (GoesOn rest) p → RefusedLands unit classes in_use k s t line rest weak own target f args
  refused_call_lands (Tested a b) operands r = absurd (plain_no_push f plain r.1)
  refused_call_lands (Declared kind x) operands r = refused_at (Declared kind x) operands tt (goes_at (Declared kind x) operands r.2)
  refused_call_lands (Assigned x) operands r = refused_at (Assigned x) operands tt (goes_at (Assigned x) operands r.2)
  refused_call_lands Dropped operands r = refused_at Dropped operands tt (goes_at Dropped operands r.2)
