-- Which owners a call leaves: its target has what it then holds, and the others what the call's answer left them.
use Rattle.std.proofs.Common.{◌≡◌, ℕ, Bool, true, false, List, Option, Some, None, refl, sym, ap, ◌∙◌, subst, if◌then◌else◌, length}
use Rattle.base.specs.Bytes.{Identifier, lookup}
use Rattle.jni.specs.declared.function.JniFunction.{JniFunction}
use Rattle.jni.specs.declared.kinds.ResultKind.{ResultKind}
use Rattle.class_rules.specs.Class.{Classes}
use Rattle.syntax.specs.Tree.{SourceUnit}
use Rattle.semantics.specs.Answer.{Answer}
use Rattle.semantics.specs.Arguments.{Actual}
use Rattle.semantics.specs.CallEffects.{CallEffect, CallResult}
use Rattle.semantics.specs.CallSight.{CallSight}
use Rattle.semantics.specs.CallStep.{after_call, blank, call_step, filled, put, put_assigned, static_result}
use Rattle.semantics.specs.Effect.{Calls}
use Rattle.semantics.specs.Task.{Task, Target, Declared, Assigned, Tested, Dropped}
use Rattle.semantics.specs.declared.event.Event.{Event}
use Rattle.semantics.specs.declared.event.Event.TheVariants.{Quiet}
use Rattle.semantics.specs.Thread.{Thread, Shared, BuffersInUse, Frame, Advance, Advances, NoAdvance}
use Rattle.semantics.specs.Variable.{Variable, Variables, Statics, assign}
use Rattle.semantics.proofs.AnswerKinds.{AnswersAs, CallKind, EndingLocal, EndsLocal, Popping, PopsFrame}
use Rattle.semantics_safety.specs.Owners.{Owners, after_answer, after_effect, is_target, left_by, level_held, with_result}
use Rattle.semantics_safety.specs.Points.{Point}
use Rattle.semantics_safety.specs.Stands.{IsOwned, Stands, Goes}
use Rattle.semantics_safety.specs.WeakNames.{WeakNames}
use Rattle.semantics_safety.proofs.StepLaws.{Lands, LandsBy}

-- the thread at its point, with other owners
pub stands_with : {weak : WeakNames} {own : Owners} (new : Owners) (ss : Statics) (vs : Variables) (frames : List Frame) (p : Point) → Stands weak own ss vs frames p → IsOwned new vs p → Stands weak new ss vs frames p
stands_with new ss vs frames p stands owned = record {
  types = stands.types;
  shows = stands.shows;
  held = stands.held;
  once = stands.once;
  known_once = stands.known_once;
  depth = stands.depth;
  backed = stands.backed;
  owned = owned;
  kinds = stands.kinds;
  only = stands.only;
}

-- a step that lands, where it is possible
abbrev pub LandsByIfPossible : WeakNames → (Event → Variables → Owners) → Statics → Advance → Type 0
LandsByIfPossible weak give ss NoAdvance = Unit {0}
LandsByIfPossible weak give ss (Advances s t event) = LandsBy weak give ss (Advances s t event)

pub by_if_possible : (weak : WeakNames) (give : Event → Variables → Owners) (ss : Statics) (a : Advance) → LandsBy weak give ss a → LandsByIfPossible weak give ss a
by_if_possible weak give ss NoAdvance h = tt
by_if_possible weak give ss (Advances s t event) h = h

-- ---- a result

-- one that is put into its target, where these owners are left to the others
module _ (weak : WeakNames) (target : Target) (give : Event → Variables → Owners) (left new : Owners) (quiet : (vs : Variables) → with_result target left vs ≡ give Quiet vs)
    (others : (y : Identifier) → is_target target y ≡ false → new y ≡ left y) (ss : Statics) where
  after_owned : (vs : Variables) (p : Point) → IsOwned new vs p → IsOwned (with_result target left vs) vs p
  after_owned vs p owned x level l n e h = by_test (is_target target x) refl
    where
      by_test : (b : Bool) → is_target target x ≡ b → (if b then level_held (lookup x vs) else left x) ≡ Some l
      by_test true is = ap level_held h
      by_test false is = sym (others x is) ∙ owned x level l n e h

  goes_after : (statics : Statics) (t : Thread) (o : Option (List Task)) → Goes weak new statics t o → Goes weak (with_result target left t.variables) statics t o
  goes_after statics t None g = g
  goes_after statics t (Some tasks) (p, stands, g) = (p, stands_with (with_result target left t.variables) statics t.variables t.frames p stands (after_owned t.variables p stands.owned), g)

  pub quiet_by : (s : Shared) (t : Thread) → Lands weak new ss (Advances s t Quiet) → LandsBy weak give ss (Advances s t Quiet)
  quiet_by s t h = (subst (λ (o : Owners). Goes weak o s.statics t t.tasks) (quiet t.variables) (goes_after s.statics t t.tasks h.0), h.1)

  assigned_by : (x : Identifier) (given : CallResult) (s : Shared) (t : Thread) (o : Option Variable) → Lands weak new ss (put_assigned x given s t o) → LandsBy weak give ss (put_assigned x given s t o)
  assigned_by x given s t (Some v) h = quiet_by s (record t { variables = assign x (filled v given) t.variables }) h
  assigned_by x given s t None h = quiet_by (record s { statics = assign x (static_result given) s.statics }) t h

  pub put_by : (to : Target) (given : CallResult) (s : Shared) (t : Thread) → Lands weak new ss (put to given s t) → LandsBy weak give ss (put to given s t)
  put_by (Declared kind x) given s t h = quiet_by s (record t { variables = assign x (filled (blank kind (length t.frames)) given) t.variables }) h
  put_by (Assigned x) given s t h = assigned_by x given s t (lookup x t.variables) h
  put_by (Tested a b) given s t h = quiet_by s t h
  put_by Dropped given s t h = quiet_by s t h

-- ---- an answer

-- functions of this kind end local references
abbrev pub ends_local : CallKind → Bool
ends_local EndsLocal = true
ends_local PopsFrame = true
ends_local kind = false

-- the answers of others end none
pub none_ended : {unit : SourceUnit} {classes : Classes} {sight : CallSight} {f : JniFunction} {result : ResultKind} {a : Answer} (kind : CallKind) → ends_local kind ≡ false → AnswersAs unit classes sight f kind result a
    → (args : List Actual) (frames : ℕ) (own : Owners) (y : Identifier) → own y ≡ left_by a args frames own y
none_ended kind none (EndingLocal n is) args frames own y = absurd (cc)
none_ended kind none (Popping r) args frames own y = absurd (cc)
none_ended kind none h args frames own y = refl

-- ---- a call

-- thread k calls functions, with the rest to do
module _ (unit : SourceUnit) (classes : Classes) (in_use : BuffersInUse) (k : ℕ) (s : Shared) (t : Thread) (line : ℕ) (rest : List Task) (weak : WeakNames) (own : Owners) where
  -- this effect of a call with this answer leads to a point
  abbrev pub AnswerLands : Target → JniFunction → List Actual → Answer → CallEffect → Type 0
  AnswerLands target f args a e = LandsBy weak (after_answer target a args (length t.frames) own) s.statics (after_call unit classes in_use k s t line target f args rest e)

  -- the step of the call does
  abbrev pub CallLands : Target → JniFunction → List Actual → Type 0
  CallLands target f args = LandsBy weak (after_effect unit classes k s t (Calls line target f args) own) s.statics (call_step unit classes in_use k s t line target f args rest false)

  -- and where its allocation is refused, if it has one
  abbrev pub RefusedLands : Target → JniFunction → List Actual → Type 0
  RefusedLands target f args = LandsByIfPossible weak (after_effect unit classes k s t (Calls line target f args) own) s.statics (call_step unit classes in_use k s t line target f args rest true)
