-- A step within a call whose allocation is refused keeps what holds of its thread, where it is possible.
use Rattle.std.proofs.Common.{◌≡◌, ℕ, Bool, true, false, List, [], ◌∷◌, Option, Some, None, refl, sym, subst}
use Rattle.std.specs.Prelude.{nat_le}
use Rattle.std.proofs.lemmas.Bool.{cond_both}
use Rattle.base.specs.Limits.{most_references}
use Rattle.class_rules.specs.Class.{Classes}
use Rattle.syntax.specs.Tree.{SourceUnit}
use Rattle.jni.specs.declared.function.JniFunction.{JniFunction}
use Rattle.jni.specs.JniFunction.{calls_method, prototype}
use Rattle.jni.specs.declared.kinds.ResultKind.{ResultKind}
use Rattle.semantics.specs.Answer.{Answer, Ensures, Makes, Pushes, Raises, RaisesWith}
use Rattle.semantics.specs.Answer as answer
use Rattle.semantics.specs.AnswerTable.{call_answer, call_effect}
use Rattle.semantics.specs.CallSight.{CallSight, sight_of_call}
use Rattle.semantics.specs.Arguments.{Actual}
use Rattle.semantics.specs.CallEffects.{CallEffect, frames_effect, with_capacity}
use Rattle.semantics.specs.CallStep.{trap_of_call, checked, makes_objects, after_refusal}
use Rattle.semantics.specs.Effect.{Effect, Calls, effect_of}
use Rattle.semantics.specs.Task.{Task, Target, Operand, Invoke}
use Rattle.semantics.specs.Thread.{Thread, Shared, BuffersInUse, Frame, capacities, sight_of}
use Rattle.semantics.specs.ThreadStep.{after_refused_effect, step_within}
use Rattle.semantics.specs.declared.trap.Trap.{Trap}
use Rattle.semantics.proofs.AnswerKinds.{AnswersAs, CallKind, CallsMethod, EndsStatic, FillingNone, FillsArray, Making, Quiet, Raising, RaisingWith, answers_of, call_kind, calls_as}
use Rattle.semantics_safety.proofs.OwnerLaws.{LandsByIfPossible, RefusedLands}
use Rattle.semantics_safety.specs.Owners.{Owners, after_effect as owners_after}
use Rattle.semantics_safety.specs.Points.{Point}
use Rattle.semantics_safety.specs.Stands.{Goes, Stands}
use Rattle.semantics_safety.specs.Wanted.{Runs, GoesOn}
use Rattle.semantics_safety.specs.Follows.{Follows}
use Rattle.semantics_safety.specs.WeakNames.{WeakNames}
use Rattle.semantics_safety.proofs.EffectLaws.{effect_follows}
use Rattle.semantics_safety.proofs.QuietLaws.{IsPlain}
use Rattle.semantics_safety.proofs.QuietSteps.{refused_call_lands}

pub checked_none : (o : Option Trap) (e : CallEffect) → makes_objects e ≡ false → makes_objects (checked o e) ≡ false
checked_none None e h = h
checked_none (Some trap) e h = refl

-- an answer makes no object itself
abbrev NoneMade : Answer → Type 0
NoneMade (Makes o) = ⊥
NoneMade (Raises class) = ⊥
NoneMade (RaisesWith class text) = ⊥
NoneMade a = Unit {0}

-- nor does any of a function of such a kind
abbrev MakesNone : CallKind → Type 0
MakesNone Quiet = ⊥
MakesNone FillsArray = ⊥
MakesNone kind = Unit {0}

module _ (unit : SourceUnit) (classes : Classes) (in_use : BuffersInUse) (k : ℕ) (s : Shared) (t : Thread) (args : List Actual) where
  kind_made : {sight : CallSight} {f : JniFunction} {kind : CallKind} {result : ResultKind} {a : Answer} → MakesNone kind → AnswersAs unit classes sight f kind result a → NoneMade a
  kind_made none (Making o is) = absurd none
  kind_made none (Raising class is) = absurd none
  kind_made none (RaisingWith class text is) = absurd none
  kind_made none (FillingNone class is) = absurd none
  kind_made none h = tt

  frames_made : (frames : List Frame) → makes_objects (frames_effect classes s t frames) ≡ false
  frames_made frames = cond_both (nat_le (capacities frames) most_references) _ _ (λ (e : CallEffect). makes_objects e ≡ false) (λ e. refl) (λ e. refl)

  answer_made : (a : Answer) → NoneMade a → makes_objects (answer.effect_of classes in_use k s t args a) ≡ false
  unfolding answer.effect_of
  answer_made (Makes o) none = absurd none
  answer_made (Raises class) none = absurd none
  answer_made (RaisesWith class text) none = absurd none
  answer_made (Ensures n) none = frames_made (with_capacity n t.frames)
  answer_made (Pushes n) none = frames_made (record { capacity = n; references = [] } ∷ t.frames)
  answer_made a none = refl

  none_made : (f : JniFunction) (kind : CallKind) → MakesNone kind → AnswersAs unit classes (sight_of_call s t f args) f kind (prototype f).result (call_answer unit classes k (sight_of_call s t f args) f)
      → makes_objects (call_effect unit classes in_use k s t args f) ≡ false
  none_made f kind none h =
      (answer_made (call_answer unit classes k (sight_of_call s t f args) f) (kind_made none h))

-- a call of a method makes none itself
pub method_made : (unit : SourceUnit) (classes : Classes) (in_use : BuffersInUse) (k : ℕ) (s : Shared) (t : Thread) (f : JniFunction) → calls_method f ≡ true → (args : List Actual) → makes_objects (call_effect unit classes in_use k s t args f) ≡ false
method_made unit classes in_use k s t f is args = none_made unit classes in_use k s t args f CallsMethod tt (calls_as unit classes k (sight_of_call s t f args) f is)

module _ (unit : SourceUnit) (classes : Classes) (in_use : BuffersInUse) (k : ℕ) (s : Shared) (t : Thread) (line : ℕ) (rest : List Task) (weak : WeakNames) (own : Owners) where
  -- a call that makes no object has nothing to refuse
  nothing_refused : (f : JniFunction) (target : Target) (args : List Actual) (b : Bool) → b ≡ false → LandsByIfPossible weak (owners_after unit classes k s t (Calls line target f args) own) s.statics (after_refusal unit classes in_use k s t line target f args rest b)
  nothing_refused f target args false e = tt
  nothing_refused f target args true e = absurd (cc)

  none_refused : (f : JniFunction) (target : Target) (args : List Actual) → makes_objects (call_effect unit classes in_use k s t args f) ≡ false → RefusedLands unit classes in_use k s t line rest weak own target f args
  none_refused f target args h = nothing_refused f target args _ (checked_none (trap_of_call classes s t target f args) (call_effect unit classes in_use k s t args f) h)

  module _ (p : Point) (stands : Stands weak own s.statics t.variables t.frames p) (whole : Goes weak own s.statics t t.tasks) where
    -- the marked step of a call, by its function
    pub each_refused_lands : (f : JniFunction) (target : Target) (operands : List Operand) (args : List Actual) → Runs (Invoke line target f operands) (GoesOn rest) p → RefusedLands unit classes in_use k s t line rest weak own target f args
    each_refused_lands f target operands args runs = by_kind (call_kind f) refl
      where
        as_plain : (kind : CallKind) → call_kind f ≡ kind → IsPlain kind → RefusedLands unit classes in_use k s t line rest weak own target f args
        as_plain kind is plain = refused_call_lands unit classes in_use k s t line f args rest p stands (subst IsPlain (sym is) plain) whole target operands runs

        by_kind : (kind : CallKind) → call_kind f ≡ kind → RefusedLands unit classes in_use k s t line rest weak own target f args
        by_kind Quiet is = as_plain Quiet is tt
        by_kind EndsStatic is = as_plain EndsStatic is tt
        by_kind FillsArray is = as_plain FillsArray is tt
        by_kind kind is = none_refused f target args (none_made unit classes in_use k s t args f kind tt (answers_of unit classes k (sight_of_call s t f args) f kind is))

module _ (unit : SourceUnit) (classes : Classes) (in_use : BuffersInUse) (k : ℕ) (s : Shared) (t : Thread) (task : Task) (rest : List Task) (p : Point) {weak : WeakNames} {own : Owners} (stands : Stands weak own s.statics t.variables t.frames p) (runs : Runs task (GoesOn rest) p) (whole : Goes weak own s.statics t t.tasks) where
  marked_lands : (e : Effect) → Follows weak own (sight_of s t) s.statics t.variables t.frames p rest e → LandsByIfPossible weak (owners_after unit classes k s t e own) s.statics (after_refused_effect unit classes in_use k s t rest e)
  marked_lands (Calls line target f args) (operands, is, ready, r) = each_refused_lands unit classes in_use k s t line rest weak own p stands whole f target operands args r
  marked_lands e h = tt

  -- each marked step within a call leads to a point again, where it is possible
  pub marked_step_lands : LandsByIfPossible weak (owners_after unit classes k s t (effect_of (sight_of s t) task) own) s.statics (step_within unit classes in_use k s t true (Some (task ∷ rest)))
  marked_step_lands = marked_lands (effect_of (sight_of s t) task) (effect_follows s.heap s.statics t.variables t.frames p stands rest task runs)
