-- What is asked of each step holds of a thread that goes on from the point where it is.
use Rattle.std.proofs.Common.{◌≡◌, ◌≢◌, ℕ, true, ◌+◌, ◌≤◌, List, [], ◌∷◌, ◌++◌, length, flat_map, Option, Some, None, refl, sym, subst, ap, ◌∙◌}
use Rattle.std.specs.List.{AllByRecursion, AllZip}
use Rattle.base.specs.Bytes.{Identifier, lookup}
use Rattle.jni.specs.declared.access.Access.{Access}
use Rattle.jni.specs.declared.function.JniFunction.{JniFunction}
use Rattle.jni.specs.declared.function.JniFunction.TheVariants.{ReleaseBuffer}
use Rattle.jni.specs.JniFunction.{calls_method, prototype}
use Rattle.base.specs.Limits.{most_further}
use Rattle.class_rules.specs.Class.{Classes}
use Rattle.syntax.specs.Tree.{SourceUnit}
use Rattle.type_rules.specs.ExprTypes.{type_in}
use Rattle.semantics.specs.Method.{MethodId}
use Rattle.jni.specs.declared.kinds.ResultKind.{ResultKind}
use Rattle.jni.specs.declared.kinds.ResultKind.TheVariants.{NewLocal}
use Rattle.semantics.specs.Arguments.{Actual, method_given, object_given, variable_given}
use Rattle.semantics.specs.CallEffects.{CallResult}
use Rattle.semantics.specs.Checks.{frames_after}
use Rattle.semantics.specs.Effect.{Calls, Returns, NoEffect, effect_of}
use Rattle.semantics.specs.Object.{Reference}
use Rattle.semantics.specs.Task.{Task, Target, Assigned}
use Rattle.semantics.specs.Thread.{Thread, Caller, Shared, sight_of, viewed_by, objects_viewed}
use Rattle.semantics.specs.ThreadStep.{next_effect}
use Rattle.semantics.specs.Variable.{LocalRef, Statics}
use Rattle.semantics.specs.WeakArguments.{WeakAreTaken}
use Rattle.semantics_safety.specs.Owners.{Owners, IsOwn}
use Rattle.semantics_safety.specs.Follows.{Follows}
use Rattle.semantics_safety.specs.Stands.{AreCallable, CallerStands, Goes}
use Rattle.semantics_safety.specs.StepSafe.{IsCallable, IsResumable, MayMeetView, MayReturn, IsAlive, came_from, HoldsNoBuffer, SetsWhole}
use Rattle.semantics_safety.specs.Used.{task_names}
use Rattle.semantics_safety.specs.Wanted.{AssignsResult, GoesOn, ResultGoes}
use Rattle.semantics_safety.specs.WeakNames.{WeakNames}
use Rattle.semantics_safety.proofs.ClauseLaws.{view_clause, return_clause, reference_clause, owned_clause}
use Rattle.semantics_safety.proofs.EffectLaws.{effect_follows, call_fits}
use Rattle.semantics_safety.proofs.LevelLaws.{level_clause, set_level}
use Rattle.semantics_safety.proofs.Pushes.{arguments_are_few, method_callable}
use Rattle.semantics_safety.proofs.ReleaseLaws.{release_clause}
use Rattle.semantics_safety.proofs.WeakLaws.{weak_clause}
use Rattle.semantics_safety.proofs.WholeLaws.{result_holds, whole_clause}

no_call : (line : ℕ) (target : Target) (f : JniFunction) (args : List Actual) → NoEffect ≡ Calls line target f args → ⊥
no_call line target f args e = cc

no_return : (given : CallResult) → NoEffect ≡ Returns given → ⊥
no_return given e = cc

-- ---- callers

-- the caller that goes on next can
caller_resumes : (weak : WeakNames) (ss : Statics) (own : Owners) (c : Caller) → CallerStands weak ss own c → IsResumable c
caller_resumes weak ss own c h = record {
  method = h.method;
  untested = λ a b e. subst (λ (target : Target). ResultGoes target c.result None (GoesOn c.tasks) h.point) e h.goes;
  room = h.room;
  free = λ x is. result_holds ss c.variables c.frames h.point h.stands c.target c.result None (GoesOn c.tasks) x is h.goes;
  declared = λ x level r target kind there.
      let goes = subst (λ (target : Target). ResultGoes target c.result None (GoesOn c.tasks) h.point) target h.goes in
      set_level ss c.variables c.frames h.point h.stands (GoesOn c.tasks) x level r there h.point c.frames h.stands (type_in h.point.names x) None
      (subst (λ (kind : ResultKind). AssignsResult h.point (type_in h.point.names x) x kind None (GoesOn c.tasks)) kind goes);
}

pub resumable : (weak : WeakNames) (ss : Statics) (owners : List Owners) (callers : List Caller) → AllZip (CallerStands weak ss) owners callers → (c : Caller) (below : List Caller) → callers ≡ c ∷ below → IsResumable c
resumable weak ss [] [] h c below e = absurd (cc)
resumable weak ss [] (d ∷ callers) h c below e = absurd h
resumable weak ss (own ∷ owners) [] h c below e = absurd (cc)
resumable weak ss (own ∷ owners) (d ∷ callers) h c below e = let same : d ≡ c = cc in subst IsResumable same (caller_resumes weak ss own d h.0)

-- ---- steps

module _ (unit : SourceUnit) (classes : Classes) (weak : WeakNames) (own : Owners) (s : Shared) (t : Thread) where
  at_method : (o : Option (List Task)) → Goes weak own s.statics t o → AreCallable unit classes t.variables → (line : ℕ) (target : Target) (f : JniFunction) (args : List Actual) → next_effect s t o ≡ Calls line target f args → calls_method f ≡ true
      → (length args ≤ 2 + most_further) × ((m : MethodId) → method_given args 1 ≡ Some m → IsCallable unit classes m)
  at_method None g known line target f args e is = absurd (no_call line target f args e)
  at_method (Some []) g known line target f args e is = absurd (g.2)
  at_method (Some (task ∷ rest)) (p, stands, runs) known line target f args e is =
      let called = subst (Follows weak own (sight_of s t) s.statics t.variables t.frames p rest) e (effect_follows s.heap s.statics t.variables t.frames p stands rest task runs) in
      subst (λ (l : List Actual). (length l ≤ 2 + most_further) × ((m : MethodId) → method_given l 1 ≡ Some m → IsCallable unit classes m)) (sym called.1) (
        arguments_are_few p (sight_of s t) f is called.0 (call_fits s.heap s.statics t.variables t.frames p stands rest line target f called.0 called.3),
        method_callable unit classes (sight_of s t) t.variables (λ x. refl) known f is called.0,
      )

  -- a call of a method is one of the unit's functions, and gives it few arguments
  pub methods : Goes weak own s.statics t t.tasks → AreCallable unit classes t.variables → (line : ℕ) (target : Target) (f : JniFunction) (args : List Actual) → next_effect s t t.tasks ≡ Calls line target f args → calls_method f ≡ true
      → (length args ≤ 2 + most_further) × ((m : MethodId) → method_given args 1 ≡ Some m → IsCallable unit classes m)
  methods goes known line target f args e is = at_method t.tasks goes known line target f args e is

module _ (weak : WeakNames) (own : Owners) (s : Shared) (t : Thread) where
  at_return : (given : CallResult) (o : Option (List Task)) → Goes weak own s.statics t o → next_effect s t o ≡ Returns given → MayReturn t
  at_return given None g e = absurd (no_return given e)
  at_return given (Some []) g e = absurd (g.2)
  at_return given (Some (task ∷ rest)) (p, stands, runs) e =
      return_clause s.statics t.variables t.frames p stands
      (subst (Follows weak own (sight_of s t) s.statics t.variables t.frames p rest) e (effect_follows s.heap s.statics t.variables t.frames p stands rest task runs))

  at_release : (o : Option (List Task)) → Goes weak own s.statics t o → (line : ℕ) (target : Target) (access : Access) (args : List Actual) → next_effect s t o ≡ Calls line target (ReleaseBuffer access) args
      → came_from (lookup (variable_given args 1) t.variables) ≡ Some (object_given args 0)
  at_release None g line target access args e = absurd (no_call line target (ReleaseBuffer access) args e)
  at_release (Some []) g line target access args e = absurd (g.2)
  at_release (Some (task ∷ rest)) (p, stands, runs) line target access args e =
      let called = subst (Follows weak own (sight_of s t) s.statics t.variables t.frames p rest) e (effect_follows s.heap s.statics t.variables t.frames p stands rest task runs) in
      subst (λ (l : List Actual). came_from (lookup (variable_given l 1) t.variables) ≡ Some (object_given l 0)) (sym called.1)
      (release_clause s.heap s.statics t.variables t.frames p stands access called.0
      ((call_fits s.heap s.statics t.variables t.frames p stands rest line target (ReleaseBuffer access) called.0 called.3).rules))

  at_level : (o : Option (List Task)) → Goes weak own s.statics t o → (line : ℕ) (x : Identifier) (f : JniFunction) (args : List Actual) (level : ℕ) (r : Reference)
      → next_effect s t o ≡ Calls line (Assigned x) f args → (prototype f).result ≡ NewLocal → lookup x t.variables ≡ Some (LocalRef level r) → level ≡ length (frames_after f t.frames)
  at_level None g line x f args level r e gives there = absurd (no_call line (Assigned x) f args e)
  at_level (Some []) g line x f args level r e gives there = absurd (g.2)
  at_level (Some (task ∷ rest)) (p, stands, runs) line x f args level r e gives there =
      let called = subst (Follows weak own (sight_of s t) s.statics t.variables t.frames p rest) e (effect_follows s.heap s.statics t.variables t.frames p stands rest task runs) in
      level_clause s.statics t.variables t.frames p stands (GoesOn rest) x level r there line f called.0 called.3 gives

  none_set : (x : Identifier) → SetsWhole x NoEffect → ⊥
  none_set x h = h

  at_whole : (o : Option (List Task)) → Goes weak own s.statics t o → (x : Identifier) → SetsWhole x (next_effect s t o) → HoldsNoBuffer (lookup x t.variables)
  at_whole None g x h = absurd (none_set x h)
  at_whole (Some []) g x h = absurd (none_set x h)
  at_whole (Some (task ∷ rest)) (p, stands, runs) x h =
      whole_clause (sight_of s t) s.statics t.variables t.frames p stands rest x (effect_of (sight_of s t) task) h (effect_follows s.heap s.statics t.variables t.frames p stands rest task runs)

  at_effect : (tasks : List Task) → Goes weak own s.statics t (Some tasks) → next_effect s t (Some tasks) ≢ NoEffect
  at_effect [] g e = absurd (g.2)
  at_effect (task ∷ rest) (p, stands, runs) e =
      absurd (subst (Follows weak own (sight_of s t) s.statics t.variables t.frames p rest) e (effect_follows s.heap s.statics t.variables t.frames p stands rest task runs))

  module _ (goes : Goes weak own s.statics t t.tasks) where
    pub view : flat_map (λ (c : Caller). objects_viewed c.variables) t.callers ≡ [] → (task : Task) (rest : List Task) → t.tasks ≡ Some (task ∷ rest) → viewed_by t ≢ [] → MayMeetView task
    view none_below task rest e held =
        let g : Goes weak own s.statics t (Some (task ∷ rest)) = subst (Goes weak own s.statics t) e goes in
        let views : viewed_by t ≡ objects_viewed t.variables = ap (λ (l : List ℕ). l ++ objects_viewed t.variables) none_below in
        view_clause s.statics t.variables t.frames g.0 g.1 task (GoesOn rest) g.2 (λ none. held (views ∙ none))

    pub return : (given : CallResult) → next_effect s t t.tasks ≡ Returns given → MayReturn t
    return given e = at_return given t.tasks goes e

    pub references : (task : Task) (rest : List Task) → t.tasks ≡ Some (task ∷ rest) → AllByRecursion (λ x. IsAlive t.frames (lookup x t.variables)) (task_names task)
    references task rest e = let g : Goes weak own s.statics t (Some (task ∷ rest)) = subst (Goes weak own s.statics t) e goes in reference_clause s.statics t.variables t.frames g.0 g.1 task (GoesOn rest) g.2

    pub owned : (task : Task) (rest : List Task) → t.tasks ≡ Some (task ∷ rest) → AllByRecursion (λ x. IsOwn own x (lookup x t.variables)) (task_names task)
    owned task rest e = let g : Goes weak own s.statics t (Some (task ∷ rest)) = subst (Goes weak own s.statics t) e goes in owned_clause s.statics t.variables t.frames g.0 g.1 task (GoesOn rest) g.2

    pub taken : (task : Task) (rest : List Task) → t.tasks ≡ Some (task ∷ rest) → WeakAreTaken t.variables s.statics task
    taken task rest e = let g : Goes weak own s.statics t (Some (task ∷ rest)) = subst (Goes weak own s.statics t) e goes in weak_clause s.statics t.variables t.frames g.0 g.1 task (GoesOn rest) g.2

    pub release : (line : ℕ) (target : Target) (access : Access) (args : List Actual) → next_effect s t t.tasks ≡ Calls line target (ReleaseBuffer access) args → came_from (lookup (variable_given args 1) t.variables) ≡ Some (object_given args 0)
    release line target access args e = at_release t.tasks goes line target access args e

    pub free : (x : Identifier) → SetsWhole x (next_effect s t t.tasks) → HoldsNoBuffer (lookup x t.variables)
    free x h = at_whole t.tasks goes x h

    pub possible : (tasks : List Task) → t.tasks ≡ Some tasks → next_effect s t t.tasks ≢ NoEffect
    possible tasks e =
        subst (λ (o : Option (List Task)). next_effect s t o ≢ NoEffect) (sym e) (at_effect tasks (subst (Goes weak own s.statics t) e goes))

    pub declared : (line : ℕ) (x : Identifier) (f : JniFunction) (args : List Actual) (level : ℕ) (r : Reference)
        → next_effect s t t.tasks ≡ Calls line (Assigned x) f args → (prototype f).result ≡ NewLocal → lookup x t.variables ≡ Some (LocalRef level r) → level ≡ length (frames_after f t.frames)
    declared line x f args level r e gives there = at_level t.tasks goes line x f args level r e gives there
