-- A step makes one weak reference more at most, and a call's effect none.
use Rattle.std.specs.Prelude.{◌≡◌, ℕ, ◌+◌, ◌≤◌, nat_le, Bool, true, false, cond, ℤ, List, [], ◌∷◌, ◌++◌, length, Option, Some, None, refl}
use Rattle.std.specs.List.{cons_option}
use Rattle.std.specs.Str.{bytes_eq}
use Rattle.std.proofs.Common.{arith, sym, ap, ◌∙◌, subst, le_refl, le-add_right}
use Rattle.std.proofs.lemmas.Bool.{cond_both}
use Rattle.base.specs.Bytes.{Identifier, lookup}
use Rattle.base.specs.Limits.{most_references}
use Rattle.class_rules.specs.Class.{Classes}
use Rattle.jni.specs.declared.function.JniFunction.{JniFunction}
use Rattle.semantics.specs.Answer.{Answer, DeletesGlobal, DeletesWeak, Ensures, Pushes, Raises}
use Rattle.semantics.specs.Answer as answer
use Rattle.semantics.specs.AnswerTable.{call_answer, call_effect}
use Rattle.semantics.specs.CallSight.{sight_of_call}
use Rattle.semantics.specs.Arguments.{Actual}
use Rattle.semantics.specs.CallEffects.{CallEffect, Throws, Halts, Leaves, frames_effect, refuses_frames, with_capacity, Enters}
use Rattle.semantics.specs.Thread.{Shared, Thread, BuffersInUse, Frame, capacities}
use Rattle.semantics.specs.Activation.{entry_advance, enter}
use Rattle.semantics.specs.CallEffects.{CallResult}
use Rattle.semantics.specs.CallStep.{put, put_assigned, received, static_result, completed, resumed, after_call, after_refusal, call_step, checked, effect_of_call, makes_objects, trap_of_call}
use Rattle.semantics.specs.Effect.{Effect, Becomes, Sets, SetsNull, SetsElement, MakesArray, Prints, Calls, Returns, TrapsAt, NoEffect, effect_of}
use Rattle.semantics.specs.Object.{Object}
use Rattle.semantics.specs.Return.{given_back, resumed_in, return_by}
use Rattle.semantics.specs.State.{State, thread_at, set_thread, in_use, advanced, with_event}
use Rattle.semantics.specs.Step.{turn_step, step_of, can_step}
use Rattle.semantics.specs.Task.{Task, Target, Declared, Assigned, Tested, Dropped}
use Rattle.semantics.specs.Thread.{Caller, Advance, Advances, NoAdvance, sight_of}
use Rattle.semantics.specs.declared.event.Event.{Event}
use Rattle.semantics.specs.declared.event.Event.TheVariants.{Quiet, PrintedNumber, Trapped}
use Rattle.semantics.specs.ThreadStep.{set_element, after_effect, after_refused_effect, step_within, thread_step, with_tasks}
use Rattle.semantics.specs.declared.trap.Trap.{Trap}
use Rattle.semantics.specs.Variable.{Variable, Scalar, LocalRef, FieldHandle, MethodHandle, Elements, LocalArray, NoBuffer, Copy, View, StaticReference, Empty, Live, Weakly, Cleared, Deleted, Statics, assign}
use Rattle.semantics.specs.WeakReferences.{weak_object, weakly_held}
use Rattle.syntax.specs.Tree.{SourceUnit}

-- ---- how many there are

-- one, where a static holds a weak reference that isn't cleared
abbrev pub weight : StaticReference → ℕ
weight (Weakly n) = 1
weight Empty = 0
weight (Live n) = 0
weight Cleared = 0
weight Deleted = 0

-- all of them
abbrev pub held : Statics → ℕ
held [] = 0
held ((x, r) ∷ ss) = weight r + held ss

weight_is : (r : StaticReference) (ns : List ℕ) → length (cons_option (weak_object r) ns) ≡ weight r + length ns
weight_is (Weakly n) ns = omega arith
weight_is Empty ns = omega arith
weight_is (Live n) ns = omega arith
weight_is Cleared ns = omega arith
weight_is Deleted ns = omega arith

pub held_is : (ss : Statics) → length (weakly_held ss) ≡ held ss
held_is [] = refl
held_is ((x, r) ∷ ss) = weight_is r (weakly_held ss) ∙ ap (λ n. weight r + n) (held_is ss)

weight_few : (r : StaticReference) → weight r ≤ 1
weight_few (Weakly n) = omega arith
weight_few Empty = omega arith
weight_few (Live n) = omega arith
weight_few Cleared = omega arith
weight_few Deleted = omega arith

held_assign : (x : Identifier) (v : StaticReference) (ss : Statics) → held (assign x v ss) ≤ held ss + weight v
held_assign x v [] = omega arith
held_assign x v ((y, r) ∷ ss) =
    let further = held_assign x v ss in
    cond_both (bytes_eq x y) ((x, v) ∷ ss) ((y, r) ∷ assign x v ss) (λ (l : Statics). held l ≤ held ((y, r) ∷ ss) + weight v)
    (λ e. omega arith) (λ e. omega (arith, further))

one_more : (x : Identifier) (v : StaticReference) (ss : Statics) → held (assign x v ss) ≤ held ss + 1
one_more x v ss = let a = held_assign x v ss in let b = weight_few v in omega (arith, a, b)

no_more : (x : Identifier) (ss : Statics) → held (assign x Deleted ss) ≤ held ss
no_more x ss = let a = held_assign x Deleted ss in omega (arith, a)

-- ---- what calls do

-- the effect leaves no more than there were
abbrev Keeps : Shared → CallEffect → Type 0
Keeps s (Throws c) = Unit {0}
Keeps s (Halts trap) = Unit {0}
Keeps s (Enters function arguments) = Unit {0}
Keeps s (Leaves made s' t' r) = held s'.statics ≤ held s.statics

frames_keep : (classes : Classes) (s : Shared) (t : Thread) (frames : List Frame) → Keeps s (frames_effect classes s t frames)
frames_keep classes s t frames =
    cond_both (nat_le (capacities frames) most_references) _ (refuses_frames classes s t) (Keeps s) (λ e. le_refl (held s.statics)) (λ e. le_refl (held s.statics))

module _ (unit : SourceUnit) (classes : Classes) (in_use : BuffersInUse) (k : ℕ) (s : Shared) (t : Thread) (args : List Actual) where
  -- whatever is answered
  answer_keeps : (a : Answer) → Keeps s (answer.effect_of classes in_use k s t args a)
  unfolding answer.effect_of
  answer_keeps (Ensures n) = frames_keep classes s t (with_capacity n t.frames)
  answer_keeps (Pushes n) = frames_keep classes s t (record { capacity = n; references = [] } ∷ t.frames)
  answer_keeps (DeletesGlobal i n) = no_more _ s.statics
  answer_keeps (DeletesWeak i) = no_more _ s.statics
  answer_keeps (Raises c) = tt
  answer_keeps (answer.Calls m) = tt
  answer_keeps (answer.Halts trap) = tt
  answer_keeps a = le_refl (held s.statics)

  effect_keeps : (f : JniFunction) → Keeps s (call_effect unit classes in_use k s t args f)
  effect_keeps f = answer_keeps (call_answer unit classes k (sight_of_call s t f args) f)

-- ---- a step

-- what a step leaves has one more at most
abbrev AddsOne : Shared → Advance → Type 0
AddsOne s (Advances s' t event) = held s'.statics ≤ held s.statics + 1
AddsOne s NoAdvance = Unit {0}

assigned_adds : (x : Identifier) (given : CallResult) (s : Shared) (t : Thread) (o : Option Variable) → AddsOne s (put_assigned x given s t o)
assigned_adds x given s t (Some v) = le-add_right (held s.statics) 1
assigned_adds x given s t None = one_more x (static_result given) s.statics

put_adds : (target : Target) (given : CallResult) (s : Shared) (t : Thread) → AddsOne s (put target given s t)
put_adds (Declared kind x) given s t = le-add_right (held s.statics) 1
put_adds (Assigned x) given s t = assigned_adds x given s t (lookup x t.variables)
put_adds (Tested then' else') given s t = le-add_right (held s.statics) 1
put_adds Dropped given s t = le-add_right (held s.statics) 1

adds_from : (s s' : Shared) (a : Advance) → held s'.statics ≤ held s.statics → AddsOne s' a → AddsOne s a
adds_from s s' (Advances x t event) few h = omega (arith, few, h)
adds_from s s' NoAdvance few h = tt

element_adds : (s : Shared) (t : Thread) (x : Identifier) (i : ℕ) (z : ℤ) (o : Option Variable) → AddsOne s (set_element s t x i z o)
element_adds s t x i z (Some (LocalArray T zs)) = le-add_right (held s.statics) 1
element_adds s t x i z (Some (Elements T (Copy n zs))) = le-add_right (held s.statics) 1
element_adds s t x i z (Some (Elements T (View n))) = le-add_right (held s.statics) 1
element_adds s t x i z (Some (Elements T NoBuffer)) = tt
element_adds s t x i z (Some (Scalar v)) = tt
element_adds s t x i z (Some (LocalRef level r)) = tt
element_adds s t x i z (Some (FieldHandle f)) = tt
element_adds s t x i z (Some (MethodHandle m)) = tt
element_adds s t x i z None = tt

entry_adds : (s : Shared) (o : Option Thread) → AddsOne s (entry_advance s o)
entry_adds s None = tt
entry_adds s (Some t) = le-add_right (held s.statics) 1

module _ (unit : SourceUnit) (classes : Classes) (in_use : BuffersInUse) (k : ℕ) (s : Shared) (t : Thread) where
  module _ (line : ℕ) (target : Target) (f : JniFunction) (args : List Actual) (rest : List Task) where
    completed_adds : (made : List Object) (s' : Shared) (t' : Thread) (given : CallResult) → held s'.statics ≤ held s.statics
        → AddsOne s (completed unit classes in_use k s t line target f args rest made s' t' given)
    completed_adds made s' t' given few =
        adds_from s (record s' { heap = s'.heap ++ made }) _ few
        (put_adds target given (record s' { heap = s'.heap ++ made }) (resumed unit classes in_use k s t line target f args rest t' given))

    call_adds : (e : CallEffect) → Keeps s e → AddsOne s (after_call unit classes in_use k s t line target f args rest e)
    call_adds (Throws c) h = completed_adds _ s _ _ (le_refl (held s.statics))
    call_adds (Halts trap) h = le-add_right (held s.statics) 1
    call_adds (Enters function arguments) h = le-add_right (held s.statics) 1
    call_adds (Leaves made s' t' given) h = completed_adds made s' t' given h

    refusal_adds : (b : Bool) → AddsOne s (after_refusal unit classes in_use k s t line target f args rest b)
    refusal_adds true = completed_adds [] s _ _ (le_refl (held s.statics))
    refusal_adds false = tt

    checked_keeps : (o : Option Trap) (e : CallEffect) → Keeps s e → Keeps s (checked o e)
    checked_keeps (Some trap) e h = tt
    checked_keeps None e h = h

    step_adds : (refused : Bool) → AddsOne s (call_step unit classes in_use k s t line target f args rest refused)
    step_adds false =
        call_adds (effect_of_call unit classes in_use k s t line target f args rest)
        (checked_keeps (trap_of_call classes s t target f args) (call_effect unit classes in_use k s t args f) (effect_keeps unit classes in_use k s t args f))
    step_adds true = refusal_adds (makes_objects (effect_of_call unit classes in_use k s t line target f args rest))

  return_adds : (given : CallResult) (callers : List Caller) → AddsOne s (return_by k s t given callers)
  return_adds given [] = le-add_right (held s.statics) 1
  return_adds given (c ∷ callers) =
      let back = given_back t.pending c.result given in
      put_adds c.target back s (received c.result back (resumed_in t c callers))

  module _ (rest : List Task) where
    effect_adds : (e : Effect) → AddsOne s (after_effect unit classes in_use k s t rest e)
    effect_adds (Becomes tasks) = le-add_right (held s.statics) 1
    effect_adds (Sets x v) = le-add_right (held s.statics) 1
    effect_adds (SetsNull target) = put_adds target _ s (with_tasks t rest)
    effect_adds (SetsElement x i z) = element_adds s (with_tasks t rest) x i z (lookup x t.variables)
    effect_adds (MakesArray T x n) = le-add_right (held s.statics) 1
    effect_adds (Prints z) = le-add_right (held s.statics) 1
    effect_adds (Calls line target f args) = step_adds line target f args rest false
    effect_adds (Returns given) = return_adds given t.callers
    effect_adds (TrapsAt trap line) = le-add_right (held s.statics) 1
    effect_adds NoEffect = tt

    refused_adds : (e : Effect) → AddsOne s (after_refused_effect unit classes in_use k s t rest e)
    refused_adds (Becomes tasks) = tt
    refused_adds (Sets x v) = tt
    refused_adds (SetsNull target) = tt
    refused_adds (SetsElement x i z) = tt
    refused_adds (MakesArray T x n) = tt
    refused_adds (Prints z) = tt
    refused_adds (Calls line target f args) = step_adds line target f args rest true
    refused_adds (Returns given) = tt
    refused_adds (TrapsAt trap line) = tt
    refused_adds NoEffect = tt

  within_adds : (refused : Bool) (o : Option (List Task)) → AddsOne s (step_within unit classes in_use k s t refused o)
  within_adds false None = entry_adds s (enter unit classes t t.calls)
  within_adds true None = tt
  within_adds false (Some []) = tt
  within_adds true (Some []) = tt
  within_adds false (Some (task ∷ rest)) = effect_adds rest (effect_of (sight_of s t) task)
  within_adds true (Some (task ∷ rest)) = refused_adds rest (effect_of (sight_of s t) task)

-- an event changes nothing that is shared
event_shared : (s : State) (k : ℕ) (event : Event) → (with_event s k event).shared ≡ s.shared
event_shared s k Quiet = refl
event_shared s k (PrintedNumber z) = refl
event_shared s k (Trapped trap line) = refl

advanced_adds : (s next : State) (k : ℕ) (a : Advance) → AddsOne s.shared a → advanced s k a ≡ Some next → held next.shared.statics ≤ held s.shared.statics + 1
advanced_adds s next k NoAdvance h is = let bad : None ≡ Some next = is in absurd (cc)
advanced_adds s next k (Advances shared t event) h is =
    let there : State = record s { shared = shared; threads = set_thread s.threads k t } in
    let same_state : with_event (record s { shared = shared; threads = set_thread s.threads k t }) k event ≡ next = cc in
    let now : next.shared ≡ shared = ap (λ (x : State). x.shared) (sym same_state) ∙ event_shared there k event in
    subst (λ (x : Shared). held x.statics ≤ held s.shared.statics + 1) (sym now) h

tested : (b : Bool) (after : Option State) (next : State) → (cond b after None) ≡ Some next → after ≡ Some next
tested true after next h = h
tested false after next h = let bad : None ≡ Some next = h in absurd (cc)

of_thread : (unit : SourceUnit) (classes : Classes) (s next : State) (k : ℕ) (refused : Bool) (o : Option Thread) → step_of unit classes s k refused o ≡ Some next → held next.shared.statics ≤ held s.shared.statics + 1
of_thread unit classes s next k refused None h = let bad : None ≡ Some next = h in absurd (cc)
of_thread unit classes s next k refused (Some t) h =
    advanced_adds s next k (thread_step unit classes (in_use s) k s.shared t refused) (within_adds unit classes (in_use s) k s.shared t refused t.tasks) h

-- one more at most
pub turn_adds : (unit : SourceUnit) (classes : Classes) (s next : State) (k : ℕ) (refused : Bool) → turn_step unit classes s k refused ≡ Some next → held next.shared.statics ≤ held s.shared.statics + 1
unfolding turn_step
turn_adds unit classes s next k refused h =
    of_thread unit classes s next k refused (thread_at s k) (tested (can_step classes s k) (step_of unit classes s k refused (thread_at s k)) next h)
