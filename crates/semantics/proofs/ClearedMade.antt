-- Where a thread's next step makes objects, it makes the same after a clearing of weak references, and the thread waits and can step as before.
use Rattle.std.specs.Prelude.{◌≡◌, ◌≢◌, ℕ, zero, suc, nat_le, ℤ, Bool, true, false, not, ◌&&◌, is_none, cond, List, [], ◌∷◌, ◌++◌, length, drop, Option, Some, None, refl}
use Rattle.std.proofs.Common.{ap, ◌∙◌, sym, inl, inr}
use Rattle.std.proofs.lemmas.Bool.{false≢true}
use Rattle.std.proofs.lemmas.List.{append-nil}
use Rattle.base.specs.Bytes.{Identifier, lookup}
use Rattle.base.specs.Limits.{most_references}
use Rattle.class_rules.specs.Class.{Classes}
use Rattle.jni.specs.declared.function.JniFunction.TheVariants as functions
use Rattle.jni.specs.declared.function.JniFunction.{JniFunction}
use Rattle.jni.specs.JniFunction.{parameters_for}
use Rattle.syntax.specs.Tree.{SourceUnit}
use Rattle.semantics.specs.Activation.{enter, entry_advance}
use Rattle.semantics.specs.Answer.{Answer, DeletesGlobal, DeletesWeak, Ensures, MakesGlobal, Pushes}
use Rattle.semantics.specs.Answer as answer
use Rattle.semantics.specs.AnswerTable.{call_answer, call_effect}
use Rattle.semantics.specs.CallSight.{CallSight, sight_of_call}
use Rattle.semantics.specs.Arguments.{Actual, actuals}
use Rattle.semantics.specs.CallEffects.{CallEffect, CallResult, Throws, Halts, Leaves, frames_effect, with_capacity, Enters}
use Rattle.semantics.specs.CallStep.{put, put_assigned, checked, target_element, after_call, trap_of_call, waits_with}
use Rattle.semantics.specs.Effect.{Effect, Becomes, Sets, SetsNull, SetsElement, MakesArray, Prints, Calls, Returns, TrapsAt, NoEffect, effect_of, goes_on, is_ready, reduce_first, returned_name}
use Rattle.semantics.specs.Heap.{Heap}
use Rattle.semantics.specs.Object.{Object}
use Rattle.semantics.specs.Return.{return_by}
use Rattle.semantics.specs.Run.{made, made_between}
use Rattle.semantics.specs.Sight.{Sight}
use Rattle.semantics.specs.State.{State, thread_at, in_use, advanced}
use Rattle.semantics.specs.Step.{turn_step, step_of, can_step, is_blocked, is_live, is_waiting}
use Rattle.semantics.specs.Task.{Task, Invoke, ReturnValue, Target, Declared, Assigned, Tested, Dropped, Operand}
use Rattle.semantics.specs.Term.{Term, Read}
use Rattle.semantics.specs.Thread.{Thread, Caller, Shared, BuffersInUse, Frame, Advance, Advances, NoAdvance, capacities, sight_of}
use Rattle.semantics.specs.declared.event.Event.TheVariants.{Quiet, PrintedNumber, Trapped}
use Rattle.semantics.specs.ThreadStep.{next_effect, after_effect, set_element, step_within}
use Rattle.semantics.specs.declared.trap.Trap.{Trap}
use Rattle.semantics.specs.declared.value.Value.{Value}
use Rattle.semantics.specs.Value.{Outcome, Gives, Traps, Stuck}
use Rattle.semantics.specs.Variable.{Variable, Scalar, LocalRef, FieldHandle, MethodHandle, Elements, LocalArray, NoBuffer, Copy, View, StaticReference, Statics}
use Rattle.semantics.specs.WeakReferences.{cleared_statics, with_cleared}
use Rattle.semantics.specs.World.{World, fresh_object}
use Rattle.semantics.specs.WeakArguments.{takes_weak, WeakAreTaken}
use Rattle.semantics.proofs.AnswerKinds.{LeavesHeap, by_statics}
use Rattle.semantics.proofs.CheckLaws.{trap_without}
use Rattle.semantics.proofs.ClearedEffects.{HasSameArguments, effect_stays}
use Rattle.semantics.proofs.ClearedSteps.{all_looked, makes_same}

-- ---- the heap that is left

-- the heap after a step, where it is possible
abbrev heap_after : Advance → Option Heap
heap_after (Advances s t event) = Some s.heap
heap_after NoAdvance = None

-- the heap after a call, with what it made
abbrev heap_left : Classes → Heap → CallEffect → Heap
heap_left classes heap (Throws c) = heap ++ fresh_object classes c ∷ []
heap_left classes heap (Halts trap) = heap
heap_left classes heap (Enters function arguments) = heap
heap_left classes heap (Leaves made s t given) = s.heap ++ made

-- where a result goes is no part of the heap
assigned_heap : (x : Identifier) (given : CallResult) (s : Shared) (t : Thread) (v : Option Variable) → heap_after (put_assigned x given s t v) ≡ Some s.heap
assigned_heap x given s t None = refl
assigned_heap x given s t (Some v) = refl

put_heap : (target : Target) (given : CallResult) (s : Shared) (t : Thread) → heap_after (put target given s t) ≡ Some s.heap
put_heap (Declared kind x) given s t = refl
put_heap (Assigned x) given s t = assigned_heap x given s t (lookup x t.variables)
put_heap (Tested p q) given s t = refl
put_heap Dropped given s t = refl

-- ---- calls with other statics

-- A shared state, and the same with other statics.
module _ (classes : Classes) (s : Shared) (statics : Statics) where
  abbrev other : Shared
  other = record s { statics = statics }

  abbrev left : CallEffect → Heap
  left = heap_left classes s.heap

  either_left : (b : Bool) (e e' f f' : CallEffect) → left e' ≡ left e → left f' ≡ left f → left (cond b e' f') ≡ left (cond b e f)
  either_left true e e' f f' h g = h
  either_left false e e' f f' h g = g

  module _ (unit : SourceUnit) (in_use : BuffersInUse) (k : ℕ) (t : Thread) where
    frames_left : (frames : List Frame) → left (frames_effect classes other t frames) ≡ left (frames_effect classes s t frames)
    frames_left frames = either_left (nat_le (capacities frames) most_references) _ _ _ _ refl refl

    -- an answer has the same effect on the heap with other statics
    answer_left : (args : List Actual) (a : Answer) → left (answer.effect_of classes in_use k other t args a) ≡ left (answer.effect_of classes in_use k s t args a)
    unfolding answer.effect_of
    answer_left args (Ensures n) = frames_left (with_capacity n t.frames)
    answer_left args (Pushes n) = frames_left (record { capacity = n; references = [] } ∷ t.frames)
    answer_left args a = refl

    -- and none, where it leaves the heap as it was
    none_left : (args : List Actual) (a : Answer) → LeavesHeap a → left (answer.effect_of classes in_use k s t args a) ≡ s.heap
    unfolding answer.effect_of
    none_left args (answer.Gives given) h = append-nil s.heap
    none_left args (MakesGlobal r) h = append-nil s.heap
    none_left args (DeletesGlobal i n) h = append-nil s.heap
    none_left args (DeletesWeak i) h = append-nil s.heap
    none_left args (answer.Halts trap) h = refl
    none_left args a h = absurd h

    -- a function makes the same with other statics, and leaves the same heap
    effect_left : (args : List Actual) (f : JniFunction)
        → left (call_effect unit classes in_use k other t args f) ≡ left (call_effect unit classes in_use k s t args f)
    effect_left args f =
        let now : Answer = call_answer unit classes k (sight_of_call s t f args) f in
        let then' : Answer = call_answer unit classes k (sight_of_call other t f args) f in
        let same : left (answer.effect_of classes in_use k s t args then') ≡ left (answer.effect_of classes in_use k s t args now) =
        elim (by_statics unit classes k s statics t args f) [
          | inl is ↦ ap (λ (a : Answer). left (answer.effect_of classes in_use k s t args a)) is
          | inr none ↦ none_left args then' none.0 ∙ sym (none_left args now none.1)
        ] in
        answer_left args then' ∙ same

    -- the checks find the same
    same_trap : (target : Target) (f : JniFunction) (args : List Actual) → trap_of_call classes other t target f args ≡ trap_of_call classes s t target f args
    same_trap target f args =
        let then' : CallSight = sight_of_call other t f args in
        trap_without classes (sight_of_call s t f args) then'.monitor then'.held (target_element t.variables target) f

    checked_left : (o o' : Option Trap) (e e' : CallEffect) → o' ≡ o → left e' ≡ left e → left (checked o' e') ≡ left (checked o e)
    checked_left None None e e' found h = h
    checked_left None (Some trap) e e' found h = absurd (cc)
    checked_left (Some trap) None e e' found h = absurd (cc)
    checked_left (Some trap) (Some trap') e e' found h = refl

    -- a call's own step leaves what its effect leaves
    after_left : (given : Shared) (line : ℕ) (target : Target) (f : JniFunction) (args : List Actual) (rest : List Task) (e : CallEffect)
        → heap_after (after_call unit classes in_use k given t line target f args rest e) ≡ Some (heap_left classes given.heap e)
    after_left given line target f args rest (Throws c) = put_heap target _ _ _
    after_left given line target f args rest (Halts trap) = refl
    after_left given line target f args rest (Enters function arguments) = refl
    after_left given line target f args rest (Leaves made s' t' result) = put_heap target result _ _

    -- ---- steps with other statics

    element_heap : (given : Thread) (x : Identifier) (i : ℕ) (z : ℤ) (v : Option Variable)
        → heap_after (set_element other given x i z v) ≡ heap_after (set_element s given x i z v)
    element_heap given x i z None = refl
    element_heap given x i z (Some (Scalar v)) = refl
    element_heap given x i z (Some (LocalRef level r)) = refl
    element_heap given x i z (Some (FieldHandle f)) = refl
    element_heap given x i z (Some (MethodHandle m)) = refl
    element_heap given x i z (Some (Elements T NoBuffer)) = refl
    element_heap given x i z (Some (Elements T (Copy n zs))) = refl
    element_heap given x i z (Some (Elements T (View n))) = refl
    element_heap given x i z (Some (LocalArray T zs)) = refl

    return_heap : (given : CallResult) (callers : List Caller) → heap_after (return_by k other t given callers) ≡ heap_after (return_by k s t given callers)
    return_heap given [] = refl
    return_heap given (caller ∷ callers) = put_heap caller.target _ other _ ∙ sym (put_heap caller.target _ s _)

    -- the same effect leaves the same heap
    effect_heap : (rest : List Task) (e : Effect)
        → heap_after (after_effect unit classes in_use k other t rest e) ≡ heap_after (after_effect unit classes in_use k s t rest e)
    effect_heap rest (Becomes tasks) = refl
    effect_heap rest (Sets x v) = refl
    effect_heap rest (SetsNull target) = put_heap target _ other _ ∙ sym (put_heap target _ s _)
    effect_heap rest (SetsElement x i z) = element_heap _ x i z (lookup x t.variables)
    effect_heap rest (MakesArray T x n) = refl
    effect_heap rest (Prints z) = refl
    effect_heap rest (Calls line target f args) =
        after_left other line target f args rest _
        ∙ ap Some (checked_left (trap_of_call classes s t target f args) _ _ _ (same_trap target f args) (effect_left args f))
        ∙ sym (after_left s line target f args rest _)
    effect_heap rest (Returns given) = return_heap given t.callers
    effect_heap rest (TrapsAt trap line) = refl
    effect_heap rest NoEffect = refl

    entry_heap : (o : Option Thread) → heap_after (entry_advance other o) ≡ heap_after (entry_advance s o)
    entry_heap None = refl
    entry_heap (Some t') = refl

    -- so does a step whose effect is the same
    step_heap : (tasks : Option (List Task)) → next_effect other t tasks ≡ next_effect s t tasks
        → heap_after (step_within unit classes in_use k other t false tasks) ≡ heap_after (step_within unit classes in_use k s t false tasks)
    step_heap None h = entry_heap (enter unit classes t t.calls)
    step_heap (Some []) h = refl
    step_heap (Some (task ∷ rest)) h =
        ap (λ e. heap_after (after_effect unit classes in_use k other t rest e)) h ∙ effect_heap rest (next_effect s t (Some (task ∷ rest)))

-- ---- what is made

-- what the heap after a step has beyond the one before
abbrev beyond : Heap → Option Heap → List Object
beyond heap None = []
beyond heap (Some after) = drop (length heap) after

between_heap : (s : State) (k : ℕ) (a : Advance) → made_between s (advanced s k a) ≡ beyond s.shared.heap (heap_after a)
between_heap s k NoAdvance = refl
between_heap s k (Advances s' t Quiet) = refl
between_heap s k (Advances s' t (PrintedNumber z)) = refl
between_heap s k (Advances s' t (Trapped trap line)) = refl

made_either : (s s' : State) (b : Bool) (o o' : Option State) → made_between s' o' ≡ made_between s o
    → made_between s' (cond b o' None) ≡ made_between s (cond b o None)
made_either s s' true o o' h = h
made_either s s' false o o' h = refl

pub thread_stays : (s : State) (names : List ℕ) (j : ℕ) → thread_at (with_cleared names s) j ≡ thread_at s j
thread_stays s names zero = refl
thread_stays s names (suc i) = refl

waits_equal : (classes : Classes) (k : ℕ) (names : List ℕ) (s : State) (t : Thread) (e : Effect)
    → waits_with classes k (with_cleared names s).shared t e ≡ waits_with classes k s.shared t e
waits_equal classes k names s t (Calls line target functions.MonitorEnter args) = refl
waits_equal classes k names s t e = refl

module _ (unit : SourceUnit) (w : World) (s : State) (k : ℕ) (t : Thread) (names : List ℕ) (here : thread_at s k ≡ Some t)
    (taken : (task : Task) (rest : List Task) → t.tasks ≡ Some (task ∷ rest) → WeakAreTaken t.variables s.shared.statics task) (some : made unit w s k ≢ []) where
  -- the thread's next step has the same effect
  pub effect_of_tasks : (tasks : Option (List Task)) → t.tasks ≡ tasks → next_effect (with_cleared names s).shared t tasks ≡ next_effect s.shared t tasks
  effect_of_tasks None h = refl
  effect_of_tasks (Some []) h = refl
  effect_of_tasks (Some (task ∷ rest)) h = makes_same unit w s names k t rest here task h (taken task rest h) some

  -- the thread waits exactly where it did
  pub waits_stays : is_blocked w.classes (with_cleared names s) k ≡ is_blocked w.classes s k
  waits_stays =
      ap (is_waiting w.classes k (with_cleared names s).shared) (thread_stays s names k ∙ here)
      ∙ ap (waits_with w.classes k (with_cleared names s).shared t) (effect_of_tasks t.tasks refl)
      ∙ waits_equal w.classes k names s t (next_effect s.shared t t.tasks)
      ∙ ap (is_waiting w.classes k s.shared) (sym here)

  -- and it can step exactly where it could
  pub can_stays : can_step w.classes (with_cleared names s) k ≡ can_step w.classes s k
  can_stays =
      ap (λ (o : Option Thread). is_none s.stop && is_live o && not (is_blocked w.classes (with_cleared names s) k)) (thread_stays s names k)
      ∙ ap (λ b. is_none s.stop && is_live (thread_at s k) && not b) waits_stays

  step_makes : made_between (with_cleared names s) (step_of unit w.classes (with_cleared names s) k false (thread_at (with_cleared names s) k))
      ≡ made_between s (step_of unit w.classes s k false (thread_at s k))
  step_makes =
      ap (λ o. made_between (with_cleared names s) (step_of unit w.classes (with_cleared names s) k false o)) (thread_stays s names k ∙ here)
      ∙ between_heap (with_cleared names s) k _
      ∙ ap (beyond s.shared.heap)
      (step_heap w.classes s.shared (cleared_statics names s.shared.statics) unit (in_use s) k t t.tasks (effect_of_tasks t.tasks refl))
      ∙ sym (between_heap s k _)
      ∙ ap (λ o. made_between s (step_of unit w.classes s k false o)) (sym here)

  -- and its next step makes the same objects
  pub made_stays : made unit w (with_cleared names s) k ≡ made unit w s k
  unfolding turn_step
  made_stays =
      let then' : Option State = step_of unit w.classes (with_cleared names s) k false (thread_at (with_cleared names s) k) in
      ap (λ b. made_between (with_cleared names s) (cond b then' None)) can_stays
      ∙ made_either s (with_cleared names s) (can_step w.classes s k) _ _ step_makes

-- ---- any step

-- a call of one of the four functions that take weak references never waits
module _ (classes : Classes) (k : ℕ) (s : Shared) (t : Thread) where
  moved_on : (line : ℕ) (target : Target) (f : JniFunction) (o : Outcome (List Operand))
      → waits_with classes k s t (goes_on line (Invoke line target f) o) ≡ false
  moved_on line target f (Gives operands) = refl
  moved_on line target f (Traps trap) = refl
  moved_on line target f Stuck = refl

  called : (line : ℕ) (target : Target) (f : JniFunction) (args : List Actual) → takes_weak f ≡ true → waits_with classes k s t (Calls line target f args) ≡ false
  called line target functions.MonitorEnter args h = absurd (false≢true h)
  called line target f args h = refl

  called_or_moved : (b : Bool) (e e' : Effect) → waits_with classes k s t e ≡ false → waits_with classes k s t e' ≡ false → waits_with classes k s t (cond b e e') ≡ false
  called_or_moved true e e' h g = h
  called_or_moved false e e' h g = g

  invoke_waits : (sight : Sight) (line : ℕ) (target : Target) (f : JniFunction) (operands : List Operand) → takes_weak f ≡ true
      → waits_with classes k s t (effect_of sight (Invoke line target f operands)) ≡ false
  invoke_waits sight line target f operands h =
      called_or_moved (is_ready sight.number operands) (Calls line target f (actuals sight f operands)) (goes_on line (Invoke line target f) (reduce_first sight operands))
      (called line target f (actuals sight f operands) h) (moved_on line target f (reduce_first sight operands))

  -- nor does the return of a bare name
  name_waits : (line : ℕ) (o : Outcome Value) (r : StaticReference) → waits_with classes k s t (returned_name line o r) ≡ false
  name_waits line (Gives v) r = refl
  name_waits line (Traps trap) r = refl
  name_waits line Stuck r = refl

module _ (classes : Classes) (s : State) (k : ℕ) (t : Thread) (names : List ℕ) where
  abbrev waits_before : Effect → Bool
  waits_before = waits_with classes k s.shared t

  abbrev waits_after : Effect → Bool
  waits_after = waits_with classes k (with_cleared names s).shared t

  abbrev effect_before : Task → Effect
  effect_before = effect_of (sight_of s.shared t)

  abbrev effect_cleared : Task → Effect
  effect_cleared = effect_of (sight_of (with_cleared names s).shared t)

  -- a task with the same arguments has the same effect, and so waits exactly where it did
  by_arguments : (task : Task) → HasSameArguments (sight_of (with_cleared names s).shared t) (sight_of s.shared t) task
      → waits_after (effect_cleared task) ≡ waits_before (effect_before task)
  by_arguments task h =
      ap waits_after (effect_stays names t.variables s.shared.statics s.shared.heap task h) ∙ waits_equal classes k names s t (effect_before task)

  by_result : (line : ℕ) (e : Term) → waits_after (effect_cleared (ReturnValue line e)) ≡ waits_before (effect_before (ReturnValue line e))
  by_result line (Read x) =
      name_waits classes k (with_cleared names s).shared t line ((sight_of (with_cleared names s).shared t).number x) ((sight_of (with_cleared names s).shared t).reference x)
      ∙ sym (name_waits classes k s.shared t line ((sight_of s.shared t).number x) ((sight_of s.shared t).reference x))
  by_result line e = by_arguments (ReturnValue line e) tt

  by_task : (task : Task) → WeakAreTaken t.variables s.shared.statics task → waits_after (effect_cleared task) ≡ waits_before (effect_before task)
  by_task (Invoke line target f operands) (inl takes) =
      invoke_waits classes k (with_cleared names s).shared t (sight_of (with_cleared names s).shared t) line target f operands takes
      ∙ sym (invoke_waits classes k s.shared t (sight_of s.shared t) line target f operands takes)
  by_task (Invoke line target f operands) (inr free) =
      by_arguments (Invoke line target f operands) (all_looked names t.variables s.shared.statics s.shared.heap (parameters_for f (length operands)) operands free)
  by_task (ReturnValue line e) h = by_result line e
  by_task task h = by_arguments task tt

  by_tasks : (tasks : Option (List Task)) → ((task : Task) (rest : List Task) → tasks ≡ Some (task ∷ rest) → WeakAreTaken t.variables s.shared.statics task)
      → waits_after (next_effect (with_cleared names s).shared t tasks) ≡ waits_before (next_effect s.shared t tasks)
  by_tasks None taken = refl
  by_tasks (Some []) taken = refl
  by_tasks (Some (task ∷ rest)) taken = by_task task (taken task rest refl)

-- whatever its next step is, a thread whose task takes a weak reference in one of those functions alone waits exactly where it did
pub blocked_stays : (classes : Classes) (s : State) (k : ℕ) (t : Thread) (names : List ℕ) → thread_at s k ≡ Some t
    → ((task : Task) (rest : List Task) → t.tasks ≡ Some (task ∷ rest) → WeakAreTaken t.variables s.shared.statics task)
    → is_blocked classes (with_cleared names s) k ≡ is_blocked classes s k
blocked_stays classes s k t names here taken =
    ap (is_waiting classes k (with_cleared names s).shared) (thread_stays s names k ∙ here)
    ∙ by_tasks classes s k t names t.tasks taken
    ∙ ap (is_waiting classes k s.shared) (sym here)

-- and a thread that isn't there doesn't wait
pub none_waits : (classes : Classes) (s : State) (k : ℕ) (names : List ℕ) → thread_at s k ≡ None
    → is_blocked classes (with_cleared names s) k ≡ is_blocked classes s k
none_waits classes s k names here =
    ap (is_waiting classes k (with_cleared names s).shared) (thread_stays s names k ∙ here) ∙ ap (is_waiting classes k s.shared) (sym here)
