-- A call of a method leaves the call in progress to the callers, as that of the source's thread does.
use Rattle.std.proofs.Common.{◌≡◌, ℕ, ◌+◌, ◌<◌, Bool, true, false, not, List, [], ◌∷◌, ◌++◌, length, length-append, drop, map, reverse, Option, Some, None, is_some, refl, sym, ap, ◌∙◌, subst, arith}
use Rattle.std.specs.Prelude.{flat_map, sum_by, ◌&&◌, nat_le}
use Rattle.std.proofs.lemmas.Bool.{leb-false}
use Rattle.std.proofs.Math.Seq.{drop-length}
use Rattle.std.proofs.lemmas.List.{length-reverse, reverse-append}
use Rattle.std.proofs.lemmas.List.Concat.{flat_map-cons}
use Rattle.std.proofs.lemmas.List.Sums.{sum_by-cons}
use Rattle.syntax.specs.Tree.{SourceUnit}
use Rattle.syntax.specs.Views.{unit_tree}
use Rattle.class_rules.specs.Class.{Classes}
use Rattle.jni.specs.declared.function.JniFunction.{JniFunction}
use Rattle.jni.specs.declared.function.JniFunction.TheVariants.{CallStaticVoidMethod, CallStaticIntMethod, CallStaticObjectMethod}
use Rattle.jni.specs.JniFunction.{calls_method, is_allowed_pending, prototype}
use Rattle.semantics.specs.Arguments.{Actual, method_given, passed_value}
use Rattle.semantics.specs.CallEffects.{Enters}
use Rattle.semantics.specs.CallStep.{after_call, calling, checked, effect_of_call, target_element, trap_of_call}
use Rattle.semantics.specs.AnswerTable.{call_answer, call_effect, method_called}
use Rattle.semantics.specs.CallSight.{CallSight, sight_of_call}
use Rattle.semantics.specs.Answer as answer
use Rattle.semantics.specs.Checks.{calls_well, first_trap, go_together, trap_of}
use Rattle.semantics.specs.Effect.{Calls, Effect, effect_of}
use Rattle.semantics.specs.Method.{MethodId}
use Rattle.semantics.specs.Object.{Reference, sizes}
use Rattle.semantics.specs.Task.{Target, Task}
use Rattle.semantics.specs.Thread as source
use Rattle.semantics.specs.Thread.{BuffersInUse, Shared, lengths_copied, objects_viewed, sight_of}
use Rattle.semantics.specs.ThreadStep.{after_effect, step_within, thread_step}
use Rattle.semantics.specs.declared.trap.Trap.{Trap}
use Rattle.semantics.specs.declared.trap.Trap.TheVariants.{NullReference, ExceptionPending, WrongObject, DeletedReference, NoCapacity, CallsTooDeep}
use Rattle.semantics.specs.Variable.{Variables}
use Rattle.semantics.specs.World.{Invocation, World, loaded_objects}
use Rattle.semantics.specs.declared.event.Event.TheVariants as event
use Rattle.semantics.proofs.CheckLaws.{fits_and_goes}
use Rattle.semantics_safety.specs.Owners.{ThreadOwners, after_effect as owners_left, after_invoked, after_step, after_tasks, no_owner}
use Rattle.code_meaning.specs.Lowered.{Lowered}
use Rattle.code_meaning.specs.Slots.{visible_to}
use Rattle.machine_scenes.specs.Buffers.{Acquired, SameAcquired, acquired_by, beside}
use Rattle.machine_scenes.specs.HeapAgrees.{times}
use Rattle.machine_scenes.specs.StoreAgrees.{StoreAgrees}
use Rattle.machine_scenes.specs.declared.activation.Activation.{Activation}
use Rattle.machine_scenes.specs.declared.store.Store.{Store}
use Rattle.machine_scenes.proofs.HeldSums.{times_append}
use Rattle.machine_scenes.proofs.Keeping.{keeps_same}
use Rattle.machine_threads.specs.Callers.{CallerAgrees, CallersAgree, beside_callers, owner_at}
use Rattle.machine_threads.specs.InProgress.{CallStands}
use Rattle.machine_threads.specs.ThreadAgrees.{ThreadAgrees}
use Rattle.machine_threads.specs.declared.thread.Thread.{Thread}
use Rattle.machine_threads.proofs.Reversed.{callers_counted}
use Rattle.machine_steps.specs.Advances.{Advances}
use Rattle.machine_steps.specs.Executes.{IsCalling, IsExecuting, cells_made, in_use_with}
use Rattle.machine_steps.specs.Pushed.{Pushes}
use Rattle.machine_steps.proofs.Acquisitions.{store_taken}
use Rattle.machine_steps.proofs.OwnedKeys.{IsInvoke, called}
use Rattle.machine_steps.proofs.Threads.{calls_of_world, none_due}

-- ---- what no check found

none_of : (a b c d e f : Bool) → first_trap ((a, ExceptionPending) ∷ (b, DeletedReference) ∷ (c, NullReference) ∷ (d, WrongObject) ∷ (e, NoCapacity) ∷ (f, CallsTooDeep) ∷ []) ≡ None → (a ≡ false) × (d ≡ false) × (f ≡ false)
none_of true b c d e f h = absurd (cc)
none_of false true c d e f h = absurd (cc)
none_of false false true d e f h = absurd (cc)
none_of false false false true e f h = absurd (cc)
none_of false false false false true f h = absurd (cc)
none_of false false false false false true h = absurd (cc)
none_of false false false false false false h = (refl, refl, refl)

-- a call that no check stops
pub record Unstopped (classes : Classes) (shared : Shared) (s : source.Thread) (target : Target) (f : JniFunction) (args : List Actual) : Type 0 where
  pub pending : (is_some s.pending && not (is_allowed_pending f)) ≡ false
  pub together : go_together classes (sight_of_call shared s f args) (target_element s.variables target) f ≡ true
  pub shallow : (calls_method f && nat_le 64 (length s.callers + 1)) ≡ false

pub unstopped : (classes : Classes) (shared : Shared) (s : source.Thread) (target : Target) (f : JniFunction) (args : List Actual) → trap_of_call classes shared s target f args ≡ None → Unstopped classes shared s target f args
unfolding trap_of
unstopped classes shared s target f args free =
    let none = none_of _ _ _ _ _ _ free in
    record { pending = none.0; together = (fits_and_goes _ (go_together classes (sight_of_call shared s f args) (target_element s.variables target) f) none.1).1; shallow = none.2 }

-- its method ID is of a method
method_there : (classes : Classes) (sight : CallSight) (returns : _) (o : Option MethodId) → calls_well classes sight returns o ≡ true → (m : MethodId) × (o ≡ Some m)
method_there classes sight returns None h = absurd (cc)
method_there classes sight returns (Some m) h = (m, refl)

pub method_of : (classes : Classes) (shared : Shared) (s : source.Thread) (target : Target) (args : List Actual) (f : JniFunction) → calls_method f ≡ true → go_together classes (sight_of_call shared s f args) (target_element s.variables target) f ≡ true → (m : MethodId) × (method_given args 1 ≡ Some m)
unfolding go_together
method_of classes shared s target args CallStaticVoidMethod calls h = method_there classes (sight_of_call shared s CallStaticVoidMethod args) _ (method_given args 1) h
method_of classes shared s target args CallStaticIntMethod calls h = method_there classes (sight_of_call shared s CallStaticIntMethod args) _ (method_given args 1) h
method_of classes shared s target args CallStaticObjectMethod calls h = method_there classes (sight_of_call shared s CallStaticObjectMethod args) _ (method_given args 1) h
method_of classes shared s target args f calls h = absurd (cc)

-- and is called
does_method : (unit : SourceUnit) (classes : Classes) (in_use : BuffersInUse) (k : ℕ) (shared : Shared) (s : source.Thread) (args : List Actual) (f : JniFunction) → calls_method f ≡ true → call_effect unit classes in_use k shared s args f ≡ answer.effect_of classes in_use k shared s args (method_called (method_given args 1))
unfolding call_answer
does_method unit classes in_use k shared s args CallStaticVoidMethod calls = refl
does_method unit classes in_use k shared s args CallStaticIntMethod calls = refl
does_method unit classes in_use k shared s args CallStaticObjectMethod calls = refl
does_method unit classes in_use k shared s args f calls = absurd (cc)

enters : (classes : Classes) (in_use : BuffersInUse) (k : ℕ) (shared : Shared) (s : source.Thread) (args : List Actual) (m : MethodId) → answer.effect_of classes in_use k shared s args (answer.Calls m) ≡ Enters m.function.name (map passed_value (drop 2 args))
unfolding answer.effect_of
enters classes in_use k shared s args m = refl

-- no exception is pending
never_pending : (f : JniFunction) → calls_method f ≡ true → is_allowed_pending f ≡ false
never_pending CallStaticVoidMethod calls = refl
never_pending CallStaticIntMethod calls = refl
never_pending CallStaticObjectMethod calls = refl
never_pending f calls = absurd (cc)

none_pending : (r : Reference) (f : JniFunction) → calls_method f ≡ true → (is_some r && not (is_allowed_pending f)) ≡ false → r ≡ None
none_pending None f calls h = refl
none_pending (Some n) f calls h = absurd (let clash : true ≡ false = ap not (sym (never_pending f calls)) ∙ h in cc)

-- ---- what buffers take

-- by a count of names that goes over lists: what a call takes is among what the callers take
count_left : (count : List ℕ → ℕ) → ((xs ys : List ℕ) → count (xs ++ ys) ≡ count xs + count ys) → (others all own more none : List ℕ) → more ≡ own ++ all → none ≡ [] → count [] ≡ 0 → count ((others ++ all) ++ own) ≡ count ((others ++ more) ++ none)
count_left count both others all own more none is empty zero =
    omega (arith, both (others ++ all) own, both others all, ap count is, both own all, both (others ++ more) none, both others more, ap count empty, zero)

pushed_taken : (others : Acquired) (s next : source.Thread) (c : source.Caller) → next.callers ≡ c ∷ s.callers → c.variables ≡ s.variables → next.variables ≡ []
    → SameAcquired (beside (beside_callers others s) (acquired_by s)) (beside (beside_callers others next) (acquired_by next))
pushed_taken others s next c is same none =
    let counts : source.Caller → ℕ = λ c. lengths_copied c.variables in
    let views : source.Caller → List ℕ = λ c. objects_viewed c.variables in
    let all : sum_by counts next.callers ≡ lengths_copied s.variables + sum_by counts s.callers = ap (sum_by counts) is ∙ sum_by-cons counts c s.callers ∙ ap (λ (vs : Variables). lengths_copied vs + sum_by counts s.callers) same in
    let viewed : flat_map views next.callers ≡ objects_viewed s.variables ++ flat_map views s.callers = ap (flat_map views) is ∙ flat_map-cons views c s.callers ∙ ap (λ (vs : Variables). objects_viewed vs ++ flat_map views s.callers) same in
    let copied_none : lengths_copied next.variables ≡ 0 = ap lengths_copied none in
    let viewed_none : objects_viewed next.variables ≡ [] = ap objects_viewed none in
    record {
      copied = omega (arith, all, copied_none);
      many = count_left length (λ xs ys. length-append xs ys) others.viewed (flat_map views s.callers) (objects_viewed s.variables) (flat_map views next.callers) (objects_viewed next.variables) viewed viewed_none refl;
      viewed = λ n. count_left (times n) (times_append n) others.viewed (flat_map views s.callers) (objects_viewed s.variables) (flat_map views next.callers) (objects_viewed next.variables) viewed viewed_none refl;
    }

-- ---- the thread

-- it is pushed from whatever call was in progress
pub as_pushed : (p : Lowered) (w : World) (store : Store) (activation : Activation) (t after : Thread) (call : Option Activation) (pending : Option ℕ) → pending ≡ t.pending → Pushes p w store activation (record t { call = call; pending = pending }) after → Pushes p w store activation t after
as_pushed p w store activation t after call pending same d = record {
  entering = d.entering;
  callers = d.callers;
  spare = d.spare;
  last = d.last;
  pushed = d.pushed ∙ ap (λ (x : Option ℕ). let u : Thread = record t { entering = Some d.entering; call = None; callers = d.callers; spare_arguments = d.spare; pending = x } in u) same;
  called = d.called;
}

-- ---- the source's thread

-- how many callers there are in memory
pub few_callers : (p : Lowered) (w : World) (store : Store) (k : ℕ) (own : ThreadOwners) (shared : Shared) (t : Thread) (s : source.Thread) → ThreadAgrees p w.classes store.heap store.elements (length (loaded_objects w)) k own shared t s → (effect : Effect) → IsCalling w.classes shared s effect → length t.callers.items < 63
few_callers p w store k own shared t s h _ c =
    let shallow = (unstopped w.classes shared s c.target c.f c.args c.free).shallow in
    let test : nat_le 64 (length s.callers + 1) ≡ false = ap (λ (b : Bool). b && nat_le 64 (length s.callers + 1)) (sym c.method) ∙ shallow in
    let less = leb-false 64 (length s.callers + 1) test in
    let count : length t.callers.items ≡ length s.callers = sym (length-reverse t.callers.items) ∙ callers_counted p w.classes store.heap store.elements k shared (reverse t.callers.items) own.callers s.callers h.callers in
    omega (arith, less, count)

module _ (p : Lowered) (w : World) (store : Store) (others : Acquired) (k : ℕ) (own : ThreadOwners) (shared : Shared) (t : Thread) (s : source.Thread) (h : ThreadAgrees p w.classes store.heap store.elements (length (loaded_objects w)) k own shared t s) (shares : StoreAgrees p w store shared (beside (beside_callers others s) (acquired_by s)))
    (call : Activation) (task : Task) (rest : List Task) (e : IsExecuting p w store call t.pending (beside_callers others s) k (owner_at k (length s.callers)) own.current shared s task rest) (c : IsCalling w.classes shared s (effect_of (sight_of shared s) task)) where
  abbrev in_use : BuffersInUse
  in_use = in_use_with (beside_callers others s) s

  method : (m : MethodId) × (method_given c.args 1 ≡ Some m)
  method = method_of w.classes shared s c.target c.args c.f c.method (unstopped w.classes shared s c.target c.f c.args c.free).together

  -- the call that it makes
  abbrev invocation : Invocation
  invocation = record { line = c.line; function = method.0.function.name; arguments = map passed_value (drop 2 c.args) }

  abbrev caller : source.Caller
  caller = record { target = c.target; result = (prototype c.f).result; tasks = rest; variables = s.variables; frames = s.frames }

  abbrev next : source.Thread
  next = calling (unit_tree p.unit) w.classes in_use k shared s c.line c.target c.f c.args rest invocation

  effect : effect_of_call (unit_tree p.unit) w.classes in_use k shared s c.line c.target c.f c.args rest ≡ Enters method.0.function.name (map passed_value (drop 2 c.args))
  effect =
      ap (λ (o : Option Trap). checked o (call_effect (unit_tree p.unit) w.classes in_use k shared s c.args c.f)) c.free
      ∙ does_method (unit_tree p.unit) w.classes in_use k shared s c.args c.f c.method
      ∙ ap (λ (o : Option MethodId). answer.effect_of w.classes in_use k shared s c.args (method_called o)) method.1
      ∙ enters w.classes in_use k shared s c.args method.0

  steps : step_within (unit_tree p.unit) w.classes in_use k shared s false s.tasks ≡ source.Advances shared next event.Quiet
  steps =
      ap (step_within (unit_tree p.unit) w.classes in_use k shared s false) e.tasks
      ∙ ap (after_effect (unit_tree p.unit) w.classes in_use k shared s rest) c.is
      ∙ ap (after_call (unit_tree p.unit) w.classes in_use k shared s c.line c.target c.f c.args rest) effect

  abbrev now : ThreadOwners
  now = record { current = no_owner; callers = own.current ∷ own.callers }

  owners_now : after_tasks (unit_tree p.unit) w.classes k shared s s.tasks own event.Quiet [] ≡ now
  owners_now =
      ap (λ (ts : Option (List Task)). after_tasks (unit_tree p.unit) w.classes k shared s ts own event.Quiet []) e.tasks
      ∙ ap (λ (x : Effect). after_step (unit_tree p.unit) w.classes k shared s own event.Quiet x []) c.is
      ∙ ap (λ (m : Bool). after_invoked m event.Quiet own (owners_left (unit_tree p.unit) w.classes k shared s (Calls c.line c.target c.f c.args) own.current event.Quiet [])) c.method

  invoke : IsInvoke (sight_of shared s) task c.line c.target c.f c.args
  invoke = called (sight_of shared s) task c.line c.target c.f c.args c.is

  -- the call in progress stands for the new caller
  caller_agrees : CallerAgrees p w.classes store.heap store.elements (owner_at k (length s.callers)) call own.current shared caller
  caller_agrees = record {
    line = c.line;
    function = c.f;
    operands = invoke.operands;
    ready = invoke.ready;
    result = refl;
    stands = subst (λ (x : Task). CallStands p w.classes store.heap store.elements (owner_at k (length s.callers)) call (visible_to own.current shared s) s.frames (x ∷ rest)) invoke.is e.stands;
    views = e.views;
  }

  -- the step makes nothing
  pub pushed_cells : cells_made shared (thread_step (unit_tree p.unit) w.classes in_use k shared s false) ≡ 0
  pushed_cells = ap (cells_made shared) steps ∙ ap sizes (drop-length shared.heap)

  module _ (after : Thread) (d : Pushes p w store call t after) where
    abbrev pushed : Thread
    pushed = record t { entering = Some d.entering; call = None; callers = d.callers; spare_arguments = d.spare }

    agrees_now : ThreadAgrees p w.classes store.heap store.elements (length (loaded_objects w)) k now shared pushed next
    agrees_now = record {
      calls = (
        d.called t.pending (beside_callers others s) k (owner_at k (length s.callers)) own.current shared s task rest e c method.0 method.1,
        calls_of_world p w.classes store.heap (length (loaded_objects w)) t.entering t.calls.items s.calls (none_due t.entering s.tasks s.callers (task ∷ rest) h.due e.tasks) h.calls,
      );
      due = tt;
      work = refl;
      callers = subst (λ (l : List Activation). CallersAgree p w.classes store.heap store.elements k shared l (own.current ∷ own.callers) (caller ∷ s.callers)) (sym (ap reverse d.last ∙ reverse-append t.callers.items (call ∷ []))) (caller_agrees, h.callers);
      few =
          let before = few_callers p w store k own shared t s h (effect_of (sight_of shared s) task) c in
          let more = ap length d.last ∙ length-append t.callers.items (call ∷ []) in
          let less : length d.callers.items < 64 = omega (arith, before, more) in
          less;
      pending = h.pending;
      ending = h.ending;
      busy = λ a b x. cc;
      caught = λ b. none_pending s.pending c.f c.method (unstopped w.classes shared s c.target c.f c.args c.free).pending;
      idle = λ b. refl;
      views = λ n. omega arith;
    }

    advanced : Advances p w store store others k own shared s pushed false event.Quiet
    advanced = record {
      next_shared = shared;
      next = next;
      steps = steps;
      store_agrees = store_taken p w store shared _ _ (pushed_taken others s next caller refl refl refl) shares;
      keeps = keeps_same store.heap shared;
      keeps_copies = λ key x at other. at;
      agrees = subst (λ (o : ThreadOwners). ThreadAgrees p w.classes store.heap store.elements (length (loaded_objects w)) k o shared pushed next) (sym owners_now) agrees_now;
      short = λ b. absurd (cc);
    }

    -- the source's thread leaves its call to the callers too
    pub pushed_on : Advances p w store store others k own shared s after false event.Quiet
    pushed_on = subst (λ (u : Thread). Advances p w store store others k own shared s u false event.Quiet) (sym d.pushed) advanced
