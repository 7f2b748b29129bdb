-- A thread's step is that of the source's thread.
use Rattle.std.proofs.Common.{arith, ◌≡◌, ◌<◌, ℕ, ℤ, Bool, true, false, List, [], ◌∷◌, length, reverse, cond, eqb, Option, Some, None, refl, sym, ap, ◌∙◌, subst}
use Rattle.std.specs.Prelude.{find}
use Rattle.std.specs.Option.{option_map, option_map_or, option_and_then}
use Rattle.syntax.specs.Tree.{SourceUnit}
use Rattle.syntax.specs.Views.{unit_tree}
use Rattle.class_rules.specs.Class.{Classes}
use Rattle.class_rules.specs.ClassIds.{class_id}
use Rattle.heap.specs.Heap.{Block, Space, class_at}
use Rattle.jni.specs.declared.function.JniFunction.{JniFunction}
use Rattle.jni.specs.declared.function.JniFunction.TheVariants.{CallStaticVoidMethod, CallStaticIntMethod, CallStaticObjectMethod}
use Rattle.jni.specs.JniFunction.{calls_method}
use Rattle.semantics.specs.Method.{MethodId}
use Rattle.semantics.specs.Object.{Object, Reference}
use Rattle.semantics.specs.World.{Invocation, World, loaded_objects}
use Rattle.semantics.specs.Heap.{Heap, class_of}
use Rattle.semantics.specs.Arguments.{Actual, method_given}
use Rattle.semantics.specs.CallEffects.{CallEffect, CallResult, Enters, Halts, Leaves, Throws}
use Rattle.semantics.specs.Return.{given_back, return_by, return_step, resumed_in, monitors_after}
use Rattle.semantics.specs.Return as activation
use Rattle.semantics.specs.CallStep.{after_call as after_effect_of_call, after_refusal, checked, effect_of_call, makes_objects, received, trap_of_call}
use Rattle.semantics.specs.Answer as answer
use Rattle.semantics.specs.AnswerTable.{call_answer, call_effect, method_called}
use Rattle.semantics.specs.Effect.{Effect, Calls, Returns, effect_of}
use Rattle.semantics.specs.Task.{Target, Task}
use Rattle.semantics.specs.Thread as source
use Rattle.semantics.specs.Thread.{BuffersInUse, Shared, sight_of}
use Rattle.semantics.specs.declared.trap.Trap.{Trap}
use Rattle.semantics.specs.Variable.{Variables}
use Rattle.semantics.specs.ThreadStep.{thread_step, step_within, after_effect}
use Rattle.code_meaning.specs.Slots.{Visible, visible_to}
use Rattle.code_meaning.specs.Lowered.{Lowered}
use Rattle.monitors.specs.Monitors.{kept_from, monitor_of, without_owner}
use Rattle.machine_scenes.proofs.MonitorLaws.{drops}
use Rattle.machine_scenes.proofs.MonitorPlaces.{there_dropped}
use Rattle.tables.specs.Elements.{OwnedNumbers}
use Rattle.tables.specs.Keys.{value_at}
use Rattle.machine_scenes.specs.Buffers.{Acquired, AreViewed, acquired_by, beside}
use Rattle.semantics_safety.specs.StepSafe.{MayReturn}
use Rattle.semantics_safety.proofs.KeptCalls.{Held, KeepsCalls, put_keeps, received_calls}
use Rattle.semantics.specs.declared.event.Ending.{Ending}
use Rattle.semantics.specs.declared.event.Ending.TheVariants.{Unfinished, Ended, Uncaught}
use Rattle.semantics.specs.declared.event.Event.{Event}
use Rattle.semantics.specs.declared.event.Event.TheVariants as events
use Rattle.machine_threads.specs.declared.thread.Thread.{Thread}
use Rattle.machine_threads.specs.declared.thread.Entering.{Entering}
use Rattle.machine_threads.specs.declared.thread.PendingCall.{PendingCall}
use Rattle.machine_scenes.specs.declared.activation.Activation.{Activation}
use Rattle.semantics_safety.specs.Owners.{Owners, ThreadOwners, after_effect as owners_left, after_invoked, after_return, after_step, after_tasks}
use Rattle.machine_scenes.specs.declared.store.Store.{Store}
use Rattle.machine_scenes.specs.StoreAgrees.{StoreAgrees, Keeps}
use Rattle.machine_threads.specs.ThreadAgrees.{CallsAgree, CallsToComeAgree, IsDue, ThreadAgrees, buffers_of}
use Rattle.machine_steps.specs.Advances.{Advances, GivesUp, LeavesMonitors, calls_after, ending_after, ends_with}
use Rattle.machine_steps.specs.Executes.{GoesOn, after_any, cells_made, in_use_with}
use Rattle.machine_threads.specs.Callers.{CallersAgree, acquired_by_callers, beside_callers, owner_at}
use Rattle.machine_threads.specs.InProgress.{CallStands, WorkAgrees}
use Rattle.machine_threads.proofs.Reversed.{none_there}
use Rattle.machine_calls.specs.CarriedOut.{IsShortOf}
use Rattle.machine_calls.proofs.MonitorCarries.{agrees_monitors, keeps_monitors}
use Rattle.machine_scenes.specs.HeapAgrees.{ReferenceAgrees, BlocksAgree}
use Rattle.machine_steps.proofs.Acquisitions.{nothing_lent, store_same}
use Rattle.machine_steps.proofs.KeptCallers.{callers_stay, others_below}

-- ---- work

-- the tasks that a call in progress stands for
pub record Working (p : Lowered) (classes : Classes) (space : Space) (copies : List (Option OwnedNumbers)) (k : ℕ) (call : Activation) (visible : Visible) (frames : List source.Frame) (tasks : Option (List Task)) : Type 0 where
  pub task : Task
  pub rest : List Task
  pub is : tasks ≡ Some (task ∷ rest)
  pub stands : CallStands p classes space copies k call visible frames (task ∷ rest)

pub working : (p : Lowered) (classes : Classes) (space : Space) (copies : List (Option OwnedNumbers)) (k : ℕ) (visible : Visible) (frames : List source.Frame) (o : Option Activation) (call : Activation) (tasks : Option (List Task)) → WorkAgrees p classes space copies k visible o frames tasks → o ≡ Some call → Working p classes space copies k call visible frames tasks
working p classes space copies k visible frames None call tasks w e = absurd (cc)
working p classes space copies k visible frames (Some x) call None w e = absurd w
working p classes space copies k visible frames (Some x) call (Some []) w e = absurd (cc (w.stands.returns))
working p classes space copies k visible frames (Some x) call (Some (task ∷ rest)) w e = record { task = task; rest = rest; is = refl; stands = let same : x ≡ call = cc in subst (λ a. CallStands p classes space copies k a visible frames (task ∷ rest)) same w }

-- no call is in progress
pub resting : (p : Lowered) (classes : Classes) (space : Space) (copies : List (Option OwnedNumbers)) (k : ℕ) (visible : Visible) (frames : List source.Frame) (o : Option Activation) (tasks : Option (List Task)) → WorkAgrees p classes space copies k visible o frames tasks → o ≡ None → tasks ≡ None
resting p classes space copies k visible frames None None w e = refl
resting p classes space copies k visible frames None (Some tasks) w e = absurd w
resting p classes space copies k visible frames (Some x) tasks w e = absurd (cc)

-- ---- an instruction

-- An effect with this event leaves the call in progress where it is: it is no return, and no call of a method but one that a trap stops.
abbrev StaysWithin : Effect → Event → Type 0
StaysWithin (Calls line target f args) events.Quiet = calls_method f ≡ false
StaysWithin (Returns given) event = ⊥
StaysWithin other event = Unit {0}

-- the owners after a call that prints or stops
printed_owners : (method : Bool) (z : ℤ) (own : ThreadOwners) (left : Owners) → after_invoked method (events.PrintedNumber z) own left ≡ record own { current = left }
printed_owners true z own left = refl
printed_owners false z own left = refl

trapped_owners : (method : Bool) (trap : Trap) (at : ℕ) (own : ThreadOwners) (left : Owners) → after_invoked method (events.Trapped trap at) own left ≡ record own { current = left }
trapped_owners true trap at own left = refl
trapped_owners false trap at own left = refl

module _ (unit : SourceUnit) (classes : Classes) (k : ℕ) (shared : Shared) (s : source.Thread) (own : ThreadOwners) where
  -- those after an effect within the call
  left_owners : (effect : Effect) (event : Event) → StaysWithin effect event → (vs : Variables) → after_step unit classes k shared s own event effect vs ≡ record own { current = owners_left unit classes k shared s effect own.current event vs }
  left_owners (Calls line target f args) events.Quiet away vs = ap (λ (m : Bool). after_invoked m events.Quiet own (owners_left unit classes k shared s (Calls line target f args) own.current events.Quiet vs)) away
  left_owners (Calls line target f args) (events.PrintedNumber z) away vs = printed_owners (calls_method f) z own (owners_left unit classes k shared s (Calls line target f args) own.current (events.PrintedNumber z) vs)
  left_owners (Calls line target f args) (events.Trapped trap at) away vs = trapped_owners (calls_method f) trap at own own.current
  left_owners (Returns given) event away vs = absurd away
  left_owners other event away vs = refl

  -- those after a step within a call
  advanced_owners : (task : Task) (rest : List Task) → s.tasks ≡ Some (task ∷ rest) → (event : Event) → StaysWithin (effect_of (sight_of shared s) task) event → (vs : Variables)
      → after_tasks unit classes k shared s s.tasks own event vs ≡ record own { current = owners_left unit classes k shared s (effect_of (sight_of shared s) task) own.current event vs }
  advanced_owners task rest is event away vs = ap (λ (o : Option (List Task)). after_tasks unit classes k shared s o own event vs) is ∙ left_owners (effect_of (sight_of shared s) task) event away vs

-- a step that keeps callers and tasks is within the call
abbrev tasks_left : source.Advance → Option (List Task)
tasks_left (source.Advances shared t event) = t.tasks
tasks_left source.NoAdvance = None

abbrev event_left : source.Advance → Event
event_left (source.Advances shared t event) = event
event_left source.NoAdvance = events.Quiet

-- a call of a method traps, or enters a function
abbrev IsOfMethod : CallEffect → Type 0
IsOfMethod (Halts trap) = Unit {0}
IsOfMethod (Enters function arguments) = Unit {0}
IsOfMethod e = ⊥

method_or_trap : (classes : Classes) (in_use : BuffersInUse) (k : ℕ) (shared : Shared) (s : source.Thread) (args : List Actual) (m : Option MethodId) → IsOfMethod (answer.effect_of classes in_use k shared s args (method_called m))
unfolding answer.effect_of
method_or_trap classes in_use k shared s args None = tt
method_or_trap classes in_use k shared s args (Some m) = tt

of_method : (unit : SourceUnit) (classes : Classes) (in_use : BuffersInUse) (k : ℕ) (shared : Shared) (s : source.Thread) (args : List Actual) (f : JniFunction) → calls_method f ≡ true → IsOfMethod (call_effect unit classes in_use k shared s args f)
unfolding call_answer
of_method unit classes in_use k shared s args CallStaticVoidMethod calls = method_or_trap classes in_use k shared s args (method_given args 1)
of_method unit classes in_use k shared s args CallStaticIntMethod calls = method_or_trap classes in_use k shared s args (method_given args 1)
of_method unit classes in_use k shared s args CallStaticObjectMethod calls = method_or_trap classes in_use k shared s args (method_given args 1)
of_method unit classes in_use k shared s args f calls = absurd (cc)

checked_method : (o : Option Trap) (e : CallEffect) → IsOfMethod e → IsOfMethod (checked o e)
checked_method None e h = h
checked_method (Some trap) e h = tt

stays_within : (unit : SourceUnit) (classes : Classes) (in_use : BuffersInUse) (k : ℕ) (shared next_shared : Shared) (s next : source.Thread) (rest : List Task) (refused : Bool) (effect : Effect) (event : Event) → after_any unit classes in_use k shared s rest refused effect ≡ source.Advances next_shared next event
    → next.callers ≡ s.callers → (next.tasks ≡ None → ⊥) → StaysWithin effect event
stays_within unit classes in_use k shared next_shared s next rest refused effect event steps same goes = by_effect effect event steps
  where
    by_callers : (given : CallResult) (event : Event) (callers : List source.Caller) → s.callers ≡ callers → return_by k shared s given callers ≡ source.Advances next_shared next event → ⊥
    by_callers given event [] is ends = goes (ap tasks_left (sym ends))
    by_callers given event (c ∷ callers) is into =
        let back = given_back s.pending c.result given in
        let kept = put_keeps c.target back shared (received c.result back (resumed_in s c callers)) (s.calls, callers) (received_calls c.result back (resumed_in s c callers)) in
        let fewer : next.callers ≡ callers = ap (λ (x : Held). x.1) (subst (KeepsCalls (s.calls, callers)) into kept) in
        let longer : length callers ≡ length (c ∷ callers) = ap length (sym fewer ∙ same ∙ is) in
        omega (arith, longer)

    by_refusal : (refused : Bool) (given : CallResult) (event : Event) → after_any unit classes in_use k shared s rest refused (Returns given) ≡ source.Advances next_shared next event → ⊥
    by_refusal true given event e = cc
    by_refusal false given event e = by_callers given event s.callers refl e

    entered : (line : ℕ) (target : Target) (f : JniFunction) (args : List Actual) (e : CallEffect) → IsOfMethod e → after_effect_of_call unit classes in_use k shared s line target f args rest e ≡ source.Advances next_shared next events.Quiet → ⊥
    entered line target f args (Halts trap) h ends = let clash : events.Trapped trap line ≡ events.Quiet = ap event_left ends in cc
    entered line target f args (Enters function arguments) h ends = goes (ap tasks_left (sym ends))
    entered line target f args (Throws class) h ends = h
    entered line target f args (Leaves made s' t' given) h ends = h

    refused_entry : (line : ℕ) (target : Target) (f : JniFunction) (args : List Actual) (e : CallEffect) → IsOfMethod e → after_refusal unit classes in_use k shared s line target f args rest (makes_objects e) ≡ source.Advances next_shared next events.Quiet → ⊥
    refused_entry line target f args (Halts trap) h ends = cc
    refused_entry line target f args (Enters function arguments) h ends = cc
    refused_entry line target f args (Throws class) h ends = h
    refused_entry line target f args (Leaves made s' t' given) h ends = h

    by_method : (line : ℕ) (target : Target) (f : JniFunction) (args : List Actual) (refused method : Bool) → calls_method f ≡ method → after_any unit classes in_use k shared s rest refused (Calls line target f args) ≡ source.Advances next_shared next events.Quiet → calls_method f ≡ false
    by_method line target f args refused false is e = is
    by_method line target f args false true is e = absurd (entered line target f args (effect_of_call unit classes in_use k shared s line target f args rest) (checked_method (trap_of_call classes shared s target f args) _ (of_method unit classes in_use k shared s args f is)) e)
    by_method line target f args true true is e = absurd (refused_entry line target f args (effect_of_call unit classes in_use k shared s line target f args rest) (checked_method (trap_of_call classes shared s target f args) _ (of_method unit classes in_use k shared s args f is)) e)

    by_effect : (effect : Effect) (event : Event) → after_any unit classes in_use k shared s rest refused effect ≡ source.Advances next_shared next event → StaysWithin effect event
    by_effect (Returns given) event e = absurd (by_refusal refused given event e)
    by_effect (Calls line target f args) events.Quiet e = by_method line target f args refused (calls_method f) refl e
    by_effect (Calls line target f args) (events.PrintedNumber z) e = tt
    by_effect (Calls line target f args) (events.Trapped trap at) e = tt
    by_effect other event e = tt

-- ---- calls to come

-- no call is to be entered where one is in progress
pub none_due : (e : Option Entering) (tasks : Option (List Task)) (callers : List source.Caller) (there : List Task) → IsDue e tasks callers → tasks ≡ Some there → e ≡ None
none_due None tasks callers there due is = refl
none_due (Some e) None callers there due is = absurd (cc)
none_due (Some e) (Some tasks) callers there due is = absurd due

pub still_due : (e : Option Entering) (tasks : Option (List Task)) (callers : List source.Caller) → e ≡ None → (tasks ≡ None → ⊥) → IsDue e tasks callers
still_due None None callers none goes = absurd (goes refl)
still_due None (Some tasks) callers none goes = tt
still_due (Some e) tasks callers none goes = absurd (cc)

-- the calls to come are then those of the world alone
pub calls_of_world : (p : Lowered) (classes : Classes) (space : Space) (made : ℕ) (e : Option Entering) (nexts : List PendingCall) (calls : List Invocation) → e ≡ None → CallsToComeAgree p classes space made e nexts calls → CallsAgree p classes made nexts calls
calls_of_world p classes space made None nexts calls none h = h
calls_of_world p classes space made (Some e) nexts calls none h = absurd (cc)

pub calls_to_come : (p : Lowered) (classes : Classes) (space : Space) (made : ℕ) (e : Option Entering) (nexts : List PendingCall) (calls : List Invocation) → e ≡ None → CallsAgree p classes made nexts calls → CallsToComeAgree p classes space made e nexts calls
calls_to_come p classes space made None nexts calls none h = h
calls_to_come p classes space made (Some e) nexts calls none h = absurd (cc)

-- One step of a thread.
module _ (p : Lowered) (w : World) (old : Store) (others : Acquired) (k : ℕ) (own : ThreadOwners) (shared : Shared) (t : Thread) (s : source.Thread) (h : ThreadAgrees p w.classes old.heap old.elements (length (loaded_objects w)) k own shared t s) where
  -- what the buffers of all other calls take, and the owner of the copied lists of the call in progress
  abbrev rest_of : Acquired
  rest_of = beside_callers others s

  abbrev copier : ℕ
  copier = owner_at k (length s.callers)

  -- a step of the source's thread within its call
  steps_by : (refused : Bool) (task : Task) (rest : List Task) → s.tasks ≡ Some (task ∷ rest) → thread_step (unit_tree p.unit) w.classes (in_use_with rest_of s) k shared s refused ≡ after_any (unit_tree p.unit) w.classes (in_use_with rest_of s) k shared s rest refused (effect_of (sight_of shared s) task)
  steps_by false task rest tasks = ap (step_within (unit_tree p.unit) w.classes (in_use_with rest_of s) k shared s false) tasks
  steps_by true task rest tasks = ap (step_within (unit_tree p.unit) w.classes (in_use_with rest_of s) k shared s true) tasks

  -- an instruction but a return
  pub did : (store : Store) (refused : Bool) (e : Event) (task : Task) (rest : List Task) → s.tasks ≡ Some (task ∷ rest) → (after : Activation) (pending : Option ℕ) → GoesOn p w old store rest_of k copier own.current shared s rest after pending (effect_of (sight_of shared s) task) refused e
      → Advances p w old store others k own shared s (record t { call = Some after; pending = pending }) refused e
  did store refused e task rest is after pending g =
      let effect = effect_of (sight_of shared s) task in
      let now : Owners = owners_left (unit_tree p.unit) w.classes k shared s effect own.current e g.next.variables in
      let Works : Option (List Task) → Type 0 = λ o. WorkAgrees p w.classes store.heap store.elements copier (visible_to now g.next_shared g.next) (Some after) g.next.frames o in
      let away = stays_within (unit_tree p.unit) w.classes (in_use_with rest_of s) k shared g.next_shared s g.next rest refused effect e g.steps g.callers (λ b. subst Works b g.work) in
      let none = none_due t.entering s.tasks s.callers (task ∷ rest) h.due is in
      record {
        next_shared = g.next_shared;
        next = g.next;
        steps = steps_by refused task rest is ∙ g.steps;
        store_agrees = subst (λ (callers : List source.Caller). StoreAgrees p w store g.next_shared (beside (beside others (acquired_by_callers (record s { callers = callers }))) (acquired_by g.next))) (sym g.callers) g.store_agrees;
        keeps = g.keeps;
        keeps_copies = g.keeps_copies;
        agrees =
            subst (λ (now : ThreadOwners). ThreadAgrees p w.classes store.heap store.elements (length (loaded_objects w)) k now g.next_shared (record t { call = Some after; pending = pending }) g.next)
            (sym (advanced_owners (unit_tree p.unit) w.classes k shared s own task rest is e away g.next.variables)) (record {
              calls = subst (CallsToComeAgree p w.classes store.heap (length (loaded_objects w)) t.entering t.calls.items) (sym g.calls)
                  (calls_to_come p w.classes store.heap (length (loaded_objects w)) t.entering t.calls.items s.calls none (calls_of_world p w.classes old.heap (length (loaded_objects w)) t.entering t.calls.items s.calls none h.calls));
              due = still_due t.entering g.next.tasks g.next.callers none (λ b. subst Works b g.work);
              work = subst (λ (callers : List source.Caller). WorkAgrees p w.classes store.heap store.elements (owner_at k (length callers)) (visible_to now g.next_shared g.next) (Some after) g.next.frames g.next.tasks) (sym g.callers) g.work;
              callers = subst (CallersAgree p w.classes store.heap store.elements k g.next_shared (reverse t.callers.items) own.callers) (sym g.callers)
                  (callers_stay p w.classes copier old.heap store.heap old.elements store.elements shared g.next_shared g.keeps g.keeps_copies k (reverse t.callers.items) own.callers s.callers (λ below less. others_below k below (length s.callers) less) h.callers);
              few = h.few;
              pending = g.pending_agrees;
              ending = g.ending ∙ h.ending;
              busy = λ a b c. subst Works b g.work;
              caught = λ b. absurd (subst Works b g.work);
              idle = λ b. absurd (subst Works b g.work);
              views = g.views;
            });
        short = λ was. subst (λ (a : source.Advance). IsShortOf (cells_made shared a) old.heap store.heap) (sym (steps_by false task rest is)) (g.short was);
      }

-- ---- a return

-- the ending of a thread that has these calls to come, with an exception of this class pending or none
pub ending_of : Option ℕ → List Invocation → Ending
ending_of (Some class) calls = Uncaught (class_id class)
ending_of None [] = Ended
ending_of None (c ∷ calls) = Unfinished

-- a thread after its call
abbrev pub idle : Option ℕ → List Invocation → source.Thread
idle class calls = record { calls = activation.calls_after (ending_of class calls) calls; callers = []; tasks = None; variables = []; frames = []; pending = None; ending = ending_of class calls }

source_ending : (heap : Heap) (r : Reference) (calls : List Invocation) → activation.ending_after heap r calls ≡ ending_of (option_map (class_of heap) r) calls
unfolding ending_of
source_ending heap (Some n) calls = refl
source_ending heap None [] = refl
source_ending heap None (c ∷ calls) = refl

returns_by : (k : ℕ) (shared : Shared) (s : source.Thread) (class : Option ℕ) (given : CallResult) → s.callers ≡ [] → option_map (class_of shared.heap) s.pending ≡ class → return_step k shared s given ≡ source.Advances (record shared { monitors = monitors_after (ending_of class s.calls) k shared.monitors }) (idle class s.calls) events.Quiet
returns_by k shared s class given alone pending =
    let ends : activation.ending_after shared.heap s.pending s.calls ≡ ending_of class s.calls = source_ending shared.heap s.pending s.calls ∙ ap (λ (o : Option ℕ). ending_of o s.calls) pending in
    ap (return_by k shared s given) alone
    ∙ ap (λ (ending : Ending). source.Advances (record shared { monitors = monitors_after ending k shared.monitors })
    (record { calls = activation.calls_after ending s.calls; callers = []; tasks = None; variables = []; frames = []; pending = None; ending = ending }) events.Quiet) ends

calls_left : (p : Lowered) (classes : Classes) (made : ℕ) (class : Option ℕ) (nexts : List PendingCall) (calls : List Invocation) → CallsAgree p classes made nexts calls → CallsAgree p classes made (calls_after class nexts) (activation.calls_after (ending_of class calls) calls)
unfolding ending_of
calls_left p classes made (Some c) nexts calls h = tt
calls_left p classes made None [] [] h = tt
calls_left p classes made None [] (c ∷ calls) h = absurd h
calls_left p classes made None (n ∷ nexts) [] h = absurd h
calls_left p classes made None (n ∷ nexts) (c ∷ calls) h = h

ending_agrees : (p : Lowered) (classes : Classes) (made : ℕ) (class : Option ℕ) (nexts : List PendingCall) (calls : List Invocation) (ending : Ending) → CallsAgree p classes made nexts calls → ending ≡ Unfinished → ending_of class calls ≡ (ending_after class nexts ending)
unfolding ending_of
ending_agrees p classes made (Some c) nexts calls ending h o = refl
ending_agrees p classes made None [] [] ending h o = refl
ending_agrees p classes made None [] (c ∷ calls) ending h o = absurd h
ending_agrees p classes made None (n ∷ nexts) [] ending h o = absurd h
ending_agrees p classes made None (n ∷ nexts) (c ∷ calls) ending h o = sym o

something_to_do : (p : Lowered) (classes : Classes) (made : ℕ) (class : Option ℕ) (nexts : List PendingCall) (calls : List Invocation) (ending : Ending) → CallsAgree p classes made nexts calls → ending_after class nexts ending ≡ Unfinished → activation.calls_after (ending_of class calls) calls ≡ [] → ⊥
unfolding ending_of
something_to_do p classes made (Some c) nexts calls ending h o e = cc
something_to_do p classes made None [] calls ending h o e = cc
something_to_do p classes made None (n ∷ nexts) [] ending h o e = h
something_to_do p classes made None (n ∷ nexts) (c ∷ calls) ending h o e = cc

-- the class of the exception that is pending
pub class_pending : (space : Space) (heap : Heap) (a : Option ℕ) (r : Reference) → BlocksAgree space heap space.blocks → ReferenceAgrees space a r → option_map (class_of heap) r ≡ option_and_then (class_at space) a
class_pending space heap None None b h = refl
class_pending space heap None (Some n) b h = absurd h
class_pending space heap (Some a) None b h = absurd h
class_pending space heap (Some a) (Some n) b h = found_class space.blocks b h
  where
    found_class : (bs : List Block) → BlocksAgree space heap bs → option_map (λ (b : Block). b.birth) (find (λ (b : Block). eqb b.address a) bs) ≡ Some n → Some (class_of heap n) ≡ option_map (λ (b : Block). b.class) (find (λ (b : Block). eqb b.address a) bs)
    found_class [] agree e = absurd (cc)
    found_class (b ∷ bs) agree e = by_test (eqb b.address a) (found_class bs agree.1) e
      where
        by_test : (t : Bool) → (option_map (λ (b : Block). b.birth) (find (λ (b : Block). eqb b.address a) bs) ≡ Some n → Some (class_of heap n) ≡ option_map (λ (b : Block). b.class) (find (λ (b : Block). eqb b.address a) bs))
            → option_map (λ (b : Block). b.birth) (cond t (Some b) (find (λ (b : Block). eqb b.address a) bs)) ≡ Some n → Some (class_of heap n) ≡ option_map (λ (b : Block). b.class) (cond t (Some b) (find (λ (b : Block). eqb b.address a) bs))
        by_test true later e =
            let named : b.birth ≡ n = cc in
            let there = agree.0 in
            let of : class_of heap b.birth ≡ there.object.class = ap (λ (o : Option Object). option_map_or (λ (x : Object). x.class) o 0) there.is in
            ap (λ (c : ℕ). Some c) (ap (class_of heap) (sym named) ∙ of ∙ sym there.class)
        by_test false later e = later e

-- ---- monitors that are given up

module _ (p : Lowered) (w : World) (k : ℕ) (shared : Shared) (s : source.Thread) (old store : Store) (all : Acquired) (shares : StoreAgrees p w old shared all) where
  given_up : GivesUp k old store → StoreAgrees p w store (record shared { monitors = source.without_owner shared.monitors k }) all
  given_up g =
      subst (λ (x : Store). StoreAgrees p w x (record shared { monitors = source.without_owner shared.monitors k }) all) (sym g.is)
      (agrees_monitors p w old shared all shares (without_owner old.monitors k) (source.without_owner shared.monitors k)
      (drops k shared old.monitors shares.monitors (without_owner old.monitors k) (λ n. subst (λ (x : Store). monitor_of x.monitors n ≡ kept_from k (monitor_of old.monitors n)) g.is (g.each n)))
      (there_dropped old.heap old.monitors k shares.monitored))

  -- the store of a thread that has left its call
  pub monitors_left : (classes : Classes) (made : ℕ) (class : Option ℕ) (nexts : List PendingCall) (calls : List Invocation) → CallsAgree p classes made nexts calls → LeavesMonitors (ends_with class nexts) k old store
      → StoreAgrees p w store (record shared { monitors = monitors_after (ending_of class calls) k shared.monitors }) all
  unfolding ending_of
  monitors_left classes made (Some c) nexts calls h left = given_up left
  monitors_left classes made None [] [] h left = given_up left
  monitors_left classes made None [] (c ∷ calls) h left = absurd h
  monitors_left classes made None (n ∷ nexts) [] h left = absurd h
  monitors_left classes made None (n ∷ nexts) (c ∷ calls) h left = subst (λ (x : Store). StoreAgrees p w x shared all) (sym left) shares

-- nothing else changes
rest_left : (ended : Bool) (k : ℕ) (old store : Store) → LeavesMonitors ended k old store → (store.heap ≡ old.heap) × (store.elements ≡ old.elements)
rest_left true k old store g = (ap (λ (x : Store). x.heap) g.is, ap (λ (x : Store). x.elements) g.is)
rest_left false k old store same = (ap (λ (x : Store). x.heap) same, ap (λ (x : Store). x.elements) same)

module _ (p : Lowered) (w : World) (old : Store) (others : Acquired) (k : ℕ) (own : ThreadOwners) (shared : Shared) (t : Thread) (s : source.Thread) (h : ThreadAgrees p w.classes old.heap old.elements (length (loaded_objects w)) k own shared t s) where
  -- what the buffers of all other calls take
  abbrev rest_there : Acquired
  rest_there = beside_callers others s

  pub returned : (store left : Store) (pending : Option ℕ) (after : Thread) (task : Task) (rest : List Task) → s.callers ≡ [] → s.tasks ≡ Some (task ∷ rest) → StoreAgrees p w store shared (beside rest_there (acquired_by s)) → store ≡ old → MayReturn s → ReferenceAgrees store.heap pending s.pending → t.ending ≡ Unfinished
      → ((given : CallResult) × (effect_of (sight_of shared s) task ≡ Returns given)) → after.call ≡ None → after.entering ≡ t.entering → after.callers.items ≡ [] → after.pending ≡ None → after.calls.items ≡ calls_after (option_and_then (class_at store.heap) pending) t.calls.items
      → after.ending ≡ ending_after (option_and_then (class_at store.heap) pending) t.calls.items t.ending
      → LeavesMonitors (ends_with (option_and_then (class_at store.heap) pending) t.calls.items) k store left
      → Advances p w old left others k own shared s after false events.Quiet
  returned store left pending after task rest alone tasks shares same may pends o is no_call no_entry callers no_pending calls ending monitors =
      let class : Option ℕ = option_and_then (class_at store.heap) pending in
      let made : ℕ = length (loaded_objects w) in
      let none = none_due t.entering s.tasks s.callers (task ∷ rest) h.due tasks in
      let of_world = calls_of_world p w.classes old.heap made t.entering t.calls.items s.calls none h.calls in
      let of : option_map (class_of shared.heap) s.pending ≡ class = class_pending store.heap shared.heap pending s.pending shares.heap.blocks pends in
      let next : Shared = record shared { monitors = monitors_after (ending_of class s.calls) k shared.monitors } in
      let parts = rest_left (ends_with class t.calls.items) k store left monitors in
      let below = none_there p w.classes old.heap old.elements k shared (reverse t.callers.items) own.callers s.callers h.callers alone in
      let owners_now : after_tasks (unit_tree p.unit) w.classes k shared s s.tasks own events.Quiet [] ≡ own =
      ap (λ (ts : Option (List Task)). after_tasks (unit_tree p.unit) w.classes k shared s ts own events.Quiet []) tasks
      ∙ ap (λ (e : Effect). after_step (unit_tree p.unit) w.classes k shared s own events.Quiet e []) is.1
      ∙ ap (λ (cs : List source.Caller). after_return cs own.callers own []) alone in
      record {
        next_shared = next;
        next = idle class s.calls;
        steps = steps_by p w old others k own shared t s h false task rest tasks ∙ ap (after_effect (unit_tree p.unit) w.classes (in_use_with rest_there s) k shared s rest) is.1 ∙ returns_by k shared s class is.0 alone of;
        store_agrees = subst (λ (callers : List source.Caller). StoreAgrees p w left next (beside (beside others (acquired_by_callers (record s { callers = callers }))) (acquired_by (idle class s.calls)))) alone
            (store_same p w left next rest_there s.variables [] (sym (nothing_lent s.variables may.0)) (monitors_left p w k shared s store left (beside rest_there (acquired_by s)) shares w.classes made class t.calls.items s.calls of_world monitors));
        keeps = subst (λ (space : Space). Keeps old.heap shared space next) (sym (parts.0 ∙ ap (λ (x : Store). x.heap) same)) (keeps_monitors old.heap shared next.monitors);
        keeps_copies = λ key c there other. subst (λ (copies : List (Option OwnedNumbers)). value_at copies key ≡ Some c) (sym (parts.1 ∙ ap (λ (x : Store). x.elements) same)) there;
        agrees = subst (λ (o : ThreadOwners). ThreadAgrees p w.classes left.heap left.elements made k o next after (idle class s.calls)) (sym owners_now) (record {
          calls = calls_to_come p w.classes left.heap made after.entering after.calls.items (activation.calls_after (ending_of class s.calls) s.calls) (no_entry ∙ none)
              (subst (λ (ns : List PendingCall). CallsAgree p w.classes made ns (activation.calls_after (ending_of class s.calls) s.calls)) (sym calls) (calls_left p w.classes made class t.calls.items s.calls of_world));
          due = subst (λ (e : Option Entering). IsDue e None []) (sym (no_entry ∙ none)) tt;
          work = subst (λ (c : Option Activation). WorkAgrees p w.classes left.heap left.elements (owner_at k 0) (visible_to own.current next (idle class s.calls)) c [] None) (sym no_call) refl;
          callers = subst (λ (cs : List Activation). CallersAgree p w.classes left.heap left.elements k next cs own.callers []) (sym (ap reverse callers))
              (subst (λ (os : List Owners). CallersAgree p w.classes left.heap left.elements k next [] os []) (sym below.1) tt);
          few = let less : length after.callers.items < 64 = omega (arith, ap length callers) in less;
          pending = subst (λ (a : Option ℕ). ReferenceAgrees left.heap a None) (sym no_pending) tt;
          ending = ending_agrees p w.classes made class t.calls.items s.calls t.ending of_world o ∙ sym ending;
          busy = λ a b c. something_to_do p w.classes made class t.calls.items s.calls t.ending of_world (sym ending ∙ a) c;
          caught = λ b. refl;
          idle = λ b. refl;
          views = subst (λ (c : Option Activation). AreViewed left.heap (buffers_of c) (idle class s.calls)) (sym no_call) (λ n. omega arith);
        });
        short = λ e. absurd (cc);
      }
