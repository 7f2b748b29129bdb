-- A thread in memory steps as the thread that it stands for.
use Rattle.std.proofs.Common.{◌≡◌, ◌≤◌, ◌<◌, ◌+◌, ℕ, suc, Bool, true, false, List, [], ◌∷◌, ◌++◌, length, Option, Some, None, refl, sym, ap, ◌∙◌, IsTrue, subst, arith}
use Rattle.std.proofs.lemmas.List.{length-reverse, reverse-reverse}
use Rattle.std.specs.Prelude.{if◌then◌else◌, nat_le}
use Rattle.std.specs.List.{list_all}
use Rattle.std.proofs.lemmas.Bool.Decides.{nat_tests}
use Rattle.base.specs.Bytes.{Identifier}
use Rattle.base.specs.Limits.{most_activations}
use Rattle.semantics.specs.declared.trap.Trap.{Trap}
use Rattle.semantics.specs.declared.trap.Trap.TheVariants.{CallsTooDeep}
use Rattle.semantics.specs.declared.event.Event.TheVariants as event
use Rattle.semantics.specs.declared.trap.Trap.TheVariants as traps
use Rattle.std.specs.Option.{option_map}
use Rattle.semantics.specs.CallStep.{waits_with}
use Rattle.semantics.specs.Task.{Task, tasks_of}
use Rattle.semantics.specs.World.{Invocation}
use Rattle.semantics.specs.Load.{call_loads}
use Rattle.std.proofs.lemmas.Bool.{and_parts}
use Rattle.std.specs.Borrow.{Bor}
use Rattle.std.specs.Global.{Vec}
use Rattle.syntax.specs.Tree.{Function, SourceUnit}
use Rattle.class_rules.specs.Class.{Classes}
use Rattle.semantics.specs.Thread.{Caller, Thread, Shared, BuffersInUse, Advances as AdvancesTo, NoAdvance}
use Rattle.semantics.specs.Object.{Reference}
use Rattle.semantics.specs.Views.{name_of}
use Rattle.semantics.specs.declared.object_id.ObjectId.{ObjectId}
use Rattle.semantics.specs.Activation.{enter, entered, entry_advance, entered_function}
use Rattle.semantics.specs.CallEffects.{CallResult}
use Rattle.semantics.specs.Return.{ending_after, monitors_after, calls_after, return_by, return_step}
use Rattle.semantics.specs.declared.event.Event.TheVariants.{Quiet, PrintedNumber, Trapped}
use Rattle.semantics.specs.declared.event.Ending.{Ending}
use Rattle.semantics.specs.declared.event.Ending.TheVariants.{Unfinished, Ended, Uncaught}
use Rattle.semantics.specs.ThreadStep.{next_effect, thread_step, step_within}
use Rattle.replay_steps.specs.declared.activation.Activation.{Activation}
use Rattle.replay_threads.specs.declared.thread.Thread.{Thread as ThreadInMemory}
use Rattle.replay_tasks.specs.Outcomes.{result_view}
use Rattle.replay_tasks.specs.declared.outcome.CallResult.{CallResult as ResultInMemory}
use Rattle.replay_tasks.specs.declared.outcome.Outcome.TheVariants as outcome
use Rattle.replay_steps.specs.Activations.{tasks_left, thread_in, advance_by, Advances}
use Rattle.replay_steps.specs.Callers.{CallerStands, MakesCaller, entering_view, thread_at}
use Rattle.replay_steps.specs.declared.callers.Entering.{Entering}
use Rattle.replay_steps.specs.Steps.{Scene, Sees, calling_by, scene_with, waiting}
use Rattle.replay_steps.specs.Waits.{WaitsIn}
use Rattle.replay_tasks.specs.declared.outcome.Outcome.{Outcome}
use Rattle.semantics.specs.declared.event.Event.{Event}
use Rattle.replay_threads.proofs.CallerLists.{last_is_first}
use Rattle.replay_threads.specs.Threads.{AreCalling, CallersStand, HasCalled, HasPushed, HasWaited, IsDue, IsEntered, IsStopped, HasNoEntry, HasResumed, HasReturned, ReturnsBy, calls_to_come, ThreadInRange, ThreadStands, ThreadWaits, WorkInRange, WorkStands, EndsStep, HasLeft, Leaves, StepIs, event_of, last_first, tasks_in}

-- where the last comes first there is none, as where the first does
none_reversed : (xs : List Activation) → last_first xs ≡ [] → xs ≡ []
none_reversed xs none = sym (reverse-reverse xs) ∙ ap last_first none

-- the last caller was taken, and goes on
pub taken_back : (k : ℕ) (shared last : Shared) (t : ThreadInMemory) (rest : Vec Activation) (given : CallResult) (a : Activation) (left : ThreadInMemory) → t.callers.items ≡ rest.items ++ a ∷ []
    → HasResumed shared (record t { callers = rest }) given a (last_first rest.items) last left → HasReturned k shared t given last left
taken_back k shared last t rest given a left is e =
    subst (λ (xs : List Activation). ReturnsBy k shared t given xs last left) (sym (ap last_first is ∙ last_is_first rest.items a)) (record {
      activation = e.activation;
      is = e.is;
      range = e.range;
      resumes = e.resumes;
      callers = e.callers;
      entering = e.entering;
      calls = e.calls;
      pending = e.pending;
      ending = e.ending;
    })

-- there was none
pub none_taken : (k : ℕ) (shared last : Shared) (t : ThreadInMemory) (rest : Vec Activation) (given : CallResult) (left : ThreadInMemory) → t.callers.items ≡ [] → rest.items ≡ []
    → HasLeft k shared (record t { callers = rest }) last left → HasReturned k shared t given last left
none_taken k shared last t rest given left is none e =
    subst (λ (xs : List Activation). ReturnsBy k shared t given xs last left) (sym (ap last_first is)) (record {
      activation = e.activation;
      pending = e.pending;
      ending = e.ending;
      calls = e.calls;
      callers = e.callers ∙ none ∙ sym is;
      entering = e.entering;
      shared = e.shared;
    })

-- a call that didn't return goes on
pub goes_on : (k : ℕ) (shared : Shared) (t : ThreadInMemory) (o : Outcome) (took : Option Event) → ((given : ResultInMemory) → o ≡ outcome.Returned given → ⊥) → ((line : ℕ) (x : Bor Identifier) → o ≡ outcome.Calls line x → ⊥) → took ≡ event_of o → EndsStep k shared t o took shared t
goes_on k shared t (outcome.Returned given) took none uncalled is = absurd (none given refl)
goes_on k shared t (outcome.Calls line x) took none uncalled is = absurd (uncalled line x refl)
goes_on k shared t o took none uncalled is = (is, refl, refl)

-- the call in progress would make another, but too many wait
pub stopped_so : (s : Shared) (t : ThreadInMemory) (a : Activation) (line : ℕ) (x : Identifier) (call : Entering) → t.activation ≡ Some a → MakesCaller s a line x (Some call) → most_activations ≤ length t.callers.items + 1
    → HasCalled s t t.activation line x (Some (event.Trapped traps.CallsTooDeep line)) t
stopped_so s t a line x call is makes many =
    subst (λ (o : Option Activation). HasCalled s t o line x (Some (event.Trapped traps.CallsTooDeep line)) t) (sym is) (record { call = call; calls = makes; many = many; same = refl }, refl, refl)

-- it waits for the other
pub waited_so : (s : Shared) (t : ThreadInMemory) (a : Activation) (line : ℕ) (x : Identifier) (call : Entering) (left : ThreadInMemory) → t.activation ≡ Some a → MakesCaller s a line x (Some call)
    → length t.callers.items + 1 < most_activations → HasPushed t a call left → HasCalled s t t.activation line x (Some event.Quiet) left
waited_so s t a line x call left is makes few pushed =
    subst (λ (o : Option Activation). HasCalled s t o line x (Some event.Quiet) left) (sym is) (record { call = call; calls = makes; few = few; pushed = pushed })

-- what is known of a thread stays known, with another call in progress
abbrev range_with : (t left : ThreadInMemory) → WorkInRange left.activation → AreCalling (last_first left.callers.items) → length left.callers.items ≤ length t.callers.items → ThreadInRange t → ThreadInRange left
range_with t left work callers fewer known = record { work = work; callers = callers; few = omega (arith, fewer, known.few) }

-- the same as long as it has all of its callers
pub range_begun : (t left : ThreadInMemory) → left.callers.items ≡ t.callers.items → WorkInRange left.activation → ThreadInRange t → ThreadInRange left
range_begun t left same work known =
    range_with t left work (subst (λ (xs : List Activation). AreCalling (last_first xs)) (sym same) known.callers) (omega (arith, ap (λ (xs : List Activation). length xs) same)) known

module _ (k : ℕ) (shared last : Shared) (t left : ThreadInMemory) (given : CallResult) (known : ThreadInRange t) where
  range_returned : (xs : List Activation) → last_first t.callers.items ≡ xs → ReturnsBy k shared t given xs last left → ThreadInRange left
  range_returned [] is e = range_begun t left e.callers (subst WorkInRange (sym e.activation) tt) known
  range_returned (a ∷ xs) is e =
      let callers = subst AreCalling is known.callers in
      let fewer : length left.callers.items ≤ length t.callers.items = omega (
        arith,
        ap (λ (bs : List Activation). length bs) is,
        ap (λ (bs : List Activation). length bs) e.callers,
        length-reverse t.callers.items,
        length-reverse left.callers.items,
      ) in
      range_with t left (subst WorkInRange (sym e.is) e.range) (subst AreCalling (sym e.callers) callers.1) fewer known

-- the call in progress waits for another
pushed_range : (shared : Shared) (t : ThreadInMemory) (a : Activation) (line : ℕ) (x : Identifier) (left : ThreadInMemory) → HasWaited shared t a line x left → ThreadInRange t → ThreadInRange left
pushed_range shared t a line x left e known =
    let pushed = e.pushed in
    let more : length left.callers.items ≡ length t.callers.items + 1 = omega (
      arith,
      ap (λ (bs : List Activation). length bs) pushed.callers,
      length-reverse t.callers.items,
      length-reverse left.callers.items,
    ) in
    record {
      work = subst WorkInRange (sym pushed.activation) tt;
      callers = subst AreCalling (sym pushed.callers) (e.calls.calling, known.callers);
      few = omega (arith, more, e.few);
    }

-- it calls another, or would
called_range : (shared : Shared) (t : ThreadInMemory) (o : Option Activation) (line : ℕ) (x : Identifier) (took : Option Event) (left : ThreadInMemory) → HasCalled shared t o line x took left → ThreadInRange t → ThreadInRange left
called_range shared t None line x took left e known = subst ThreadInRange (sym e.1) known
called_range shared t (Some a) line x None left e known = subst ThreadInRange (sym e.1) known
called_range shared t (Some a) line x (Some event.Quiet) left e known = pushed_range shared t a line x left e known
called_range shared t (Some a) line x (Some (event.Trapped trap at)) left e known = subst ThreadInRange (sym e.0.same) known
called_range shared t (Some a) line x (Some (event.PrintedNumber z)) left e known = absurd e

-- what is known of it after its step
pub ended_range : (k : ℕ) (shared last : Shared) (t : ThreadInMemory) (o : Outcome) (took : Option Event) (left : ThreadInMemory) → EndsStep k shared t o took last left → ThreadInRange t → ThreadInRange left
ended_range k shared last t (outcome.Returned given) took left e known = range_returned k shared last t left (result_view given) known (last_first t.callers.items) refl e.1
ended_range k shared last t (outcome.Calls line x) took left e known = called_range shared t t.activation line x.now took left e.0 known
ended_range k shared last t o took left e known = subst ThreadInRange (sym e.1) known

-- the first of the calls to come is one that another has made
pub called_first : (o : Option Entering) (e : Entering) (calls : List Invocation) → o ≡ Some e → calls_to_come o calls ≡ entering_view e ∷ calls
called_first o e calls is = ap (λ (p : Option Entering). calls_to_come p calls) is

-- none has made one
pub world_first : (o : Option Entering) (calls : List Invocation) → o ≡ None → calls_to_come o calls ≡ calls
world_first o calls none = ap (λ (p : Option Entering). calls_to_come p calls) none

-- none is to be entered while one is in progress
none_due : (o : Option Entering) (tasks : List Task) (callers : List Caller) → IsDue o (Some tasks) callers → o ≡ None
none_due None tasks callers h = refl
none_due (Some e) tasks callers h = absurd h

-- there are as many callers in memory
as_many_callers : (xs : List Activation) (cs : List Caller) → CallersStand xs cs → length xs ≡ length cs
as_many_callers [] [] h = refl
as_many_callers [] (c ∷ cs) h = absurd h
as_many_callers (x ∷ xs) [] h = absurd h
as_many_callers (x ∷ xs) (c ∷ cs) h = ap suc (as_many_callers xs cs h.1)

module _ (unit : SourceUnit) (classes : Classes) (in_use : BuffersInUse) (k : ℕ) where
  -- a thread after its call with this ending, and with these calls to come before
  abbrev thread_after : Ending → List Invocation → Thread
  thread_after e calls = record { calls = calls_after e calls; callers = []; tasks = None; variables = []; frames = []; pending = None; ending = e }

  left_by : (m last : Shared) (s : Thread) (given : CallResult) (e : Ending) (calls : List Invocation) (pending : Reference) → s.callers ≡ [] → s.calls ≡ calls → s.pending ≡ pending → e ≡ ending_after m.heap pending calls
      → last ≡ record m { monitors = monitors_after e k m.monitors } → return_step k m s given ≡ AdvancesTo last (thread_after e calls) Quiet
  left_by m last s given e calls pending alone is there stood given_up =
      let same : ending_after m.heap s.pending s.calls ≡ e = ap (λ (r : Reference). ending_after m.heap r s.calls) there ∙ ap (ending_after m.heap pending) is ∙ sym stood in
      ap (return_by k m s given) alone
      ∙ ap (λ (f : Ending). let t : Thread = thread_after f s.calls in let r : Shared = record m { monitors = monitors_after f k m.monitors } in AdvancesTo r t Quiet) same
      ∙ ap (λ (r : Shared). let t : Thread = thread_after e s.calls in AdvancesTo r t Quiet) (sym given_up)
      ∙ ap (λ (cs : List Invocation). let t : Thread = thread_after e cs in AdvancesTo last t Quiet) is

  loads_after : (e : Ending) (calls : List Invocation) → IsTrue (list_all (call_loads unit classes) calls) → IsTrue (list_all (call_loads unit classes) (calls_after e calls))
  loads_after Unfinished calls h = h
  loads_after Ended calls h = refl
  loads_after (Uncaught c) calls h = refl

  module _ (refused : Bool) (shared after : Shared) (t : ThreadInMemory) (a new : Activation) (pending : Option ObjectId) (s : Thread) (is : t.activation ≡ Some a) (h : ThreadStands unit classes t s) where
    -- the scenes before the step and after it
    abbrev before : Scene
    before = scene_with unit classes in_use k shared a.locals.variables a.locals.frames (name_of t.pending)

    abbrev end' : Scene
    end' = scene_with unit classes in_use k after new.locals.variables new.locals.frames (name_of pending)

    -- the thread in memory after it, and the one that it stands for
    abbrev stepped : ThreadInMemory
    stepped = record t { activation = Some new; pending = pending }

    abbrev next : Thread
    next = thread_in s (tasks_left new.work) end'

    has_tasks : s.tasks ≡ Some (tasks_left a.work)
    has_tasks = h.tasks ∙ ap tasks_in is

    work : WorkStands (Some a) s
    work = subst (λ (o : Option Activation). WorkStands o s) is h.work

    sees : Sees before s
    sees = record { variables = work.0; frames = work.1; pending = h.pending }

    advances_so : (o : Outcome) → Advances refused before a.work o end' new.work → thread_step unit classes in_use k shared s refused ≡ advance_by k after next o
    advances_so o does = ap (step_within unit classes in_use k shared s refused) has_tasks ∙ does s sees has_tasks

    -- no call is to be entered while one is in progress
    uncalled : t.entering ≡ None
    uncalled = none_due t.entering (tasks_left a.work) s.callers (subst (λ (o : Option (List Task)). IsDue t.entering o s.callers) has_tasks h.due)

    stays_due : (before' after' : List Task) → s.tasks ≡ Some before' → IsDue t.entering (Some after') s.callers
    stays_due before' after' has = subst (λ (o : Option Entering). IsDue o (Some after') s.callers) (sym uncalled) tt

    calls_are : s.calls ≡ t.calls.now
    calls_are = h.calls ∙ ap (λ (o : Option Entering). calls_to_come o t.calls.now) uncalled

    -- the call goes on
    on : (event : Event) → thread_step unit classes in_use k shared s refused ≡ AdvancesTo after next event
        → Leaves unit classes after stepped event (thread_step unit classes in_use k shared s refused)
    on event does = record {
      next = next;
      advances = does;
      stands = record { calls = h.calls; due = stays_due (tasks_left a.work) (tasks_left new.work) has_tasks; callers = h.callers; loads = h.loads; tasks = refl; work = (refl, refl); pending = refl; ending = h.ending };
    }

    pub goes : (o : Outcome) → ((given : ResultInMemory) → o ≡ outcome.Returned given → ⊥) → ((line : ℕ) (x : Bor Identifier) → o ≡ outcome.Calls line x → ⊥) → Advances refused before a.work o end' new.work
        → StepIs unit classes after stepped (event_of o) (thread_step unit classes in_use k shared s refused)
    goes outcome.Stays other calls_none does = on Quiet (advances_so outcome.Stays does)
    goes (outcome.Printed z) other calls_none does = on (PrintedNumber z) (advances_so (outcome.Printed z) does)
    goes (outcome.Sets x v) other calls_none does = on Quiet (advances_so (outcome.Sets x v) does)
    goes (outcome.SetsNull to) other calls_none does = on Quiet (advances_so (outcome.SetsNull to) does)
    goes (outcome.Gives to g) other calls_none does = on Quiet (advances_so (outcome.Gives to g) does)
    goes (outcome.Lends to b) other calls_none does = on Quiet (advances_so (outcome.Lends to b) does)
    goes (outcome.Tests line zero b d) other calls_none does = on Quiet (advances_so (outcome.Tests line zero b d) does)
    goes (outcome.SetsElement x i z) other calls_none does = on Quiet (advances_so (outcome.SetsElement x i z) does)
    goes (outcome.Makes T x n) other calls_none does = on Quiet (advances_so (outcome.Makes T x n) does)
    goes (outcome.Enters block e) other calls_none does = on Quiet (advances_so (outcome.Enters block e) does)
    goes outcome.Ends other calls_none does = on Quiet (advances_so outcome.Ends does)
    goes (outcome.Returned given) other calls_none does = absurd (other given refl)
    goes (outcome.Calls line x) other calls_none does = absurd (calls_none line x refl)
    goes (outcome.Trapped trap line) other calls_none does = on (Trapped trap line) (advances_so (outcome.Trapped trap line) does)
    goes outcome.Impossible other calls_none does = advances_so outcome.Impossible does

    -- the call is over, and so is what the thread called
    ends : (given : ResultInMemory) (last : Shared) (left : ThreadInMemory) → s.callers ≡ [] → left.callers.items ≡ [] → Advances refused before a.work (outcome.Returned given) end' new.work → HasLeft k after stepped last left
        → Leaves unit classes last left Quiet (thread_step unit classes in_use k shared s refused)
    ends given last left alone none does over =
        let e : Ending = left.ending in
        record {
          next = thread_after e t.calls.now;
          advances = advances_so (outcome.Returned given) does ∙ left_by after last next (result_view given) e t.calls.now (name_of pending) alone calls_are refl over.ending over.shared;
          stands = record {
            calls = sym over.calls ∙ ap (λ (o : Option Entering). calls_to_come o left.calls.now) (sym (over.entering ∙ uncalled));
            due = subst (λ (o : Option Entering). IsDue o None []) (sym (over.entering ∙ uncalled)) tt;
            callers = subst (λ (xs : List Activation). CallersStand (last_first xs) []) (sym none) tt;
            loads = subst (λ (cs : List Invocation). IsTrue (list_all (call_loads unit classes) cs)) (sym over.calls) (loads_after e t.calls.now h.loads);
            tasks = ap tasks_in (sym over.activation);
            work = subst (λ (o : Option Activation). WorkStands o (thread_after e t.calls.now)) (sym over.activation) (refl, refl);
            pending = sym (ap name_of over.pending);
            ending = refl;
          };
        }

    -- the call is over, and its caller goes on
    back : (given : ResultInMemory) (last : Shared) (left : ThreadInMemory) (caller : Activation) (xs : List Activation) (c : Caller) (cs : List Caller) → s.callers ≡ c ∷ cs → CallerStands caller c → CallersStand xs cs
        → Advances refused before a.work (outcome.Returned given) end' new.work → HasResumed after stepped (result_view given) caller xs last left
        → Leaves unit classes last left Quiet (thread_step unit classes in_use k shared s refused)
    back given last left caller xs c cs called stands others does goes = record {
      next = thread_at next cs goes.activation;
      advances =
          advances_so (outcome.Returned given) does
          ∙ ap (return_by k after next (result_view given)) called
          ∙ goes.resumes next c cs refl stands;
      stands = record {
        calls = h.calls ∙ ap (λ (b : Bor (List Invocation)). calls_to_come t.entering b.now) (sym goes.calls) ∙ ap (λ (o : Option Entering). calls_to_come o left.calls.now) (sym goes.entering);
        due = subst (λ (o : Option Entering). IsDue o (Some (tasks_left goes.activation.work)) cs) (sym (goes.entering ∙ uncalled)) tt;
        callers = subst (λ (bs : List Activation). CallersStand bs cs) (sym goes.callers) others;
        loads = subst (λ (b : Bor (List Invocation)). IsTrue (list_all (call_loads unit classes) b.now)) (sym goes.calls) h.loads;
        tasks = ap tasks_in (sym goes.is);
        work = subst (λ (o : Option Activation). WorkStands o (thread_at next cs goes.activation)) (sym goes.is) (refl, refl);
        pending = ap name_of (sym goes.pending);
        ending = h.ending ∙ sym goes.ending;
      };
    }

    -- one of the two
    returns : (given : ResultInMemory) (last : Shared) (left : ThreadInMemory) (xs : List Activation) (cs : List Caller) → last_first t.callers.items ≡ xs → s.callers ≡ cs → CallersStand xs cs
        → Advances refused before a.work (outcome.Returned given) end' new.work → ReturnsBy k after stepped (result_view given) xs last left
        → Leaves unit classes last left Quiet (thread_step unit classes in_use k shared s refused)
    returns given last left [] [] is called stands does by =
        ends given last left called (by.callers ∙ none_reversed t.callers.items is) does by
    returns given last left [] (c ∷ cs) is called stands does by = absurd stands
    returns given last left (x ∷ xs) [] is called stands does by = absurd stands
    returns given last left (x ∷ xs) (c ∷ cs) is called stands does by = back given last left x xs c cs called stands.0 stands.1 does by

    -- the call makes another, and waits for it
    waits_for : (line : ℕ) (x : Identifier) (left : ThreadInMemory) → HasWaited after stepped new line x left → thread_step unit classes in_use k shared s refused ≡ calling_by after next line x (Some (tasks_left new.work))
        → Leaves unit classes after left Quiet (thread_step unit classes in_use k shared s refused)
    waits_for line x left e does =
        let call = entering_view e.call in
        let caller = e.calls.caller in
        let pushed = e.pushed in
        let shallow : nat_le most_activations (length s.callers + 1) ≡ false = grind (arith, nat_tests, e.few, length-reverse t.callers.items, as_many_callers (last_first t.callers.items) s.callers h.callers) in
        record {
          next = waiting next caller call;
          advances =
              does ∙ e.calls.calls next refl refl
              ∙ ap (λ b. if b then AdvancesTo after next (Trapped CallsTooDeep line) else AdvancesTo after (waiting next caller call) Quiet) shallow;
          stands = record {
            calls = ap (λ (cs : List Invocation). call ∷ cs) (calls_are ∙ ap (λ (b : Bor (List Invocation)). b.now) (sym pushed.calls)) ∙ ap (λ (o : Option Entering). calls_to_come o left.calls.now) (sym pushed.entering);
            due = subst (λ (o : Option Entering). IsDue o None (caller ∷ s.callers)) (sym pushed.entering) tt;
            callers = subst (λ (bs : List Activation). CallersStand bs (caller ∷ s.callers)) (sym pushed.callers) (e.calls.stands, h.callers);
            loads = subst (λ (b : Bor (List Invocation)). IsTrue (list_all (call_loads unit classes) b.now)) (sym pushed.calls) h.loads;
            tasks = ap tasks_in (sym pushed.activation);
            work = subst (λ (o : Option Activation). WorkStands o (waiting next caller call)) (sym pushed.activation) (refl, refl);
            pending = ap name_of (sym pushed.pending);
            ending = h.ending ∙ sym pushed.ending;
          };
        }

    -- it would, but too many wait
    stops_at : (line : ℕ) (x : Identifier) (left : ThreadInMemory) → IsStopped after stepped new line x left → thread_step unit classes in_use k shared s refused ≡ calling_by after next line x (Some (tasks_left new.work))
        → Leaves unit classes after left (Trapped CallsTooDeep line) (thread_step unit classes in_use k shared s refused)
    stops_at line x left e does =
        let call = entering_view e.call in
        let caller = e.calls.caller in
        let deep : nat_le most_activations (length s.callers + 1) ≡ true = grind (arith, nat_tests, e.many, length-reverse t.callers.items, as_many_callers (last_first t.callers.items) s.callers h.callers) in
        subst (λ (u : ThreadInMemory). Leaves unit classes after u (Trapped CallsTooDeep line) (thread_step unit classes in_use k shared s refused)) (sym e.same)
        (on (Trapped CallsTooDeep line) (does ∙ e.calls.calls next refl refl
        ∙ ap (λ b. if b then AdvancesTo after next (Trapped CallsTooDeep line) else AdvancesTo after (waiting next caller call) Quiet) deep))

    -- whichever
    calls_so : (line : ℕ) (x : Identifier) (took : Option Event) (left : ThreadInMemory) → HasCalled after stepped (Some new) line x took left → thread_step unit classes in_use k shared s refused ≡ calling_by after next line x (Some (tasks_left new.work))
        → StepIs unit classes after left took (thread_step unit classes in_use k shared s refused)
    calls_so line x None left e does = does ∙ e.0 next
    calls_so line x (Some event.Quiet) left e does = waits_for line x left e does
    calls_so line x (Some (event.Trapped trap at)) left e does =
        subst (λ (l : ℕ). Leaves unit classes after left (Trapped trap l) (thread_step unit classes in_use k shared s refused)) (sym e.2)
        (subst (λ (found : Trap). Leaves unit classes after left (Trapped found line) (thread_step unit classes in_use k shared s refused)) (sym e.1) (stops_at line x left e.0 does))
    calls_so line x (Some (event.PrintedNumber z)) left e does = absurd e

    -- what a step of the call did is the thread's step
    pub ended_step : (o : Outcome) (took : Option Event) (last : Shared) (left : ThreadInMemory) → EndsStep k after stepped o took last left → Advances refused before a.work o end' new.work
        → StepIs unit classes last left took (thread_step unit classes in_use k shared s refused)
    ended_step (outcome.Returned given) took last left e does = rw e.0 (returns given last left (last_first t.callers.items) s.callers refl refl h.callers does e.1)
    ended_step (outcome.Calls line x) took last left e does =
        subst (λ (y : Shared). StepIs unit classes y left took (thread_step unit classes in_use k shared s refused)) (sym e.1)
        (calls_so line x.now took left e.0 (advances_so (outcome.Calls line x) does))
    ended_step o took last left e does =
        let taken = thread_step unit classes in_use k shared s refused in
        subst (λ (x : Shared). StepIs unit classes x left took taken) (sym e.2)
        (subst (λ (w : Option Event). StepIs unit classes after left w taken) (sym e.0) (subst (λ (u : ThreadInMemory). StepIs unit classes after u (event_of o) taken) (sym e.1) (goes o (λ g r. absurd (cc)) (λ line x r. absurd (cc)) does)))

  -- the entry into the next call
  pub enters : (shared : Shared) (t : ThreadInMemory) (call : Invocation) (rest : List Invocation) (o : Option Activation) (s : Thread) → IsEntered unit classes call o → t.activation ≡ None → calls_to_come t.entering t.calls.now ≡ call ∷ rest → ThreadStands unit classes t s
      → (left : Option Entering) (after : Bor (List Invocation)) → left ≡ None → after.now ≡ rest → IsTrue (list_all (call_loads unit classes) rest) → Leaves unit classes shared (record t { entering = left; calls = after; activation = o }) Quiet (thread_step unit classes in_use k shared s false)
  enters shared t call rest o s e idle calls h left after none is loads = record {
    next = entered s rest e.function e.class call.arguments;
    advances =
        ap (step_within unit classes in_use k shared s false) (h.tasks ∙ ap tasks_in idle)
        ∙ ap (λ (cs : List Invocation). entry_advance shared (enter unit classes s cs)) (h.calls ∙ calls)
        ∙ ap (λ (p : Option Function). entry_advance shared (entered_function classes s call rest p)) e.found
        ∙ ap (λ (p : Option ℕ). entry_advance shared (option_map (λ d. entered s rest e.function d call.arguments) p)) e.its_class;
    stands = record {
      calls = sym is ∙ ap (λ (o : Option Entering). calls_to_come o after.now) (sym none);
      due = subst (λ (o : Option Entering). IsDue o (Some (tasks_of e.function.body)) s.callers) (sym none) tt;
      callers = h.callers;
      loads = subst (λ (cs : List Invocation). IsTrue (list_all (call_loads unit classes) cs)) (sym is) loads;
      tasks = ap Some (sym e.tasks) ∙ ap tasks_in (sym e.is);
      work = subst (λ (p : Option Activation). WorkStands p (entered s rest e.function e.class call.arguments)) (sym e.is) (sym e.variables, sym e.frames);
      pending = h.pending;
      ending = h.ending;
    };
  }

  -- those after the first load as well
  pub rest_loads : (calls : List Invocation) (call : Invocation) (rest : List Invocation) → calls ≡ call ∷ rest → IsTrue (list_all (call_loads unit classes) calls) → IsTrue (list_all (call_loads unit classes) rest)
  rest_loads calls call rest are loads =
      (and_parts (call_loads unit classes call) (list_all (call_loads unit classes) rest) (subst (λ (cs : List Invocation). IsTrue (list_all (call_loads unit classes) cs)) are loads)).1

  -- an entry makes no object that could be refused
  pub none_refused : (shared : Shared) (t : ThreadInMemory) (s : Thread) → t.activation ≡ None → ThreadStands unit classes t s → thread_step unit classes in_use k shared s true ≡ NoAdvance
  none_refused shared t s idle h = ap (step_within unit classes in_use k shared s true) (h.tasks ∙ ap tasks_in idle)

  -- no call is to come
  pub no_entry : (shared : Shared) (t : ThreadInMemory) (s : Thread) → t.activation ≡ None → calls_to_come t.entering t.calls.now ≡ [] → ThreadStands unit classes t s → thread_step unit classes in_use k shared s false ≡ NoAdvance
  no_entry shared t s idle none h =
      ap (step_within unit classes in_use k shared s false) (h.tasks ∙ ap tasks_in idle)
      ∙ ap (λ (cs : List Invocation). entry_advance shared (enter unit classes s cs)) (h.calls ∙ none)

  -- the next call cannot begin
  pub no_next : (shared : Shared) (t : ThreadInMemory) (call : Invocation) (rest : List Invocation) (s : Thread) → HasNoEntry unit classes call → t.activation ≡ None → calls_to_come t.entering t.calls.now ≡ call ∷ rest → ThreadStands unit classes t s
      → thread_step unit classes in_use k shared s false ≡ NoAdvance
  no_next shared t call rest s never idle calls h =
      ap (step_within unit classes in_use k shared s false) (h.tasks ∙ ap tasks_in idle)
      ∙ ap (λ (cs : List Invocation). entry_advance shared (enter unit classes s cs)) (h.calls ∙ calls)
      ∙ ap (entry_advance shared) (never s rest)

-- ---- waiting

module _ (classes : Classes) (k : ℕ) (shared : Shared) (t : ThreadInMemory) where
  -- between two calls no thread waits
  pub idle_free : t.activation ≡ None → ThreadWaits classes k shared t false
  idle_free idle = λ unit s h range. sym (ap (λ (o : Option (List Task)). waits_with classes k shared s (next_effect shared s o)) (h.tasks ∙ ap tasks_in idle))

  -- within one it waits as its call does
  pub waits_as : (a : Activation) (answer : Bool) → t.activation ≡ Some a → ((unit : SourceUnit) (in_use : BuffersInUse) → WaitsIn (scene_with unit classes in_use k shared a.locals.variables a.locals.frames (name_of t.pending)) a.work answer)
      → ThreadWaits classes k shared t answer
  waits_as a answer is tells = λ unit s h range.
      let work : WorkStands (Some a) s = subst (λ (o : Option Activation). WorkStands o s) is h.work in
      tells unit (record { copied = 0; views = 0 }) (subst WorkInRange is range) s (record { variables = work.0; frames = work.1; pending = h.pending }) (h.tasks ∙ ap tasks_in is)
