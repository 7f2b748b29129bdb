-- Which steps wait for a monitor.
use Rattle.std.proofs.Common.{◌≡◌, ◌<◌, ◌≤◌, ℕ, Bool, true, false, not, eqb, List, [], ◌∷◌, length, Option, Some, None, is_none, refl, sym, ap, ◌∙◌, subst, cond}
use Rattle.std.specs.Prelude.{◌&&◌, nat_lt, slice_get}
use Rattle.std.proofs.lemmas.Bool.{and_right, eq-eqb}
use Rattle.std.proofs.lemmas.Option.{slice_get_within}
use Rattle.class_rules.specs.Class.{Classes}
use Rattle.heap.specs.Heap.{Space, name_at}
use Rattle.syntax.specs.Tree.{SourceUnit}
use Rattle.syntax.specs.Views.{unit_tree}
use Rattle.jni.specs.declared.function.JniFunction.{JniFunction}
use Rattle.jni.specs.declared.function.JniFunction.TheVariants.{MonitorEnter}
use Rattle.jni.specs.JniFunction.{parameters_for}
use Rattle.jni.specs.declared.kinds.ParameterKind.TheVariants.{NonNull}
use Rattle.jni.specs.declared.function.JniFunction.TheVariants as function
use Rattle.semantics.specs.Arguments.{Actual, name_or_zero, object_given}
use Rattle.semantics.specs.CallSight.{CallSight, sight_of_call}
use Rattle.semantics.specs.CallStep.{is_owned_by_other, target_element, trap_of_call, waits_with}
use Rattle.semantics.proofs.CheckLaws.{trap_without}
use Rattle.semantics.specs.Effect.{Effect, Calls, effect_of}
use Rattle.semantics.specs.Task.{Target, Task}
use Rattle.semantics.specs.Thread as source
use Rattle.semantics.specs.Thread.{Shared, sight_of}
use Rattle.semantics.specs.declared.trap.Trap.{Trap}
use Rattle.semantics.specs.ThreadStep.{next_effect, waits}
use Rattle.semantics.specs.World.{World, loaded_objects}
use Rattle.semantics_safety.specs.Owners.{Owners, ThreadOwners}
use Rattle.code.specs.Call.{Call, call_view}
use Rattle.code.specs.Depth.{Listing}
use Rattle.code.specs.declared.instr.Call.{Call as InMemory}
use Rattle.code.specs.declared.instr.Instr.{Instr}
use Rattle.code.specs.declared.instr.Instr.TheVariants as instr
use Rattle.code_meaning.specs.Does.{AllTogether}
use Rattle.code_meaning.specs.Lowered.{Lowered, IsLowered}
use Rattle.code_meaning.specs.Slots.{visible_to}
use Rattle.tables.specs.Elements.{OwnedNumbers}
use Rattle.monitors.specs.declared.monitors.Enter.{Enter}
use Rattle.monitors.specs.declared.monitors.Enter.TheVariants.{Entered, Limit, Busy}
use Rattle.monitors.specs.declared.monitors.Monitor.{Monitor}
use Rattle.monitors.specs.Monitors.{entering, monitor_of}
use Rattle.machine_scenes.specs.MonitorsAgree.{MonitorAgrees, MonitorsAgree}
use Rattle.machine_scenes.specs.declared.activation.Activation.{Activation}
use Rattle.machine_scenes.specs.declared.store.Store.{Store}
use Rattle.machine_answers.specs.Asked.{references_of, scene_of}
use Rattle.machine_answers.specs.Sights.{trap_seen}
use Rattle.machine_scenes.specs.Buffers.{Acquired, AreViewed, acquired_by, beside}
use Rattle.machine_answers.specs.Checked.{some_missing}
use Rattle.machine_scenes.specs.Given.{IsGiven, operand_at, operand_of}
use Rattle.machine_scenes.specs.StoreAgrees.{StoreAgrees}
use Rattle.machine_answers.proofs.CallOperands.{GivenObject, object_at_place}
use Rattle.machine_answers.proofs.CallTraps.{free_seen, none_deleted, none_lacking}
use Rattle.machine_calls.proofs.MonitorCarries.{agrees_monitors}
use Rattle.machine_threads.specs.declared.thread.Thread.{Thread}
use Rattle.machine_steps.specs.Executes.{IsExecuting, IsSteady}
use Rattle.machine_threads.specs.Callers.{owner_at}
use Rattle.machine_threads.specs.SlotsHold.{slots_of}
use Rattle.machine_threads.specs.ThreadAgrees.{ThreadAgrees, buffers_of}
use Rattle.machine_steps.specs.Waiting.{MayWait, is_busy, store_unowned, unowned}
use Rattle.machine_steps.proofs.AskedCalls.{CalledAs, called, r as ready_at}
use Rattle.machine_steps.proofs.Calls.{Ready, does_cases, here, ready}
use Rattle.machine_steps.proofs.Fetched.{Fetched, at_call, possible, ready_for, seeing}
use Rattle.machine_steps.proofs.Threads.{Working, working}

-- ---- where nobody owns a monitor

-- nobody waits
pub nobody_waits : (classes : Classes) (k : ℕ) (shared : Shared) (s : source.Thread) (e : Effect) → waits_with classes k (unowned shared) s e ≡ false
nobody_waits classes k shared s (Calls line target MonitorEnter args) = and_right (is_none (trap_of_call classes (unowned shared) s target MonitorEnter args)) false refl
nobody_waits classes k shared s e = refl

-- all else agrees
pub unowned_agrees : (p : Lowered) (w : World) (store : Store) (shared : Shared) (all : Acquired) → StoreAgrees p w store shared all → StoreAgrees p w (store_unowned store) (unowned shared) all
unowned_agrees p w store shared all h = agrees_monitors p w store shared all h [] [] (record { at = λ n. tt; different = tt }) tt

pub unowned_steady : (unit : SourceUnit) (classes : Classes) (own : Owners) (shared : Shared) (s : source.Thread) → IsSteady unit classes own shared s → IsSteady unit classes own (unowned shared) s
unowned_steady unit classes own shared s h = record {
  callers = h.callers;
  view = h.view;
  return = h.return;
  release = h.release;
  free = h.free;
  possible = h.possible;
  objects = h.objects;
  variables = h.variables;
  declared = h.declared;
  owned = h.owned;
  methods = h.methods;
  calls = h.calls;
}

-- where the table has no monitor, the source has none
none_owned : (ms : List Monitor) (qs : List source.Monitor) → MonitorsAgree ms qs → length ms ≡ 0 → qs ≡ []
none_owned [] [] h is = refl
none_owned [] (q ∷ qs) h is = absurd (subst (λ (b : Bool). MonitorAgrees None (cond b (Some q) (source.monitor_of qs q.object))) (eq-eqb q.object q.object refl) (h.at q.object))
none_owned (m ∷ ms) qs h is = absurd (cc)

-- and nobody waits
pub none_waits : (classes : Classes) (k : ℕ) (shared : Shared) (s : source.Thread) (ms : List Monitor) → MonitorsAgree ms shared.monitors → length ms ≡ 0 → waits classes k shared s ≡ false
none_waits classes k shared s ms h is =
    ap (λ (qs : List source.Monitor). waits_with classes k (record shared { monitors = qs }) s (next_effect shared s s.tasks)) (none_owned ms shared.monitors h is)
    ∙ nobody_waits classes k shared s (next_effect shared s s.tasks)

-- ---- other steps

-- a function in memory that enters a monitor
pub value_enters : (f : JniFunction) → f ≡ MonitorEnter → f ≡ function.MonitorEnter
value_enters function.MonitorEnter is = refl
value_enters f is = absurd (cc)

-- an instruction that is no call of MonitorEnter doesn't wait
module _ (p : Lowered) (classes : Classes) (space : Space) (copies : List (Option OwnedNumbers)) (k owner : ℕ) (call : Activation) (code : Listing) (own : Owners) (shared : Shared) (s : source.Thread) (task : Task) (rest : List Task) (r : Ready p classes space copies owner call code (visible_to own shared s) s.frames task rest) where
  pub waits_for_none : (i : Instr) → slice_get code.instrs call.place ≡ Some i → ((c : Call) → i ≡ instr.Call c → c.function ≡ MonitorEnter → ⊥) → waits_with classes k shared s (effect_of (sight_of shared s) task) ≡ false
  waits_for_none i at none =
      does_cases code r.known call.place call.stack (slots_of call r.meant) (visible_to own shared s) rest (λ (e : Effect). waits_with classes k shared s e ≡ false)
      (λ tasks g. refl) (λ x v g. refl) (λ target g. refl) (λ x i z t a g. refl) (λ x i z g. refl) (λ t x n g. refl) (λ z g. refl)
      (λ line target f args g. other line target f args (λ enters. none g.call (let same : Some i ≡ Some (instr.Call g.call) = sym at ∙ g.at in cc) (g.same_function ∙ enters)))
      (λ g given. refl) (λ trap line g. refl) refl (effect_of (sight_of shared s) task) r.does
    where
      other : (line : ℕ) (target : Target) (f : JniFunction) (args : List Actual) → (f ≡ MonitorEnter → ⊥) → waits_with classes k shared s (Calls line target f args) ≡ false
      other line target MonitorEnter args another = absurd (another refl)
      other line target f args another = refl

-- ---- a call in progress

module _ (p : Lowered) (w : World) (store : Store) (others : Acquired) (k : ℕ) (own : ThreadOwners) (shared : Shared) (t : Thread) (s : source.Thread) (call : Activation) (shares : StoreAgrees p w store shared (beside others (acquired_by s)))
    (h : ThreadAgrees p w.classes store.heap store.elements (length (loaded_objects w)) k own shared t s) (is : t.call ≡ Some call) (steady : IsSteady (unit_tree p.unit) w.classes own.current shared s) where
  -- the owner of its copied lists
  abbrev pub copier : ℕ
  copier = owner_at k (length s.callers)

  pub work : Working p w.classes store.heap store.elements copier call (visible_to own.current shared s) s.frames s.tasks
  work = working p w.classes store.heap store.elements copier (visible_to own.current shared s) s.frames t.call call s.tasks h.work is

  pub would_execute : IsExecuting p w (store_unowned store) call t.pending others k copier own.current (unowned shared) s work.task work.rest
  would_execute = record {
    store_agrees = unowned_agrees p w store shared (beside others (acquired_by s)) shares;
    depth = refl;
    tasks = work.is;
    stands = work.stands;
    pending_agrees = h.pending;
    views = subst (λ (c : Option Activation). AreViewed store.heap (buffers_of c) s) is h.views;
    steady = unowned_steady (unit_tree p.unit) w.classes own.current shared s steady;
    ready = nobody_waits w.classes k shared s (effect_of (sight_of shared s) work.task);
  }

  -- its function is there
  pub function_there : call.function < length p.codes
  function_there = slice_get_within p.codes call.function would_execute.stands.code would_execute.stands.of_function

  -- and its place in the function's code
  pub place_there : (code : Listing) → IsLowered p → slice_get p.codes call.function ≡ Some code → store.heap.cells ≤ 1048576 → call.place < length code.instrs
  place_there code lowered there few =
      let found = here p w.classes store.heap store.elements copier call code (visible_to own.current shared s) s.frames work.task work.rest
      (ready p w.classes store.heap store.elements copier call code (visible_to own.current shared s) s.frames work.task work.rest lowered there would_execute.stands
      (seeing p w (store_unowned store) call t.pending others k copier own.current (unowned shared) s work.task work.rest would_execute few))
      (possible p w (store_unowned store) call t.pending others k copier own.current (unowned shared) s work.task work.rest would_execute) in
      slice_get_within code.instrs call.place found.0 found.1

  -- whether it waits is by its first task
  pub waits_by : waits_with w.classes k shared s (effect_of (sight_of shared s) work.task) ≡ waits w.classes k shared s
  waits_by = ap (λ (tasks : Option (List Task)). waits_with w.classes k shared s (next_effect shared s tasks)) (sym work.is)

  -- where it doesn't wait, it executes
  pub executes : waits w.classes k shared s ≡ false → IsExecuting p w store call t.pending others k copier own.current shared s work.task work.rest
  executes free = record {
    store_agrees = shares;
    depth = refl;
    tasks = work.is;
    stands = work.stands;
    pending_agrees = h.pending;
    views = subst (λ (c : Option Activation). AreViewed store.heap (buffers_of c) s) is h.views;
    steady = steady;
    ready = waits_by ∙ free;
  }

  -- a call of which nothing is known yet but that it is there
  pub may_wait : (i : Instr) (f : Fetched p (store_unowned store) call i) (function : InMemory) → i ≡ instr.Call (call_view function) → MayWait p w store t.pending call function others k copier own.current shared s work.task work.rest
  may_wait i f function is = record {
    at_call = at_call p w (store_unowned store) t.pending call i f function is others k copier own.current (unowned shared) s work.task work.rest would_execute;
    monitors = shares.monitors;
  }

  -- what is no call of MonitorEnter doesn't wait
  pub goes_on : (i : Instr) (f : Fetched p (store_unowned store) call i) → ((c : Call) → i ≡ instr.Call c → c.function ≡ MonitorEnter → ⊥) → waits w.classes k shared s ≡ false
  goes_on i f none =
      sym waits_by
      ∙ waits_for_none p w.classes store.heap store.elements k copier call f.code own.current shared s work.task work.rest (ready_for p w (store_unowned store) call i f t.pending others k copier own.current (unowned shared) s work.task work.rest would_execute) i f.at none

-- ---- a call of MonitorEnter

-- another thread owns the monitor
busy_is : (k : ℕ) (o : Option Monitor) (q : Option source.Monitor) → MonitorAgrees o q → is_busy (entering k o) ≡ is_owned_by_other k q
busy_is k None None h = refl
busy_is k None (Some m) h = absurd h
busy_is k (Some m) None h = absurd h
busy_is k (Some m) (Some q) h = by_tests (eqb m.owner k) (nat_lt m.count 255) ∙ ap (λ (n : ℕ). not (eqb n k)) h.1
  where
    by_tests : (own few : Bool) → is_busy (cond own (cond few Entered Limit) Busy) ≡ not own
    by_tests true true = refl
    by_tests true false = refl
    by_tests false few = refl

module _ (p : Lowered) (w : World) (store : Store) (pending : Option ℕ) (call : Activation) (in_memory : InMemory) (others : Acquired) (k owner : ℕ) (own : Owners) (shared : Shared) (s : source.Thread) (task : Task) (rest : List Task) (h : MayWait p w store pending call in_memory others k owner own shared s task rest) (enters : in_memory.function ≡ MonitorEnter) where
  abbrev it : CalledAs p w (store_unowned store) pending call h.at_call.code (call_view in_memory) others k owner own (unowned shared) s task rest (ready_at p w (store_unowned store) pending call in_memory others k owner own (unowned shared) s task rest h.at_call) (effect_of (sight_of shared s) task)
  it = called p w (store_unowned store) pending call in_memory others k owner own (unowned shared) s task rest h.at_call

  pub enters_it : it.f ≡ MonitorEnter
  enters_it = sym it.asked.same_function ∙ enters

  abbrev found : Option Trap
  found = trap_of_call w.classes (unowned shared) s it.target it.f it.args

  abbrev Waits : Bool → Type 0
  Waits b = b ≡ waits_with w.classes k shared s (effect_of (sight_of shared s) task)

  waits_as : (is_none found && is_owned_by_other k (source.monitor_of shared.monitors (object_given it.args 0))) ≡ waits_with w.classes k shared s (effect_of (sight_of shared s) task)
  waits_as = sym (at_enter it.f enters_it) ∙ ap (waits_with w.classes k shared s) (sym it.is)
    where
      at_enter : (f : JniFunction) → f ≡ MonitorEnter → waits_with w.classes k shared s (Calls it.line it.target f it.args) ≡ (is_none (trap_of_call w.classes (unowned shared) s it.target f it.args) && is_owned_by_other k (source.monitor_of shared.monitors (object_given it.args 0)))
      at_enter MonitorEnter is =
          let sight : CallSight = sight_of_call shared s MonitorEnter it.args in
          ap (λ (o : Option Trap). is_none o && is_owned_by_other k (source.monitor_of shared.monitors (object_given it.args 0)))
          (sym (trap_without w.classes sight None sight.held (target_element s.variables it.target) MonitorEnter))
      at_enter f is = absurd (cc)

  -- a check stops it
  pub stopped : (trap : Trap) → found ≡ Some trap → Waits false
  stopped trap is = ap (λ (o : Option Trap). is_none o && is_owned_by_other k (source.monitor_of shared.monitors (object_given it.args 0))) (sym is) ∙ waits_as

  -- or none does
  module _ (free : found ≡ None) where
    seen_free : trap_seen (scene_of (unit_tree p.unit) w.classes (store_unowned store) call k pending) call.locals (call_view in_memory) ≡ None
    seen_free = free_seen p w (store_unowned store) pending call (call_view in_memory) others k owner (unowned shared) s it.target it.f it.args it.asked free

    object : GivenObject (unit_tree p.unit) w.classes store.heap (references_of store call) call.slots.fields.items in_memory.operands.items it.args 0
    object =
        object_at_place (unit_tree p.unit) w.classes store.heap (references_of store call) call.slots.fields.items [] NonNull [] tt refl
        (subst (λ (f : JniFunction). AllTogether (IsGiven (unit_tree p.unit) w.classes store.heap (references_of store call) call.slots.fields.items) (parameters_for f (length it.args)) in_memory.operands.items it.args) enters_it it.asked.given)
        (none_deleted p w (store_unowned store) pending call (call_view in_memory) others k owner (unowned shared) s it.target it.f it.args it.asked seen_free)
        (subst (λ (f : JniFunction). some_missing (references_of store call) call.slots.fields.items (parameters_for f (length it.args)) in_memory.operands.items ≡ false) enters_it
        (none_lacking p w (store_unowned store) pending call (call_view in_memory) others k owner (unowned shared) s it.target it.f it.args it.asked seen_free))

    -- its argument isn't NULL
    pub not_null : operand_at (references_of store call) (operand_of in_memory.operands.items 0) ≡ None → ⊥
    not_null none = let clash : None ≡ Some object.address = sym none ∙ object.at in cc

    -- it is by the monitor of its object
    pub by_monitor : (a n : ℕ) (came : Enter) → operand_at (references_of store call) (operand_of in_memory.operands.items 0) ≡ Some a → name_at store.heap a ≡ Some n → came ≡ entering k (monitor_of store.monitors n) → Waits (is_busy came)
    by_monitor a n came at named is =
        let address : object.address ≡ a = let same : Some object.address ≡ Some a = sym object.at ∙ at in cc in
        let name : object.name ≡ n = let same : Some object.name ≡ Some n = sym object.named ∙ ap (name_at store.heap) address ∙ named in cc in
        let given : object_given it.args 0 ≡ n = ap name_or_zero object.is ∙ name in
        ap is_busy is ∙ busy_is k (monitor_of store.monitors n) (source.monitor_of shared.monitors n) (h.monitors.at n)
        ∙ ap (λ (m : ℕ). is_owned_by_other k (source.monitor_of shared.monitors m)) (sym given)
        ∙ ap (λ (o : Option Trap). is_none o && is_owned_by_other k (source.monitor_of shared.monitors (object_given it.args 0))) (sym free)
        ∙ waits_as

  -- whatever a check finds
  by_found : (b : Bool) → ((trap : Trap) → found ≡ Some trap → Waits b) → (found ≡ None → Waits b) → (o : Option Trap) → found ≡ o → Waits b
  by_found b stops goes (Some trap) is = stops trap is
  by_found b stops goes None is = goes is

  -- NULL isn't waited for
  pub no_object : operand_at (references_of store call) (operand_of in_memory.operands.items 0) ≡ None → Waits false
  no_object none = by_found false stopped (λ free. absurd (not_null free none)) found refl

  -- nor is an object whose monitor no other thread owns
  pub not_busy : (a n : ℕ) (came : Enter) → operand_at (references_of store call) (operand_of in_memory.operands.items 0) ≡ Some a → name_at store.heap a ≡ Some n → came ≡ entering k (monitor_of store.monitors n) → is_busy came ≡ false → Waits false
  not_busy a n came at named is idle = by_found false stopped (λ free. subst Waits idle (by_monitor free a n came at named is)) found refl

  -- and where one does, it is by the check
  pub busy : (a n : ℕ) (came : Enter) → operand_at (references_of store call) (operand_of in_memory.operands.items 0) ≡ Some a → name_at store.heap a ≡ Some n → came ≡ entering k (monitor_of store.monitors n) → is_busy came ≡ true
      → (o : Option Trap) → found ≡ o → Waits (is_none o)
  busy a n came at named is held (Some trap) stops = stopped trap stops
  busy a n came at named is held None free = subst Waits held (by_monitor free a n came at named is)
