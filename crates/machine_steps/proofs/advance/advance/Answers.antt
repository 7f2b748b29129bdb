use Rattle.std.proofs.Common.{◌≡◌, ℕ, ◌<◌, true, false, List, Option, Some, length, map, reverse, sym, ap, ◌∙◌, subst, refl, arith}
use Rattle.std.specs.Prelude.{◌==◌}
use Rattle.std.proofs.lemmas.Bool.Decides.{Decides-eqb}
use Rattle.std.proofs.lemmas.List.{nil_from_length}
use Rattle.std.proofs.lemmas.Result.{err_from_is_err_and}
use Rattle.std.specs.Global.{Vec}
use Rattle.syntax.specs.Views.{unit_tree}
use Rattle.heap.specs.Heap.{left_of}
use Rattle.semantics.specs.ThreadStep.{next_effect, step_within, waits}
use Rattle.semantics.specs.Effect.{effect_of}
use Rattle.semantics.specs.Thread as source
use Rattle.semantics.specs.Thread.{Shared, sight_of}
use Rattle.semantics.specs.World.{World, loaded_objects}
use Rattle.semantics.specs.declared.event.Event.{Event}
use Rattle.semantics.specs.declared.event.Event.TheVariants.{Quiet}
use Rattle.semantics_safety.specs.Owners.{ThreadOwners}
use Rattle.code_meaning.specs.Lowered.{Lowered}
use Rattle.code_meaning.specs.Slots.{visible_to}
use Rattle.machine_scenes.specs.Buffers.{Acquired, acquired_by, beside}
use Rattle.machine_scenes.specs.StoreAgrees.{StoreAgrees}
use Rattle.machine_scenes.specs.declared.activation.Activation.{Activation}
use Rattle.machine_scenes.specs.declared.store.Store.{Store}
use Rattle.machine_threads.specs.Callers.{beside_callers, owner_at}
use Rattle.machine_threads.specs.ThreadAgrees.{ThreadAgrees}
use Rattle.machine_threads.specs.declared.thread.Thread.{Thread}
use Rattle.machine_calls.specs.CallState.{state_of}
use Rattle.machine_steps.specs.Advances.{Advances, StandsReady}
use Rattle.machine_steps.specs.Executes.{DoesFirstTask, IsCalling, IsExecuting, IsHindered, IsSteady, Executes, cells_made, in_use_with}
use Rattle.machine_steps.specs.Resumed.{HasCalled, Resumes}
use Rattle.machine_steps.specs.Returned.{ReturnAgrees}
use Rattle.machine_steps.specs.declared.execute.ReturnValue.{ReturnValue}
use Rattle.machine_steps.specs.declared.execute.Executed.TheVariants.{Did, Refused, Returned}
use Rattle.machine_steps.specs.declared.execute.Executed.TheVariants as executed
use Rattle.machine_steps.specs.declared.execute.Executed.{Executed}
use Rattle.machine_scenes.specs.HeapAgrees.{ReferenceAgrees}
use Rattle.machine_scenes.proofs.BlocksOfNames.{block_there}
use Rattle.std.specs.List.{list_all}
use Rattle.base.proofs.Numbers.{positive}
use Rattle.world_values.specs.CallArguments.{is_argument}
use Rattle.world_values.specs.Views.{object_value_view}
use Rattle.machine_threads.specs.Entry.{IsReady}
use Rattle.machine_steps.specs.Pushed.{Enters, IsNext, MakesCall, Pushes}
use Rattle.machine_steps.proofs.Entries.{enters, coming, given_to_come, ready_to_begin, some_to_come}
use Rattle.machine_steps.proofs.Pushes.{as_pushed, few_callers, pushed_cells, pushed_on}
use Rattle.machine_steps.proofs.Threads.{Working, calls_of_world, did, resting, returned}
use Rattle.machine_steps.proofs.Returns.{copier_is, first, has_called, none_below, returned_into}
use Rattle.machine_steps.proofs.Waits.{executes, work}
use Rattle.machine_steps.proofs.CallsThere.{running, last_of}
use Rattle.machine_steps.proofs.advance.advance.Goals as goal
use Rattle.machine_steps.proofs.advance.advance.Goals.{After-owner_at-owner}

pub owner_at-owner-requires : goal.owner_at-owner-requires
owner_at-owner-requires c = let few : length c.args.thread.now.callers.items < 64 = c.requires.agrees.5.few in omega (arith, few, c.len.ensures, c.args.thread.now.callers.ok.0)

pub execute-requires-clause-stands : goal.execute-requires-clause-stands
execute-requires-clause-stands c =
    let a = c.requires.agrees in
    let p = c.args.context.program.now in
    let w = c.args.context.world.now in
    let store = c.args.store.now in
    let others = beside_callers a.0 a.3 in
    let it = work p w store others c.args.context.thread a.1 a.2 c.args.thread.now a.3 c.get_mut.result.now a.4 a.5 (running c.in-Some.is c.get_mut.ensures.value) a.7 in
    let same = c.owner_at-owner.ensures ∙ copier_is p w.classes store.heap store.elements (length (loaded_objects w)) c.args.context.thread a.1 a.2 c.args.thread.now a.3 a.5 c.len.result (c.len.ensures ∙ c.args.thread.now.callers.ok.0) in (
      others,
      a.1.current,
      a.2,
      a.3,
      it.task,
      it.rest,
      subst (λ (n : ℕ). IsExecuting p w store c.get_mut.result.now c.args.thread.now.pending others c.args.context.thread n a.1.current a.2 a.3 it.task it.rest) (sym same)
          (executes p w store others c.args.context.thread a.1 a.2 c.args.thread.now a.3 c.get_mut.result.now a.4 a.5 (running c.in-Some.is c.get_mut.ensures.value) a.7 a.8),
    )

-- there is a call to come
pub enter-requires-clause-some : goal.enter-requires-clause-some
enter-requires-clause-some c none =
    let a = c.requires.agrees in
    let p = c.args.context.program.now in
    let w = c.args.context.world.now in
    let store = c.args.store.now in
    let t = c.args.thread.now in
    let made : ℕ = length (loaded_objects w) in
    let rests = resting p w.classes store.heap store.elements (owner_at c.args.context.thread (length a.3.callers)) (visible_to a.1.current a.2 a.3) a.3.frames t.call a.3.tasks a.5.work c.in-None.is in
    some_to_come p w.classes made t.calls.items a.3.calls (calls_of_world p w.classes store.heap made t.entering t.calls.items a.3.calls none a.5.calls) (a.5.busy a.6 rests)

pub enter-requires-clause-given : goal.enter-requires-clause-given
enter-requires-clause-given c next rest is =
    let a = c.requires.agrees in
    let w = c.args.context.world.now in
    let made : ℕ = length (loaded_objects w) in
    subst (λ (m : ℕ). list_all (is_argument m) (map object_value_view next.arguments.items) ≡ true) (sym (ap length c.deref.ensures.value ∙ a.4.table.counted))
    (given_to_come c.args.context.program.now w.classes c.args.store.now.heap made c.args.thread.now.entering next c.args.thread.now.calls.items rest a.3.calls a.5.calls is)

pub enter-requires-clause-ready : goal.enter-requires-clause-ready
enter-requires-clause-ready c rest entering next =
    let a = c.requires.agrees in
    let p = c.args.context.program.now in
    let classes = c.args.context.world.now.classes in
    let store = c.args.store.now in
    let t = c.args.thread.now in
    let made : ℕ = length (loaded_objects c.args.context.world.now) in
    let is = subst (λ (l : List ℕ). IsNext l t.entering t.calls.items rest entering) c.deref.ensures.value next in
    let n = coming p classes store.heap store.loaded.items made t.entering entering t.calls.items rest a.3.calls a.4.table a.5.calls is in
    subst (λ (m : ℕ). IsReady p m entering) (sym (ap length c.deref.ensures.value ∙ a.4.table.counted)) (ready_to_begin p classes store.heap made entering n.call c.requires.lowered n.function)

pub returns-in_ok-enter-in-None-clause-advances : goal.returns-in_ok-enter-in-None-clause-advances
returns-in_ok-enter-in-None-clause-advances c others own shared s shares h steady free =
    let e = c.in_ok-enter-in-None.ensures in
    let next = subst (λ (l : List ℕ). Enters c.args.context.program.now l c.args.thread.now c.enter.new.thread) c.deref.ensures.value e.calls in
    enters c.args.context.program.now c.args.context.world.now c.args.store.now others c.args.context.thread own shared c.args.thread.now c.enter.new.thread s c.requires.lowered shares h c.in-None.is next e.entering e.callers e.pending e.ending

-- whatever thread of the source it stands for
module _ (c : After-owner_at-owner) (others : Acquired) (own : ThreadOwners) (shared : Shared) (s : source.Thread) (shares : StoreAgrees c.args.context.program.now c.args.context.world.now c.args.store.now shared (beside (beside_callers others s) (acquired_by s)))
    (h : ThreadAgrees c.args.context.program.now c.args.context.world.now.classes c.args.store.now.heap c.args.store.now.elements (length (loaded_objects c.args.context.world.now)) c.args.context.thread own shared c.args.thread.now s) (steady : IsSteady (unit_tree c.args.context.program.now.unit) c.args.context.world.now.classes own.current shared s) (activation : Activation) (is : c.args.thread.now.call ≡ Some activation) where
  abbrev p : Lowered
  p = c.args.context.program.now

  abbrev w : World
  w = c.args.context.world.now

  abbrev old : Store
  old = c.args.store.now

  abbrev k : ℕ
  k = c.args.context.thread

  abbrev rest_of : Acquired
  rest_of = beside_callers others s

  abbrev it : Working p w.classes old.heap old.elements (owner_at k (length s.callers)) activation (visible_to own.current shared s) s.frames s.tasks
  it = work p w old rest_of k own shared c.args.thread.now s activation shares h is steady

  owner_same : c.owner_at-owner.result ≡ owner_at k (length s.callers)
  owner_same = c.owner_at-owner.ensures ∙ copier_is p w.classes old.heap old.elements (length (loaded_objects w)) k own shared c.args.thread.now s h c.len.result (c.len.ensures ∙ c.args.thread.now.callers.ok.0)

  stands_as : waits w.classes k shared s ≡ false → IsExecuting p w old activation c.args.thread.now.pending rest_of k c.owner_at-owner.result own.current shared s it.task it.rest
  stands_as free = subst (λ (n : ℕ). IsExecuting p w old activation c.args.thread.now.pending rest_of k n own.current shared s it.task it.rest) (sym owner_same) (executes p w old rest_of k own shared c.args.thread.now s activation shares h is steady free)

  -- what was executed
  does : (store : Store) (after : Activation) (left : Option ℕ) (done x : Executed) → waits w.classes k shared s ≡ false → DoesFirstTask c.args.context c.owner_at-owner.result (state_of old c.args.thread.now.pending activation) (state_of store left after) done → done ≡ x
      → Executes p w old store rest_of k (owner_at k (length s.callers)) own.current shared s it.rest after left (effect_of (sight_of shared s) it.task) x
  does store after left done x free told same =
      subst (λ (y : Executed). Executes p w old store rest_of k (owner_at k (length s.callers)) own.current shared s it.rest after left (effect_of (sight_of shared s) it.task) y) same
      (subst (λ (n : ℕ). Executes p w old store rest_of k n own.current shared s it.rest after left (effect_of (sight_of shared s) it.task) done) owner_same (told rest_of own.current shared s it.task it.rest (stands_as free)))

pub returns-in-Ok-Did-clause-advances : goal.returns-in-Ok-Did-clause-advances
returns-in-Ok-Did-clause-advances c others own shared s shares h steady free =
    let a = (goal.at.returns-in-Ok-Did-clause-advances c).After-owner_at-owner in
    let b = it a others own shared s shares h steady c.get_mut.result.now (running c.in-Some.is c.get_mut.ensures.value) in
    did c.args.context.program.now c.args.context.world.now c.args.store.now others c.args.context.thread own shared c.args.thread.now s h c.execute.new.store false c.in-Ok-Did.event b.task b.rest b.is c.execute.new.activation c.execute.new.pending
    (does a others own shared s shares h steady c.get_mut.result.now (running c.in-Some.is c.get_mut.ensures.value) c.execute.new.store c.execute.new.activation c.execute.new.pending _ (Did c.in-Ok-Did.event) free c.in-Ok-Did.ensures.done c.in-Ok-Did.field-0-is)

pub returns-in-Ok-Did-Quiet-clause-advances : goal.returns-in-Ok-Did-Quiet-clause-advances
returns-in-Ok-Did-Quiet-clause-advances c others own shared s shares h steady free =
    let a = (goal.at.returns-in-Ok-Did-Quiet-clause-advances c).After-owner_at-owner in
    let b = it a others own shared s shares h steady c.get_mut.result.now (running c.in-Some.is c.get_mut.ensures.value) in
    did c.args.context.program.now c.args.context.world.now c.args.store.now others c.args.context.thread own shared c.args.thread.now s h c.execute.new.store false Quiet b.task b.rest b.is c.execute.new.activation c.execute.new.pending
    (does a others own shared s shares h steady c.get_mut.result.now (running c.in-Some.is c.get_mut.ensures.value) c.execute.new.store c.execute.new.activation c.execute.new.pending _ (Did Quiet) free c.in-Ok-Did-Quiet.ensures.done (c.in-Ok-Did-Quiet.field-0-is ∙ ap (λ (x : Event). Did x) c.in-Ok-Did-Quiet.field-0-0-is))

pub returns-in-Ok-Refused-clause-advances : goal.returns-in-Ok-Refused-clause-advances
returns-in-Ok-Refused-clause-advances c others own shared s shares h steady free =
    let a = (goal.at.returns-in-Ok-Refused-clause-advances c).After-owner_at-owner in
    let b = it a others own shared s shares h steady c.get_mut.result.now (running c.in-Some.is c.get_mut.ensures.value) in
    did c.args.context.program.now c.args.context.world.now c.args.store.now others c.args.context.thread own shared c.args.thread.now s h c.execute.new.store true Quiet b.task b.rest b.is c.execute.new.activation c.execute.new.pending
    (does a others own shared s shares h steady c.get_mut.result.now (running c.in-Some.is c.get_mut.ensures.value) c.execute.new.store c.execute.new.activation c.execute.new.pending _ Refused free c.in-Ok-Refused.ensures.done c.in-Ok-Refused.field-0-is)

-- the source's return, and what is pending
module _ (c : After-owner_at-owner) (activation : Activation) (is : c.args.thread.now.call ≡ Some activation) where
  abbrev a : StandsReady c.args.context.program.now c.args.context.world.now c.args.context.thread c.args.store.now c.args.thread.now
  a = c.requires.agrees

  returns_there : (store : Store) (after : Activation) (left : Option ℕ) (done : Executed) (v : ReturnValue) → DoesFirstTask c.args.context c.owner_at-owner.result (state_of c.args.store.now c.args.thread.now.pending activation) (state_of store left after) done → done ≡ Returned v
      → Executes c.args.context.program.now c.args.context.world.now c.args.store.now store (beside_callers a.0 a.3) c.args.context.thread (owner_at c.args.context.thread (length a.3.callers)) a.1.current a.2 a.3 (it c a.0 a.1 a.2 a.3 a.4 a.5 a.7 activation is).rest after left (effect_of (sight_of a.2 a.3) (it c a.0 a.1 a.2 a.3 a.4 a.5 a.7 activation is).task) (Returned v)
  returns_there store after left done v told same = does c a.0 a.1 a.2 a.3 a.4 a.5 a.7 activation is store after left done (Returned v) a.8 told same

-- the source's call of a method
module _ (c : After-owner_at-owner) (activation : Activation) (is : c.args.thread.now.call ≡ Some activation) where
  abbrev b : StandsReady c.args.context.program.now c.args.context.world.now c.args.context.thread c.args.store.now c.args.thread.now
  b = c.requires.agrees

  calls_there : (store : Store) (after : Activation) (left : Option ℕ) (done : Executed) → DoesFirstTask c.args.context c.owner_at-owner.result (state_of c.args.store.now c.args.thread.now.pending activation) (state_of store left after) done → done ≡ executed.Calls
      → IsCalling c.args.context.world.now.classes b.2 b.3 (effect_of (sight_of b.2 b.3) (it c b.0 b.1 b.2 b.3 b.4 b.5 b.7 activation is).task)
  calls_there store after left done told same = does c b.0 b.1 b.2 b.3 b.4 b.5 b.7 activation is store after left done executed.Calls b.8 told same

  makes_call : IsCalling c.args.context.world.now.classes b.2 b.3 (effect_of (sight_of b.2 b.3) (it c b.0 b.1 b.2 b.3 b.4 b.5 b.7 activation is).task) → MakesCall c.args.context.program.now c.args.context.world.now c.args.store.now activation
  makes_call calling =
      let p = c.args.context.program.now in
      let w = c.args.context.world.now in
      let store = c.args.store.now in
      let others = beside_callers b.0 b.3 in
      let i = it c b.0 b.1 b.2 b.3 b.4 b.5 b.7 activation is in
      record {
        pending = c.args.thread.now.pending;
        others = others;
        k = c.args.context.thread;
        owner = owner_at c.args.context.thread (length b.3.callers);
        own = b.1.current;
        shared = b.2;
        thread = b.3;
        task = i.task;
        rest = i.rest;
        executing = executes p w store others c.args.context.thread b.1 b.2 c.args.thread.now b.3 activation b.4 b.5 is b.7 b.8;
        calling = calling;
      }

pub push-requires-clause-few : goal.push-requires-clause-few
push-requires-clause-few c =
    let a = c.requires.agrees in
    let calling = calls_there (goal.at.push-requires-clause-few c).After-owner_at-owner c.get_mut.result.now (running c.in-Some.is c.get_mut.ensures.value) c.execute.new.store c.execute.new.activation c.execute.new.pending _ c.in-Ok-Calls.ensures.done c.in-Ok-Calls.field-0-is in
    few_callers c.args.context.program.now c.args.context.world.now c.args.store.now c.args.context.thread a.1 a.2 c.args.thread.now a.3 a.5 _ calling

pub push-requires-clause-calling : goal.push-requires-clause-calling
push-requires-clause-calling c =
    let p = c.args.context.program.now in
    let w = c.args.context.world.now in
    let o = (goal.at.push-requires-clause-calling c).After-owner_at-owner in
    let calling = calls_there o c.get_mut.result.now (running c.in-Some.is c.get_mut.ensures.value) c.execute.new.store c.execute.new.activation c.execute.new.pending _ c.in-Ok-Calls.ensures.done c.in-Ok-Calls.field-0-is in
    let same = c.in-Ok-Calls.ensures.calls c.in-Ok-Calls.field-0-is in (
      c.execute.new.activation,
      refl,
      subst (λ (store : Store). MakesCall p w store c.execute.new.activation) (sym same.0)
          (subst (MakesCall p w c.args.store.now) (sym same.2) (makes_call o c.get_mut.result.now (running c.in-Some.is c.get_mut.ensures.value) calling)),
    )

pub returns-in_ok-push-in-Ok-Calls-clause-advances : goal.returns-in_ok-push-in-Ok-Calls-clause-advances
returns-in_ok-push-in-Ok-Calls-clause-advances c others own shared s shares h steady free =
    let p = c.args.context.program.now in
    let w = c.args.context.world.now in
    let old = c.args.store.now in
    let t = c.args.thread.now in
    let k = c.args.context.thread in
    let o = (goal.at.returns-in_ok-push-in-Ok-Calls-clause-advances c).After-owner_at-owner in
    let i = it o others own shared s shares h steady c.get_mut.result.now (running c.in-Some.is c.get_mut.ensures.value) in
    let calling = does o others own shared s shares h steady c.get_mut.result.now (running c.in-Some.is c.get_mut.ensures.value) c.execute.new.store c.execute.new.activation c.execute.new.pending _ executed.Calls free c.in-Ok-Calls.ensures.done c.in-Ok-Calls.field-0-is in
    let same = c.in-Ok-Calls.ensures.calls c.in-Ok-Calls.field-0-is in
    let e = executes p w old (beside_callers others s) k own shared t s c.get_mut.result.now shares h (running c.in-Some.is c.get_mut.ensures.value) steady free in
    let d = as_pushed p w c.execute.new.store c.execute.new.activation t c.push.new.thread (Some c.execute.new.activation) c.execute.new.pending same.1 (c.in_ok-push-in-Ok-Calls.ensures.pushes c.execute.new.activation refl) in
    let pushes = subst (λ (store : Store). Pushes p w store c.get_mut.result.now t c.push.new.thread) same.0 (subst (λ (x : Activation). Pushes p w c.execute.new.store x t c.push.new.thread) same.2 d) in
    subst (λ (store : Store). Advances p w old store others k own shared s c.push.new.thread false Quiet) (sym same.0)
    (pushed_on p w old others k own shared t s h shares c.get_mut.result.now i.task i.rest e calling c.push.new.thread pushes)

-- an error leaves all as it was
put_back : (t : Thread) (call : Option Activation) (pending : Option ℕ) → call ≡ t.call → pending ≡ t.pending → (let u : Thread = record t { call = call; pending = pending } in u) ≡ t
put_back t call pending a b = λ i. record t { call = a i; pending = b i }

pub returns-in_err-push-in-Ok-Calls-clause-hindered : goal.returns-in_err-push-in-Ok-Calls-clause-hindered
returns-in_err-push-in-Ok-Calls-clause-hindered c =
    let p = c.args.context.program.now in
    let w = c.args.context.world.now in
    let old = c.args.store.now in
    let t = c.args.thread.now in
    let k = c.args.context.thread in
    let o = (goal.at.returns-in_err-push-in-Ok-Calls-clause-hindered c).After-owner_at-owner in
    let given = err_from_is_err_and c.from_residual-in_err-push-in-Ok-Calls.result c.from_residual-in_err-push-in-Ok-Calls.ensures.1 in
    rw (given.1, given.2) (λ others own shared s shares h steady free.
    let i = it o others own shared s shares h steady c.get_mut.result.now (running c.in-Some.is c.get_mut.ensures.value) in
    let calling = does o others own shared s shares h steady c.get_mut.result.now (running c.in-Some.is c.get_mut.ensures.value) c.execute.new.store c.execute.new.activation c.execute.new.pending _ executed.Calls free c.in-Ok-Calls.ensures.done c.in-Ok-Calls.field-0-is in
    pushed_cells p w old others k own shared t s h shares c.get_mut.result.now i.task i.rest (executes p w old (beside_callers others s) k own shared t s c.get_mut.result.now shares h (running c.in-Some.is c.get_mut.ensures.value) steady free) calling)

pub returns-in_err-push-in-Ok-Calls-clause-store : goal.returns-in_err-push-in-Ok-Calls-clause-store
returns-in_err-push-in-Ok-Calls-clause-store c =
    let given = err_from_is_err_and c.from_residual-in_err-push-in-Ok-Calls.result c.from_residual-in_err-push-in-Ok-Calls.ensures.1 in
    rw (given.1) ((c.in-Ok-Calls.ensures.calls c.in-Ok-Calls.field-0-is).0)

pub returns-in_err-push-in-Ok-Calls-clause-thread : goal.returns-in_err-push-in-Ok-Calls-clause-thread
returns-in_err-push-in-Ok-Calls-clause-thread c =
    let t = c.args.thread.now in
    let same = c.in-Ok-Calls.ensures.calls c.in-Ok-Calls.field-0-is in
    let given = err_from_is_err_and c.from_residual-in_err-push-in-Ok-Calls.result c.from_residual-in_err-push-in-Ok-Calls.ensures.1 in
    rw (given.1) (c.in_err-push-in-Ok-Calls.ensures.err ∙ put_back t (Some c.execute.new.activation) c.execute.new.pending (ap (λ (x : Activation). Some x) same.2 ∙ sym (running c.in-Some.is c.get_mut.ensures.value)) same.1)

pub leave-requires : goal.leave-requires
leave-requires c x is =
    let r = returns_there (goal.at.leave-requires c).After-owner_at-owner c.get_mut.result.now (running c.in-Some.is c.get_mut.ensures.value) c.execute.new.store c.execute.new.activation c.execute.new.pending _ c.in-Ok-Returned.value c.in-Ok-Returned.ensures.done c.in-Ok-Returned.field-0-is in
    block_there c.execute.new.store.heap c.execute.new.pending c.requires.agrees.3.pending x r.3 is

none_by : (n : ℕ) → (n == 0) ≡ true → n ≡ 0
none_by n h = (Decides-eqb n 0).0 h

pub resume-requires-clause-called : goal.resume-requires-clause-called
resume-requires-clause-called c below caller last =
    let a = c.requires.agrees in
    let r = returns_there (goal.at.resume-requires-clause-called c).After-owner_at-owner c.get_mut.result.now (running c.in-Some.is c.get_mut.ensures.value) c.execute.new.store c.execute.new.activation c.execute.new.pending _ c.in-Ok-Returned.value c.in-Ok-Returned.ensures.done c.in-Ok-Returned.field-0-is in
    let f = first c.args.context.program.now c.args.context.world.now c.args.store.now a.0 c.args.context.thread a.1 a.2 c.args.thread.now a.3 a.5 below caller last in
    subst (λ (store : Store). HasCalled c.args.context.program.now store caller) (sym r.2)
    (has_called c.args.context.program.now c.args.context.world.now c.args.store.now a.0 c.args.context.thread a.1 a.2 c.args.thread.now a.3 a.5 below caller last c.requires.lowered a.4 (a.7.callers f.caller f.below f.is))

pub returns-then-is_empty-clause-advances : goal.returns-then-is_empty-clause-advances
returns-then-is_empty-clause-advances c others own shared s shares h steady free =
    let p = c.args.context.program.now in
    let w = c.args.context.world.now in
    let old = c.args.store.now in
    let a = (goal.at.returns-then-is_empty-clause-advances c).After-owner_at-owner in
    let b = it a others own shared s shares h steady c.get_mut.result.now (running c.in-Some.is c.get_mut.ensures.value) in
    let left = does a others own shared s shares h steady c.get_mut.result.now (running c.in-Some.is c.get_mut.ensures.value) c.execute.new.store c.execute.new.activation c.execute.new.pending _ (Returned c.in-Ok-Returned.value) free c.in-Ok-Returned.ensures.done c.in-Ok-Returned.field-0-is in
    let none = nil_from_length c.args.thread.now.callers.items (omega (arith, none_by c.args.thread.now.callers.len (sym c.is_empty.ensures ∙ c.if-is_empty.true), c.args.thread.now.callers.ok.0)) in
    let alone = none_below p w.classes old.heap old.elements c.args.context.thread shared (reverse c.args.thread.now.callers.items) own.callers s.callers h.callers (ap reverse none) in
    returned p w old others c.args.context.thread own shared c.args.thread.now s h c.execute.new.store c.leave.new.store c.execute.new.pending c.leave.new.thread b.task b.rest alone b.is left.1 left.2 (steady.return left.0.0 (ap (next_effect shared s) b.is ∙ left.0.1)) left.3 c.requires.agrees.6 (left.0.0, left.0.1) c.leave.ensures.call c.leave.ensures.entering (ap (λ (v : Vec Activation). v.items) c.leave.ensures.callers ∙ none) c.leave.ensures.pending c.leave.ensures.calls c.leave.ensures.ending c.leave.ensures.monitors

pub returns-else-is_empty-clause-advances : goal.returns-else-is_empty-clause-advances
returns-else-is_empty-clause-advances c others own shared s shares h steady free =
    let p = c.args.context.program.now in
    let w = c.args.context.world.now in
    let old = c.args.store.now in
    let t = c.args.thread.now in
    let k = c.args.context.thread in
    let a = (goal.at.returns-else-is_empty-clause-advances c).After-owner_at-owner in
    let b = it a others own shared s shares h steady c.get_mut.result.now (running c.in-Some.is c.get_mut.ensures.value) in
    let left = does a others own shared s shares h steady c.get_mut.result.now (running c.in-Some.is c.get_mut.ensures.value) c.execute.new.store c.execute.new.activation c.execute.new.pending _ (Returned c.in-Ok-Returned.value) free c.in-Ok-Returned.ensures.done c.in-Ok-Returned.field-0-is in
    let some : 0 < length t.callers.items = omega (arith, positive t.callers.len (sym c.is_empty.ensures ∙ c.if-is_empty.false), t.callers.ok.0) in
    let e = last_of t.callers.items some in
    let f = first p w old others k own shared t s h e.0 e.1 e.2 in
    returned_into p w old others k own shared t s h e.0 e.1 e.2 c.requires.lowered shares (steady.callers f.caller f.below f.is) b.task b.rest b.is
    (steady.return left.0.0 (ap (next_effect shared s) b.is ∙ left.0.1)) c.execute.new.pending (subst (λ (store : Store). ReferenceAgrees store.heap c.execute.new.pending s.pending) left.2 left.3) c.in-Ok-Returned.value left.0.0 left.0.1
    (subst (λ (store : Store). ReturnAgrees store.heap c.in-Ok-Returned.value left.0.0) left.2 left.0.2) (Some c.execute.new.activation) c.resume.new.thread c.resume.new.store
    (subst (λ (store : Store). Resumes p c.in-Ok-Returned.value e.1 e.0 store c.resume.new.store (record t { call = Some c.execute.new.activation; pending = c.execute.new.pending }) c.resume.new.thread) left.2 (c.resume.ensures e.0 e.1 e.2))

pub returns-in-Err-clause-hindered : goal.returns-in-Err-clause-hindered
returns-in-Err-clause-hindered c others own shared s shares h steady free =
    let p = c.args.context.program.now in
    let w = c.args.context.world.now in
    let old = c.args.store.now in
    let a = (goal.at.returns-in-Err-clause-hindered c).After-owner_at-owner in
    let b = it a others own shared s shares h steady c.get_mut.result.now (running c.in-Some.is c.get_mut.ensures.value) in
    let told = c.in-Err.ensures.hindered (beside_callers others s) own.current shared s b.task b.rest (stands_as a others own shared s shares h steady c.get_mut.result.now (running c.in-Some.is c.get_mut.ensures.value) free) in
    subst (λ (a : source.Advance). IsHindered (left_of old.heap) (cells_made shared a) c.args.context.may_refuse c.in-Err.fault) (sym (ap (step_within (unit_tree p.unit) w.classes (in_use_with (beside_callers others s) s) c.args.context.thread shared s false) b.is)) told
