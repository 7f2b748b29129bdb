-- Steps that change which call is in progress are those of the source's thread.
use Rattle.std.proofs.Common.{◌≡◌, ℕ, ◌+◌, ◌<◌, Bool, true, false, List, [], ◌∷◌, ◌++◌, length, reverse, Option, Some, None, refl, sym, ap, ◌∙◌, subst, arith}
use Rattle.std.specs.Prelude.{if◌then◌else◌, nat_le}
use Rattle.std.proofs.lemmas.Bool.{leb-true}
use Rattle.std.proofs.lemmas.List.{length-reverse}
use Rattle.code.specs.Call.{call_view}
use Rattle.code.specs.declared.instr.Call.{Call as InMemory}
use Rattle.code.specs.declared.instr.Instr.{Instr}
use Rattle.code.specs.declared.instr.Instr.TheVariants as instr
use Rattle.code_meaning.specs.Does.{IsReturn}
use Rattle.code_meaning.specs.Lowered.{IsLowered, Lowered}
use Rattle.code_meaning.specs.Slots.{visible_to}
use Rattle.machine_answers.specs.declared.answer.Answer.TheVariants as answer
use Rattle.machine_scenes.specs.Buffers.{Acquired}
use Rattle.machine_scenes.specs.Given.{method_at, operand_of}
use Rattle.machine_scenes.specs.declared.activation.Activation.{Activation}
use Rattle.machine_scenes.specs.declared.handle.MethodHandle.{MethodHandle}
use Rattle.machine_scenes.specs.declared.store.Store.{Store}
use Rattle.machine_threads.proofs.Reversed.{callers_counted}
use Rattle.machine_threads.specs.Callers.{beside_callers, owner_at}
use Rattle.machine_threads.specs.Entry.{IsReady}
use Rattle.machine_threads.specs.ThreadAgrees.{ThreadAgrees}
use Rattle.machine_threads.specs.declared.thread.Entering.{Entering}
use Rattle.machine_threads.specs.declared.thread.Thread.{Thread}
use Rattle.machine_steps.proofs.CalledMethods.{is_called}
use Rattle.machine_steps.proofs.Effects.{return_executes}
use Rattle.machine_steps.proofs.Entries.{coming, enters, ready_to_begin}
use Rattle.machine_steps.proofs.Fetched.{Fetched, at_call, ready_for}
use Rattle.machine_steps.proofs.MethodCalls.{calls_on}
use Rattle.machine_steps.proofs.Pushes.{pushed_on}
use Rattle.machine_steps.proofs.Returns.{First, first, has_called, returned_into}
use Rattle.machine_steps.proofs.Threads.{Working, resting}
use Rattle.machine_steps.proofs.Waits.{executes, goes_on, work}
use Rattle.machine_steps.specs.Advances.{Advances, Stands}
use Rattle.machine_steps.specs.Executes.{Executes, IsCalling, IsExecuting}
use Rattle.machine_steps.specs.Invoked.{AtCall, IsAnswered, executed_as}
use Rattle.machine_steps.specs.Pushed.{IsNext, PushesMethod}
use Rattle.machine_steps.specs.Resumed.{HasCalled, Resumes}
use Rattle.machine_steps.specs.Returned.{given_by}
use Rattle.machine_steps.specs.Waiting.{store_unowned}
use Rattle.machine_steps.specs.declared.invoke.Invoked.TheVariants as invoked
use Rattle.jni.specs.declared.function.JniFunction.TheVariants.{MonitorEnter}
use Rattle.semantics.specs.Effect.{effect_of}
use Rattle.semantics.specs.Task.{Task}
use Rattle.semantics.specs.Thread as source
use Rattle.semantics.specs.Thread.{Shared, sight_of}
use Rattle.semantics.specs.ThreadStep.{next_effect, waits}
use Rattle.semantics.specs.CallStep.{waits_with}
use Rattle.semantics.specs.World.{World, loaded_objects}
use Rattle.semantics.specs.declared.event.Event.TheVariants.{Quiet}
use Rattle.semantics.specs.declared.trap.Trap.TheVariants.{CallsTooDeep}
use Rattle.semantics_safety.specs.Owners.{ThreadOwners}
use Rattle.code.specs.Call.{Call}

module _ (p : Lowered) (w : World) (store : Store) (others : Acquired) (k : ℕ) (own : ThreadOwners) (shared : Shared) (t : Thread) (s : source.Thread) (lowered : IsLowered p) (stands : Stands p w store others k own shared s t) where
  abbrev h : ThreadAgrees p w.classes store.heap store.elements (length (loaded_objects w)) k own shared t s
  h = stands.1

  abbrev rest_of : Acquired
  rest_of = beside_callers others s

  abbrev owner : ℕ
  owner = owner_at k (length s.callers)

  -- ---- an entry

  module _ (none : t.call ≡ None) where
    rests : s.tasks ≡ None
    rests = resting p w.classes store.heap store.elements owner (visible_to own.current shared s) s.frames t.call s.tasks h.work none

    pub entry_waits : waits w.classes k shared s ≡ false
    entry_waits = ap (λ (tasks : Option (List Task)). waits_with w.classes k shared s (next_effect shared s tasks)) rests

  -- what is to be entered can be
  pub ready_to_enter : (entering : Entering) → t.entering ≡ Some entering → IsReady p (length store.loaded.items) entering
  ready_to_enter entering is =
      let next : IsNext store.loaded.items t.entering t.calls.items t.calls.items entering = of_caller store.loaded.items t.entering entering is in
      let n = coming p w.classes store.heap store.loaded.items (length (loaded_objects w)) t.entering entering t.calls.items t.calls.items s.calls stands.0.table h.calls next in
      subst (λ (m : ℕ). IsReady p m entering) (sym stands.0.table.counted) (ready_to_begin p w.classes store.heap (length (loaded_objects w)) entering n.call lowered n.function)
    where
      of_caller : (loaded : List ℕ) (o : Option Entering) (e : Entering) → o ≡ Some e → IsNext loaded o t.calls.items t.calls.items e
      of_caller loaded None e is = absurd (cc)
      of_caller loaded (Some x) e is = let same : x ≡ e = cc in (sym same, refl)

  -- ---- a call in progress

  module _ (call : Activation) (is : t.call ≡ Some call) (i : Instr) (f : Fetched p store call i) where
    abbrev pub it : Working p w.classes store.heap store.elements owner call (visible_to own.current shared s) s.frames s.tasks
    it = work p w store rest_of k own shared t s call stands.0 h is stands.2

    unowned : Fetched p (store_unowned store) call i
    unowned = record { code = f.code; lowered = f.lowered; of_function = f.of_function; at = f.at; few = f.few }

    module _ (none : (c : Call) → i ≡ instr.Call c → c.function ≡ MonitorEnter → ⊥) where
      pub free : waits w.classes k shared s ≡ false
      free = goes_on p w store rest_of k own shared t s call stands.0 h is stands.2 i unowned none

      pub executing : IsExecuting p w store call t.pending rest_of k owner own.current shared s it.task it.rest
      executing = executes p w store rest_of k own shared t s call stands.0 h is stands.2 free

      -- ---- a call of a method

      pub at_it : (function : InMemory) → i ≡ instr.Call (call_view function) → AtCall p w store t.pending call function rest_of k owner own.current shared s it.task it.rest
      at_it function calls = at_call p w store t.pending call i f function calls rest_of k owner own.current shared s it.task it.rest executing

      module _ (function : InMemory) (calls : i ≡ instr.Call (call_view function)) (given : IsAnswered p w store t.pending call k function answer.Calls) (few : length t.callers.items + 1 < 64) where
        below : length s.callers ≡ length t.callers.items
        below = sym (callers_counted p w.classes store.heap store.elements k shared (reverse t.callers.items) own.callers s.callers h.callers) ∙ length-reverse t.callers.items

        shallow : nat_le 64 (length s.callers + 1) ≡ false
        shallow = by_test (nat_le 64 (length s.callers + 1)) refl
          where
            by_test : (b : Bool) → nat_le 64 (length s.callers + 1) ≡ b → b ≡ false
            by_test false e = refl
            by_test true e = absurd (let least = leb-true 64 (length s.callers + 1) e in omega (arith, least, few, below))

        pub calling : IsCalling w.classes shared s (effect_of (sight_of shared s) it.task)
        calling =
            let told = calls_on p w store t.pending call function rest_of k owner own.current shared s it.task it.rest (at_it function calls) given in
            subst (λ (b : Bool). Executes p w store store rest_of k owner own.current shared s it.rest call t.pending (effect_of (sight_of shared s) it.task) (executed_as function.line (if b then invoked.Trapped CallsTooDeep else invoked.Calls))) shallow told

        pub pushed : (method : MethodHandle) → method_at call.slots.fields.items (operand_of function.operands.items 1) ≡ Some method → (after : Thread) → PushesMethod store call function method t after → Advances p w store store others k own shared s after false Quiet
        pushed method found after d =
            pushed_on p w store others k own shared t s h stands.0 call it.task it.rest executing calling after (record {
              entering = d.entering;
              callers = d.callers;
              spare = d.spare;
              last = d.last;
              pushed = d.pushed;
              called = is_called p w store call function i f calls given.sound method found d.entering d.function d.class d.arguments;
            })

    -- ---- a return

    module _ (returns : IsReturn i) where
      pub no_call : (c : Call) → i ≡ instr.Call c → c.function ≡ MonitorEnter → ⊥
      no_call c same enters = subst IsReturn same returns

      module _ (below : List Activation) (caller : Activation) (last : t.callers.items ≡ below ++ caller ∷ []) where
        abbrev there : First p w.classes store.heap store.elements k shared caller (reverse below) own.callers s.callers
        there = first p w store others k own shared t s h below caller last

        pub caller_called : HasCalled p store caller
        caller_called = has_called p w store others k own shared t s h below caller last lowered stands.0 (stands.2.callers there.caller there.below there.is)

        pub returned_to : (after : Thread) (left : Store) → Resumes p (given_by i call) caller below store left t after → Advances p w store left others k own shared s after false Quiet
        returned_to after left d =
            let e = executing no_call in
            let given = return_executes p w store rest_of k owner own.current shared s e.store_agrees t.pending e.pending_agrees call f.code it.task it.rest
            (ready_for p w store call i f t.pending rest_of k owner own.current shared s it.task it.rest e) e.tasks e.views e.steady i f.at returns call in
            returned_into p w store others k own shared t s h below caller last lowered stands.0 (stands.2.callers there.caller there.below there.is) it.task it.rest it.is
            (stands.2.return given.0.0 (ap (next_effect shared s) it.is ∙ given.0.1)) t.pending h.pending (given_by i call) given.0.0 given.0.1 given.0.2 t.call after left d
