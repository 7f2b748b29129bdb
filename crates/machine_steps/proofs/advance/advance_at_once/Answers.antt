use Rattle.std.proofs.Common.{◌≡◌, ◌≤◌, ◌<◌, ℕ, false, List, [], ◌∷◌, length, Option, Some, None, refl, sym, ap, ◌∙◌, subst, arith, ◌⊎◌, ⊎_elim}
use Rattle.std.specs.Prelude.{slice_get}
use Rattle.code.specs.Call.{Call, call_view}
use Rattle.jni.specs.declared.function.JniFunction.TheVariants.{MonitorEnter}
use Rattle.jni.specs.declared.function.JniFunction.TheVariants as function
use Rattle.semantics.specs.ThreadStep.{waits}
use Rattle.semantics.specs.Thread as source
use Rattle.semantics.specs.Thread.{Shared}
use Rattle.semantics.specs.World.{World, loaded_objects}
use Rattle.semantics_safety.specs.Owners.{ThreadOwners}
use Rattle.machine_scenes.specs.Buffers.{Acquired}
use Rattle.machine_scenes.specs.declared.store.Store.{Store}
use Rattle.machine_threads.specs.ThreadAgrees.{ThreadAgrees}
use Rattle.machine_threads.specs.declared.thread.Thread.{Thread}
use Rattle.machine_calls.specs.CallState.{state_of}
use Rattle.machine_steps.specs.Advances.{Advances, StandsWithin, within}
use Rattle.machine_steps.specs.Invoked.{AtCall, DoesCall, StandsAtCall}
use Rattle.machine_steps.specs.declared.invoke.Invoked.TheVariants as invoked
use Rattle.code.specs.declared.instr.Instr.TheVariants as instr
use Rattle.code.specs.declared.instr.Plain.{Plain}
use Rattle.code.specs.declared.instr.Plain.TheVariants as plain
use Rattle.code_meaning.specs.Lowered.{IsLowered, Lowered}
use Rattle.code_meaning.specs.Slots.{visible_to}
use Rattle.semantics.specs.declared.event.Event.{Event}
use Rattle.semantics.specs.declared.event.Event.TheVariants as event
use Rattle.semantics.specs.declared.trap.Trap.TheVariants.{OutOfRange}
use Rattle.machine_threads.specs.Callers.{beside_callers, owner_at}
use Rattle.machine_steps.specs.Moved.{IsSilent, PathIsSeen}
use Rattle.machine_steps.specs.Waiting.{store_unowned, unowned}
use Rattle.machine_scenes.specs.declared.activation.Activation.{Activation}
use Rattle.machine_steps.specs.BufferElements.{LoadsElement}
use Rattle.machine_steps.proofs.Calls.{leads, one_word, room}
use Rattle.machine_steps.proofs.Effects.{few_words, plain_executes, test_executes}
use Rattle.machine_steps.proofs.ElementEffects.{load_executes}
use Rattle.machine_steps.proofs.SlotBuffers.{slot_of_block}
use Rattle.machine_steps.proofs.Fetched.{Fetched, at_call, reachable, ready_for}
use Rattle.machine_steps.proofs.Returns.{copier_is}
use Rattle.machine_steps.proofs.Threads.{Working, did}
use Rattle.machine_steps.proofs.Waits.{executes, goes_on, none_waits, place_there, value_enters, work, would_execute}
use Rattle.machine_steps.proofs.advance.advance_at_once.Goals as goal
use Rattle.machine_steps.proofs.advance.advance_at_once.Goals.{After-call-call, After-instr_at-instr}

-- what was fetched
fetched : (c : After-instr_at-instr) → IsLowered c.args.context.step.program.now → slice_get c.args.context.step.program.now.codes c.args.activation.now.function ≡ Some c.args.context.code.now → Fetched c.args.context.step.program.now c.args.store.now c.args.activation.now c.instr_at-instr.result.now
fetched c lowered of_function = record {
  code = c.args.context.code.now;
  lowered = lowered;
  of_function = of_function;
  at = c.instr_at-instr.ensures.instr;
  few = omega (arith, c.cells.ensures.cells, c.cells.ensures.limit);
}

-- the same where nobody owns a monitor
fetched_unowned : (c : After-instr_at-instr) → IsLowered c.args.context.step.program.now → slice_get c.args.context.step.program.now.codes c.args.activation.now.function ≡ Some c.args.context.code.now → Fetched c.args.context.step.program.now (store_unowned c.args.store.now) c.args.activation.now c.instr_at-instr.result.now
fetched_unowned c lowered of_function = record {
  code = c.args.context.code.now;
  lowered = lowered;
  of_function = of_function;
  at = c.instr_at-instr.ensures.instr;
  few = omega (arith, c.cells.ensures.cells, c.cells.ensures.limit);
}

silent : (path : Plain) (e : Event) → PathIsSeen path e → IsSilent e
silent path event.Quiet h = tt
silent path (event.Trapped trap line) h = tt
silent plain.Next (event.PrintedNumber z) h = absurd (cc)
silent (plain.Skip n) (event.PrintedNumber z) h = absurd (cc)
silent (plain.Back n) (event.PrintedNumber z) h = absurd (cc)
silent (plain.Trap trap line) (event.PrintedNumber z) h = absurd (let clash : event.PrintedNumber z ≡ event.Trapped h.0 line = h.2 in cc)

pub instr_at-instr-requires : goal.instr_at-instr-requires
instr_at-instr-requires c =
    let a = c.requires.stands in
    let p = c.args.context.step.program.now in
    let w = c.args.context.step.world.now in
    let k = c.args.context.step.thread in
    let h = a.5.in_code in
    let few : c.args.store.now.heap.cells ≤ 1048576 = omega (arith, c.cells.ensures.cells, c.cells.ensures.limit) in
    place_there p w c.args.store.now (beside_callers a.0 a.3) k a.1 a.2 a.4 a.3 c.args.activation.now h.stands.0 h.stands.1 h.in_progress h.stands.2 c.args.context.code.now h.lowered h.of_function few

pub run_plain-requires-clause-leads : goal.run_plain-requires-clause-leads
unfolding fetched_unowned
run_plain-requires-clause-leads c path stack numbers is =
    let a = c.requires.stands in
    let p = c.args.context.step.program.now in
    let w = c.args.context.step.world.now in
    let k = c.args.context.step.thread in
    let h = a.5.in_code in
    let store = c.args.store.now in
    let t = a.4 in
    let call = c.args.activation.now in
    let i = c.instr_at-instr.result.now in
    let f = fetched_unowned (goal.at.run_plain-requires-clause-leads c).After-instr_at-instr h.lowered h.of_function in
    let it = work p w store (beside_callers a.0 a.3) k a.1 a.2 t a.3 call h.stands.0 h.stands.1 h.in_progress h.stands.2 in
    let e = would_execute p w store (beside_callers a.0 a.3) k a.1 a.2 t a.3 call h.stands.0 h.stands.1 h.in_progress h.stands.2 in
    reachable f.code.instrs call.place path (length stack) c.instr_at-instr.ensures.few
    (leads p w.classes store.heap store.elements (owner_at k (length a.3.callers)) call f.code (visible_to a.1.current a.2 a.3) a.3.frames it.task it.rest
    (ready_for p w (store_unowned store) call i f t.pending (beside_callers a.0 a.3) k (owner_at k (length a.3.callers)) a.1.current (unowned a.2) a.3 it.task it.rest e) i f.at path stack numbers is)

pub test_null-requires-clause-room : goal.test_null-requires-clause-room
unfolding fetched_unowned
test_null-requires-clause-room c =
    let a = c.requires.stands in
    let p = c.args.context.step.program.now in
    let w = c.args.context.step.world.now in
    let k = c.args.context.step.thread in
    let h = a.5.in_code in
    let store = c.args.store.now in
    let t = a.4 in
    let call = c.args.activation.now in
    let i = c.instr_at-instr.result.now in
    let f = fetched_unowned (goal.at.test_null-requires-clause-room c).After-instr_at-instr h.lowered h.of_function in
    let it = work p w store (beside_callers a.0 a.3) k a.1 a.2 t a.3 call h.stands.0 h.stands.1 h.in_progress h.stands.2 in
    let e = would_execute p w store (beside_callers a.0 a.3) k a.1 a.2 t a.3 call h.stands.0 h.stands.1 h.in_progress h.stands.2 in
    few_words c.in-TestNull.variable c.in-TestNull.equal (length call.stack)
    (room p w.classes store.heap store.elements (owner_at k (length a.3.callers)) call f.code (visible_to a.1.current a.2 a.3) a.3.frames it.task it.rest
    (ready_for p w (store_unowned store) call i f t.pending (beside_callers a.0 a.3) k (owner_at k (length a.3.callers)) a.1.current (unowned a.2) a.3 it.task it.rest e) (instr.TestNull c.in-TestNull.variable c.in-TestNull.equal) (f.at ∙ ap (λ j. Some j) c.in-TestNull.is))

pub load_element-requires-clause-operand : goal.load_element-requires-clause-operand
unfolding fetched_unowned
load_element-requires-clause-operand c =
    let a = c.requires.stands in
    let p = c.args.context.step.program.now in
    let w = c.args.context.step.world.now in
    let k = c.args.context.step.thread in
    let h = a.5.in_code in
    let store = c.args.store.now in
    let t = a.4 in
    let call = c.args.activation.now in
    let i = c.instr_at-instr.result.now in
    let f = fetched_unowned (goal.at.load_element-requires-clause-operand c).After-instr_at-instr h.lowered h.of_function in
    let it = work p w store (beside_callers a.0 a.3) k a.1 a.2 t a.3 call h.stands.0 h.stands.1 h.in_progress h.stands.2 in
    let e = would_execute p w store (beside_callers a.0 a.3) k a.1 a.2 t a.3 call h.stands.0 h.stands.1 h.in_progress h.stands.2 in
    one_word c.in-LoadBuffer.slot c.in-LoadBuffer.line (length call.stack)
    (room p w.classes store.heap store.elements (owner_at k (length a.3.callers)) call f.code (visible_to a.1.current a.2 a.3) a.3.frames it.task it.rest
    (ready_for p w (store_unowned store) call i f t.pending (beside_callers a.0 a.3) k (owner_at k (length a.3.callers)) a.1.current (unowned a.2) a.3 it.task it.rest e) (instr.LoadBuffer c.in-LoadBuffer.slot c.in-LoadBuffer.line) (f.at ∙ ap (λ j. Some j) c.in-LoadBuffer.is))

pub load_element-requires-clause-block : goal.load_element-requires-clause-block
load_element-requires-clause-block c =
    let a = c.requires.stands in
    let p = c.args.context.step.program.now in
    let w = c.args.context.step.world.now in
    let k = c.args.context.step.thread in
    let h = a.5.in_code in
    let store = c.args.store.now in
    let t = a.4 in
    let call = c.args.activation.now in
    let e = would_execute p w store (beside_callers a.0 a.3) k a.1 a.2 t a.3 call h.stands.0 h.stands.1 h.in_progress h.stands.2 in
    slot_of_block store.heap store.elements (owner_at k (length a.3.callers)) call.slots.buffers.items e.stands.meant.buffers c.in-LoadBuffer.slot e.stands.holds.buffers

pub returns-in-TestNull : goal.returns-in-TestNull
returns-in-TestNull c = record {
  advances = λ others own shared s t hw.
      let p = c.args.context.step.program.now in
      let w = c.args.context.step.world.now in
      let k = c.args.context.step.thread in
      let h = hw.in_code in
      let stands = h.stands in
      let store = c.args.store.now in
      let call = c.args.activation.now in
      let i = c.instr_at-instr.result.now in
      let at = (goal.at.returns-in-TestNull c).After-instr_at-instr in
      let f = fetched at h.lowered h.of_function in
      let free = goes_on p w store (beside_callers others s) k own shared t s call stands.0 stands.1 h.in_progress stands.2 i (fetched_unowned at h.lowered h.of_function) (λ x is enters. absurd (let both : instr.TestNull c.in-TestNull.variable c.in-TestNull.equal ≡ instr.Call x = sym c.in-TestNull.is ∙ is in cc)) in
      let it = work p w store (beside_callers others s) k own shared t s call stands.0 stands.1 h.in_progress stands.2 in
      let e = executes p w store (beside_callers others s) k own shared t s call stands.0 stands.1 h.in_progress stands.2 free in (
        free,
        subst (λ (o : Option ℕ). Advances p w store store others k own shared s (within c.test_null.new.activation o t) false event.Quiet) hw.pending_is
            (did p w store others k own shared t s stands.1 store false event.Quiet it.task it.rest it.is c.test_null.new.activation t.pending
            (test_executes p w store (beside_callers others s) k (owner_at k (length s.callers)) own.current shared s e.store_agrees t.pending e.pending_agrees call f.code it.task it.rest (ready_for p w store call i f t.pending (beside_callers others s) k (owner_at k (length s.callers)) own.current shared s it.task it.rest e) e.tasks e.views e.steady i f.at
            c.in-TestNull.variable c.in-TestNull.equal c.test_null.new.activation c.in-TestNull.is c.test_null.ensures)),
      );
  kept = tt;
  function = c.test_null.ensures.function;
  silent = tt;
}

-- an element is loaded within the function
loaded_within : (line : ℕ) (words : List ℕ) (o : Option ℕ) (activation after : Activation) (e : Event) → LoadsElement line words o activation after e → after.function ≡ activation.function
loaded_within line words (Some word) activation after e h = h.0.function
loaded_within line words None activation after e h = ap (λ (a : Activation). a.function) h.0

within_with : (words : List ℕ) (line : ℕ) (o : ℕ → Option ℕ) (activation after : Activation) (e : Event) → 0 < length words → ((index : ℕ) (stack : List ℕ) → words ≡ index ∷ stack → LoadsElement line stack (o index) activation after e) → after.function ≡ activation.function
within_with [] line o activation after e some h = absurd (omega (arith, some))
within_with (index ∷ stack) line o activation after e some h = loaded_within line stack (o index) activation after e (h index stack refl)

-- an element is loaded in silence
loaded_silent : (line : ℕ) (words : List ℕ) (o : Option ℕ) (activation after : Activation) (e : Event) → LoadsElement line words o activation after e → IsSilent e
loaded_silent line words o activation after event.Quiet h = tt
loaded_silent line words o activation after (event.Trapped trap at) h = tt
loaded_silent line words (Some word) activation after (event.PrintedNumber z) h = absurd (let clash : event.PrintedNumber z ≡ event.Quiet = h.1 in cc)
loaded_silent line words None activation after (event.PrintedNumber z) h = absurd (let clash : event.PrintedNumber z ≡ event.Trapped OutOfRange line = h.1 in cc)

silent_with : (words : List ℕ) (line : ℕ) (o : ℕ → Option ℕ) (activation after : Activation) (e : Event) → 0 < length words → ((index : ℕ) (stack : List ℕ) → words ≡ index ∷ stack → LoadsElement line stack (o index) activation after e) → IsSilent e
silent_with [] line o activation after e some h = absurd (omega (arith, some))
silent_with (index ∷ stack) line o activation after e some h = loaded_silent line stack (o index) activation after e (h index stack refl)

pub returns-in-LoadBuffer : goal.returns-in-LoadBuffer
returns-in-LoadBuffer c =
    let a = c.requires.stands in
    let p = c.args.context.step.program.now in
    let w = c.args.context.step.world.now in
    let k = c.args.context.step.thread in
    let h = a.5.in_code in
    let store = c.args.store.now in
    let t = a.4 in
    let call = c.args.activation.now in
    let i = c.instr_at-instr.result.now in
    let f = fetched_unowned (goal.at.returns-in-LoadBuffer c).After-instr_at-instr h.lowered h.of_function in
    let it = work p w store (beside_callers a.0 a.3) k a.1 a.2 t a.3 call h.stands.0 h.stands.1 h.in_progress h.stands.2 in
    let e = would_execute p w store (beside_callers a.0 a.3) k a.1 a.2 t a.3 call h.stands.0 h.stands.1 h.in_progress h.stands.2 in
    let some = one_word c.in-LoadBuffer.slot c.in-LoadBuffer.line (length call.stack)
    (room p w.classes store.heap store.elements (owner_at k (length a.3.callers)) call f.code (visible_to a.1.current a.2 a.3) a.3.frames it.task it.rest
    (ready_for p w (store_unowned store) call i f t.pending (beside_callers a.0 a.3) k (owner_at k (length a.3.callers)) a.1.current (unowned a.2) a.3 it.task it.rest e) (instr.LoadBuffer c.in-LoadBuffer.slot c.in-LoadBuffer.line) (f.at ∙ ap (λ j. Some j) c.in-LoadBuffer.is)) in
    record {
      advances = λ others own shared s t hw.
          let p = c.args.context.step.program.now in
          let w = c.args.context.step.world.now in
          let k = c.args.context.step.thread in
          let h = hw.in_code in
          let stands = h.stands in
          let store = c.args.store.now in
          let call = c.args.activation.now in
          let i = c.instr_at-instr.result.now in
          let at = (goal.at.returns-in-LoadBuffer c).After-instr_at-instr in
          let f = fetched at h.lowered h.of_function in
          let free = goes_on p w store (beside_callers others s) k own shared t s call stands.0 stands.1 h.in_progress stands.2 i (fetched_unowned at h.lowered h.of_function) (λ x is enters. absurd (let both : instr.LoadBuffer c.in-LoadBuffer.slot c.in-LoadBuffer.line ≡ instr.Call x = sym c.in-LoadBuffer.is ∙ is in cc)) in
          let it = work p w store (beside_callers others s) k own shared t s call stands.0 stands.1 h.in_progress stands.2 in
          let e = executes p w store (beside_callers others s) k own shared t s call stands.0 stands.1 h.in_progress stands.2 free in (
            free,
            subst (λ (o : Option ℕ). Advances p w store store others k own shared s (within c.load_element.new.activation o t) false c.load_element.result) hw.pending_is
                (did p w store others k own shared t s stands.1 store false c.load_element.result it.task it.rest it.is c.load_element.new.activation t.pending
                (load_executes p w store (beside_callers others s) k (owner_at k (length s.callers)) own.current shared s e.store_agrees t.pending e.pending_agrees call f.code it.task it.rest (ready_for p w store call i f t.pending (beside_callers others s) k (owner_at k (length s.callers)) own.current shared s it.task it.rest e) e.tasks e.views e.steady i f.at
                c.in-LoadBuffer.slot c.in-LoadBuffer.line c.load_element.new.activation c.load_element.result c.in-LoadBuffer.is c.load_element.ensures)),
          );
      kept = tt;
      function = within_with call.stack c.in-LoadBuffer.line _ call c.load_element.new.activation c.load_element.result some c.load_element.ensures;
      silent = silent_with call.stack c.in-LoadBuffer.line _ call c.load_element.new.activation c.load_element.result some c.load_element.ensures;
    }

pub returns-in_default : goal.returns-in_default
returns-in_default c = record {
  advances = λ others own shared s t hw.
      let p = c.args.context.step.program.now in
      let w = c.args.context.step.world.now in
      let k = c.args.context.step.thread in
      let h = hw.in_code in
      let stands = h.stands in
      let store = c.args.store.now in
      let call = c.args.activation.now in
      let i = c.instr_at-instr.result.now in
      let at = (goal.at.returns-in_default c).After-instr_at-instr in
      let f = fetched at h.lowered h.of_function in
      let free = goes_on p w store (beside_callers others s) k own shared t s call stands.0 stands.1 h.in_progress stands.2 i (fetched_unowned at h.lowered h.of_function) (λ x is enters. c.in_default.not-Call x is) in
      let it = work p w store (beside_callers others s) k own shared t s call stands.0 stands.1 h.in_progress stands.2 in
      let e = executes p w store (beside_callers others s) k own shared t s call stands.0 stands.1 h.in_progress stands.2 free in
      let m = c.run_plain.ensures in (
        free,
        subst (λ (o : Option ℕ). Advances p w store store others k own shared s (within c.run_plain.new.activation o t) false c.run_plain.result) hw.pending_is
            (did p w store others k own shared t s stands.1 store false c.run_plain.result it.task it.rest it.is c.run_plain.new.activation t.pending
            (plain_executes p w store (beside_callers others s) k (owner_at k (length s.callers)) own.current shared s e.store_agrees t.pending e.pending_agrees call f.code it.task it.rest (ready_for p w store call i f t.pending (beside_callers others s) k (owner_at k (length s.callers)) own.current shared s it.task it.rest e) e.tasks e.views e.steady i f.at
            c.run_plain.new.activation c.run_plain.result m.path m.stack m.numbers m.is m.moved m.path_seen)),
      );
  kept = tt;
  function = c.run_plain.ensures.moved.function;
  silent = silent c.run_plain.ensures.path c.run_plain.result c.run_plain.ensures.path_seen;
}

-- the call of the instruction
is_call : (c : After-call-call) → c.instr_at-instr.result.now ≡ instr.Call (call_view c.call-call.result.now)
is_call c = c.in-Call.is ∙ ap (λ (x : Call). instr.Call x) (sym c.call-call.ensures.view)

-- where it is no call of MonitorEnter
enters_none : (c : After-call-call) → (c.call-call.result.now.function ≡ function.MonitorEnter → ⊥) → (x : Call) → c.instr_at-instr.result.now ≡ instr.Call x → x.function ≡ MonitorEnter → ⊥
enters_none c other x is enters =
    let same : call_view c.call-call.result.now ≡ x = let both : instr.Call (call_view c.call-call.result.now) ≡ instr.Call x = sym (is_call c) ∙ is in cc in
    other (value_enters c.call-call.result.now.function (ap (λ (y : Call). y.function) same ∙ enters))

-- the owner of what it copies
owner_there : (p : Lowered) (w : World) (store : Store) (k : ℕ) (own : ThreadOwners) (shared : Shared) (t : Thread) (s : source.Thread) (owner : ℕ) → ThreadAgrees p w.classes store.heap store.elements (length (loaded_objects w)) k own shared t s → owner ≡ owner_at k (length t.callers.items) → owner ≡ owner_at k (length s.callers)
owner_there p w store k own shared t s owner h is = is ∙ copier_is p w.classes store.heap store.elements (length (loaded_objects w)) k own shared t s h (length t.callers.items) refl

-- whatever thread of the source it stands for
module _ (c : After-call-call) (others : Acquired) (own : ThreadOwners) (shared : Shared) (s : source.Thread) (t : Thread) (hw : StandsWithin c.args.context.step.program.now c.args.context.step.world.now c.args.store.now others c.args.context.step.thread own shared s t c.args.context.code.now c.args.activation.now c.args.pending.now c.args.context.owner) where
  abbrev p : Lowered
  p = c.args.context.step.program.now

  abbrev w : World
  w = c.args.context.step.world.now

  abbrev store : Store
  store = c.args.store.now

  abbrev call : Activation
  call = c.args.activation.now

  abbrev k : ℕ
  k = c.args.context.step.thread

  abbrev rest_of : Acquired
  rest_of = beside_callers others s

  abbrev copier : ℕ
  copier = owner_at k (length s.callers)

  abbrev it : Working p w.classes store.heap store.elements copier call (visible_to own.current shared s) s.frames s.tasks
  it = work p w store rest_of k own shared t s call hw.in_code.stands.0 hw.in_code.stands.1 hw.in_code.in_progress hw.in_code.stands.2

  abbrev Free : Type 0
  Free = waits w.classes k shared s ≡ false

  free_of : (c.call-call.result.now.function ≡ function.MonitorEnter → ⊥) → Free
  free_of other =
      let at = (goal.at.After-call-call c).After-instr_at-instr in
      goes_on p w store rest_of k own shared t s call hw.in_code.stands.0 hw.in_code.stands.1 hw.in_code.in_progress hw.in_code.stands.2 c.instr_at-instr.result.now (fetched_unowned at hw.in_code.lowered hw.in_code.of_function) (enters_none c other)

  free_by : ((c.call-call.result.now.function ≡ function.MonitorEnter → ⊥) ⊎ (length store.monitors ≡ 0)) → Free
  free_by h = ⊎_elim free_of (λ (none : length store.monitors ≡ 0). none_waits w.classes k shared s store.monitors hw.in_code.stands.0.monitors none) h

  at_it : Free → AtCall p w store t.pending call c.call-call.result.now rest_of k copier own.current shared s it.task it.rest
  at_it free =
      let at = (goal.at.After-call-call c).After-instr_at-instr in
      at_call p w store t.pending call c.instr_at-instr.result.now (fetched at hw.in_code.lowered hw.in_code.of_function) c.call-call.result.now (is_call c) rest_of k copier own.current shared s it.task it.rest
      (executes p w store rest_of k own shared t s call hw.in_code.stands.0 hw.in_code.stands.1 hw.in_code.in_progress hw.in_code.stands.2 free)

  owner_same : c.args.context.owner ≡ copier
  owner_same = owner_there p w store k own shared t s c.args.context.owner hw.in_code.stands.1 hw.owner_is

  at_call_here : Free → StandsAtCall p w k c.args.context.owner (state_of store c.args.pending.now call) c.call-call.result.now
  at_call_here free = (
    rest_of,
    own.current,
    shared,
    s,
    it.task,
    it.rest,
    subst (λ (n : ℕ). AtCall p w store c.args.pending.now call c.call-call.result.now rest_of k n own.current shared s it.task it.rest) (sym owner_same)
        (subst (λ (o : Option ℕ). AtCall p w store o call c.call-call.result.now rest_of k copier own.current shared s it.task it.rest) hw.pending_is (at_it free)),
  )

  -- the step that it takes
  steps : (later : Store) (after : Activation) (left : Option ℕ) → DoesCall p w k c.args.context.owner (state_of store c.args.pending.now call) (state_of later left after) c.call-call.result.now invoked.Done → Free → Advances p w store later others k own shared s (within after left t) false event.Quiet
  steps later after left done free =
      let does =
      subst (λ (n : ℕ). DoesCall p w k n (state_of store t.pending call) (state_of later left after) c.call-call.result.now invoked.Done) owner_same
      (subst (λ (o : Option ℕ). DoesCall p w k c.args.context.owner (state_of store o call) (state_of later left after) c.call-call.result.now invoked.Done) (sym hw.pending_is) done) in
      did p w store others k own shared t s hw.in_code.stands.1 later false event.Quiet it.task it.rest it.is after left
      (does rest_of own.current shared s it.task it.rest (at_it free))

pub call_at_once-requires-clause-at_call : goal.call_at_once-requires-clause-at_call
call_at_once-requires-clause-at_call c free =
    let a = c.requires.stands in
    let there = (goal.at.call_at_once-requires-clause-at_call c).After-call-call in
    at_call_here there a.0 a.1 a.2 a.3 a.4 a.5 (free_by there a.0 a.1 a.2 a.3 a.4 a.5 free)

pub returns-then-call_at_once : goal.returns-then-call_at_once
returns-then-call_at_once c = record {
  advances = λ others own shared s t hw.
      let there = (goal.at.returns-then-call_at_once c).After-call-call in
      let free = free_by there others own shared s t hw (c.call_at_once.ensures.free c.if-call_at_once.true) in
      (free, steps there others own shared s t hw c.call_at_once.new.store c.call_at_once.new.activation c.call_at_once.new.pending (c.call_at_once.ensures.done c.if-call_at_once.true) free);
  silent = tt;
  kept = tt;
  function = c.call_at_once.ensures.function;
}
