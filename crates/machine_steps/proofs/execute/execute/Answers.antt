use Rattle.std.proofs.Common.{ℕ, rules, ◌≡◌, ◌≤◌, ◌+◌, Some, List, length, refl, sym, ap, ◌∙◌, subst, arith, ℤ}
use Rattle.std.specs.Int.{w32, cast_signed, cast_unsigned}
use Rattle.std.specs.Vec.{with_items}
use Rattle.std.proofs.Math.Facts.{to_z-of_z}
use Rattle.std.proofs.lemmas.List.{length-map, with_items_is, places}
use Rattle.std.proofs.lemmas.Option.{slice_get_within}
use Rattle.code.specs.Call.{Call}
use Rattle.code.specs.declared.instr.Instr.TheVariants as instr
use Rattle.semantics.specs.Effect.{effect_of}
use Rattle.semantics.specs.Thread.{sight_of}
use Rattle.code_meaning.specs.Slots.{visible_to}
use Rattle.machine_steps.specs.declared.execute.ReturnValue.{ReturnValue}
use Rattle.machine_scenes.specs.declared.activation.Activation.{Activation}
use Rattle.semantics.specs.declared.event.Event.TheVariants.{PrintedNumber}
use Rattle.machine_steps.specs.declared.execute.Executed.{Executed}
use Rattle.machine_steps.specs.declared.execute.Executed.TheVariants as executed
use Rattle.machine_steps.specs.Invoked.{executed_as}
use Rattle.machine_steps.specs.declared.invoke.Invoked.{Invoked}
use Rattle.machine_steps.specs.declared.invoke.Invoked.TheVariants as invoked
use Rattle.machine_steps.specs.declared.execute.Executed.TheVariants.{Did, Returned}
use Rattle.machine_steps.specs.Executes.{Executes}
use Rattle.machine_scenes.specs.Statics.{all_held, held}
use Rattle.machine_scenes.specs.Statics.{StaticReference}
use Rattle.machine_calls.proofs.HeldStatics.{statics_count}
use Rattle.machine_steps.specs.Variables.{HasSlot, nulled_statics}
use Rattle.machine_steps.proofs.Calls.{ready, here, room, leads, one_word, positive, two_words}
use Rattle.machine_steps.proofs.Fetched.{Fetched, at_call, possible, reachable, ready_for, seeing}
use Rattle.machine_steps.proofs.ElementEffects.{load_executes, store_executes as element_store_executes}
use Rattle.machine_steps.proofs.SlotBuffers.{slot_of_block}
use Rattle.machine_steps.proofs.Effects.{few_words, slot_there as variable_there, plain_executes, test_executes, store_executes, put_executes, return_executes}
use Rattle.machine_steps.proofs.CallsThere.{returns_is}
use Rattle.machine_steps.proofs.execute.execute.Goals as goal
use Rattle.machine_steps.proofs.execute.execute.Goals.{After-instr_at-instr}

-- what was fetched
fetched : (c : After-instr_at-instr) → Fetched c.args.context.program.now c.args.store.now c.args.activation.now c.instr_at-instr.result.now
fetched c = record {
  code = c.code_at-code.result.now;
  lowered = c.requires.lowered;
  of_function = c.code_at-code.ensures.code;
  at = c.instr_at-instr.ensures.instr;
  few = omega (arith, c.cells.ensures.cells, c.cells.ensures.limit);
}

pub code_at-code-requires : goal.code_at-code-requires
code_at-code-requires c =
    let s = c.requires.stands in
    slice_get_within c.args.context.program.now.codes c.args.activation.now.function s.6.stands.code s.6.stands.of_function

pub instr_at-instr-requires : goal.instr_at-instr-requires
instr_at-instr-requires c =
    let s = c.requires.stands in
    let code = c.code_at-code.result.now in
    let few : c.args.store.now.heap.cells ≤ 1048576 = omega (arith, c.cells.ensures.cells, c.cells.ensures.limit) in
    let h = here c.args.context.program.now c.args.context.world.now.classes c.args.store.now.heap c.args.store.now.elements c.args.owner c.args.activation.now code (visible_to s.1 s.2 s.3) s.3.frames s.4 s.5
    (ready c.args.context.program.now c.args.context.world.now.classes c.args.store.now.heap c.args.store.now.elements c.args.owner c.args.activation.now code (visible_to s.1 s.2 s.3) s.3.frames s.4 s.5 c.requires.lowered c.code_at-code.ensures.code s.6.stands
    (seeing c.args.context.program.now c.args.context.world.now c.args.store.now c.args.activation.now c.args.pending.now s.0 c.args.context.thread c.args.owner s.1 s.2 s.3 s.4 s.5 s.6 few))
    (possible c.args.context.program.now c.args.context.world.now c.args.store.now c.args.activation.now c.args.pending.now s.0 c.args.context.thread c.args.owner s.1 s.2 s.3 s.4 s.5 s.6) in
    slice_get_within code.instrs c.args.activation.now.place h.0 h.1

pub test_null-requires-clause-room : goal.test_null-requires-clause-room
test_null-requires-clause-room c =
    let s = c.requires.stands in
    let f = fetched (goal.at.test_null-requires-clause-room c).After-instr_at-instr in
    few_words c.in-TestNull.variable c.in-TestNull.equal (length c.args.activation.now.stack)
    (room c.args.context.program.now c.args.context.world.now.classes c.args.store.now.heap c.args.store.now.elements c.args.owner c.args.activation.now f.code (visible_to s.1 s.2 s.3) s.3.frames s.4 s.5 (ready_for c.args.context.program.now c.args.context.world.now c.args.store.now c.args.activation.now c.instr_at-instr.result.now f c.args.pending.now s.0 c.args.context.thread c.args.owner s.1 s.2 s.3 s.4 s.5 s.6) (instr.TestNull c.in-TestNull.variable c.in-TestNull.equal) (f.at ∙ ap (λ i. Some i) c.in-TestNull.is))

pub store_null-requires-clause-slot : goal.store_null-requires-clause-slot
store_null-requires-clause-slot c =
    let s = c.requires.stands in
    let f = fetched (goal.at.store_null-requires-clause-slot c).After-instr_at-instr in
    let count : length s.2.statics ≡ length c.args.store.now.statics.items =
    sym (statics_count c.args.store.now.heap (all_held c.args.store.now.globals c.args.store.now.weaks c.args.store.now.statics.items) s.2.statics s.6.store_agrees.statics) ∙ length-map c.args.store.now.statics.items (held c.args.store.now.globals c.args.store.now.weaks) in
    let there = variable_there c.args.context.program.now c.args.context.world.now.classes c.args.store.now.heap c.args.store.now.elements c.args.owner c.args.activation.now f.code (visible_to s.1 s.2 s.3) s.3.frames s.4 s.5 (ready_for c.args.context.program.now c.args.context.world.now c.args.store.now c.args.activation.now c.instr_at-instr.result.now f c.args.pending.now s.0 c.args.context.thread c.args.owner s.1 s.2 s.3 s.4 s.5 s.6) (possible c.args.context.program.now c.args.context.world.now c.args.store.now c.args.activation.now c.args.pending.now s.0 c.args.context.thread c.args.owner s.1 s.2 s.3 s.4 s.5 s.6) c.instr_at-instr.result.now f.at c.in-StoreNull.variable (length c.args.store.now.statics.items) c.in-StoreNull.is count in
    subst (λ (l : List StaticReference). HasSlot (length c.args.activation.now.slots.references.items) (length c.args.activation.now.slots.fields.items) (length c.args.activation.now.slots.buffers.items) (length l) c.in-StoreNull.variable) (sym c.deref_mut.ensures.value) there

-- an element is read and written where there are words for it, and of a block that is there
pub load_element-requires-clause-operand : goal.load_element-requires-clause-operand
load_element-requires-clause-operand c =
    let s = c.requires.stands in
    let f = fetched (goal.at.load_element-requires-clause-operand c).After-instr_at-instr in
    one_word c.in-LoadBuffer.slot c.in-LoadBuffer.line (length c.args.activation.now.stack)
    (room c.args.context.program.now c.args.context.world.now.classes c.args.store.now.heap c.args.store.now.elements c.args.owner c.args.activation.now f.code (visible_to s.1 s.2 s.3) s.3.frames s.4 s.5 (ready_for c.args.context.program.now c.args.context.world.now c.args.store.now c.args.activation.now c.instr_at-instr.result.now f c.args.pending.now s.0 c.args.context.thread c.args.owner s.1 s.2 s.3 s.4 s.5 s.6) (instr.LoadBuffer c.in-LoadBuffer.slot c.in-LoadBuffer.line) (f.at ∙ ap (λ i. Some i) c.in-LoadBuffer.is))

pub load_element-requires-clause-block : goal.load_element-requires-clause-block
load_element-requires-clause-block c =
    let s = c.requires.stands in
    slot_of_block c.args.store.now.heap c.args.store.now.elements c.args.owner c.args.activation.now.slots.buffers.items s.6.stands.meant.buffers c.in-LoadBuffer.slot s.6.stands.holds.buffers

pub store_element-requires-clause-operands : goal.store_element-requires-clause-operands
store_element-requires-clause-operands c =
    let s = c.requires.stands in
    let f = fetched (goal.at.store_element-requires-clause-operands c).After-instr_at-instr in
    two_words c.in-StoreBuffer.element c.in-StoreBuffer.slot c.in-StoreBuffer.line (length c.args.activation.now.stack)
    (room c.args.context.program.now c.args.context.world.now.classes c.args.store.now.heap c.args.store.now.elements c.args.owner c.args.activation.now f.code (visible_to s.1 s.2 s.3) s.3.frames s.4 s.5 (ready_for c.args.context.program.now c.args.context.world.now c.args.store.now c.args.activation.now c.instr_at-instr.result.now f c.args.pending.now s.0 c.args.context.thread c.args.owner s.1 s.2 s.3 s.4 s.5 s.6) (instr.StoreBuffer c.in-StoreBuffer.element c.in-StoreBuffer.slot c.in-StoreBuffer.line) (f.at ∙ ap (λ i. Some i) c.in-StoreBuffer.is))

pub store_element-requires-clause-block : goal.store_element-requires-clause-block
store_element-requires-clause-block c =
    let s = c.requires.stands in
    slot_of_block c.args.store.now.heap c.args.store.now.elements c.args.owner c.args.activation.now.slots.buffers.items s.6.stands.meant.buffers c.in-StoreBuffer.slot s.6.stands.holds.buffers

pub run_plain-requires-clause-leads : goal.run_plain-requires-clause-leads
unfolding fetched
run_plain-requires-clause-leads c path stack numbers is =
    let s = c.requires.stands in
    let f = fetched (goal.at.run_plain-requires-clause-leads c).After-instr_at-instr in
    reachable f.code.instrs c.args.activation.now.place path (length stack) c.instr_at-instr.ensures.few
    (leads c.args.context.program.now c.args.context.world.now.classes c.args.store.now.heap c.args.store.now.elements c.args.owner c.args.activation.now f.code (visible_to s.1 s.2 s.3) s.3.frames s.4 s.5 (ready_for c.args.context.program.now c.args.context.world.now c.args.store.now c.args.activation.now c.instr_at-instr.result.now f c.args.pending.now s.0 c.args.context.thread c.args.owner s.1 s.2 s.3 s.4 s.5 s.6) c.instr_at-instr.result.now f.at path stack numbers is)

pub pop-word-requires : goal.pop-word-requires
pop-word-requires c =
    let s = c.requires.stands in
    let f = fetched (goal.at.pop-word-requires c).After-instr_at-instr in
    positive (length c.args.activation.now.stack) (room c.args.context.program.now c.args.context.world.now.classes c.args.store.now.heap c.args.store.now.elements c.args.owner c.args.activation.now f.code (visible_to s.1 s.2 s.3) s.3.frames s.4 s.5 (ready_for c.args.context.program.now c.args.context.world.now c.args.store.now c.args.activation.now c.instr_at-instr.result.now f c.args.pending.now s.0 c.args.context.thread c.args.owner s.1 s.2 s.3 s.4 s.5 s.6) instr.PutJint (f.at ∙ ap (λ i. Some i) c.in-PutJint.is))

pub invoke-requires : goal.invoke-requires
invoke-requires c =
    let s = c.requires.stands in
    let f = fetched (goal.at.invoke-requires c).After-instr_at-instr in
    record {
      may = record {
        at_call = (
          s.0,
          s.1,
          s.2,
          s.3,
          s.4,
          s.5,
          at_call c.args.context.program.now c.args.context.world.now c.args.store.now c.args.pending.now c.args.activation.now c.instr_at-instr.result.now f c.call-call.result.now (c.in-Call.is ∙ ap (λ (x : Call). instr.Call x) (sym c.call-call.ensures.view)) s.0 c.args.context.thread c.args.owner s.1 s.2 s.3 s.4 s.5 s.6,
        );
        place = c.instr_at-instr.ensures.limit;
        few = c.requires.few;
        prepared = c.call-call.ensures.prepared;
      };
    }

pub returns-in-TestNull-clause-done : goal.returns-in-TestNull-clause-done
returns-in-TestNull-clause-done c others own shared s task rest e =
    let f = fetched (goal.at.returns-in-TestNull-clause-done c).After-instr_at-instr in
    test_executes c.args.context.program.now c.args.context.world.now c.args.store.now others c.args.context.thread c.args.owner own shared s e.store_agrees c.args.pending.now e.pending_agrees c.args.activation.now f.code task rest (ready_for c.args.context.program.now c.args.context.world.now c.args.store.now c.args.activation.now c.instr_at-instr.result.now f c.args.pending.now others c.args.context.thread c.args.owner own shared s task rest e) e.tasks e.views e.steady c.instr_at-instr.result.now f.at
    c.in-TestNull.variable c.in-TestNull.equal c.test_null.new.activation c.in-TestNull.is c.test_null.ensures

pub returns-in-StoreNull-clause-done : goal.returns-in-StoreNull-clause-done
returns-in-StoreNull-clause-done c others own shared s task rest e =
    let f = fetched (goal.at.returns-in-StoreNull-clause-done c).After-instr_at-instr in
    store_executes c.args.context.program.now c.args.context.world.now c.args.store.now others c.args.context.thread c.args.owner own shared s e.store_agrees c.args.pending.now e.pending_agrees c.args.activation.now f.code task rest (ready_for c.args.context.program.now c.args.context.world.now c.args.store.now c.args.activation.now c.instr_at-instr.result.now f c.args.pending.now others c.args.context.thread c.args.owner own shared s task rest e) e.tasks e.views e.steady c.instr_at-instr.result.now f.at
    c.in-StoreNull.variable c.store_null.new.activation (with_items c.args.store.now.statics c.store_null.new.statics) c.in-StoreNull.is
    (with_items_is c.args.store.now.statics c.store_null.new.statics (search (rules, places)) ∙ c.store_null.ensures.statics ∙ ap (λ (l : List StaticReference). nulled_statics c.in-StoreNull.variable l) c.deref_mut.ensures.value)
    c.store_null.ensures.activation

pub returns-in-LoadBuffer-clause-done : goal.returns-in-LoadBuffer-clause-done
returns-in-LoadBuffer-clause-done c others own shared s task rest e =
    let f = fetched (goal.at.returns-in-LoadBuffer-clause-done c).After-instr_at-instr in
    load_executes c.args.context.program.now c.args.context.world.now c.args.store.now others c.args.context.thread c.args.owner own shared s e.store_agrees c.args.pending.now e.pending_agrees c.args.activation.now f.code task rest (ready_for c.args.context.program.now c.args.context.world.now c.args.store.now c.args.activation.now c.instr_at-instr.result.now f c.args.pending.now others c.args.context.thread c.args.owner own shared s task rest e) e.tasks e.views e.steady c.instr_at-instr.result.now f.at
    c.in-LoadBuffer.slot c.in-LoadBuffer.line c.load_element.new.activation c.load_element.result c.in-LoadBuffer.is c.load_element.ensures

pub returns-in-StoreBuffer-clause-done : goal.returns-in-StoreBuffer-clause-done
returns-in-StoreBuffer-clause-done c others own shared s task rest e =
    let f = fetched (goal.at.returns-in-StoreBuffer-clause-done c).After-instr_at-instr in
    element_store_executes c.args.context.program.now c.args.context.world.now c.args.store.now others c.args.context.thread c.args.owner own shared s e.store_agrees c.args.pending.now e.pending_agrees c.args.activation.now f.code task rest (ready_for c.args.context.program.now c.args.context.world.now c.args.store.now c.args.activation.now c.instr_at-instr.result.now f c.args.pending.now others c.args.context.thread c.args.owner own shared s task rest e) e.tasks e.views e.steady c.instr_at-instr.result.now f.at
    c.in-StoreBuffer.element c.in-StoreBuffer.slot c.in-StoreBuffer.line c.store_element.new.activation c.store_element.new.store c.store_element.result c.in-StoreBuffer.is c.store_element.ensures

pub returns-in_default-clause-done : goal.returns-in_default-clause-done
returns-in_default-clause-done c others own shared s task rest e =
    let f = fetched (goal.at.returns-in_default-clause-done c).After-instr_at-instr in
    let m = c.run_plain.ensures in
    plain_executes c.args.context.program.now c.args.context.world.now c.args.store.now others c.args.context.thread c.args.owner own shared s e.store_agrees c.args.pending.now e.pending_agrees c.args.activation.now f.code task rest (ready_for c.args.context.program.now c.args.context.world.now c.args.store.now c.args.activation.now c.instr_at-instr.result.now f c.args.pending.now others c.args.context.thread c.args.owner own shared s task rest e) e.tasks e.views e.steady c.instr_at-instr.result.now f.at
    c.run_plain.new.activation c.run_plain.result m.path m.stack m.numbers m.is m.moved m.path_seen

pub returns-in-Ok-clause-done : goal.returns-in-Ok-clause-done
returns-in-Ok-clause-done c others own shared s task rest e =
    let f = fetched (goal.at.returns-in-Ok-clause-done c).After-instr_at-instr in
    subst (λ (done : Executed). Executes c.args.context.program.now c.args.context.world.now c.args.store.now c.invoke.new.store others c.args.context.thread c.args.owner own shared s rest c.invoke.new.activation c.invoke.new.pending (effect_of (sight_of shared s) task) done) (sym c.outcome_of.ensures)
    (c.in-Ok.ensures.done others own shared s task rest
    (at_call c.args.context.program.now c.args.context.world.now c.args.store.now c.args.pending.now c.args.activation.now c.instr_at-instr.result.now f c.call-call.result.now (c.in-Call.is ∙ ap (λ (x : Call). instr.Call x) (sym c.call-call.ensures.view)) others c.args.context.thread c.args.owner own shared s task rest e))

pub returns-in-Ok-Done-clause-done : goal.returns-in-Ok-Done-clause-done
returns-in-Ok-Done-clause-done c others own shared s task rest e =
    let f = fetched (goal.at.returns-in-Ok-Done-clause-done c).After-instr_at-instr in
    subst (λ (done : Invoked). Executes c.args.context.program.now c.args.context.world.now c.args.store.now c.invoke.new.store others c.args.context.thread c.args.owner own shared s rest c.invoke.new.activation c.invoke.new.pending (effect_of (sight_of shared s) task) (executed_as c.call-call.result.now.line done)) c.in-Ok-Done.field-0-is
    (c.in-Ok-Done.ensures.done others own shared s task rest
    (at_call c.args.context.program.now c.args.context.world.now c.args.store.now c.args.pending.now c.args.activation.now c.instr_at-instr.result.now f c.call-call.result.now (c.in-Call.is ∙ ap (λ (x : Call). instr.Call x) (sym c.call-call.ensures.view)) others c.args.context.thread c.args.owner own shared s task rest e))

pub returns-in-PutJint-clause-done : goal.returns-in-PutJint-clause-done
returns-in-PutJint-clause-done c others own shared s task rest e =
    let f = fetched (goal.at.returns-in-PutJint-clause-done c).After-instr_at-instr in
    let number : cast_signed w32 (cast_unsigned w32 c.cast_signed.result) ≡ cast_signed w32 c.pop-word.result = to_z-of_z {w = w32} (record { sfits = c.cast_signed.type_inv }) ∙ c.cast_signed.ensures in
    let after : Activation = record c.args.activation.now { place = c.args.activation.now.place + 1; stack = c.pop-word.new.self } in
    subst (λ (z : ℤ). Executes c.args.context.program.now c.args.context.world.now c.args.store.now c.args.store.now others c.args.context.thread c.args.owner own shared s rest after c.args.pending.now (effect_of (sight_of shared s) task) (Did (PrintedNumber z))) (sym number)
    (put_executes c.args.context.program.now c.args.context.world.now c.args.store.now others c.args.context.thread c.args.owner own shared s e.store_agrees c.args.pending.now e.pending_agrees c.args.activation.now f.code task rest (ready_for c.args.context.program.now c.args.context.world.now c.args.store.now c.args.activation.now c.instr_at-instr.result.now f c.args.pending.now others c.args.context.thread c.args.owner own shared s task rest e) e.tasks e.views e.steady c.instr_at-instr.result.now f.at
    c.pop-word.result after c.pop-word.new.self c.in-PutJint.is c.pop-word.ensures.words
    (record { function = refl; place = refl; stack = refl; numbers = refl; references = refl; fields = refl; buffers = refl; locals = refl }))

pub returns-in-Return-clause-done : goal.returns-in-Return-clause-done
returns-in-Return-clause-done c others own shared s task rest e =
    let f = fetched (goal.at.returns-in-Return-clause-done c).After-instr_at-instr in
    subst (λ (g : ReturnValue). Executes c.args.context.program.now c.args.context.world.now c.args.store.now c.args.store.now others c.args.context.thread c.args.owner own shared s rest c.args.activation.now c.args.pending.now (effect_of (sight_of shared s) task) (Returned g)) (sym c.given_by.ensures)
    (return_executes c.args.context.program.now c.args.context.world.now c.args.store.now others c.args.context.thread c.args.owner own shared s e.store_agrees c.args.pending.now e.pending_agrees c.args.activation.now f.code task rest (ready_for c.args.context.program.now c.args.context.world.now c.args.store.now c.args.activation.now c.instr_at-instr.result.now f c.args.pending.now others c.args.context.thread c.args.owner own shared s task rest e) e.tasks e.views e.steady c.instr_at-instr.result.now f.at (returns_is _ c.in-Return.is) c.args.activation.now)

pub returns-in-Err-clause-hindered : goal.returns-in-Err-clause-hindered
returns-in-Err-clause-hindered c others own shared s task rest e =
    let f = fetched (goal.at.returns-in-Err-clause-hindered c).After-instr_at-instr in
    c.in-Err.ensures.hindered others own shared s task rest
    (at_call c.args.context.program.now c.args.context.world.now c.args.store.now c.args.pending.now c.args.activation.now c.instr_at-instr.result.now f c.call-call.result.now (c.in-Call.is ∙ ap (λ (x : Call). instr.Call x) (sym c.call-call.ensures.view)) others c.args.context.thread c.args.owner own shared s task rest e)

-- it is a call of a method where the call came to one
called_only : (line : ℕ) (x : Invoked) → executed_as line x ≡ executed.Calls → x ≡ invoked.Calls
called_only line invoked.Done is = absurd (cc)
called_only line invoked.Refused is = absurd (cc)
called_only line (invoked.Trapped trap) is = absurd (cc)
called_only line invoked.Calls is = refl

pub returns-in-Ok-clause-calls : goal.returns-in-Ok-clause-calls
returns-in-Ok-clause-calls c is = c.in-Ok.ensures.calls (called_only c.call-call.result.now.line c.in-Ok.invoked (sym c.outcome_of.ensures ∙ is))
