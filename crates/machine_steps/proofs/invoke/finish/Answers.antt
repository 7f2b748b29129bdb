use Rattle.std.specs.Vec.{with_items}
use Rattle.std.specs.Prelude.{slice_get}
use Rattle.std.proofs.lemmas.List.{with_items_is, places}
use Rattle.std.proofs.Common.{rules, ◌≡◌, ℕ, Bool, true, false, List, Option, length, refl, sym, ap, ◌∙◌, subst, arith}
use Rattle.code.specs.Call.{call_view}
use Rattle.code.specs.declared.instr.Call.{Call}
use Rattle.semantics.specs.Arguments.{Actual}
use Rattle.code.specs.declared.instr.Target.{Target}
use Rattle.code_meaning.specs.Lowered.{Lowered}
use Rattle.heap.specs.Heap.{Space}
use Rattle.jni.specs.JniFunction.{prototype}
use Rattle.jni.specs.declared.kinds.ResultKind.{ResultKind}
use Rattle.semantics.specs.CallEffects.{CallEffect}
use Rattle.semantics.specs.Effect.{Effect, effect_of}
use Rattle.semantics.specs.Object.{sizes}
use Rattle.semantics.specs.Task.{Task}
use Rattle.semantics.specs.Thread.{Shared, Thread, sight_of}
use Rattle.semantics.specs.World.{World}
use Rattle.semantics_safety.specs.Owners.{Owners}
use Rattle.tables.specs.Locals.{LocalTable}
use Rattle.machine_answers.specs.Answers.{IsAnswer}
use Rattle.machine_scenes.specs.Buffers.{Acquired}
use Rattle.machine_calls.specs.CarriedOut.{CarriesOut, GoesByRoom, made_by, shared_after, slots_after}
use Rattle.machine_answers.specs.Copies.{words_of}
use Rattle.machine_scenes.specs.declared.activation.Activation.{Activation}
use Rattle.machine_answers.specs.declared.answer.Answer.{Answer}
use Rattle.machine_answers.specs.declared.answer.Answer.TheVariants as answers
use Rattle.machine_answers.specs.declared.answer.Given.{Given}
use Rattle.machine_scenes.specs.Statics.{StaticReference}
use Rattle.machine_scenes.specs.declared.store.Store.{Store}
use Rattle.machine_calls.proofs.CellsMade.{cells_made}
use Rattle.machine_answers.proofs.Overlays.{length_overlaid}
use Rattle.machine_calls.proofs.StaticStores.{shared_long, statics_long}
use Rattle.semantics.specs.declared.event.Event.TheVariants.{Quiet}
use Rattle.machine_steps.specs.declared.execute.Executed.{Executed}
use Rattle.machine_steps.specs.Executes.{Executes, GoesOn}
use Rattle.machine_steps.specs.Invoked.{AtCall, IsAnswered, done_or_refused, executed_as}
use Rattle.machine_steps.specs.declared.invoke.Invoked.{Invoked}
use Rattle.machine_steps.specs.declared.invoke.Invoked.TheVariants as invoked
use Rattle.machine_steps.specs.Received.{told_slot, statics_with, HasBuffer, HasField, HasNumber, HasReference, HasRoom, HasStatic, HasTold, Receives}
use Rattle.machine_steps.proofs.AnsweredCalls.{IsNoCall, answered, brings, can_carry, does, free, it, kind_is, no_call, told}
use Rattle.machine_steps.proofs.AskedCalls.{has_static, has_target, has_told, room_after}
use Rattle.machine_steps.proofs.CallInstructions.{goes_on, buffers_long}
use Rattle.machine_steps.proofs.invoke.finish.Goals as goal

-- the machine is at a call that no check stops
module _ (p : Lowered) (w : World) (store : Store) (pending : Option ℕ) (call : Activation) (function : Call) (others : Acquired) (k owner : ℕ) (own : Owners) (shared : Shared) (s : Thread) (task : Task) (rest : List Task) (h : AtCall p w store pending call function others k owner own shared s task rest) (answer : Answer) (given : IsAnswered p w store pending call k function answer) (plain : IsNoCall answer) where
  abbrev effect : CallEffect
  effect = does p w store pending call function others k owner own shared s task rest h answer given plain

  -- the kind of its result
  module _ (kind : ResultKind) (same : kind ≡ (prototype function.function).result) where
    -- the arguments of the source's call
    abbrev args : List Actual
    args = (it p w store pending call function others k owner own shared s task rest h answer given plain).args

    -- what was carried out
    module _ (refused : Bool) (after : Store) (exception : Option ℕ) (locals : LocalTable) (g : Given) (carried : CarriesOut p w store.heap call.locals answer kind others owner shared s effect refused after exception locals g) where
      static_there : (statics : List StaticReference) → statics ≡ after.statics.items → HasStatic function.target (length statics)
      static_there statics same_statics =
          subst (λ (l : List StaticReference). HasStatic function.target (length l)) (sym same_statics)
          (has_static p w store pending call function others k owner own shared s task rest h (length after.statics.items)
          (shared_long p w store shared _ h.shares ∙ sym (statics_long p w after (shared_after w.classes refused shared effect) _ carried.store_agrees)))

      carried_as : CarriesOut p w store.heap call.locals answer (prototype (it p w store pending call function others k owner own shared s task rest h answer given plain).f).result others owner shared s effect refused after exception locals g
      carried_as = subst (λ (x : ResultKind). CarriesOut p w store.heap call.locals answer x others owner shared s effect refused after exception locals g) (kind_is p w store pending call function others k owner own shared s task rest h answer given plain kind same) carried

      room_there : HasRoom kind locals
      room_there = subst (λ (x : ResultKind). HasRoom x locals) (sym (kind_is p w store pending call function others k owner own shared s task rest h answer given plain kind same)) (room_after p w store pending call function others k owner own shared s task rest h (free p w store pending call function others k owner own shared s task rest h answer given plain) refused after exception locals g answer carried_as)

-- as many slots are left
numbers_long : (space : Space) (answer : Answer) (numbers : List ℕ) → length (slots_after space answer numbers) ≡ length numbers
numbers_long space (answers.CopiesOut region) numbers = length_overlaid numbers region.slot (words_of space region)
numbers_long space answer numbers = refl

pub carry_out-requires-clause-possible : goal.carry_out-requires-clause-possible
carry_out-requires-clause-possible c =
    let a = c.requires.may.at_call in
    let w = c.args.context.step.world.now in
    let kind = c.args.context.call.now.result in (
      c.args.context.step.program.now,
      args c.args.context.step.program.now w c.args.store.now c.args.pending.now c.args.activation.now c.args.context.call.now a.0 c.args.context.step.thread c.args.context.owner a.1 a.2 a.3 a.4 a.5 a.6 c.args.answer c.requires.answered (no_call c.args.answer c.requires.runs) kind c.requires.may.prepared.result,
      a.0,
      a.2,
      a.3,
      told c.args.context.step.program.now w c.args.store.now c.args.pending.now c.args.activation.now c.args.context.call.now a.0 c.args.context.step.thread c.args.context.owner a.1 a.2 a.3 a.4 a.5 a.6 c.args.answer c.requires.answered (no_call c.args.answer c.requires.runs),
      can_carry c.args.context.step.program.now w c.args.store.now c.args.pending.now c.args.activation.now c.args.context.call.now a.0 c.args.context.step.thread c.args.context.owner a.1 a.2 a.3 a.4 a.5 a.6 c.args.answer c.requires.answered (no_call c.args.answer c.requires.runs) kind c.requires.may.prepared.result,
      answered c.args.context.step.program.now w c.args.store.now c.args.pending.now c.args.activation.now c.args.context.call.now a.0 c.args.context.step.thread c.args.context.owner a.1 a.2 a.3 a.4 a.5 a.6 c.args.answer c.requires.answered (no_call c.args.answer c.requires.runs) kind c.requires.may.prepared.result,
    )

target_left : (target : Target) (numbers references fields buffers numbers' references' fields' buffers' : ℕ) → numbers' ≡ numbers → references' ≡ references → fields' ≡ fields → buffers' ≡ buffers
    → HasNumber target numbers × HasReference target references × HasField target fields × HasBuffer target buffers → HasNumber target numbers' × HasReference target references' × HasField target fields' × HasBuffer target buffers'
target_left target numbers references fields buffers numbers' references' fields' buffers' same_numbers same_references same_fields same_buffers h =
    (subst (HasNumber target) (sym same_numbers) h.0, subst (HasReference target) (sym same_references) h.1, subst (HasField target) (sym same_fields) h.2, subst (HasBuffer target) (sym same_buffers) h.3)

pub receive-requires-clause-target : goal.receive-requires-clause-target
receive-requires-clause-target c =
    let a = c.requires.may.at_call in
    let activation = c.args.activation.now in
    let told = c.in-Ok.ensures in
    target_left c.args.context.call.now.target (length activation.slots.numbers.items) (length activation.slots.references.items) (length activation.slots.fields.items) (length activation.slots.buffers.items) _ _ _ _
    (ap length told.numbers ∙ numbers_long c.args.store.now.heap c.args.answer activation.slots.numbers.items)
    (ap (λ (t : Activation). length t.slots.references.items) told.stays)
    (ap (λ (t : Activation). length t.slots.fields.items) told.stays)
    (ap length told.buffers ∙ buffers_long c.args.answer activation.slots.buffers.items)
    (has_target c.args.context.step.program.now c.args.context.step.world.now c.args.store.now c.args.pending.now activation c.args.context.call.now a.0 c.args.context.step.thread c.args.context.owner a.1 a.2 a.3 a.4 a.5 a.6)

pub receive-requires-clause-told : goal.receive-requires-clause-told
receive-requires-clause-told c =
    let a = c.requires.may.at_call in
    let activation = c.args.activation.now in
    subst (λ (o : Option ℕ). HasTold o (length c.carry_out.new.activation.slots.numbers.items)) (sym c.told_slot.ensures)
    (subst (HasTold (told_slot (slice_get c.args.context.call.now.operands.items 1)))
    (sym (ap length c.in-Ok.ensures.numbers ∙ numbers_long c.args.store.now.heap c.args.answer activation.slots.numbers.items))
    (has_told c.args.context.step.program.now c.args.context.step.world.now c.args.store.now c.args.pending.now activation c.args.context.call.now a.0 c.args.context.step.thread c.args.context.owner a.1 a.2 a.3 a.4 a.5 a.6))

pub receive-requires-clause-static_target : goal.receive-requires-clause-static_target
receive-requires-clause-static_target c =
    let a = c.requires.may.at_call in
    let w = c.args.context.step.world.now in
    let kind = c.args.context.call.now.result in
    let same = c.requires.may.prepared.result in
    static_there c.args.context.step.program.now w c.args.store.now c.args.pending.now c.args.activation.now c.args.context.call.now a.0 c.args.context.step.thread c.args.context.owner a.1 a.2 a.3 a.4 a.5 a.6 c.args.answer c.requires.answered (no_call c.args.answer c.requires.runs) kind same c.in-Ok.carried.refused c.carry_out.new.store c.carry_out.new.pending c.carry_out.new.activation.locals c.in-Ok.carried.given
    (c.in-Ok.ensures.carried c.args.context.step.program.now (args c.args.context.step.program.now w c.args.store.now c.args.pending.now c.args.activation.now c.args.context.call.now a.0 c.args.context.step.thread c.args.context.owner a.1 a.2 a.3 a.4 a.5 a.6 c.args.answer c.requires.answered (no_call c.args.answer c.requires.runs) kind same) a.0 a.2 a.3 _ (can_carry c.args.context.step.program.now w c.args.store.now c.args.pending.now c.args.activation.now c.args.context.call.now a.0 c.args.context.step.thread c.args.context.owner a.1 a.2 a.3 a.4 a.5 a.6 c.args.answer c.requires.answered (no_call c.args.answer c.requires.runs) kind same)
    (answered c.args.context.step.program.now w c.args.store.now c.args.pending.now c.args.activation.now c.args.context.call.now a.0 c.args.context.step.thread c.args.context.owner a.1 a.2 a.3 a.4 a.5 a.6 c.args.answer c.requires.answered (no_call c.args.answer c.requires.runs) kind same))
    c.deref_mut.result.now c.deref_mut.ensures.value

pub receive-requires-clause-room : goal.receive-requires-clause-room
receive-requires-clause-room c =
    let a = c.requires.may.at_call in
    let w = c.args.context.step.world.now in
    let kind = c.args.context.call.now.result in
    let same = c.requires.may.prepared.result in
    room_there c.args.context.step.program.now w c.args.store.now c.args.pending.now c.args.activation.now c.args.context.call.now a.0 c.args.context.step.thread c.args.context.owner a.1 a.2 a.3 a.4 a.5 a.6 c.args.answer c.requires.answered (no_call c.args.answer c.requires.runs) kind same c.in-Ok.carried.refused c.carry_out.new.store c.carry_out.new.pending c.carry_out.new.activation.locals c.in-Ok.carried.given
    (c.in-Ok.ensures.carried c.args.context.step.program.now (args c.args.context.step.program.now w c.args.store.now c.args.pending.now c.args.activation.now c.args.context.call.now a.0 c.args.context.step.thread c.args.context.owner a.1 a.2 a.3 a.4 a.5 a.6 c.args.answer c.requires.answered (no_call c.args.answer c.requires.runs) kind same) a.0 a.2 a.3 _ (can_carry c.args.context.step.program.now w c.args.store.now c.args.pending.now c.args.activation.now c.args.context.call.now a.0 c.args.context.step.thread c.args.context.owner a.1 a.2 a.3 a.4 a.5 a.6 c.args.answer c.requires.answered (no_call c.args.answer c.requires.runs) kind same)
    (answered c.args.context.step.program.now w c.args.store.now c.args.pending.now c.args.activation.now c.args.context.call.now a.0 c.args.context.step.thread c.args.context.owner a.1 a.2 a.3 a.4 a.5 a.6 c.args.answer c.requires.answered (no_call c.args.answer c.requires.runs) kind same))

-- it was refused
was_refused : (refused : Bool) (x : Invoked) → x ≡ done_or_refused refused → x ≡ invoked.Refused → refused ≡ true
was_refused true x told is = refl
was_refused false x told is = absurd (let clash : invoked.Done ≡ invoked.Refused = sym told ∙ is in cc)

pub returns-in-Ok-clause-refused : goal.returns-in-Ok-clause-refused
returns-in-Ok-clause-refused c is =
    let a = c.requires.may.at_call in
    let w = c.args.context.step.world.now in
    let store = c.args.store.now in
    let kind = c.args.context.call.now.result in
    let same = c.requires.may.prepared.result in
    let does = effect c.args.context.step.program.now w store c.args.pending.now c.args.activation.now c.args.context.call.now a.0 c.args.context.step.thread c.args.context.owner a.1 a.2 a.3 a.4 a.5 a.6 c.args.answer c.requires.answered (no_call c.args.answer c.requires.runs) in
    let answer = answered c.args.context.step.program.now w store c.args.pending.now c.args.activation.now c.args.context.call.now a.0 c.args.context.step.thread c.args.context.owner a.1 a.2 a.3 a.4 a.5 a.6 c.args.answer c.requires.answered (no_call c.args.answer c.requires.runs) kind same in
    let carried = c.in-Ok.ensures.carried c.args.context.step.program.now (args c.args.context.step.program.now w store c.args.pending.now c.args.activation.now c.args.context.call.now a.0 c.args.context.step.thread c.args.context.owner a.1 a.2 a.3 a.4 a.5 a.6 c.args.answer c.requires.answered (no_call c.args.answer c.requires.runs) kind same) a.0 a.2 a.3 _ (can_carry c.args.context.step.program.now w store c.args.pending.now c.args.activation.now c.args.context.call.now a.0 c.args.context.step.thread c.args.context.owner a.1 a.2 a.3 a.4 a.5 a.6 c.args.answer c.requires.answered (no_call c.args.answer c.requires.runs) kind same) answer in
    let refused = was_refused c.in-Ok.carried.refused c.done_or_refused.result c.done_or_refused.ensures (cc (is)) in
    let short = subst (λ (b : Bool). GoesByRoom b (sizes (made_by w.classes does)) store.heap c.carry_out.new.store.heap) refused carried.room in
    omega (arith, short.0, cells_made w.classes (brings c.args.context.step.program.now w store c.args.pending.now c.args.activation.now c.args.context.call.now a.0 c.args.context.step.thread c.args.context.owner a.1 a.2 a.3 a.4 a.5 a.6 c.args.answer c.requires.answered (no_call c.args.answer c.requires.runs)) store.heap c.args.activation.now.locals a.2 a.3 answer)

-- what a call came to, by whether its allocation was refused
executes : (p : Lowered) (w : World) (old store : Store) (others : Acquired) (k owner : ℕ) (own : Owners) (shared : Shared) (s : Thread) (rest : List Task) (call : Activation) (pending : Option ℕ) (e : Effect) (line : ℕ) (refused : Bool)
    → GoesOn p w old store others k owner own shared s rest call pending e refused Quiet → Executes p w old store others k owner own shared s rest call pending e (executed_as line (done_or_refused refused))
executes p w old store others k owner own shared s rest call pending e line true h = h
executes p w old store others k owner own shared s rest call pending e line false h = h

pub returns-in-Ok-clause-done : goal.returns-in-Ok-clause-done
returns-in-Ok-clause-done c others own shared s task rest h =
    let p = c.args.context.step.program.now in
    let w = c.args.context.step.world.now in
    let store = c.args.store.now in
    let pending = c.args.pending.now in
    let activation = c.args.activation.now in
    let call = c.args.context.call.now in
    let k = c.args.context.step.thread in
    let owner = c.args.context.owner in
    let kind = call.result in
    let same = c.requires.may.prepared.result in
    let refused = c.in-Ok.carried.refused in
    let g = c.in-Ok.carried.given in
    let is = kind_is p w store pending activation call others k owner own shared s task rest h c.args.answer c.requires.answered (no_call c.args.answer c.requires.runs) kind same in
    let of_source = told p w store pending activation call others k owner own shared s task rest h c.args.answer c.requires.answered (no_call c.args.answer c.requires.runs) in
    let answer = answered p w store pending activation call others k owner own shared s task rest h c.args.answer c.requires.answered (no_call c.args.answer c.requires.runs) kind same in
    let carried = c.in-Ok.ensures.carried p (args p w store pending activation call others k owner own shared s task rest h c.args.answer c.requires.answered (no_call c.args.answer c.requires.runs) kind same) others shared s _ (can_carry p w store pending activation call others k owner own shared s task rest h c.args.answer c.requires.answered (no_call c.args.answer c.requires.runs) kind same) answer in
    let left = c.carry_out.new.activation in
    let after = with_items c.carry_out.new.store.statics c.receive.new.statics in
    let final : Store = record c.carry_out.new.store { statics = after } in
    subst (λ (done : Executed). Executes p w store final others k owner own shared s rest c.receive.new.activation c.carry_out.new.pending (effect_of (sight_of shared s) task) done) (ap (executed_as call.line) (sym c.done_or_refused.ensures))
    (executes p w store final others k owner own shared s rest c.receive.new.activation c.carry_out.new.pending (effect_of (sight_of shared s) task) call.line refused
    (goes_on p w store pending activation call others k owner own shared s task rest h c.args.answer c.requires.answered.works
    (subst (λ (x : ResultKind). IsAnswer w.classes (brings p w store pending activation call others k owner own shared s task rest h c.args.answer c.requires.answered (no_call c.args.answer c.requires.runs)) store.heap activation.locals shared s c.args.answer x of_source) is answer)
    c.requires.answered.sound c.requires.runs
    (free p w store pending activation call others k owner own shared s task rest h c.args.answer c.requires.answered (no_call c.args.answer c.requires.runs))
    refused c.carry_out.new.store c.carry_out.new.pending c.carry_out.new.activation.locals g
    (carried_as p w store pending activation call others k owner own shared s task rest h c.args.answer c.requires.answered (no_call c.args.answer c.requires.runs) kind same refused c.carry_out.new.store c.carry_out.new.pending c.carry_out.new.activation.locals g carried)
    c.frames.ensures.stacked c.in-Ok.ensures.copies c.in-Ok.ensures.new_copy
    left.slots.numbers left.slots.buffers c.in-Ok.ensures.numbers c.in-Ok.ensures.buffers c.receive.new.activation after
    (subst (λ (x : ResultKind). Receives call.target x (told_slot (slice_get (call_view call).operands 1)) g (record activation { locals = left.locals; slots = record activation.slots { numbers = left.slots.numbers; buffers = left.slots.buffers } }) c.receive.new.activation) is
    (subst (λ (t : Activation). Receives call.target kind (told_slot (slice_get (call_view call).operands 1)) g t c.receive.new.activation) c.in-Ok.ensures.stays
    (subst (λ (o : Option ℕ). Receives call.target kind o g left c.receive.new.activation) c.told_slot.ensures c.receive.ensures.activation)))
    (with_items_is c.carry_out.new.store.statics c.receive.new.statics (search (rules, places)) ∙ c.receive.ensures.statics ∙ ap (λ (l : List StaticReference). statics_with call.target g l) c.deref_mut.ensures.value)))

pub returns-in-Ok-clause-function : goal.returns-in-Ok-clause-function
returns-in-Ok-clause-function c = c.receive.ensures.activation.function ∙ ap (λ (t : Activation). t.function) c.in-Ok.ensures.stays

pub returns-in-Ok-clause-ended : goal.returns-in-Ok-clause-ended
returns-in-Ok-clause-ended c = (c.in-Ok.carried.refused, c.done_or_refused.ensures)
