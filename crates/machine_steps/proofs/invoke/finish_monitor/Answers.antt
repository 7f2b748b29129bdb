use Rattle.std.specs.Prelude.{slice_get}
use Rattle.std.proofs.Common.{false, refl, sym}
use Rattle.code.specs.Call.{call_view}
use Rattle.jni.specs.JniFunction.{prototype}
use Rattle.machine_answers.specs.declared.answer.Given.TheVariants as given
use Rattle.machine_steps.specs.Received.{told_slot}
use Rattle.machine_steps.proofs.AnsweredCalls.{answered, brings, can_carry, free, it, kind_is, no_call, told as of_source}
use Rattle.machine_steps.proofs.AskedCalls.{has_target}
use Rattle.machine_steps.proofs.CallInstructions.{goes_on}
use Rattle.machine_steps.proofs.MonitorCalls as monitors
use Rattle.machine_steps.proofs.invoke.finish_monitor.Goals as goal

pub receive_number-requires-clause-target : goal.receive_number-requires-clause-target
receive_number-requires-clause-target c =
    let at = c.requires.at_call in
    let a = at.2 in
    has_target c.args.context.program.now c.args.context.world.now c.args.store.now at.0 c.args.activation.now c.args.call.now a.0 c.args.context.thread at.1 a.1 a.2 a.3 a.4 a.5 a.6

pub returns-clause-done : goal.returns-clause-done
returns-clause-done c is pending owner told_if others own shared s task rest h =
    let p = c.args.context.program.now in
    let w = c.args.context.world.now in
    let done = c.if-not-change_monitor.false in
    let told = told_if (c.change_monitor.ensures.may done) in
    let store = c.args.store.now in
    let activation = c.args.activation.now in
    let call = c.args.call.now in
    let k = c.args.context.thread in
    let a = c.args.answer in
    let changes = c.requires.changes in
    let plain = no_call a (monitors.goes_on a changes) in
    let same = sym (kind_is p w store pending activation call others k owner own shared s task rest h a told plain (prototype call.function).result refl) in
    let kind = (prototype (it p w store pending activation call others k owner own shared s task rest h a told plain).f).result in
    let answer = answered p w store pending activation call others k owner own shared s task rest h a told plain kind same in
    goes_on p w store pending activation call others k owner own shared s task rest h a told.works answer told.sound (monitors.goes_on a changes)
    (free p w store pending activation call others k owner own shared s task rest h a told plain)
    false (record store { monitors = c.change_monitor.new.monitors }) pending activation.locals (given.Number 0)
    (monitors.carries p w store pending activation.locals kind others k owner shared s (can_carry p w store pending activation call others k owner own shared s task rest h a told plain kind same) (brings p w store pending activation call others k owner own shared s task rest h a told plain) refl
    (of_source p w store pending activation call others k owner own shared s task rest h a told plain) a changes answer c.change_monitor.new.monitors (c.change_monitor.ensures.changed done))
    c.frames.ensures.stacked (λ key copy at left. at) tt
    activation.slots.numbers activation.slots.buffers (monitors.numbers_stay store.heap a changes activation.slots.numbers.items) (monitors.buffers_stay a changes activation.slots.buffers.items) c.receive_number.new.activation store.statics
    (c.receive_number.ensures kind (told_slot (slice_get (call_view call).operands 1)))
    (monitors.statics_stay call.target 0 store.statics.items)

pub returns-clause-function : goal.returns-clause-function
returns-clause-function c = (c.receive_number.ensures (prototype c.args.call.now.function).result (told_slot (slice_get (call_view c.args.call.now).operands 1))).function
