use Rattle.std.proofs.Common.{◌<◌, length, refl, ap, ◌∙◌, arith}
use Rattle.machine_threads.specs.Callers.{beside_callers, owner_at}
use Rattle.machine_steps.proofs.CallsThere.{running}
use Rattle.machine_steps.proofs.Waits.{function_there}
use Rattle.machine.proofs.FreeSteps.{none_taken, stands_now}
use Rattle.machine.proofs.plain_steps.take_in_call.Goals as goal

pub owner_at-owner-requires : goal.owner_at-owner-requires
owner_at-owner-requires c =
    let a = c.requires.stands in
    let p = c.args.turns.step.program.now in
    let w = c.args.turns.step.world.now in
    let store = c.args.store.now in
    let journal = c.args.journal.now.entries in
    let t = c.args.thread.now in
    let m = stands_now p w store a.0 a.1 a.2 journal c.args.turns.step.thread t a.3 0 store t journal (none_taken p w store a.0 a.1 a.2 journal c.args.turns.step.thread t a.3) in
    let few : length t.callers.items < 64 = m.4.1.few in
    omega (arith, few, c.len.ensures, t.callers.ok.0)

pub code_at-code-requires : goal.code_at-code-requires
code_at-code-requires c =
    let a = c.requires.stands in
    let p = c.args.turns.step.program.now in
    let w = c.args.turns.step.world.now in
    let store = c.args.store.now in
    let journal = c.args.journal.now.entries in
    let t = c.args.thread.now in
    let m = stands_now p w store a.0 a.1 a.2 journal c.args.turns.step.thread t a.3 0 store t journal (none_taken p w store a.0 a.1 a.2 journal c.args.turns.step.thread t a.3) in
    function_there p w store (beside_callers m.0 m.3) c.args.turns.step.thread m.1 m.2 t m.3 c.get_mut-activation.result.now m.4.0 m.4.1 (running c.in-Some.is c.get_mut-activation.ensures.value) m.4.2

pub take_in_code-requires-clause-stands : goal.take_in_code-requires-clause-stands
take_in_code-requires-clause-stands c =
    let a = c.requires.stands in (
      a.0,
      a.1,
      a.2,
      c.args.thread.now,
      record {
        goes_on = a.3;
        in_progress = (running c.in-Some.is c.get_mut-activation.ensures.value);
        of_function = c.code_at-code.ensures.code;
        pending_is = refl;
        owner_is = c.owner_at-owner.ensures ∙ ap (owner_at c.args.turns.step.thread) (c.len.ensures ∙ c.args.thread.now.callers.ok.0);
      },
    )

pub returns-in-None : goal.returns-in-None
returns-in-None c = record {
  most = omega arith;
  went = λ threads index printed h. rw c.requires.goes (none_taken c.args.turns.step.program.now c.args.turns.step.world.now c.args.store.now threads index printed c.args.journal.now.entries c.args.turns.step.thread c.args.thread.now h);
  next = λ other. (c.requires.some, c.requires.goes);
  ending = refl;
  noted = (omega arith, omega arith);
}

pub returns-in-Some : goal.returns-in-Some
returns-in-Some c = record {
  most = c.take_in_code.ensures.most;
  went = λ threads index printed h. c.take_in_code.ensures.went threads index printed c.args.thread.now (record {
    goes_on = h;
    in_progress = (running c.in-Some.is c.get_mut-activation.ensures.value);
    of_function = c.code_at-code.ensures.code;
    pending_is = refl;
    owner_is = c.owner_at-owner.ensures ∙ ap (owner_at c.args.turns.step.thread) (c.len.ensures ∙ c.args.thread.now.callers.ok.0);
  });
  next = c.take_in_code.ensures.next;
  ending = refl;
  noted = c.take_in_code.ensures.noted;
}
