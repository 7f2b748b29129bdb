use Rattle.std.proofs.Common.{◌≡◌, ◌≤◌, List, length, Option, sym, ap, ◌∙◌, arith}
use Rattle.code.specs.Call.{Call, call_view}
use Rattle.code.specs.declared.instr.Instr.TheVariants as instr
use Rattle.semantics.specs.CallStep.{waits_with}
use Rattle.semantics.specs.Task.{Task}
use Rattle.semantics.specs.ThreadStep.{next_effect}
use Rattle.code_meaning.specs.Slots.{visible_to}
use Rattle.machine_threads.specs.Callers.{beside_callers, owner_at}
use Rattle.machine_steps.specs.Waiting.{store_unowned}
use Rattle.machine_steps.proofs.Fetched.{Fetched}
use Rattle.machine_steps.proofs.Threads.{resting}
use Rattle.machine_steps.proofs.Waits.{function_there, goes_on, may_wait, none_waits, place_there, value_enters, waits_by, work}
use Rattle.machine_steps.proofs.CallsThere.{running}
use Rattle.machine_steps.proofs.wait.waits.Goals as goal
use Rattle.machine_steps.proofs.wait.waits.Goals.{After-instr_at-instr}

-- what was fetched
fetched : (c : After-instr_at-instr) → Fetched c.args.program.now (store_unowned c.args.store.now) c.get-activation.result.now c.instr_at-instr.result.now
fetched c = record {
  code = c.code_at-code.result.now;
  lowered = c.requires.lowered;
  of_function = c.code_at-code.ensures.code;
  at = c.instr_at-instr.ensures.instr;
  few = omega (arith, c.cells.ensures.cells, c.cells.ensures.limit);
}

pub returns-then-len-eq0 : goal.returns-then-len-eq0
returns-then-len-eq0 c others own shared s shares h steady =
    let none : length c.args.store.now.monitors ≡ 0 = omega (arith, c.len.ensures.count, c.if-len-eq0.true) in
    sym (none_waits c.args.world.now.classes c.args.number shared s c.args.store.now.monitors shares.monitors none)

pub code_at-code-requires : goal.code_at-code-requires
code_at-code-requires c =
    let a = c.requires.agrees in
    function_there c.args.program.now c.args.world.now c.args.store.now (beside_callers a.0 a.3) c.args.number a.1 a.2 c.args.thread.now a.3 c.get-activation.result.now a.4.0 a.4.1 (running c.in-Some.is c.get-activation.ensures) a.4.2

pub instr_at-instr-requires : goal.instr_at-instr-requires
instr_at-instr-requires c =
    let a = c.requires.agrees in
    let few : c.args.store.now.heap.cells ≤ 1048576 = omega (arith, c.cells.ensures.cells, c.cells.ensures.limit) in
    place_there c.args.program.now c.args.world.now c.args.store.now (beside_callers a.0 a.3) c.args.number a.1 a.2 c.args.thread.now a.3 c.get-activation.result.now a.4.0 a.4.1 (running c.in-Some.is c.get-activation.ensures) a.4.2 c.code_at-code.result.now c.requires.lowered c.code_at-code.ensures.code few

pub waits_to_enter-requires-clause-may_wait : goal.waits_to_enter-requires-clause-may_wait
waits_to_enter-requires-clause-may_wait c =
    let a = c.requires.agrees in
    let p = c.args.program.now in
    let w = c.args.world.now in
    let store = c.args.store.now in
    let it = work p w store (beside_callers a.0 a.3) c.args.number a.1 a.2 c.args.thread.now a.3 c.get-activation.result.now a.4.0 a.4.1 (running c.in-Some.is c.get-activation.ensures) a.4.2 in
    let f = fetched (goal.at.waits_to_enter-requires-clause-may_wait c).After-instr_at-instr in (
      beside_callers a.0 a.3,
      owner_at c.args.number (length a.3.callers),
      a.1.current,
      a.2,
      a.3,
      it.task,
      it.rest,
      may_wait p w store (beside_callers a.0 a.3) c.args.number a.1 a.2 c.args.thread.now a.3 c.get-activation.result.now a.4.0 a.4.1 (running c.in-Some.is c.get-activation.ensures) a.4.2 c.instr_at-instr.result.now f c.call-call.result.now (c.in-Call.is ∙ ap (λ (x : Call). instr.Call x) (sym c.call-call.ensures.view)),
    )

pub returns-in-None : goal.returns-in-None
returns-in-None c others own shared s shares h steady =
    let p = c.args.program.now in
    let w = c.args.world.now in
    let store = c.args.store.now in
    sym (ap (λ (tasks : Option (List Task)). waits_with w.classes c.args.number shared s (next_effect shared s tasks)) (resting p w.classes store.heap store.elements (owner_at c.args.number (length s.callers)) (visible_to own.current shared s) s.frames c.args.thread.now.call s.tasks h.work c.in-None.is))

pub returns-in-MonitorEnter : goal.returns-in-MonitorEnter
returns-in-MonitorEnter c others own shared s shares h steady =
    let p = c.args.program.now in
    let w = c.args.world.now in
    let store = c.args.store.now in
    let it = work p w store (beside_callers others s) c.args.number own shared c.args.thread.now s c.get-activation.result.now shares h (running c.in-Some.is c.get-activation.ensures) steady in
    let f = fetched (goal.at.returns-in-MonitorEnter c).After-instr_at-instr in
    c.waits_to_enter.ensures (beside_callers others s) (owner_at c.args.number (length s.callers)) own.current shared s it.task it.rest
    (may_wait p w store (beside_callers others s) c.args.number own shared c.args.thread.now s c.get-activation.result.now shares h (running c.in-Some.is c.get-activation.ensures) steady c.instr_at-instr.result.now f c.call-call.result.now (c.in-Call.is ∙ ap (λ (x : Call). instr.Call x) (sym c.call-call.ensures.view)))
    ∙ waits_by p w store (beside_callers others s) c.args.number own shared c.args.thread.now s c.get-activation.result.now shares h (running c.in-Some.is c.get-activation.ensures) steady

pub returns-in_default-function : goal.returns-in_default-function
returns-in_default-function c others own shared s shares h steady =
    let f = fetched (goal.at.returns-in_default-function c).After-instr_at-instr in
    sym (goes_on c.args.program.now c.args.world.now c.args.store.now (beside_callers others s) c.args.number own shared c.args.thread.now s c.get-activation.result.now shares h (running c.in-Some.is c.get-activation.ensures) steady c.instr_at-instr.result.now f
    (λ (x : Call) is enters.
    let same : call_view c.call-call.result.now ≡ x = let both : instr.Call (call_view c.call-call.result.now) ≡ instr.Call x = sym (c.in-Call.is ∙ ap (λ (y : Call). instr.Call y) (sym c.call-call.ensures.view)) ∙ is in cc in
    c.in_default-function.not-MonitorEnter (value_enters c.call-call.result.now.function (ap (λ (y : Call). y.function) same ∙ enters))))

pub returns-in_default : goal.returns-in_default
returns-in_default c others own shared s shares h steady =
    let f = fetched (goal.at.returns-in_default c).After-instr_at-instr in
    sym (goes_on c.args.program.now c.args.world.now c.args.store.now (beside_callers others s) c.args.number own shared c.args.thread.now s c.get-activation.result.now shares h (running c.in-Some.is c.get-activation.ensures) steady c.instr_at-instr.result.now f
    (λ (x : Call) is enters. c.in_default.not-Call x is))
