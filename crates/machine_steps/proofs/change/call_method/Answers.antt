use Rattle.std.proofs.Common.{◌≡◌, ◌+◌, ◌<◌, ◌≤◌, length, Option, refl, sym, ap, ◌∙◌, subst, arith}
use Rattle.std.specs.Prelude.{IsSome}
use Rattle.code.specs.Call.{Call, call_view}
use Rattle.code.specs.declared.instr.Instr.TheVariants as instr
use Rattle.jni.specs.declared.function.JniFunction.TheVariants.{MonitorEnter}
use Rattle.jni.specs.declared.function.JniFunction.TheVariants as function
use Rattle.machine_scenes.specs.declared.activation.Activation.{Activation}
use Rattle.machine_threads.specs.Callers.{beside_callers, owner_at}
use Rattle.machine_threads.specs.declared.thread.Thread.{Thread}
use Rattle.machine_steps.proofs.ChangedCalls.{at_it, free, it, pushed}
use Rattle.machine_steps.proofs.Fetched.{Fetched}
use Rattle.machine_steps.proofs.Waits.{function_there, place_there, value_enters}
use Rattle.machine_steps.proofs.CallsThere.{running}
use Rattle.machine_steps.proofs.change.call_method.Goals as goal
use Rattle.machine_steps.proofs.change.call_method.Goals.{After-call-call}

pub code_at-code-requires : goal.code_at-code-requires
code_at-code-requires c =
    let a = c.requires.stands in
    function_there c.args.program.now c.args.world.now c.args.store.now (beside_callers a.0 a.3) c.args.number a.1 a.2 c.args.thread.now a.3 c.get-activation.result.now a.4.0 a.4.1 (running c.in-Some.is c.get-activation.ensures) a.4.2

pub instr_at-requires : goal.instr_at-requires
instr_at-requires c =
    let a = c.requires.stands in
    let few : c.args.store.now.heap.cells ≤ 1048576 = omega (arith, c.cells.ensures.cells, c.cells.ensures.limit) in
    place_there c.args.program.now c.args.world.now c.args.store.now (beside_callers a.0 a.3) c.args.number a.1 a.2 c.args.thread.now a.3 c.get-activation.result.now a.4.0 a.4.1 (running c.in-Some.is c.get-activation.ensures) a.4.2
    c.code_at-code.result.now c.requires.lowered c.code_at-code.ensures.code few

-- what was fetched
fetched : (c : After-call-call) → Fetched c.args.program.now c.args.store.now c.get-activation.result.now c.instr_at.result.now
fetched c = record {
  code = c.code_at-code.result.now;
  lowered = c.requires.lowered;
  of_function = c.code_at-code.ensures.code;
  at = c.instr_at.ensures.instr;
  few = omega (arith, c.cells.ensures.cells, c.cells.ensures.limit);
}

call_there : (c : After-call-call) → c.instr_at.result.now ≡ instr.Call (call_view c.call-call.result.now)
call_there c = c.in-Call.is ∙ ap (λ (x : Call). instr.Call x) (sym c.call-call.ensures.view)

-- it enters no monitor
no_monitor : (c : After-call-call) → (function.MonitorEnter ≡ c.call-call.result.now.function → ⊥) → (x : Call) → c.instr_at.result.now ≡ instr.Call x → x.function ≡ MonitorEnter → ⊥
no_monitor c other x same enters =
    let both : instr.Call x ≡ instr.Call (call_view c.call-call.result.now) = sym same ∙ call_there c in
    let it : x ≡ call_view c.call-call.result.now = cc in
    other (sym (value_enters c.call-call.result.now.function (ap (λ (y : Call). y.function) (sym it) ∙ enters)))

pub method_seen-requires : goal.method_seen-requires
method_seen-requires c =
    let o = (goal.at.method_seen-requires c).After-call-call in
    let a = c.requires.stands in
    let p = c.args.program.now in
    let w = c.args.world.now in
    let store = c.args.store.now in
    let t = c.args.thread.now in
    let call = c.get-activation.result.now in
    let is = running c.in-Some.is c.get-activation.ensures in
    let none = no_monitor o (λ e. c.is_of_methods.ensures c.if-not-is_of_methods.false (sym e)) in
    let i = it p w store a.0 c.args.number a.1 a.2 t a.3 c.requires.lowered a.4 call is c.instr_at.result.now (fetched o) in
    record {
      at_call = (
        owner_at c.args.number (length a.3.callers),
        (
          beside_callers a.0 a.3,
          a.1.current,
          a.2,
          a.3,
          i.task,
          i.rest,
          at_it p w store a.0 c.args.number a.1 a.2 t a.3 c.requires.lowered a.4 call is c.instr_at.result.now (fetched o) none c.call-call.result.now (call_there o),
        ),
      );
    }

pub push_method-requires-clause-active : goal.push_method-requires-clause-active
push_method-requires-clause-active c = subst (λ (o : Option Activation). IsSome o) (sym c.in-Some.is) refl

pub returns-in-Ok-clause-steps : goal.returns-in-Ok-clause-steps
returns-in-Ok-clause-steps c e others own shared s stands =
    let o = (goal.at.returns-in-Ok-clause-steps c).After-call-call in
    let p = c.args.program.now in
    let w = c.args.world.now in
    let store = c.args.store.now in
    let t = c.args.thread.now in
    let call = c.get-activation.result.now in
    let is = running c.in-Some.is c.get-activation.ensures in
    let none = no_monitor o (λ e. c.is_of_methods.ensures c.if-not-is_of_methods.false (sym e)) in
    let few : length t.callers.items + 1 < 64 = omega (arith, c.len.ensures, t.callers.ok.0) in (
      free p w store others c.args.number own shared t s c.requires.lowered stands call is c.instr_at.result.now (fetched o) none,
      pushed p w store others c.args.number own shared t s c.requires.lowered stands call is c.instr_at.result.now (fetched o) none c.call-call.result.now (call_there o) c.in-Some-method_seen.ensures.answered few c.in-Some-method_seen.method c.in-Some-method_seen.ensures.method c.push_method.new.thread (c.in-Ok.ensures.pushes call is),
    )

-- the rest of the thread is as it was
pub returns-in-Ok-clause-ending : goal.returns-in-Ok-clause-ending
returns-in-Ok-clause-ending c = ap (λ (t : Thread). t.ending) (c.in-Ok.ensures.pushes c.get-activation.result.now (running c.in-Some.is c.get-activation.ensures)).pushed
