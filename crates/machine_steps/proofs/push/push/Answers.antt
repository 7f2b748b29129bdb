use Rattle.std.proofs.Common.{◌≡◌, ◌≤◌, List, Option, Some, None, Result, Ok, Err, refl, sym, ap, ◌∙◌, subst, arith}
use Rattle.std.specs.Option.{IsSome}
use Rattle.std.specs.Prelude.{OnOk}
use Rattle.std.proofs.lemmas.Option.{slice_get_within}
use Rattle.code.specs.Call.{Call, call_view}
use Rattle.code.specs.declared.instr.Instr.TheVariants as instr
use Rattle.code.specs.declared.instr.Operand.{Operand}
use Rattle.machine_scenes.specs.Given.{method_at, operand_of}
use Rattle.machine_scenes.specs.declared.activation.Activation.{Activation}
use Rattle.machine_scenes.specs.declared.handle.Handle.{Handle}
use Rattle.machine_scenes.specs.declared.handle.MethodHandle.{MethodHandle}
use Rattle.machine_steps.specs.Pushed.{MakesCall, Pushes, PushesMethod}
use Rattle.machine_steps.proofs.CalledMethods.{calls_it, function_there, instr_there, is_called, the_method}
use Rattle.machine_steps.proofs.Fetched.{Fetched}
use Rattle.machine_steps.proofs.push.push.Goals as goal
use Rattle.machine_steps.proofs.push.push.Goals.{After-call-call, After-get-activation}

-- the call in progress
calling_now : (c : After-get-activation) → MakesCall c.args.program.now c.args.world.now c.args.store.now c.get-activation.result.now
calling_now c =
    let m = c.requires.calling in
    let same : m.0 ≡ c.in-Some.activation = let both : Some m.0 ≡ Some c.in-Some.activation = sym m.1 ∙ c.in-Some.is in cc in
    subst (MakesCall c.args.program.now c.args.world.now c.args.store.now) (same ∙ sym c.get-activation.ensures) m.2

pub code_at-code-requires : goal.code_at-code-requires
code_at-code-requires c =
    let m = calling_now (goal.at.code_at-code-requires c).After-get-activation in
    let few : c.args.store.now.heap.cells ≤ 1048576 = omega (arith, c.cells.ensures.cells, c.cells.ensures.limit) in
    function_there c.args.program.now c.requires.lowered c.args.world.now c.args.store.now c.get-activation.result.now few m.pending m.others m.k m.owner m.own m.shared m.thread m.task m.rest m.executing m.calling

pub instr_at-requires : goal.instr_at-requires
instr_at-requires c =
    let m = calling_now (goal.at.instr_at-requires c).After-get-activation in
    let few : c.args.store.now.heap.cells ≤ 1048576 = omega (arith, c.cells.ensures.cells, c.cells.ensures.limit) in
    slice_get_within c.code_at-code.result.now.instrs c.get-activation.result.now.place _
    (instr_there c.args.program.now c.requires.lowered c.args.world.now c.args.store.now c.get-activation.result.now few m.pending m.others m.k m.owner m.own m.shared m.thread m.task m.rest m.executing m.calling c.code_at-code.result.now c.code_at-code.ensures.code)

pub unreachable-requires : goal.unreachable-requires
unreachable-requires c =
    let m = calling_now (goal.at.unreachable-requires c).After-get-activation in
    let few : c.args.store.now.heap.cells ≤ 1048576 = omega (arith, c.cells.ensures.cells, c.cells.ensures.limit) in
    let it = calls_it c.args.program.now c.requires.lowered c.args.world.now c.args.store.now c.get-activation.result.now few m.pending m.others m.k m.owner m.own m.shared m.thread m.task m.rest m.executing m.calling in
    let there = instr_there c.args.program.now c.requires.lowered c.args.world.now c.args.store.now c.get-activation.result.now few m.pending m.others m.k m.owner m.own m.shared m.thread m.task m.rest m.executing m.calling c.code_at-code.result.now c.code_at-code.ensures.code in
    absurd (c.in_default.not-Call it.call (let both : Some c.instr_at.result.now ≡ Some (instr.Call it.call) = sym c.instr_at.ensures.instr ∙ there in cc))

pub unreachable-requires-in-None : goal.unreachable-requires-in-None
unreachable-requires-in-None c = absurd (let m = c.requires.calling in let clash : Some m.0 ≡ None = sym m.1 ∙ c.in-None.is in cc)

-- what was fetched
fetched : (c : After-call-call) → Fetched c.args.program.now c.args.store.now c.get-activation.result.now c.instr_at.result.now
fetched c = record {
  code = c.code_at-code.result.now;
  lowered = c.requires.lowered;
  of_function = c.code_at-code.ensures.code;
  at = c.instr_at.ensures.instr;
  few = omega (arith, c.cells.ensures.cells, c.cells.ensures.limit);
}

call_there : (c : After-call-call) → c.instr_at.result.now ≡ instr.Call (call_view c.call-call.result.now)
call_there c = c.in-Call.is ∙ ap (λ (x : Call). instr.Call x) (sym c.call-call.ensures.view)

-- what the call is given as its method
method_is : (fields fields' : List (Option Handle)) (o : Operand) (operands operands' : List Operand) (r : Option MethodHandle) → r ≡ method_at fields o → fields ≡ fields' → o ≡ operand_of operands 1 → operands ≡ operands' → r ≡ method_at fields' (operand_of operands' 1)
method_is fields fields' o operands operands' r is a b d = is ∙ (λ j. method_at (a j) ((b ∙ ap (λ (l : List Operand). operand_of l 1) d) j))

pub unwrap-method-requires : goal.unwrap-method-requires
unwrap-method-requires c =
    let o = (goal.at.unwrap-method-requires c).After-call-call in
    let m = calling_now (goal.at.unwrap-method-requires c).After-get-activation in
    let activation = c.get-activation.result.now in
    let it = the_method c.args.program.now c.args.world.now c.args.store.now activation c.call-call.result.now c.instr_at.result.now (fetched o) (call_there o) c.classes.ensures.sound m.pending m.others m.k m.owner m.own m.shared m.thread m.task m.rest m.executing m.calling in
    let given = method_is c.deref.result.now activation.slots.fields.items c.operand_of.result c.deref-in-Call.result.now c.call-call.result.now.operands.items c.method_in.result c.method_in.ensures c.deref.ensures.value c.operand_of.ensures c.deref-in-Call.ensures.value in
    subst IsSome (sym (given ∙ it.at)) refl

pub push_method-requires-clause-active : goal.push_method-requires-clause-active
push_method-requires-clause-active c = subst (λ (o : Option Activation). IsSome o) (sym c.in-Some.is) refl

-- what is known where it was done
where_ok : {T E : Type 0} (r : Result T E) (P Q : Type 0) → (P → Q) → OnOk r P → OnOk r Q
where_ok (Ok x) P Q f h = f h
where_ok (Err e) P Q f h = h

pub returns-clause-pushes : goal.returns-clause-pushes
returns-clause-pushes c =
    let o = (goal.at.returns-clause-pushes c).After-call-call in
    let p = c.args.program.now in
    let w = c.args.world.now in
    let store = c.args.store.now in
    let t = c.args.thread.now in
    let call = c.get-activation.result.now in
    let function = c.call-call.result.now in
    let method = c.unwrap-method.result in
    let after = c.push_method.new.thread in
    let found = method_is c.deref.result.now call.slots.fields.items c.operand_of.result c.deref-in-Call.result.now function.operands.items c.method_in.result c.method_in.ensures c.deref.ensures.value c.operand_of.ensures c.deref-in-Call.ensures.value in
    let at : method_at call.slots.fields.items (operand_of function.operands.items 1) ≡ Some method = sym found ∙ c.unwrap-method.ensures in
    let is : t.call ≡ Some call = c.in-Some.is ∙ ap (λ (x : Activation). Some x) (sym c.get-activation.ensures) in
    where_ok c.push_method.result _ _
    (λ (told : (activation : Activation) → t.call ≡ Some activation → PushesMethod store activation function method t after).
    λ (activation : Activation) (now : t.call ≡ Some activation).
    let d = told call is in
    let same : call ≡ activation = let both : Some call ≡ Some activation = sym is ∙ now in cc in
    subst (λ (x : Activation). Pushes p w store x t after) same (record {
      entering = d.entering;
      callers = d.callers;
      spare = d.spare;
      last = d.last;
      pushed = d.pushed;
      called = is_called p w store call function c.instr_at.result.now (fetched o) (call_there o) c.classes.ensures.sound method at d.entering d.function d.class d.arguments;
    }))
    c.push_method.ensures.pushes
