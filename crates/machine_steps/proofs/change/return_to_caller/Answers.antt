use Rattle.std.proofs.Common.{◌≡◌, ◌<◌, ◌≤◌, List, [], ◌∷◌, ◌++◌, length, sym, ap, ◌∙◌, subst, arith, ◌⊎◌, ⊎_elim}
use Rattle.code.specs.declared.instr.Instr.{Instr}
use Rattle.code.specs.declared.instr.Instr.TheVariants as instr
use Rattle.code.specs.declared.instr.ReferenceOperand.{ReferenceOperand}
use Rattle.code_meaning.specs.Does.{IsReturn}
use Rattle.machine_scenes.specs.declared.activation.Activation.{Activation}
use Rattle.machine_threads.specs.Callers.{beside_callers}
use Rattle.machine_steps.proofs.ChangedCalls.{caller_called, free, no_call, returned_to}
use Rattle.machine_steps.proofs.Fetched.{Fetched}
use Rattle.machine_steps.proofs.Waits.{function_there, place_there}
use Rattle.machine_threads.specs.declared.thread.Thread.{Thread}
use Rattle.machine_steps.specs.Advances.{StepsFreely}
use Rattle.machine_steps.specs.Resumed.{HasCalled, Resumes}
use Rattle.machine_steps.specs.Returned.{given_by}
use Rattle.machine_steps.specs.declared.execute.ReturnValue.{ReturnValue}
use Rattle.machine_scenes.specs.declared.store.Store.{Store}
use Rattle.semantics.specs.declared.event.Event.TheVariants.{Quiet}
use Rattle.base.proofs.Numbers.{positive}
use Rattle.machine_steps.proofs.CallsThere.{running, last_of}
use Rattle.machine_steps.proofs.change.return_to_caller.Goals as goal
use Rattle.machine_steps.proofs.change.return_to_caller.Goals.{After-instr_at-instr}

pub code_at-code-requires : goal.code_at-code-requires
code_at-code-requires c =
    let a = c.requires.stands in
    function_there c.args.program.now c.args.world.now c.args.store.now (beside_callers a.0 a.3) c.args.number a.1 a.2 c.args.thread.now a.3 c.get-activation.result.now a.4.0 a.4.1 (running c.in-Some.is c.get-activation.ensures) a.4.2

pub instr_at-instr-requires : goal.instr_at-instr-requires
instr_at-instr-requires c =
    let a = c.requires.stands in
    let few : c.args.store.now.heap.cells ≤ 1048576 = omega (arith, c.cells.ensures.cells, c.cells.ensures.limit) in
    place_there c.args.program.now c.args.world.now c.args.store.now (beside_callers a.0 a.3) c.args.number a.1 a.2 c.args.thread.now a.3 c.get-activation.result.now a.4.0 a.4.1 (running c.in-Some.is c.get-activation.ensures) a.4.2
    c.code_at-code.result.now c.requires.lowered c.code_at-code.ensures.code few

-- what was fetched
fetched : (c : After-instr_at-instr) → Fetched c.args.program.now c.args.store.now c.get-activation.result.now c.instr_at-instr.result.now
fetched c = record {
  code = c.code_at-code.result.now;
  lowered = c.requires.lowered;
  of_function = c.code_at-code.ensures.code;
  at = c.instr_at-instr.ensures.instr;
  few = omega (arith, c.cells.ensures.cells, c.cells.ensures.limit);
}

some_callers : (c : After-instr_at-instr) → 0 < length c.args.thread.now.callers.items
some_callers c = omega (arith, positive c.args.thread.now.callers.len (sym c.is_empty.ensures ∙ c.if-is_empty.false), c.args.thread.now.callers.ok.0)

-- an instruction that leaves a function without a number
by_return : (i : Instr) → (i ≡ instr.Return) ⊎ ((o : ReferenceOperand) × (i ≡ instr.ReturnReference o)) → IsReturn i
by_return i h = ⊎_elim (λ e. subst IsReturn (sym e) tt) (λ e. subst IsReturn (sym e.1) tt) h

-- where its instruction returns, its caller has called
module _ (c : After-instr_at-instr) (returns : IsReturn c.instr_at-instr.result.now) where
  caller_there : (below : List Activation) (caller : Activation) → c.args.thread.now.callers.items ≡ below ++ caller ∷ [] → HasCalled c.args.program.now c.args.store.now caller
  caller_there =
      let a = c.requires.stands in
      caller_called c.args.program.now c.args.world.now c.args.store.now a.0 c.args.number a.1 a.2 c.args.thread.now a.3 c.requires.lowered a.4 c.get-activation.result.now (running c.in-Some.is c.get-activation.ensures) c.instr_at-instr.result.now (fetched c) returns

  -- and goes on
  goes_on : (store : Store) (after : Thread)
      → ((below : List Activation) (caller : Activation) → c.args.thread.now.callers.items ≡ below ++ caller ∷ [] → Resumes c.args.program.now (given_by c.instr_at-instr.result.now c.get-activation.result.now) caller below c.args.store.now store c.args.thread.now after)
      → StepsFreely c.args.program.now c.args.world.now c.args.number c.args.store.now store c.args.thread.now after Quiet
  goes_on store after resumes others own shared s stands =
      let p = c.args.program.now in
      let w = c.args.world.now in
      let old = c.args.store.now in
      let t = c.args.thread.now in
      let call = c.get-activation.result.now in
      let i = c.instr_at-instr.result.now in
      let is = running c.in-Some.is c.get-activation.ensures in
      let l = last_of t.callers.items (some_callers c) in (
        free p w old others c.args.number own shared t s c.requires.lowered stands call is i (fetched c) (no_call p w old others c.args.number own shared t s c.requires.lowered stands call is i (fetched c) returns),
        returned_to p w old others c.args.number own shared t s c.requires.lowered stands call is i (fetched c) returns l.0 l.1 l.2 after store (resumes l.0 l.1 l.2),
      )

  -- the rest of the thread is as it was
  same_ending : (v : ReturnValue) (store : Store) (after : Thread)
      → ((below : List Activation) (caller : Activation) → c.args.thread.now.callers.items ≡ below ++ caller ∷ [] → Resumes c.args.program.now v caller below c.args.store.now store c.args.thread.now after)
      → after.ending ≡ c.args.thread.now.ending
  same_ending v store after resumes = let l = last_of c.args.thread.now.callers.items (some_callers c) in ap (λ (t : Thread). t.ending) (resumes l.0 l.1 l.2).resumed

pub resume-requires-clause-called : goal.resume-requires-clause-called
resume-requires-clause-called c = caller_there (goal.at.resume-requires-clause-called c).After-instr_at-instr (subst IsReturn (sym c.in-ReturnJint.is) tt)

pub returns-in-ReturnJint-clause-steps : goal.returns-in-ReturnJint-clause-steps
returns-in-ReturnJint-clause-steps c e = goes_on (goal.at.returns-in-ReturnJint-clause-steps c).After-instr_at-instr (subst IsReturn (sym c.in-ReturnJint.is) tt) c.resume.new.store c.resume.new.thread
    (λ below caller last. subst (λ (v : ReturnValue). Resumes c.args.program.now v caller below c.args.store.now c.resume.new.store c.args.thread.now c.resume.new.thread) c.given_by-value.ensures (c.resume.ensures below caller last))

pub returns-in-ReturnJint-clause-ending : goal.returns-in-ReturnJint-clause-ending
returns-in-ReturnJint-clause-ending c = same_ending (goal.at.returns-in-ReturnJint-clause-ending c).After-instr_at-instr (subst IsReturn (sym c.in-ReturnJint.is) tt) c.given_by-value.result c.resume.new.store c.resume.new.thread c.resume.ensures

pub resume-requires-in-Return-clause-called : goal.resume-requires-in-Return-clause-called
resume-requires-in-Return-clause-called c = caller_there (goal.at.resume-requires-in-Return-clause-called c).After-instr_at-instr (by_return _ c.in-Return.is)

pub returns-in-Return-clause-steps : goal.returns-in-Return-clause-steps
returns-in-Return-clause-steps c e = goes_on (goal.at.returns-in-Return-clause-steps c).After-instr_at-instr (by_return _ c.in-Return.is) c.resume-in-Return.new.store c.resume-in-Return.new.thread
    (λ below caller last. subst (λ (v : ReturnValue). Resumes c.args.program.now v caller below c.args.store.now c.resume-in-Return.new.store c.args.thread.now c.resume-in-Return.new.thread) c.given_by-value-in-Return.ensures (c.resume-in-Return.ensures below caller last))

pub returns-in-Return-clause-ending : goal.returns-in-Return-clause-ending
returns-in-Return-clause-ending c = same_ending (goal.at.returns-in-Return-clause-ending c).After-instr_at-instr (by_return _ c.in-Return.is) c.given_by-value-in-Return.result c.resume-in-Return.new.store c.resume-in-Return.new.thread c.resume-in-Return.ensures
