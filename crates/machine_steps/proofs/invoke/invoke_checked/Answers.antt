use Rattle.std.specs.Global.{Vec}
use Rattle.std.proofs.Common.{◌≡◌, ℕ, ◌+◌, List, length, ◌<◌, ◌||◌, Bool, true, false, Some, Ok, ⊎_elim, refl, sym, ap, ◌∙◌, subst, arith}
use Rattle.std.specs.Prelude.{nat_le, if◌then◌else◌}
use Rattle.std.proofs.lemmas.Bool.{leb-false, leb-true}
use Rattle.std.proofs.lemmas.Result.{err_from_is_err_and}
use Rattle.class_rules.specs.Class.{Classes}
use Rattle.heap.specs.Heap.{left_of}
use Rattle.machine_answers.specs.declared.answer.Answer.{Answer}
use Rattle.machine_answers.specs.declared.answer.Answer.TheVariants as answer
use Rattle.semantics.specs.Effect.{effect_of}
use Rattle.semantics.specs.Thread.{sight_of}
use Rattle.semantics.specs.declared.trap.Trap.TheVariants.{CallsTooDeep}
use Rattle.machine_steps.specs.Executes.{Executes}
use Rattle.machine_steps.specs.Invoked.{IsAnswered, called_from, executed_as, trap_at}
use Rattle.machine_steps.specs.declared.invoke.Invoked.{Invoked}
use Rattle.machine_steps.specs.declared.invoke.Invoked.TheVariants as invoked
use Rattle.machine_calls.specs.Made.{cells_of}
use Rattle.machine_scenes.specs.NewObjects.{texts_in}
use Rattle.machine_calls.proofs.CellsMade.{memory_free}
use Rattle.machine_steps.proofs.AnsweredCalls.{calls_one, cells_asked, halts, no_call}
use Rattle.machine_steps.proofs.AskedCalls.{found_trap, traps, trap_found_is}
use Rattle.machine_steps.proofs.MethodCalls.{calls_on}
use Rattle.machine_steps.proofs.SeenAnswers.{never_calls}
use Rattle.machine_steps.proofs.invoke.invoke_checked.Goals as goal

pub answer_or_trap-requires-clause-at_call : goal.answer_or_trap-requires-clause-at_call
answer_or_trap-requires-clause-at_call c = (c.args.context.now.owner, c.requires.may.at_call)

pub called_at-requires : goal.called_at-requires
called_at-requires c = let a = c.requires.may.at_call in (length a.3.callers, a.6.depth)

-- what a call of a method comes to isn't refused
never_refused : (below : ℕ) → called_from below ≡ invoked.Refused → ⊥
never_refused below = by_depth (nat_le 64 (below + 1))
  where
    by_depth : (b : Bool) → (if b then invoked.Trapped CallsTooDeep else invoked.Calls) ≡ invoked.Refused → ⊥
    by_depth true is = cc
    by_depth false is = cc

pub returns-else-is_carried : goal.returns-else-is_carried
returns-else-is_carried c = record {
  done = λ others own shared s task rest h.
      let p = c.args.context.now.step.program.now in
      let w = c.args.context.now.step.world.now in
      let store = c.args.store.now in
      let pending = c.args.pending.now in
      let activation = c.args.activation.now in
      let call = c.args.context.now.call.now in
      let given = subst (IsAnswered p w store pending activation c.args.context.now.step.thread call) (calls_one c.in-Ok.answer c.in-Ok.ensures.runs (sym c.is_carried.ensures ∙ c.if-is_carried.false)) c.in-Ok.ensures.answer in
      subst (λ (done : Invoked). Executes p w store store others c.args.context.now.step.thread c.args.context.now.owner own shared s rest activation pending (effect_of (sight_of shared s) task) (executed_as call.line done)) (sym (c.called_at.ensures (length s.callers) h.depth))
      (calls_on p w store pending activation call others c.args.context.now.step.thread c.args.context.now.owner own shared s task rest h given);
  hindered = tt;
  refuses = λ is.
      let a = c.requires.may.at_call in
      let same : c.called_at.result ≡ invoked.Refused = let both : Ok c.called_at.result ≡ Ok invoked.Refused = is in cc in
      absurd (never_refused (length a.3.callers) (sym (c.called_at.ensures (length a.3.callers) a.6.depth) ∙ same));
  calls = λ is. (refl, refl, refl);
  kept = tt;
}

pub returns-in-Err : goal.returns-in-Err
returns-in-Err c = record {
  done = λ others own shared s task rest h.
      let p = c.args.context.now.step.program.now in
      let w = c.args.context.now.step.world.now in
      let store = c.args.store.now in
      let pending = c.args.pending.now in
      let activation = c.args.activation.now in
      let call = c.args.context.now.call.now in
      let trap = c.in-Err.trap in
      traps p w store pending activation call others c.args.context.now.step.thread c.args.context.now.owner own shared s task rest h trap call.line refl
      (⊎_elim
      (λ (found : trap_at p w store pending activation c.args.context.now.step.thread call ≡ Some trap). found_trap p w store pending activation call others c.args.context.now.step.thread c.args.context.now.owner own shared s task rest h trap (trap_found_is p w store pending activation call others c.args.context.now.step.thread c.args.context.now.owner own shared s task rest h trap found))
      (λ (halted : IsAnswered p w store pending activation c.args.context.now.step.thread call (answer.Halts trap)). halts p w store pending activation call others c.args.context.now.step.thread c.args.context.now.owner own shared s task rest h trap halted)
      c.in-Err.ensures.trap);
  hindered = tt;
  refuses = λ is. absurd (cc);
  calls = λ is. absurd (cc);
  kept = tt;
}

-- what may not be refused is not carried out where it has no room
held_back : (goes may_refuse : Bool) (table classes : Classes) (texts : List (List ℕ)) (answer : Answer) (left cells : ℕ) → goes ≡ (may_refuse || nat_le (cells_of table texts answer) left) → goes ≡ false → table ≡ classes → cells ≡ cells_of classes texts answer → (may_refuse ≡ false) × (left < cells)
held_back goes true table classes texts answer left cells is stays same asked = absurd (let clash : true ≡ false = sym is ∙ stays in cc)
held_back goes false table classes texts answer left cells is stays same asked = (refl, omega (arith, leb-false (cells_of table texts answer) left (sym is ∙ stays), ap (λ (t : Classes). cells_of t texts answer) same))

-- what is carried out has room, or may be refused
may_be : (goes may_refuse : Bool) (table classes : Classes) (texts texts' : List (List ℕ)) (answer : Answer) (left : ℕ) → goes ≡ (may_refuse || nat_le (cells_of table texts answer) left) → goes ≡ true → table ≡ classes → texts ≡ texts' → left < cells_of classes texts' answer → may_refuse ≡ true
may_be goes true table classes texts texts' answer left is ahead same same_texts short = refl
may_be goes false table classes texts texts' answer left is ahead same same_texts short =
    absurd (omega (arith, leb-true (cells_of table texts answer) left (sym is ∙ ahead), short, ap (λ (t : Classes). cells_of t texts answer) same, ap (λ (l : List (List ℕ)). cells_of classes l answer) same_texts))

pub returns-in_ok-finish-in-Ok : goal.returns-in_ok-finish-in-Ok
returns-in_ok-finish-in-Ok c =
    let told = c.in_ok-finish-in-Ok.ensures in
    record {
      done = told.done;
      hindered = tt;
      refuses = λ is.
          let same : c.in_ok-finish-in-Ok.field-0 ≡ invoked.Refused = let both : Ok c.in_ok-finish-in-Ok.field-0 ≡ Ok invoked.Refused = is in cc in
          may_be c.goes_ahead.result c.args.context.now.step.may_refuse c.classes.result.now c.args.context.now.step.world.now.classes (texts_in c.deref.result.now) (texts_in c.args.context.now.call.now.texts.items) c.in-Ok.answer (left_of c.args.store.now.heap) c.goes_ahead.ensures c.if-goes_ahead.true c.classes.ensures.classes (ap texts_in c.deref.ensures.value) (told.refused (ap (λ (x : Invoked). Ok x) same));
      calls = λ is. absurd (never_calls told.ended.0 _ told.ended.1 is);
      kept = tt;
    }

pub returns-else-goes_ahead : goal.returns-else-goes_ahead
returns-else-goes_ahead c = record {
  done = tt;
  hindered = λ others own shared s task rest h.
      let p = c.args.context.now.step.program.now in
      held_back c.goes_ahead.result c.args.context.now.step.may_refuse c.classes.result.now c.args.context.now.step.world.now.classes (texts_in c.deref.result.now) c.in-Ok.answer (left_of c.args.store.now.heap) _ c.goes_ahead.ensures c.if-goes_ahead.false c.classes.ensures.classes
      (cells_asked p c.args.context.now.step.world.now c.args.store.now c.args.pending.now c.args.activation.now c.args.context.now.call.now others c.args.context.now.step.thread c.args.context.now.owner own shared s task rest h c.in-Ok.answer c.in-Ok.ensures.answer (no_call c.in-Ok.answer (sym c.is_carried.ensures ∙ c.if-is_carried.true)) c.args.context.now.call.now.result c.requires.may.prepared.result
      ∙ ap (λ (l : List (Vec ℕ)). cells_of c.args.context.now.step.world.now.classes (texts_in l) c.in-Ok.answer) (sym c.deref.ensures.value));
  refuses = λ is. absurd (cc);
  calls = tt;
  kept = (refl, refl, refl);
}

pub returns-in_err-finish-in-Ok : goal.returns-in_err-finish-in-Ok
returns-in_err-finish-in-Ok c =
    let given = err_from_is_err_and c.from_residual.result c.from_residual.ensures.1 in
    rw (given.1, given.2)
    (record {
      done = tt;
      hindered = λ others own shared s task rest h.
          cells_asked c.args.context.now.step.program.now c.args.context.now.step.world.now c.args.store.now c.args.pending.now c.args.activation.now c.args.context.now.call.now others c.args.context.now.step.thread c.args.context.now.owner own shared s task rest h c.in-Ok.answer c.in-Ok.ensures.answer (no_call c.in-Ok.answer (sym c.is_carried.ensures ∙ c.if-is_carried.true)) c.args.context.now.call.now.result c.requires.may.prepared.result
          ∙ memory_free c.args.context.now.step.world.now.classes (texts_in c.args.context.now.call.now.texts.items) c.in-Ok.answer c.in_err-finish-in-Ok.ensures.memory;
      refuses = λ is. absurd (cc);
      calls = tt;
      kept = c.in_err-finish-in-Ok.ensures.kept;
    })
