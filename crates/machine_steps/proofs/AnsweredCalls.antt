-- What a call answers is what its effect is.
use Rattle.std.proofs.Common.{◌≡◌, ◌+◌, ℕ, Bool, true, false, List, length, None, refl, sym, ap, ◌∙◌, subst, Option}
use Rattle.std.specs.Prelude.{◌&&◌, nat_le}
use Rattle.jni.specs.declared.function.JniFunction.{JniFunction}
use Rattle.jni.specs.JniFunction.{calls_method, prototype}
use Rattle.jni.specs.declared.kinds.ResultKind.{ResultKind}
use Rattle.syntax.specs.Views.{unit_tree}
use Rattle.semantics.specs.CallEffects.{CallEffect, Halts}
use Rattle.semantics.specs.CallStep.{effect_of_call, trap_of_call}
use Rattle.semantics.specs.Answer.{Answer as SourceAnswer}
use Rattle.semantics.specs.AnswerTable.{call_answer}
use Rattle.semantics.specs.CallSight.{sight_of_call}
use Rattle.semantics.specs.Effect.{Effect, effect_of}
use Rattle.semantics.specs.Task.{Task}
use Rattle.semantics.specs.Thread.{BuffersInUse, Shared, Thread, sight_of}
use Rattle.semantics.specs.ThreadStep.{after_effect}
use Rattle.semantics.specs.World.{World}
use Rattle.code.specs.Call.{call_view}
use Rattle.code.specs.declared.instr.Call.{Call}
use Rattle.code_meaning.specs.Lowered.{Lowered}
use Rattle.machine_answers.specs.declared.answer.Answer.{Answer}
use Rattle.machine_answers.specs.declared.answer.Answer.TheVariants as answer
use Rattle.semantics.specs.declared.trap.Trap.{Trap}
use Rattle.machine_scenes.specs.declared.store.Store.{Store}
use Rattle.machine_scenes.specs.declared.activation.Activation.{Activation}
use Rattle.machine_answers.specs.Answers.{Brought, IsAnswer, effect_told, is_carried}
use Rattle.machine_answers.proofs.TrapsSeen.{with_depth}
use Rattle.machine_answers.specs.Asked.{brought_by}
use Rattle.machine_calls.specs.CarriedOut.{IsPossible}
use Rattle.machine_calls.specs.Made.{cells_of}
use Rattle.machine_scenes.specs.NewObjects.{texts_in}
use Rattle.semantics_safety.specs.Owners.{Owners}
use Rattle.machine_steps.specs.Executes.{cells_made, in_use_with}
use Rattle.machine_scenes.specs.Buffers.{Acquired}
use Rattle.machine_steps.specs.Invoked.{AtCall, IsAnswered, is_halt}
use Rattle.machine_answers.specs.Answered.{IsAnswerTo, TwoCalls}
use Rattle.machine_calls.proofs.AnswerCases.{halted as halted_so}
use Rattle.machine_calls.proofs.CellsMade.{cells_made as cells_answered}
use Rattle.machine_steps.proofs.AskedCalls.{CalledAs, called, effect_is, cells_wanted, r, possible, trap_is, two_calls}

-- a method isn't called
abbrev pub IsNoCall : Answer → Type 0
IsNoCall answer.Calls = ⊥
IsNoCall a = Unit {0}

pub no_call : (a : Answer) → is_carried a ≡ true → IsNoCall a
no_call (answer.Halts trap) is = absurd (let clash : false ≡ true = is in cc)
no_call answer.Calls is = absurd (let clash : false ≡ true = is in cc)
no_call a is = tt

-- what isn't carried out, and doesn't stop the machine, calls a method
pub calls_one : (a : Answer) → is_halt a ≡ false → is_carried a ≡ false → a ≡ answer.Calls
calls_one (answer.Halts trap) runs other = absurd (let clash : true ≡ false = runs in cc)
calls_one answer.Calls runs other = refl
calls_one a runs other = absurd (let clash : true ≡ false = other in cc)

-- the machine is at a call that no check stops
module _ (p : Lowered) (w : World) (store : Store) (pending : Option ℕ) (call : Activation) (function : Call) (others : Acquired) (k owner : ℕ) (own : Owners) (shared : Shared) (s : Thread) (task : Task) (rest : List Task) (h : AtCall p w store pending call function others k owner own shared s task rest) (answer : Answer) (given : IsAnswered p w store pending call k function answer) (own_answer : IsNoCall answer) where
  abbrev pub it : CalledAs p w store pending call h.code (call_view function) others k owner own shared s task rest (r p w store pending call function others k owner own shared s task rest h) (effect_of (sight_of shared s) task)
  it = called p w store pending call function others k owner own shared s task rest h

  abbrev in_use : BuffersInUse
  in_use = in_use_with others s

  -- what it brings
  abbrev pub brings : Brought
  brings = brought_by (unit_tree p.unit) store call k owner in_use (call_view function) it.args

  abbrev both : TwoCalls
  both = two_calls p w store pending call function others k owner own shared s task rest h given.sound

  -- it calls no method
  no_method : calls_method it.f ≡ false
  unfolding IsAnswerTo
  no_method = by_method (calls_method it.f) refl
    where
      by_method : (b : Bool) → calls_method it.f ≡ b → calls_method it.f ≡ false
      by_method false is = is
      by_method true is = absurd (subst IsNoCall (given.works.calls (ap calls_method it.asked.same_function ∙ is)) own_answer)

  -- no check stops the source's
  pub free : trap_of_call w.classes shared s it.target it.f it.args ≡ None
  free =
      sym (trap_is p w store pending call function others k owner own shared s task rest h)
      ∙ (λ i. with_depth (no_method i && nat_le 64 (length s.callers + 1)) (given.free i))

  -- what the source's call answers
  abbrev pub told : SourceAnswer
  told = call_answer (unit_tree p.unit) w.classes k (sight_of_call shared s it.f it.args) it.f

  -- what that does
  abbrev pub does : CallEffect
  does = effect_told w.classes brings shared s told

  -- the kind of its result
  module _ (kind : ResultKind) (same : kind ≡ (prototype function.function).result) where
    pub kind_is : kind ≡ (prototype it.f).result
    kind_is = same ∙ ap (λ (f : JniFunction). (prototype f).result) it.asked.same_function

    pub answered : IsAnswer w.classes brings store.heap call.locals shared s answer kind told
    unfolding IsAnswerTo
    answered =
        subst (λ (x : ResultKind). IsAnswer w.classes brings store.heap call.locals shared s answer x told) (sym kind_is)
        (given.works.stands both it.f refl refl it.asked given.free)

    pub can_carry : IsPossible p w store pending call.locals others shared s
    can_carry = possible p w store pending call function others k owner own shared s task rest h

    -- its step makes what the answer makes
    pub cells_asked : cells_made shared (after_effect (unit_tree p.unit) w.classes in_use k shared s rest (effect_of (sight_of shared s) task)) ≡ cells_of w.classes (texts_in function.texts.items) answer
    cells_asked =
        ap (λ (e : Effect). cells_made shared (after_effect (unit_tree p.unit) w.classes in_use k shared s rest e)) it.is
        ∙ cells_wanted p w store pending call function others k owner own shared s task rest h free
        ∙ cells_answered w.classes brings store.heap call.locals shared s answered

-- the machine is at a call that stops it, all checks being passed
module _ (p : Lowered) (w : World) (store : Store) (pending : Option ℕ) (call : Activation) (function : Call) (others : Acquired) (k owner : ℕ) (own : Owners) (shared : Shared) (s : Thread) (task : Task) (rest : List Task) (h : AtCall p w store pending call function others k owner own shared s task rest) (trap : Trap) (halted : IsAnswered p w store pending call k function (answer.Halts trap)) where
  -- so does the source's
  pub halts : let it = called p w store pending call function others k owner own shared s task rest h in effect_of_call (unit_tree p.unit) w.classes (in_use_with others s) k shared s it.line it.target it.f it.args rest ≡ Halts trap
  halts =
      let it = called p w store pending call function others k owner own shared s task rest h in
      effect_is p w store pending call function others k owner own shared s task rest h (free p w store pending call function others k owner own shared s task rest h (answer.Halts trap) halted tt)
      ∙ halted_so (answered p w store pending call function others k owner own shared s task rest h (answer.Halts trap) halted tt (prototype it.f).result (ap (λ (f : JniFunction). (prototype f).result) (sym it.asked.same_function)))
