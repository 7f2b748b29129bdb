-- A call that answers by calling a method is one that the source's thread makes, unless calls are too deep.
use Rattle.std.proofs.Common.{◌≡◌, ◌+◌, ℕ, suc, Bool, true, false, List, length, Option, None, refl, sym, ap, ◌∙◌, subst, arith}
use Rattle.std.specs.Prelude.{◌&&◌, nat_le, if◌then◌else◌}
use Rattle.code.specs.Call.{call_view}
use Rattle.code.specs.declared.instr.Call.{Call}
use Rattle.code_meaning.specs.Lowered.{Lowered}
use Rattle.jni.specs.JniFunction.{calls_method, prototype}
use Rattle.machine_answers.specs.Answered.{IsAnswerTo}
use Rattle.machine_answers.specs.Answers.{IsAnswer}
use Rattle.machine_calls.proofs.AnswerCases.{called as called_so}
use Rattle.machine_answers.specs.Asked.{brought_by}
use Rattle.machine_answers.proofs.TrapsSeen.{is_too_deep, with_depth}
use Rattle.machine_answers.specs.declared.answer.Answer.TheVariants as answer
use Rattle.machine_scenes.specs.Buffers.{Acquired}
use Rattle.machine_scenes.specs.declared.activation.Activation.{Activation}
use Rattle.machine_scenes.specs.declared.store.Store.{Store}
use Rattle.machine_steps.proofs.AskedCalls.{CalledAs, called, found_trap, r, traps, trap_is, two_calls}
use Rattle.machine_steps.specs.Executes.{Executes, in_use_with}
use Rattle.machine_steps.specs.Invoked.{AtCall, IsAnswered, called_from, executed_as}
use Rattle.machine_steps.specs.declared.invoke.Invoked.{Invoked}
use Rattle.machine_steps.specs.declared.invoke.Invoked.TheVariants as invoked
use Rattle.semantics.specs.CallEffects.{Enters}
use Rattle.semantics.specs.CallStep.{after_call, checked, effect_of_call, trap_of_call}
use Rattle.semantics.specs.AnswerTable.{call_answer, call_effect}
use Rattle.semantics.specs.CallSight.{sight_of_call}
use Rattle.semantics.specs.Effect.{effect_of}
use Rattle.semantics.specs.Task.{Task}
use Rattle.semantics.specs.Thread.{Shared, Thread, sight_of}
use Rattle.semantics.specs.ThreadStep.{after_effect}
use Rattle.semantics.specs.declared.trap.Trap.{Trap}
use Rattle.semantics.specs.World.{World}
use Rattle.semantics.specs.declared.trap.Trap.TheVariants as trap
use Rattle.semantics_safety.proofs.CallLaws.{IsWithin}
use Rattle.semantics_safety.proofs.KeptCalls.{Held, KeepsCalls, calls_kept}
use Rattle.semantics_safety.specs.Owners.{Owners}
use Rattle.syntax.specs.Views.{unit_tree}

module _ (p : Lowered) (w : World) (store : Store) (pending : Option ℕ) (call : Activation) (function : Call) (others : Acquired) (k owner : ℕ) (own : Owners) (shared : Shared) (s : Thread) (task : Task) (rest : List Task) (h : AtCall p w store pending call function others k owner own shared s task rest) (given : IsAnswered p w store pending call k function answer.Calls) where
  abbrev it : CalledAs p w store pending call h.code (call_view function) others k owner own shared s task rest (r p w store pending call function others k owner own shared s task rest h) (effect_of (sight_of shared s) task)
  it = called p w store pending call function others k owner own shared s task rest h

  -- its trap is that of how deep calls are, or none
  trap_now : trap_of_call w.classes shared s it.target it.f it.args ≡ with_depth (is_too_deep it.f (length s.callers)) None
  trap_now = sym (trap_is p w store pending call function others k owner own shared s task rest h) ∙ ap (with_depth (is_too_deep it.f (length s.callers))) given.free

  -- what makes no call keeps the calls to come
  none_entered : calls_method it.f ≡ false → trap_of_call w.classes shared s it.target it.f it.args ≡ None → (name : _) (arguments : _) → call_effect (unit_tree p.unit) w.classes (in_use_with others s) k shared s it.args it.f ≡ Enters name arguments → ⊥
  none_entered own_answer free name arguments is =
      let unit = unit_tree p.unit in
      let in_use = in_use_with others s in
      let within : IsWithin (effect_of (sight_of shared s) task) = subst IsWithin (sym it.is) own_answer in
      let kept = calls_kept unit w.classes in_use k shared s false task rest within in
      let effect : effect_of_call unit w.classes in_use k shared s it.line it.target it.f it.args rest ≡ Enters name arguments =
      ap (λ (o : Option Trap). checked o (call_effect unit w.classes in_use k shared s it.args it.f)) free ∙ is in
      let step = ap (after_effect unit w.classes in_use k shared s rest) it.is ∙ ap (after_call unit w.classes in_use k shared s it.line it.target it.f it.args rest) effect in
      let same = subst (KeepsCalls (s.calls, s.callers)) step kept in
      let longer : suc (length s.calls) ≡ length s.calls = ap (λ (x : Held). length x.0) same in
      omega (arith, longer)

  method_is : (b : Bool) → calls_method it.f ≡ b → calls_method it.f ≡ true
  unfolding IsAnswerTo
  method_is true is = is
  method_is false is =
      let free = trap_now ∙ ap (λ (m : Bool). with_depth (m && nat_le 64 (length s.callers + 1)) None) is in
      let a : IsAnswer w.classes (brought_by (unit_tree p.unit) store call k owner (in_use_with others s) (call_view function) it.args) store.heap call.locals shared s answer.Calls (prototype it.f).result (call_answer (unit_tree p.unit) w.classes k (sight_of_call shared s it.f it.args) it.f) =
      given.works.stands (two_calls p w store pending call function others k owner own shared s task rest h given.sound) it.f refl refl it.asked given.free in
      let entered = called_so a in
      absurd (none_entered is free entered.0 entered.1 entered.2)

  -- it is of a function that calls methods
  pub calls_one : calls_method it.f ≡ true
  calls_one = method_is (calls_method it.f) refl

  -- which the source's call does, or stops, by how deep calls are
  pub calls_on : Executes p w store store others k owner own shared s rest call pending (effect_of (sight_of shared s) task) (executed_as function.line (called_from (length s.callers)))
  calls_on = by_depth (nat_le 64 (length s.callers + 1)) refl
    where
      at_depth : (b : Bool) → nat_le 64 (length s.callers + 1) ≡ b → trap_of_call w.classes shared s it.target it.f it.args ≡ with_depth b None
      at_depth b is = trap_now ∙ (λ i. with_depth (calls_one i && is i) None)

      Does : Invoked → Type 0
      Does x = Executes p w store store others k owner own shared s rest call pending (effect_of (sight_of shared s) task) (executed_as function.line x)

      by_depth : (b : Bool) → nat_le 64 (length s.callers + 1) ≡ b → Does (if b then invoked.Trapped trap.CallsTooDeep else invoked.Calls)
      by_depth true is =
          traps p w store pending call function others k owner own shared s task rest h trap.CallsTooDeep function.line refl
          (found_trap p w store pending call function others k owner own shared s task rest h trap.CallsTooDeep (at_depth true is))
      by_depth false is = record { line = it.line; target = it.target; f = it.f; args = it.args; is = it.is; method = calls_one; free = at_depth false is }
