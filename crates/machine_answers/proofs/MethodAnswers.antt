-- What calls of methods do.
use Rattle.std.proofs.Common.{◌≡◌, true, drop, map, Option, Some, None, refl, sym, ap, ◌∙◌, arith}
use Rattle.std.proofs.lemmas.List.{drop-map}
use Rattle.jni.specs.declared.function.JniFunction.{JniFunction}
use Rattle.jni.specs.JniFunction.{calls_method}
use Rattle.semantics.specs.Arguments.{Actual, method_given}
use Rattle.semantics.specs.CallStep.{target_element}
use Rattle.semantics.specs.Answer.{Calls as Calling}
use Rattle.semantics.specs.AnswerTable.{call_answer, method_called as as_called}
use Rattle.semantics.specs.CallSight.{ArgumentSight, argument_seen, sight_of_call}
use Rattle.semantics.specs.Checks.{all_pass, go_together}
use Rattle.semantics.specs.Method.{MethodId}
use Rattle.machine_scenes.specs.declared.handle.MethodHandle.{MethodHandle}
use Rattle.machine_scenes.specs.FieldIds.{IsMethod, MethodAgrees}
use Rattle.machine_scenes.specs.Given.{method_at, operand_of}
use Rattle.machine_answers.proofs.CallChecks.{method_at_place}
use Rattle.machine_answers.proofs.CallTraps.{goes_together}
use Rattle.machine_answers.specs.Answered.{TwoCalls, Passes, Asked, unit}
use Rattle.machine_answers.proofs.TwoCalls.{fields, references}

module _ (both : TwoCalls) where
  open both use {p, w, store, pending, activation, call, others, k, owner, shared, s, target, args}

  -- what is seen of an argument
  abbrev pub of : Actual → ArgumentSight
  of a = argument_seen shared.heap (Some a)

  -- the method of a call, which its method ID is of: it takes what it is passed, and is what the call does
  pub record CalledMethod (f : JniFunction) : Type 0 where
    pub method : MethodId
    pub given : method_given args 1 ≡ Some method
    pub handle : MethodHandle
    pub at : method_at (fields both) (operand_of call.operands 1) ≡ Some handle
    pub is : IsMethod (unit both) w.classes handle method
    pub passes : all_pass method.function.parameters (map of (drop 2 args)) ≡ true
    pub answer : call_answer (unit both) w.classes k (sight_of_call shared s f args) f ≡ Calling method

  together : (f : JniFunction) → (h : Asked both f) → Passes both → go_together w.classes (sight_of_call shared s f args) (target_element s.variables target) f ≡ true
  together f h free = goes_together p w store pending activation call others k owner shared s target f args h free

  agree : (f : JniFunction) → Asked both f → MethodAgrees (unit both) w.classes (method_at (fields both) (operand_of call.operands 1)) (method_given args 1)
  agree f h = method_at_place (unit both) w.classes store.heap (references both) (fields both) 1 h.given

  -- a call of a method that has passed its checks
  pub called_method : (f : JniFunction) → calls_method f ≡ true → Asked both f → Passes both → CalledMethod f
  unfolding go_together call_answer
  called_method f is h free = by_method _ _ refl refl (agree f h) (together f h free)
    where
      by_method : (x : Option MethodHandle) (m : Option MethodId) → method_at (fields both) (operand_of call.operands 1) ≡ x → method_given args 1 ≡ m → MethodAgrees (unit both) w.classes x m
          → go_together w.classes (sight_of_call shared s f args) (target_element s.variables target) f ≡ true → CalledMethod f
      by_method None None at given agrees fit = absurd (grind (arith, is, given, fit))
      by_method None (Some m) at given agrees fit = absurd agrees
      by_method (Some x) None at given agrees fit = absurd agrees
      by_method (Some x) (Some m) at given agrees fit =
          let passes : all_pass m.function.parameters (drop 2 (map of args)) ≡ true = grind (arith, is, given, fit) in
          let answer : call_answer (unit both) w.classes k (sight_of_call shared s f args) f ≡ as_called (method_given args 1) = grind (arith, is) in
          record { method = m; given = given; handle = x; at = at; is = agrees; passes = ap (all_pass m.function.parameters) (sym (drop-map of 2 args)) ∙ passes; answer = answer ∙ ap (λ (o : Option MethodId). as_called o) given }
