-- What a call of a method passes is what the source's call does.
use Rattle.std.proofs.Common.{inl, inr, ◌≡◌, ℕ, zero, suc, ◌-◌, true, List, [], ◌∷◌, ◌++◌, drop, length, map, replicate, Option, Some, None, refl, sym, ap, ◌∙◌, subst, arith}
use Rattle.std.specs.Prelude.{reverse}
use Rattle.std.proofs.lemmas.List.{reverse-append}
use Rattle.std.specs.List.{AllZip}
use Rattle.syntax.specs.Tree.{SourceUnit}
use Rattle.class_rules.specs.Class.{Classes}
use Rattle.code.specs.declared.instr.Operand.{Operand}
use Rattle.code.specs.declared.instr.Operand.TheVariants as operand
use Rattle.heap.specs.Heap.{Space}
use Rattle.heap.specs.declared.value.Value.{Value}
use Rattle.jni.specs.declared.function.JniFunction.{JniFunction}
use Rattle.jni.specs.JniFunction.{calls_method, parameters_for}
use Rattle.jni.specs.declared.kinds.ParameterKind.{ParameterKind}
use Rattle.jni.specs.declared.kinds.ParameterKind.TheVariants.{ClassObject, MethodID, Passed}
use Rattle.semantics.specs.Arguments.{Actual, NumberActual, passed_value}
use Rattle.semantics.specs.Object.{Refers, Reference}
use Rattle.semantics.specs.Variable.{StaticReference, as_reference, as_static}
use Rattle.code_meaning.specs.Does.{AllTogether, words_given}
use Rattle.code_meaning.specs.Does as does
use Rattle.machine_scenes.specs.declared.handle.Handle.{Handle}
use Rattle.machine_scenes.specs.declared.references.Held.{Held}
use Rattle.machine_scenes.specs.Given as given
use Rattle.machine_scenes.specs.Given.{IsGiven, operand_at}
use Rattle.machine_scenes.specs.HeapAgrees.{ReferenceAgrees, ValueAgrees, ValuesAgree}
use Rattle.machine_scenes.specs.StoreAgrees.{HeldAgrees}
use Rattle.machine_scenes.specs.Statics.{References, held_address, held_argument, static_at}
use Rattle.machine_answers.specs.Passed.{passed_in}
use Rattle.machine_answers.specs.WorkedOut.{held_reference}
use Rattle.machine_answers.proofs.CallChecks.{by_argument}
use Rattle.machine_answers.specs.Answered.{TwoCalls, Asked, unit}
use Rattle.machine_answers.proofs.TwoCalls.{references, fields}

-- ---- words in order

-- the words of numbers, the first first
abbrev in_order : List Actual → List ℕ
in_order [] = []
in_order (a ∷ args) = does.word_given a ++ in_order args

one_alone : (a : Actual) → reverse (does.word_given a) ≡ does.word_given a
one_alone (NumberActual z) = refl
one_alone a = refl

reversed : (args : List Actual) → reverse (words_given args) ≡ in_order args
reversed [] = refl
reversed (a ∷ args) = reverse-append (words_given args) (does.word_given a) ∙ (let one = one_alone a in let further = reversed args in λ i. one i ++ further i)

-- ---- values

module _ (unit : SourceUnit) (classes : Classes) (space : Space) (references : References) (fields : List (Option Handle)) where
  held_agrees : (x : Option ℕ) (q : Reference) → ReferenceAgrees space x q → ValueAgrees space (held_reference x) (Refers (as_reference (as_static q)))
  held_agrees None None h = h
  held_agrees None (Some n) h = absurd h
  held_agrees (Some a) None h = absurd h
  held_agrees (Some a) (Some n) h = h

  static_agrees : (h : Held) (r : StaticReference) → HeldAgrees space (held_argument h) r → ValueAgrees space (held_reference (held_address h)) (Refers (as_reference r))
  static_agrees = by_argument space (λ h r. ValueAgrees space (held_reference (held_address h)) (Refers (as_reference r))) tt (λ a n e. e) (λ a n e. e) tt tt

  -- what one operand gives, and the words that are left
  one_value : {o : Operand} {a : Actual} → IsGiven unit classes space references fields Passed o a → (operands : List Operand) (args : List Actual) → ValuesAgree space (passed_in references operands (in_order args)) (map passed_value args)
      → ValuesAgree space (passed_in references (o ∷ operands) (does.word_given a ++ in_order args)) (passed_value a ∷ map passed_value args)
  one_value (given.passed fits) operands args later = ((fits, refl), later)
  one_value (given.reference kind (given.null takes)) operands args later = (held_agrees None None tt, later)
  one_value (given.reference kind (given.local {i = i} r takes agrees)) operands args later = (held_agrees (operand_at references (operand.Local i)) r agrees, later)
  one_value (given.reference kind (given.static {i = i} {r = r} takes agrees)) operands args later = (static_agrees (static_at references i) r agrees, later)

  all_values : (n : ℕ) {operands : List Operand} {args : List Actual} → AllTogether (IsGiven unit classes space references fields) (replicate n Passed) operands args → ValuesAgree space (passed_in references operands (in_order args)) (map passed_value args)
  all_values zero does.none = tt
  all_values (suc n) (does.more {ys = operands} {zs = args} h rest) = one_value h operands args (all_values n rest)

  no_class_word : {o : Operand} {a : Actual} → IsGiven unit classes space references fields ClassObject o a → does.word_given a ≡ []
  no_class_word (given.reference kind there) = refl

  no_method_word : {o : Operand} {a : Actual} → IsGiven unit classes space references fields MethodID o a → does.word_given a ≡ []
  no_method_word given.null_method = refl
  no_method_word h = refl

  -- those after the class and the method ID
  rest_values : (n : ℕ) {operands : List Operand} {args : List Actual} → AllTogether (IsGiven unit classes space references fields) (ClassObject ∷ MethodID ∷ replicate n Passed) operands args
      → ValuesAgree space (passed_in references (drop 2 operands) (in_order args)) (map passed_value (drop 2 args))
  rest_values n (does.more {z = a} class (does.more {z = b} {ys = operands} {zs = args} method rest)) =
      let none = no_class_word class in
      let no_more = no_method_word method in
      let words : in_order (a ∷ b ∷ args) ≡ in_order args = λ i. none i ++ (no_more i ++ in_order args) in
      subst (λ (words : List ℕ). ValuesAgree space (passed_in references operands words) (map passed_value args)) (sym words) (all_values n rest)

-- the parameters of a function that calls a method
pub method_parameters : (f : JniFunction) (n : ℕ) → calls_method f ≡ true → parameters_for f n ≡ ClassObject ∷ MethodID ∷ replicate (n - 2) Passed
method_parameters f n is = grind (arith, is)

module _ (both : TwoCalls) where
  open both use {w, store, activation, call, args}

  -- what the machine passes stands for what the source does
  pub values_passed : (f : JniFunction) → calls_method f ≡ true → Asked both f → ValuesAgree store.heap (passed_in (references both) (drop 2 call.operands) (reverse activation.stack)) (map passed_value (drop 2 args))
  values_passed f is h =
      subst (λ (words : List ℕ). ValuesAgree store.heap (passed_in (references both) (drop 2 call.operands) words) (map passed_value (drop 2 args))) (sym (ap reverse h.words ∙ reversed args))
      (rest_values (unit both) w.classes store.heap (references both) (fields both) (length args - 2) (subst (λ (l : List ParameterKind). AllTogether (IsGiven (unit both) w.classes store.heap (references both) (fields both)) l call.operands args) (method_parameters f (length args) is) h.given))
