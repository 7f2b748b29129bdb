-- An element that a task sets is there.
use Rattle.std.proofs.Common.{◌≡◌, ℕ, ℤ, Bool, true, false, List, cond, refl}
use Rattle.base.specs.Bytes.{Identifier}
use Rattle.syntax.specs.declared.expr.Constant.TheVariants.{Null}
use Rattle.syntax.specs.Tree.{Expr, Block}
use Rattle.jni.specs.declared.function.JniFunction.{JniFunction}
use Rattle.semantics.specs.Arguments.{actuals}
use Rattle.semantics.specs.CallEffects.{ScalarResult}
use Rattle.semantics.specs.Effect as effect
use Rattle.semantics.specs.Effect.{Effect, SetsElement, Calls, at_line, goes_on, with_value, print_effect, branch_effect, loop_effect, element_effect, reduce_first, is_ready, returned_name, return_effect, effect_of}
use Rattle.semantics.specs.Sight.{Sight}
use Rattle.semantics.specs.Task.{Task, SetScalar, SetElement, SetNull, MakeArray, Invoke, Print, Branch, EndIf, Loop, EndTurn, Return, ReturnValue, Impossible, Target, Operand}
use Rattle.semantics.specs.Term.{Term, Done, Named, Read, index_of, reduce}
use Rattle.semantics.specs.Variable.{StaticReference}
use Rattle.semantics.specs.declared.value.Value.{Value}
use Rattle.semantics.specs.declared.value.Value.TheVariants.{Word, Int, Flag, Truth}
use Rattle.semantics.specs.Value.{Outcome, Gives, Traps, Stuck}

-- an element that an effect sets can be seen
abbrev pub SetsWhatIsThere : Sight → Effect → Type 0
SetsWhatIsThere sight (SetsElement x i z) = (old : ℤ) × (sight.element x i ≡ Gives old)
SetsWhatIsThere sight e = Unit {0}

module _ (sight : Sight) (line : ℕ) where
  in_line : {A : Type 0} (f : A → Effect) (o : Outcome A) → ((a : A) → SetsWhatIsThere sight (f a)) → SetsWhatIsThere sight (at_line line f o)
  in_line f (Gives a) h = h a
  in_line f (Traps trap) h = tt
  in_line f Stuck h = tt

  going_on : {A : Type 0} (task : A → Task) (o : Outcome A) → SetsWhatIsThere sight (goes_on line task o)
  going_on task (Gives a) = tt
  going_on task (Traps trap) = tt
  going_on task Stuck = tt

  of_value : (f : Value → Effect) (task : Term → Task) (t : Term) → ((v : Value) → SetsWhatIsThere sight (f v)) → SetsWhatIsThere sight (with_value sight line f task t)
  of_value f task (Done v) h = h v
  of_value f task t h = going_on task (reduce sight t)

  one_element : (x : Identifier) (n : ℕ) (z : ℤ) (o : Outcome ℤ) → sight.element x n ≡ o → SetsWhatIsThere sight (at_line line (λ (old : ℤ). SetsElement x n z) o)
  one_element x n z (Gives old) e = (old, e)
  one_element x n z (Traps trap) e = tt
  one_element x n z Stuck e = tt

  of_element : (x : Identifier) (i v : Value) → SetsWhatIsThere sight (element_effect sight line x i v)
  of_element x i (Int z) = in_line (λ n. at_line line (λ (old : ℤ). SetsElement x n z) (sight.element x n)) (index_of i) (λ n. one_element x n z (sight.element x n) refl)
  of_element x i (Word n) = tt
  of_element x i (Flag b) = tt
  of_element x i (Truth b) = tt

  of_print : (v : Value) → SetsWhatIsThere sight (print_effect v)
  of_print (Int z) = tt
  of_print (Word n) = tt
  of_print (Flag b) = tt
  of_print (Truth b) = tt

  of_branch : (then' else' : Block) (v : Value) → SetsWhatIsThere sight (branch_effect then' else' v)
  of_branch then' else' (Truth true) = tt
  of_branch then' else' (Truth false) = tt
  of_branch then' else' (Int z) = tt
  of_branch then' else' (Word n) = tt
  of_branch then' else' (Flag b) = tt

  of_loop : (test : Expr) (body : Block) (v : Value) → SetsWhatIsThere sight (loop_effect line test body v)
  of_loop test body (Truth true) = tt
  of_loop test body (Truth false) = tt
  of_loop test body (Int z) = tt
  of_loop test body (Word n) = tt
  of_loop test body (Flag b) = tt

  of_call : (target : Target) (f : JniFunction) (operands : List Operand) (b : Bool) → SetsWhatIsThere sight (cond b (Calls line target f (actuals sight f operands)) (goes_on line (Invoke line target f) (reduce_first sight operands)))
  of_call target f operands true = tt
  of_call target f operands false = going_on (Invoke line target f) (reduce_first sight operands)

  of_name : (o : Outcome Value) (r : StaticReference) → SetsWhatIsThere sight (returned_name line o r)
  of_name (Gives v) r = tt
  of_name (Traps trap) r = tt
  of_name Stuck r = tt

  of_return : (t : Term) → SetsWhatIsThere sight (return_effect sight line t)
  of_return (Named Null) = tt
  of_return (Read x) = of_name (sight.number x) (sight.reference x)
  of_return t = of_value (λ v. effect.Returns (ScalarResult v)) (ReturnValue line) t (λ v. tt)

-- a task sets no other element
pub sets_what_is_there : (sight : Sight) (task : Task) → SetsWhatIsThere sight (effect_of sight task)
sets_what_is_there sight (SetScalar line x t) = of_value sight line (effect.Sets x) (SetScalar line x) t (λ v. tt)
sets_what_is_there sight (SetElement line x i e) =
    of_value sight line (λ v. with_value sight line (element_effect sight line x v) (SetElement line x (Done v)) e) (λ u. SetElement line x u e) i
    (λ v. of_value sight line (element_effect sight line x v) (SetElement line x (Done v)) e (of_element sight line x v))
sets_what_is_there sight (SetNull target) = tt
sets_what_is_there sight (MakeArray type x n) = tt
sets_what_is_there sight (Invoke line target f operands) = of_call sight line target f operands (is_ready sight.number operands)
sets_what_is_there sight (Print line t) = of_value sight line print_effect (Print line) t (of_print sight line)
sets_what_is_there sight (Branch line t then' else') = of_value sight line (branch_effect then' else') (λ u. Branch line u then' else') t (of_branch sight line then' else')
sets_what_is_there sight EndIf = tt
sets_what_is_there sight (Loop line test t body) = of_value sight line (loop_effect line test body) (λ u. Loop line test u body) t (of_loop sight line test body)
sets_what_is_there sight (EndTurn line test body) = tt
sets_what_is_there sight Return = tt
sets_what_is_there sight (ReturnValue line t) = of_return sight line t
sets_what_is_there sight Impossible = tt
