-- What the first step of a task does.
use Rattle.std.specs.Prelude.{ℕ, Bool, true, false, if◌then◌else◌, ℤ, List, [], ◌∷◌, ◌++◌, None}
use Rattle.std.specs.List.{list_all}
use Rattle.base.specs.Bytes.{Identifier}
use Rattle.base.specs.declared.element.ElementType.{ElementType}
use Rattle.syntax.specs.declared.expr.Constant.TheVariants.{Null}
use Rattle.syntax.specs.Tree.{Expr, Block}
use Rattle.jni.specs.declared.function.JniFunction.{JniFunction}
use Rattle.semantics.specs.Arguments.{Actual, actuals}
use Rattle.semantics.specs.CallEffects.{CallResult, NoResult, ScalarResult, ReferenceResult}
use Rattle.semantics.specs.Sight.{Sight}
use Rattle.semantics.specs.Task.{Task, SetScalar, SetElement, SetNull, MakeArray, Invoke, Print, Branch, EndIf, Loop, EndTurn, Return, ReturnValue, Impossible, Target, Tested, Operand, NumberOperand, PassedName, Given, tasks_of}
use Rattle.semantics.specs.Term.{Term, Done, Named, Read, term_of, index_of, reduce}
use Rattle.semantics.specs.declared.trap.Trap.{Trap}
use Rattle.semantics.specs.declared.value.Value.{Value}
use Rattle.semantics.specs.declared.value.Value.TheVariants.{Int, Truth}
use Rattle.semantics.specs.Value.{Outcome, Gives, Traps, Stuck, outcome_map}
use Rattle.semantics.specs.Variable.{StaticReference, as_reference}

-- What a step of a task does. Where it becomes no others and no trap stops it, it is over then.
pub data Effect : Type 0 where
  -- the task is replaced by these
  Becomes : List Task → Effect
  -- a number variable has this value
  Sets : Identifier → Value → Effect
  -- NULL goes there
  SetsNull : Target → Effect
  -- an element of a buffer or an array, within its range, is this number, converted to the element type
  SetsElement : Identifier → (index : ℕ) → ℤ → Effect
  -- a local array of this number of zeros
  MakesArray : ElementType → Identifier → (size : ℕ) → Effect
  -- a number is printed
  Prints : ℤ → Effect
  -- the function is called with these arguments, and its result goes there
  Calls : (line : ℕ) → Target → JniFunction → List Actual → Effect
  -- the call in progress is over, and gives this
  Returns : CallResult → Effect
  -- the machine stops
  TrapsAt : Trap → (line : ℕ) → Effect
  -- nothing fits, as in no accepted program
  NoEffect : Effect

-- a result that is put into an effect, or a trap at this line
abbrev pub at_line : {A : Type 0} → ℕ → (A → Effect) → Outcome A → Effect
at_line line effect (Gives a) = effect a
at_line line effect (Traps trap) = TrapsAt trap line
at_line line effect Stuck = NoEffect

-- a part of a task has taken a step
abbrev pub goes_on : {A : Type 0} → ℕ → (A → Task) → Outcome A → Effect
goes_on line task step = at_line line (λ a. Becomes (task a ∷ [])) step

-- the value of a task's expression is used, or the expression, which has none yet, takes its step inside the task
abbrev pub with_value : Sight → ℕ → (Value → Effect) → (Term → Task) → Term → Effect
with_value sight line use_value task (Done v) = use_value v
with_value sight line use_value task t = goes_on line task (reduce sight t)

-- ---- with the values worked out

-- a number is printed
abbrev pub print_effect : Value → Effect
print_effect (Int z) = Prints z
print_effect v = NoEffect

-- the branch that an `if` takes, and then its end
abbrev pub branch_effect : Block → Block → Value → Effect
branch_effect then' else' (Truth true) = Becomes (tasks_of then' ++ EndIf ∷ [])
branch_effect then' else' (Truth false) = Becomes (tasks_of else' ++ EndIf ∷ [])
branch_effect then' else' v = NoEffect

-- a turn of a loop and then the turn's end, or nothing more
abbrev pub loop_effect : ℕ → Expr → Block → Value → Effect
loop_effect line test body (Truth true) = Becomes (tasks_of body ++ EndTurn line test body ∷ [])
loop_effect line test body (Truth false) = Becomes []
loop_effect line test body v = NoEffect

-- a number goes to an index, if an element is there
abbrev pub element_effect : Sight → ℕ → Identifier → Value → Value → Effect
element_effect sight line x i (Int z) = at_line line (λ n. at_line line (λ (old : ℤ). SetsElement x n z) (sight.element x n)) (index_of i)
element_effect sight line x i v = NoEffect

-- ---- calls and returns

-- a name that isn't that of a number
abbrev pub is_no_number : Outcome Value → Bool
is_no_number (Gives v) = false
is_no_number v = true

-- the call's next step is its own: its numbers are worked out, where names have these values
abbrev pub is_given : (number : Identifier → Outcome Value) → Operand → Bool
is_given number (NumberOperand (Done v)) = true
is_given number (NumberOperand e) = false
is_given number (PassedName x) = is_no_number (number x)
is_given number (Given a) = true

-- all numbers are worked out
abbrev pub is_ready : (number : Identifier → Outcome Value) → List Operand → Bool
is_ready number operands = list_all (is_given number) operands

-- a number that is worked out is left alone, and another takes its step
abbrev pub reduce_number : Term → List Operand → Outcome Term → Outcome (List Operand) → Outcome (List Operand)
reduce_number (Done v) rest step further = outcome_map (λ operands. NumberOperand (Done v) ∷ operands) further
reduce_number e rest step further = outcome_map (λ (u : Term). NumberOperand u ∷ rest) step

-- a name of a number becomes its value, and another is left alone
abbrev pub reduce_name : Identifier → List Operand → Outcome Value → Outcome (List Operand) → Outcome (List Operand)
reduce_name x rest (Gives v) further = Gives (NumberOperand (Done v) ∷ rest)
reduce_name x rest v further = outcome_map (λ operands. PassedName x ∷ operands) further

-- the first number that isn't worked out takes a step
abbrev pub reduce_first : Sight → List Operand → Outcome (List Operand)
reduce_first sight [] = Stuck
reduce_first sight (NumberOperand e ∷ rest) = reduce_number e rest (reduce sight e) (reduce_first sight rest)
reduce_first sight (PassedName x ∷ rest) = reduce_name x rest (sight.number x) (reduce_first sight rest)
reduce_first sight (Given a ∷ rest) = outcome_map (λ operands. Given a ∷ operands) (reduce_first sight rest)

-- a call looks up its arguments in its own step
abbrev pub call_effect_of : Sight → ℕ → Target → JniFunction → List Operand → Effect
call_effect_of sight line target f operands =
    if is_ready sight.number operands then Calls line target f (actuals sight f operands)
    else goes_on line (Invoke line target f) (reduce_first sight operands)

-- what is still to do of a statement whose call is over: an `if` has its test, whether the call gave 0
abbrev pub tasks_after : ℕ → Target → Bool → List Task
tasks_after line (Tested then' else') gave_zero = Branch line (Done (Truth gave_zero)) then' else' ∷ []
tasks_after line target gave_zero = []

-- a number variable's value is worked out first, and a reference is returned as it is
abbrev pub returned_name : ℕ → Outcome Value → StaticReference → Effect
returned_name line (Gives v) r = Becomes (ReturnValue line (Done v) ∷ [])
returned_name line v r = Returns (ReferenceResult (as_reference r))

-- a return of a value
abbrev pub return_effect : Sight → ℕ → Term → Effect
return_effect sight line (Named Null) = Returns (ReferenceResult None)
return_effect sight line (Read x) = returned_name line (sight.number x) (sight.reference x)
return_effect sight line e = with_value sight line (λ v. Returns (ScalarResult v)) (ReturnValue line) e

-- ---- all tasks

-- the effect of a task's first step
abbrev pub effect_of : Sight → Task → Effect
effect_of sight (SetScalar line x e) = with_value sight line (Sets x) (SetScalar line x) e
effect_of sight (SetElement line x i e) =
    with_value sight line (λ v. with_value sight line (element_effect sight line x v) (SetElement line x (Done v)) e) (λ u. SetElement line x u e) i
effect_of sight (SetNull target) = SetsNull target
effect_of sight (MakeArray T x n) = MakesArray T x n
effect_of sight (Invoke line target f operands) = call_effect_of sight line target f operands
effect_of sight (Print line e) = with_value sight line print_effect (Print line) e
effect_of sight (Branch line e then' else') = with_value sight line (branch_effect then' else') (λ u. Branch line u then' else') e
effect_of sight EndIf = Becomes []
effect_of sight (Loop line test e body) = with_value sight line (loop_effect line test body) (λ u. Loop line test u body) e
effect_of sight (EndTurn line test body) = Becomes (Loop line test (term_of test) body ∷ [])
effect_of sight Return = Returns NoResult
effect_of sight (ReturnValue line e) = return_effect sight line e
effect_of sight Impossible = NoEffect
