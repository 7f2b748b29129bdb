-- Where the arguments of a call are that aren't looked up in the call's own step.
use Rattle.std.specs.Prelude.{◌≡◌, ℕ, Bool, true, false, List, [], ◌∷◌, ◌++◌, length, map, zip}
use Rattle.std.specs.List.{list_all}
use Rattle.jni.specs.declared.function.JniFunction.{JniFunction}
use Rattle.jni.specs.JniFunction.{parameters_for}
use Rattle.jni.specs.declared.kinds.ParameterKind.{ParameterKind}
use Rattle.jni.specs.declared.kinds.ParameterKind.TheVariants.{IntNumber, Passed}
use Rattle.syntax.specs.Tree.{Argument}
use Rattle.semantics.specs.Task.{Operand, operand}
use Rattle.replay_tasks.specs.declared.call.Numbers.{Numbers}
use Rattle.replay_tasks.specs.declared.call.Numbers.TheVariants as numbers

-- an argument for this parameter is looked up in the call's own step
abbrev pub is_looked_up : ParameterKind → Bool
is_looked_up IntNumber = false
is_looked_up Passed = false
is_looked_up p = true

-- each is for these parameters but the last, which is a number
pub record EndInNumber (ps : List ParameterKind) : Type 0 where
  pub before : List ParameterKind
  pub is : ps ≡ before ++ IntNumber ∷ []
  pub looked_up : list_all is_looked_up before ≡ true

-- where those are that aren't, of n arguments for these parameters
abbrev pub AreNumbers : (n : ℕ) → List ParameterKind → Numbers → Type 0
AreNumbers n ps numbers.Nowhere = (length ps ≡ n) × (list_all is_looked_up ps ≡ true)
AreNumbers n ps numbers.Last = (length ps ≡ n) × EndInNumber ps
AreNumbers n ps numbers.Anywhere = Unit {0}

-- the operands of a call of a function with these arguments
abbrev pub operands_for : JniFunction → List Argument → List Operand
operands_for f arguments = map operand (zip (parameters_for f (length arguments)) arguments)
