-- What a statement calls and what it declares, looked up once.
use Rattle.std.specs.Prelude.{◌≡◌, ℕ, ◌-◌, Bool, if◌then◌else◌, List, [], ◌++◌, length, replicate, Option, None, Some}
use Rattle.std.specs.Option.{option_and_then}
use Rattle.base.specs.Bytes.{Identifier}
use Rattle.syntax.specs.declared.stmt.Form.{Form as FormInMemory}
use Rattle.syntax.specs.declared.call.RightSide.{RightSide as RightSideInMemory}
use Rattle.syntax.specs.Parts.{own_call, call_of_right_side}
use Rattle.syntax.specs.Views.{form_tree, right_side_tree}
use Rattle.syntax.specs.Tree.{Call, Test, TestExpr, TestCall, Stmt, Plain, Declare, DeclareArray}
use Rattle.jni.specs.declared.function.JniFunction.{JniFunction}
use Rattle.jni.specs.JniFunction.{function_named}
use Rattle.jni.specs.declared.kinds.ParameterKind.{ParameterKind}
use Rattle.jni.specs.declared.kinds.ParameterKind.TheVariants.{Passed}
use Rattle.type_rules.specs.declared.ty.ExprType.{ExprType}
use Rattle.type_rules.specs.declared.ty.ExprType.TheVariants.{Array}
use Rattle.type_rules.specs.TypeRules.{declared_type}

-- the function of a call, where there is a call and the table has its name
abbrev pub function_in : Option Call → Option JniFunction
function_in call = option_and_then (λ c. function_named c.function) call

-- the function of the call that a statement in memory makes
abbrev pub IsCalled : Option JniFunction → FormInMemory → Type 0
IsCalled function form = (line : ℕ) → function ≡ function_in (own_call (form_tree line form))

-- the function of the call that a right side in memory is
abbrev pub IsCalledBy : Option JniFunction → RightSideInMemory → Type 0
IsCalledBy function right = function ≡ function_in (call_of_right_side (Some (right_side_tree right)))

-- the parameters of a call with so many arguments, behind which a method may be given more
abbrev pub with_passed : List ParameterKind → (passes : Bool) → (arguments : ℕ) → List ParameterKind
with_passed own passes n = own ++ (if passes then replicate (n - length own) Passed else [])

-- the call that a test is
abbrev pub call_of_test : Test → Option Call
call_of_test (TestExpr e) = None
call_of_test (TestCall c) = Some c

-- the name that a statement declares, and its type
abbrev pub declared : Stmt → Option (Identifier × ExprType)
declared (Plain line (Declare t x r)) = Some (x, declared_type t)
declared (Plain line (DeclareArray t x size)) = Some (x, Array t size)
declared s = None
