-- How many steps a function has, counted on its tree alone. Each place where a step is taken counts once, however often a loop comes
-- back to it (ISO/IEC 9899:1999, 6.5 and 6.8).
use Rattle.std.specs.Prelude.{ℕ, ◌+◌, Bool, false, List, ◌++◌, filter_map, length, bytes_eq, if◌then◌else◌, zip, nat_lt, Option, Some, None, IsTrue}
use Rattle.std.specs.List.{list_any, sum_by}
use Rattle.base.specs.Limits.{most_steps}
use Rattle.base.specs.Bytes.{Identifier}
use Rattle.syntax.specs.Parts.{null_tested, statements_of}
use Rattle.syntax.specs.declared.declared_type.ParameterType.{ParameterType}
use Rattle.syntax.specs.declared.declared_type.ParameterType.TheVariants.{Jint as IntParameter}
use Rattle.syntax.specs.declared.declared_type.VariableType.TheVariants.{Jint as JIntVariable, Jsize as JSize}
use Rattle.syntax.specs.declared.unit.ResultType.{ResultType}
use Rattle.syntax.specs.declared.unit.ResultType.TheVariants.{Jint as IntResult}
use Rattle.syntax.specs.declared.expr.Constant.TheVariants.{Null}
use Rattle.syntax.specs.declared.declared_type.DeclaredType.TheVariants.{Simple}
use Rattle.syntax.specs.Tree.{Parameter, Expr, Number, Named, Variable, Element, Prefix, Binary, Paren, Argument, Value, Call, RightSide, FromExpr, FromCall, Test, TestExpr, TestCall, PlainStmt, Declare, DeclareArray, Assign, AssignElement, Perform, PutJint, Stmt, Plain, If, While, Return, Else, NoElse, ElseBlock, Block, End, Next, Function, Item, StaticItem, FunctionItem, SourceUnit}
use Rattle.jni.specs.declared.function.JniFunction.{JniFunction}
use Rattle.jni.specs.JniFunction.{parameters_for, function_named}
use Rattle.jni.specs.declared.kinds.ParameterKind.{ParameterKind}
use Rattle.jni.specs.declared.kinds.ParameterKind.TheVariants.{IntNumber, Passed}

-- ---- expressions

-- a binary operator after its operands, `&&` and `||` between theirs; a test of NULL is one step
abbrev pub binary_steps : (null_test : Option Identifier) → (left right : ℕ) → ℕ
binary_steps (Some x) left right = 1
binary_steps None left right = left + right + 1

-- an expression: each number, constant, variable and operator is a step, and parentheses are none
abbrev pub expr_steps : Expr → ℕ
expr_steps (Number n unsigned) = 1
expr_steps (Named c) = 1
expr_steps (Variable x) = 1
expr_steps (Element x i) = expr_steps i + 1
expr_steps (Prefix operator a) = expr_steps a + 1
expr_steps (Binary operator a b) = binary_steps (null_tested (Binary operator a b)) (expr_steps a) (expr_steps b)
expr_steps (Paren a) = expr_steps a

-- ---- calls

-- what a method is given: a number, or a reference, which is looked up in the call's own step; these names are of numbers
abbrev pub passed_steps : (ints : List Identifier) → Expr → ℕ
passed_steps ints (Named Null) = 0
passed_steps ints (Variable x) = if list_any (bytes_eq x) ints then 1 else 0
passed_steps ints e = expr_steps e

-- an argument: a number is worked out before the call, and all else is looked up in the call's own step
abbrev pub argument_steps : (ints : List Identifier) → ParameterKind × Argument → ℕ
argument_steps ints (IntNumber, Value e) = expr_steps e
argument_steps ints (Passed, Value e) = passed_steps ints e
argument_steps ints (parameter, a) = 0

-- the arguments of a function of the JNI
abbrev pub arguments_steps : (ints : List Identifier) → Option JniFunction → List Argument → ℕ
arguments_steps ints None arguments = 0
arguments_steps ints (Some f) arguments = sum_by (argument_steps ints) (zip (parameters_for f (length arguments)) arguments)

-- a call after its arguments
abbrev pub call_steps : (ints : List Identifier) → Call → ℕ
call_steps ints c = arguments_steps ints (function_named c.function) c.arguments + 1

-- ---- statements

-- a value for a variable: NULL is stored in one step, and a number in one more than it takes
abbrev pub value_steps : Expr → ℕ
value_steps (Named Null) = 1
value_steps e = expr_steps e + 1

-- a right side; a call stores its result itself
abbrev pub right_steps : (ints : List Identifier) → RightSide → ℕ
right_steps ints (FromExpr e) = value_steps e
right_steps ints (FromCall c) = call_steps ints c

-- a test, and the choice of a path
abbrev pub test_steps : (ints : List Identifier) → Test → ℕ
test_steps ints (TestExpr e) = expr_steps e + 1
test_steps ints (TestCall c) = call_steps ints c + 1

-- a return of a value: a number is worked out first, and a reference isn't
abbrev pub return_steps : ResultType → Expr → ℕ
return_steps IntResult e = expr_steps e + 1
return_steps returns e = 1

-- a return
abbrev pub result_steps : ResultType → Option Expr → ℕ
result_steps returns None = 1
result_steps returns (Some e) = return_steps returns e

-- a plain statement
abbrev pub plain_steps : (ints : List Identifier) → PlainStmt → ℕ
plain_steps ints (Declare t x r) = right_steps ints r
plain_steps ints (DeclareArray t x size) = 1
plain_steps ints (Assign x r) = right_steps ints r
plain_steps ints (AssignElement x i e) = expr_steps i + expr_steps e + 1
plain_steps ints (Perform c) = call_steps ints c
plain_steps ints (PutJint e) = expr_steps e + 1

abbrev mutual
  -- a statement; the end of each branch of an `if`, and that of a loop's turn, is a step
  pub stmt_steps : (ints : List Identifier) (returns : ResultType) → Stmt → ℕ
  stmt_steps ints returns (Plain line p) = plain_steps ints p
  stmt_steps ints returns (If line test then' else') = test_steps ints test + (block_steps ints returns then' + 1) + (else_steps ints returns else' + 1)
  stmt_steps ints returns (While line test body) = expr_steps test + 1 + (block_steps ints returns body + 1)
  stmt_steps ints returns (Return line e) = result_steps returns e

  -- the second block of an `if`, where it has one
  pub else_steps : (ints : List Identifier) (returns : ResultType) → Else → ℕ
  else_steps ints returns NoElse = 0
  else_steps ints returns (ElseBlock b) = block_steps ints returns b

  -- the statements of a block
  pub block_steps : (ints : List Identifier) (returns : ResultType) → Block → ℕ
  block_steps ints returns (End line) = 0
  block_steps ints returns (Next s rest) = stmt_steps ints returns s + block_steps ints returns rest

-- the name of a parameter of this type, if it is a `jint`
abbrev pub int_by_type : ParameterType → Identifier → Option Identifier
int_by_type IntParameter x = Some x
int_by_type type x = None

-- a parameter that is a `jint`
abbrev pub int_parameter : Parameter → Option Identifier
int_parameter p = int_by_type p.type p.name

-- a `jint` that a statement declares
abbrev pub int_declared : Stmt → Option Identifier
int_declared (Plain line (Declare (Simple JIntVariable) x r)) = Some x
int_declared (Plain line (Declare (Simple JSize) x r)) = Some x
int_declared s = None

-- the names of a function's variables of type `jint`, of which none is declared twice
abbrev pub int_names : Function → List Identifier
int_names f = filter_map int_parameter f.parameters ++ filter_map int_declared (statements_of f.body)

-- a function
abbrev pub function_steps : Function → ℕ
function_steps f = block_steps (int_names f) f.result f.body

-- ---- the limit

-- whether an item is a function of more steps
abbrev pub is_long : Item → Bool
is_long (StaticItem s) = false
is_long (FunctionItem f) = nat_lt most_steps (function_steps f)

-- some function of the unit has more steps
abbrev pub IsTooLong : SourceUnit → Type 0
IsTooLong unit = IsTrue (list_any is_long unit.items)
