-- What a thread has still to do of its call: statements, of which the first may be begun (ISO/IEC 9899:1999, 6.8).
use Rattle.std.specs.Prelude.{ℕ, List, [], ◌∷◌, Option, Some, None, length, zip, map}
use Rattle.syntax.specs.declared.declared_type.DeclaredType.{DeclaredType}
use Rattle.syntax.specs.declared.declared_type.DeclaredType.TheVariants.{Simple, Pointer, ConstChars}
use Rattle.syntax.specs.Tree as tree
use Rattle.syntax.specs.declared.declared_type.VariableType.TheVariants as variables
use Rattle.base.specs.Bytes.{Identifier}
use Rattle.base.specs.declared.element.ElementType.{ElementType}
use Rattle.base.specs.declared.element.ElementType.TheVariants.{Char as JChar}
use Rattle.syntax.specs.declared.declared_type.VariableType.{VariableType}
use Rattle.syntax.specs.declared.declared_type.VariableType.TheVariants.{JfieldId as JFieldId, JmethodId as JMethodId}
use Rattle.syntax.specs.declared.expr.Constant.TheVariants.{Null}
use Rattle.syntax.specs.Tree.{Expr, Argument, RightSide, FromExpr, FromCall, Call, Test, TestExpr, TestCall, PlainStmt, Stmt, Else, NoElse, ElseBlock, Block, End, Next}
use Rattle.jni.specs.declared.function.JniFunction.{JniFunction}
use Rattle.jni.specs.JniFunction.{function_named, parameters_for}
use Rattle.jni.specs.declared.kinds.ParameterKind.{ParameterKind}
use Rattle.jni.specs.declared.kinds.ParameterKind.TheVariants.{IntNumber, Passed}
use Rattle.semantics.specs.declared.variable_kind.VariableKind.{VariableKind}
use Rattle.semantics.specs.declared.variable_kind.VariableKind.TheVariants as kinds
use Rattle.semantics.specs.Term.{Term, term_of}

-- where the result of a call or a NULL goes: a new variable, one that is there or a static, the test of an `if`
-- (whether it is 0), or nowhere
pub data Target : Type 0 where
  Declared : VariableKind → Identifier → Target
  Assigned : Identifier → Target
  Tested : (then' else' : Block) → Target
  Dropped : Target

-- an argument of a call: a number whose value is being reckoned, one that is looked up in the call's own step, or the bare name of
-- either kind that a method is given
pub data Operand : Type 0 where
  NumberOperand : Term → Operand
  PassedName : Identifier → Operand
  Given : Argument → Operand

-- each with its line, where a trap can come from it
pub data Task : Type 0 where
  SetScalar : (line : ℕ) → Identifier → Term → Task
  SetElement : (line : ℕ) → Identifier → (index value : Term) → Task
  SetNull : Target → Task
  MakeArray : ElementType → Identifier → (size : ℕ) → Task
  Invoke : (line : ℕ) → Target → JniFunction → List Operand → Task
  Print : (line : ℕ) → Term → Task
  Branch : (line : ℕ) → Term → (then' else' : Block) → Task
  EndIf : Task
  -- the test is kept, so that the loop can be restored at the end of a turn
  Loop : (line : ℕ) → (test : Expr) → Term → (body : Block) → Task
  EndTurn : (line : ℕ) → (test : Expr) → (body : Block) → Task
  Return : Task
  ReturnValue : (line : ℕ) → Term → Task
  -- a call of an unknown function, as in no accepted program
  Impossible : Task

-- what a method is given, before the call's first step
abbrev pub passed_operand : Expr → Operand
passed_operand (tree.Named Null) = Given (Argument.Value (tree.Named Null))
passed_operand (tree.Variable x) = PassedName x
passed_operand e = NumberOperand (term_of e)

-- an argument before the call's first step
abbrev pub operand : ParameterKind × Argument → Operand
operand (IntNumber, Argument.Value e) = NumberOperand (term_of e)
operand (Passed, Argument.Value e) = passed_operand e
operand (p, a) = Given a

-- a call of a function, if it is known
abbrev pub invocation : ℕ → Target → Call → Option JniFunction → Task
invocation line target call None = Impossible
invocation line target call (Some f) = Invoke line target f (map operand (zip (parameters_for f (length call.arguments)) call.arguments))

-- a call
abbrev pub call_task : ℕ → Target → Call → Task
call_task line target call = invocation line target call (function_named call.function)

-- what `type name = ..` makes
abbrev pub variable_kind : VariableType → VariableKind
variable_kind (variables.Reference type) = kinds.Reference
variable_kind JFieldId = kinds.Field
variable_kind JMethodId = kinds.Method
variable_kind type = kinds.Number

-- what a declaration makes that is of no local array
abbrev pub kind_of : DeclaredType → VariableKind
kind_of (Simple type) = variable_kind type
kind_of (Pointer type) = kinds.Buffer type
kind_of ConstChars = kinds.Buffer JChar

-- a value for a variable: NULL, or a number that is worked out first
abbrev pub set_task : ℕ → Target → Identifier → Expr → Task
set_task line target x (tree.Named Null) = SetNull target
set_task line target x e = SetScalar line x (term_of e)

-- a value or a call for a variable
abbrev pub right_side_task : ℕ → Target → Identifier → RightSide → Task
right_side_task line target x (FromExpr e) = set_task line target x e
right_side_task line target x (FromCall call) = call_task line target call

-- an `if`, with its two branches
abbrev pub if_task : ℕ → Test → Block → Block → Task
if_task line (TestExpr e) then' else' = Branch line (term_of e) then' else'
if_task line (TestCall call) then' else' = call_task line (Tested then' else') call

-- a return
abbrev pub return_task : ℕ → Option Expr → Task
return_task line None = Return
return_task line (Some e) = ReturnValue line (term_of e)

-- the second block of an `if` on this line, or an empty one
abbrev pub else_block : ℕ → Else → Block
else_block line NoElse = End line
else_block line (ElseBlock b) = b

-- a plain statement before its first step
abbrev pub plain_task : ℕ → PlainStmt → Task
plain_task line (tree.Declare type x right) = right_side_task line (Declared (kind_of type) x) x right
plain_task line (tree.DeclareArray type x n) = MakeArray type x n
plain_task line (tree.Assign x right) = right_side_task line (Assigned x) x right
plain_task line (tree.AssignElement x i e) = SetElement line x (term_of i) (term_of e)
plain_task line (tree.Perform call) = call_task line Dropped call
plain_task line (tree.PutJint e) = Print line (term_of e)

-- a statement before its first step
abbrev pub task_of : Stmt → Task
task_of (tree.Plain line p) = plain_task line p
task_of (tree.If line test then' else') = if_task line test then' (else_block line else')
task_of (tree.While line test body) = Loop line test (term_of test) body
task_of (tree.Return line e) = return_task line e

-- the statements of a block in their order
abbrev pub tasks_of : Block → List Task
tasks_of (End line) = []
tasks_of (Next s rest) = task_of s ∷ tasks_of rest
