-- The syntax tree of a program text, without where it lies in memory.
use Rattle.std.specs.Prelude.{ℕ, Bool, List, Option}
use Rattle.base.specs.Bytes.{Identifier}
use Rattle.base.specs.declared.element.ElementType.{ElementType}
use Rattle.syntax.specs.declared.declared_type.ParameterType.{ParameterType}
use Rattle.syntax.specs.declared.declared_type.DeclaredType.{DeclaredType}
use Rattle.syntax.specs.declared.declared_type.StaticType.{StaticType}
use Rattle.syntax.specs.declared.unit.ResultType.{ResultType}
use Rattle.syntax.specs.declared.expr.PrefixOp.{PrefixOp}
use Rattle.syntax.specs.declared.expr.BinaryOp.{BinaryOp}
use Rattle.syntax.specs.declared.expr.Constant.{Constant}

-- an expression; parentheses are kept
pub data Expr : Type 0 where
  Number : (value : ℕ) (unsigned : Bool) → Expr
  Named : Constant → Expr
  Variable : Identifier → Expr
  Element : Identifier → Expr → Expr
  Prefix : PrefixOp → Expr → Expr
  Binary : BinaryOp → Expr → Expr → Expr
  Paren : Expr → Expr
  deriving IsSet as Expr-set

-- an argument of a call, after `env`
pub data Argument : Type 0 where
  Value : Expr → Argument
  Text : List ℕ → Argument
  AddressOf : Identifier → Argument

-- (*env)->function(env, arguments)
pub record Call : Type 0 where
  pub function : Identifier
  pub arguments : List Argument

-- the right side of a declaration or an assignment
pub data RightSide : Type 0 where
  FromExpr : Expr → RightSide
  FromCall : Call → RightSide

-- what an `if` tests; a call is tested for 0
pub data Test : Type 0 where
  TestExpr : Expr → Test
  TestCall : Call → Test

-- a statement after which the next one comes: it has no block and doesn't return
pub data PlainStmt : Type 0 where
  Declare : DeclaredType → Identifier → RightSide → PlainStmt
  DeclareArray : ElementType → Identifier → (size : ℕ) → PlainStmt
  Assign : Identifier → RightSide → PlainStmt
  AssignElement : Identifier → (index value : Expr) → PlainStmt
  Perform : Call → PlainStmt
  PutJint : Expr → PlainStmt

mutual
  -- each statement and each end of a block has its line, that of its first token
  pub data Stmt : Type 0 where
    Plain : (line : ℕ) → PlainStmt → Stmt
    If : (line : ℕ) → Test → (then' : Block) → Else → Stmt
    While : (line : ℕ) → Expr → (body : Block) → Stmt
    Return : (line : ℕ) → Option Expr → Stmt

  -- the second block of an `if`, where it has one
  pub data Else : Type 0 where
    NoElse : Else
    ElseBlock : Block → Else

  -- a block's statements, and at its end the line of its closing brace
  pub data Block : Type 0 where
    End : (line : ℕ) → Block
    Next : Stmt → Block → Block

-- a parameter of a function
pub record Parameter : Type 0 where
  pub type : ParameterType
  pub name : Identifier

-- a native method's function; `line` is that of its head
pub record Function : Type 0 where
  pub line : ℕ
  pub result : ResultType
  pub name : Identifier
  pub class_name : Identifier
  pub parameters : List Parameter
  pub body : Block

-- a file-scope reference, which begins as NULL
pub record Static : Type 0 where
  pub line : ℕ
  pub type : StaticType
  pub name : Identifier

-- an item of a text
pub data Item : Type 0 where
  StaticItem : Static → Item
  FunctionItem : Function → Item

-- the items of a text, in their order
pub record SourceUnit : Type 0 where
  pub items : List Item
