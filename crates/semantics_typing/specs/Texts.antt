-- The texts that a program gives to calls are of bytes.
use Rattle.std.specs.Prelude.{ℕ, ◌<◌, List}
use Rattle.std.specs.List.{AllByRecursion}
use Rattle.syntax.specs.Parts.{functions_of}
use Rattle.syntax.specs.Tree as tree
use Rattle.syntax.specs.Tree.{Argument, Call, RightSide, FromExpr, FromCall, Test, TestExpr, TestCall, PlainStmt, Stmt, Block, End, Next, Function, SourceUnit}
use Rattle.semantics.specs.Task.{Operand, NumberOperand, PassedName, Given}

-- a text of bytes
abbrev pub IsText : List ℕ → Type 0
IsText bytes = AllByRecursion (λ b. b < 256) bytes

-- an argument that is a text is of bytes
abbrev pub IsTextual : Argument → Type 0
IsTextual (tree.Text bytes) = IsText bytes
IsTextual a = Unit {0}

-- the same of an argument of which the number may be worked out
abbrev pub HasText : Operand → Type 0
HasText (NumberOperand t) = Unit {0}
HasText (PassedName x) = Unit {0}
HasText (Given a) = IsTextual a

-- each argument of a call
abbrev pub CallHasTexts : Call → Type 0
CallHasTexts c = AllByRecursion IsTextual c.arguments

-- of a call on a right side
abbrev pub RightHasTexts : RightSide → Type 0
RightHasTexts (FromExpr e) = Unit {0}
RightHasTexts (FromCall c) = CallHasTexts c

-- of a call that is tested
abbrev pub TestHasTexts : Test → Type 0
TestHasTexts (TestExpr e) = Unit {0}
TestHasTexts (TestCall c) = CallHasTexts c

-- of a call in a plain statement
abbrev pub PlainHasTexts : PlainStmt → Type 0
PlainHasTexts (tree.Declare type x right) = RightHasTexts right
PlainHasTexts (tree.Assign x right) = RightHasTexts right
PlainHasTexts (tree.Perform call) = CallHasTexts call
PlainHasTexts p = Unit {0}

abbrev mutual
  -- of each call in a block
  pub BlockHasTexts : Block → Type 0
  BlockHasTexts (End line) = Unit {0}
  BlockHasTexts (Next s rest) = StmtHasTexts s × BlockHasTexts rest

  -- of each call in a statement
  pub StmtHasTexts : Stmt → Type 0
  StmtHasTexts (tree.Plain line p) = PlainHasTexts p
  StmtHasTexts (tree.If line test then' tree.NoElse) = TestHasTexts test × BlockHasTexts then'
  StmtHasTexts (tree.If line test then' (tree.ElseBlock else')) = TestHasTexts test × BlockHasTexts then' × BlockHasTexts else'
  StmtHasTexts (tree.While line test body) = BlockHasTexts body
  StmtHasTexts (tree.Return line e) = Unit {0}

-- of each call of a unit
abbrev pub HasTexts : SourceUnit → Type 0
HasTexts unit = AllByRecursion (λ (f : Function). BlockHasTexts f.body) (functions_of unit)
