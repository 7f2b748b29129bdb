-- Which statements are read: of the forms that have room.
use Rattle.std.proofs.Common.{ℕ, ◌-◌, ◌<◌, ◌≤◌, Bool, true, false, length, Some, None}
use Rattle.syntax.specs.Tree.{Expr, Stmt, Plain, Declare, DeclareArray, Assign, AssignElement, Perform, PutJint, If, NoElse, ElseBlock, While, Return, Block, End, Next}
use Rattle.syntax.specs.Parts.{statements_within, statements_of, names_declared}
use Rattle.syntax.specs.Limits.{height}
use Rattle.parse_statements.specs.Reading.{is_return}
use Rattle.parse_expressions.proofs.Forms.{IsLevelled, IsExpr, AreArguments, IsRight, IsTest}

-- an index, whose brackets count one
pub record IsIndex (room : ℕ) (i : Expr) : Type 0 where
  pub levelled : IsLevelled 0 i
  pub low : height i < room

-- the size of a local array
pub record IsSize (size : ℕ) : Type 0 where
  pub some : 1 ≤ size
  pub bound : size ≤ 1024

-- what may come after a return, and after another statement
abbrev pub MayFollow : Bool → Block → Type 0
MayFollow false b = Unit {0}
MayFollow true (End line) = Unit {0}
MayFollow true (Next s b) = ⊥

-- Statements and blocks in which there is this room. The block itself counts one in the height.
abbrev mutual
  pub IsForm : ℕ → Stmt → Type 0
  IsForm room (Plain line (Declare t x r)) = IsRight room r
  IsForm room (Plain line (DeclareArray t x size)) = IsSize size
  IsForm room (Plain line (Assign x r)) = IsRight room r
  IsForm room (Plain line (AssignElement x i e)) = IsIndex room i × IsExpr room e
  IsForm room (Plain line (Perform c)) = AreArguments room c.arguments
  IsForm room (Plain line (PutJint e)) = IsExpr room e
  IsForm room (If line test b NoElse) = (1 ≤ room) × IsTest room test × IsBlock (room - 1) b
  IsForm room (If line test b (ElseBlock d)) = (1 ≤ room) × IsTest room test × IsBlock (room - 1) b × IsBlock (room - 1) d
  IsForm room (While line test b) = (1 ≤ room) × IsExpr room test × IsBlock (room - 1) b
  IsForm room (Return line None) = Unit {0}
  IsForm room (Return line (Some e)) = IsExpr room e

  pub IsBlock : ℕ → Block → Type 0
  IsBlock room (End line) = Unit {0}
  IsBlock room (Next s rest) = IsForm room s × MayFollow (is_return s) rest × IsBlock room rest

-- how many names a statement declares, and a block
abbrev pub names_of : Stmt → ℕ
names_of s = length (names_declared (statements_within s))

abbrev pub names_in : Block → ℕ
names_in b = length (names_declared (statements_of b))
