-- What is asked of the names that a statement uses, part by part.
use Rattle.std.specs.Prelude.{Bool, false, ◌||◌}
use Rattle.std.specs.List.{list_any}
use Rattle.base.specs.Bytes.{Identifier}
use Rattle.base.specs.Options.{some_passes}
use Rattle.syntax.specs.Parts.{names_in}
use Rattle.syntax.specs.Tree.{Expr, Argument, Value, Text, AddressOf, Call, RightSide, FromExpr, FromCall, Test, TestExpr, TestCall, PlainStmt, Declare, DeclareArray, Assign, AssignElement, Perform, PutJint, Stmt, Plain, If, While, Return}

-- of the names in an expression
abbrev pub expr_uses : (Identifier → Bool) → Expr → Bool
expr_uses asked e = list_any asked (names_in e)

-- of an argument
abbrev pub argument_uses : (Identifier → Bool) → Argument → Bool
argument_uses asked (Value e) = expr_uses asked e
argument_uses asked (Text t) = false
argument_uses asked (AddressOf x) = asked x

-- of a call
abbrev pub call_uses : (Identifier → Bool) → Call → Bool
call_uses asked c = list_any (argument_uses asked) c.arguments

-- of a right side
abbrev pub right_uses : (Identifier → Bool) → RightSide → Bool
right_uses asked (FromExpr e) = expr_uses asked e
right_uses asked (FromCall c) = call_uses asked c

-- of a test
abbrev pub test_uses : (Identifier → Bool) → Test → Bool
test_uses asked (TestExpr e) = expr_uses asked e
test_uses asked (TestCall c) = call_uses asked c

-- of a plain statement
abbrev pub plain_uses : (Identifier → Bool) → PlainStmt → Bool
plain_uses asked (Declare t x r) = right_uses asked r
plain_uses asked (DeclareArray t x size) = false
plain_uses asked (Assign x r) = right_uses asked r
plain_uses asked (AssignElement x i e) = asked x || expr_uses asked i || expr_uses asked e
plain_uses asked (Perform c) = call_uses asked c
plain_uses asked (PutJint e) = expr_uses asked e

-- of a statement
abbrev pub uses : (Identifier → Bool) → Stmt → Bool
uses asked (Plain line p) = plain_uses asked p
uses asked (If line test then' else') = test_uses asked test
uses asked (While line test body) = expr_uses asked test
uses asked (Return line e) = some_passes (expr_uses asked) e
