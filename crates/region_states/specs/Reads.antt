-- What is asked of the names whose elements a statement reads or writes, part by part.
use Rattle.std.specs.Prelude.{Bool, false, ◌||◌}
use Rattle.std.specs.List.{list_any}
use Rattle.base.specs.Bytes.{Identifier}
use Rattle.base.specs.Options.{some_passes}
use Rattle.syntax.specs.Parts.{elements_in}
use Rattle.syntax.specs.Tree.{Expr, Argument, Value, Text, AddressOf, Call, RightSide, FromExpr, FromCall, Test, TestExpr, TestCall, PlainStmt, Declare, DeclareArray, Assign, AssignElement, Perform, PutJint, Stmt, Plain, If, While, Return}

-- of the names whose elements an expression reads
abbrev pub expr_reads : (Identifier → Bool) → Expr → Bool
expr_reads asked e = list_any asked (elements_in e)

-- of an argument
abbrev pub argument_reads : (Identifier → Bool) → Argument → Bool
argument_reads asked (Value e) = expr_reads asked e
argument_reads asked (Text t) = false
argument_reads asked (AddressOf x) = false

-- of a call
abbrev pub call_reads : (Identifier → Bool) → Call → Bool
call_reads asked c = list_any (argument_reads asked) c.arguments

-- of a right side
abbrev pub right_reads : (Identifier → Bool) → RightSide → Bool
right_reads asked (FromExpr e) = expr_reads asked e
right_reads asked (FromCall c) = call_reads asked c

-- of a test
abbrev pub test_reads : (Identifier → Bool) → Test → Bool
test_reads asked (TestExpr e) = expr_reads asked e
test_reads asked (TestCall c) = call_reads asked c

-- of a plain statement, also of the name whose element it sets
abbrev pub plain_reads : (Identifier → Bool) → PlainStmt → Bool
plain_reads asked (Declare t x r) = right_reads asked r
plain_reads asked (DeclareArray t x size) = false
plain_reads asked (Assign x r) = right_reads asked r
plain_reads asked (AssignElement x i e) = expr_reads asked i || expr_reads asked e || asked x
plain_reads asked (Perform c) = call_reads asked c
plain_reads asked (PutJint e) = expr_reads asked e

-- of a statement
abbrev pub reads : (Identifier → Bool) → Stmt → Bool
reads asked (Plain line p) = plain_reads asked p
reads asked (If line test then' else') = test_reads asked test
reads asked (While line test body) = expr_reads asked test
reads asked (Return line e) = some_passes (expr_reads asked) e
