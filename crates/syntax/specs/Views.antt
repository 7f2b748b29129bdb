-- The trees that lie in memory, as trees of the language.
use Rattle.std.specs.Prelude.{ℕ, List, map}
use Rattle.std.specs.Option.{option_map}
use Rattle.syntax.specs.declared.expr.Expr.{Expr as ExprInMemory}
use Rattle.syntax.specs.declared.call.Call.{Call as CallInMemory}
use Rattle.syntax.specs.declared.call.Argument.{Argument as ArgumentInMemory}
use Rattle.syntax.specs.declared.call.Argument.TheVariants as argument
use Rattle.syntax.specs.declared.call.RightSide.{RightSide as RightSideInMemory}
use Rattle.syntax.specs.declared.call.RightSide.TheVariants as right
use Rattle.syntax.specs.declared.call.Test.{Test as TestInMemory}
use Rattle.syntax.specs.declared.call.Test.TheVariants as test
use Rattle.syntax.specs.declared.stmt.Stmt.{Stmt as StmtInMemory}
use Rattle.syntax.specs.declared.stmt.PlainStmt.{PlainStmt as PlainInMemory}
use Rattle.syntax.specs.declared.stmt.PlainStmt.TheVariants as plain
use Rattle.syntax.specs.declared.stmt.Else.{Else as ElseInMemory}
use Rattle.syntax.specs.declared.stmt.Else.TheVariants as other
use Rattle.syntax.specs.declared.stmt.Form.{Form}
use Rattle.syntax.specs.declared.stmt.Form.TheVariants as form
use Rattle.syntax.specs.declared.stmt.Block.{Block as BlockInMemory, Block', Row_of-Stmt, end_of-Stmt, more_of-Stmt}
use Rattle.syntax.specs.declared.unit.Parameter.{Parameter as ParameterInMemory}
use Rattle.syntax.specs.declared.unit.Function.{Function as FunctionInMemory}
use Rattle.syntax.specs.declared.unit.Static.{Static as StaticInMemory}
use Rattle.syntax.specs.declared.unit.Item.{Item as ItemInMemory}
use Rattle.syntax.specs.declared.unit.Item.TheVariants as item
use Rattle.syntax.specs.Nodes.{held_nodes, tree_of}
use Rattle.syntax.specs.Tree.{Expr, Argument, Value, Text, AddressOf, Call, RightSide, FromExpr, FromCall, Test, TestExpr, TestCall, PlainStmt, Declare, DeclareArray, Assign, AssignElement, Perform, PutJint, Stmt, Plain, If, While, Return, Else, NoElse, ElseBlock, Block, End, Next, Parameter, Function, Static, Item, StaticItem, FunctionItem, SourceUnit}

-- the tree that the nodes of an expression spell
unfoldable pub expr_tree : ExprInMemory → Expr
expr_tree e = tree_of (held_nodes e.held)

abbrev pub argument_tree : ArgumentInMemory → Argument
argument_tree (argument.Value e) = Value (expr_tree e)
argument_tree (argument.Text bytes) = Text bytes.items
argument_tree (argument.AddressOf x) = AddressOf x

abbrev pub call_tree : CallInMemory → Call
call_tree c = record { function = c.function; arguments = map argument_tree c.arguments.items }

abbrev pub right_side_tree : RightSideInMemory → RightSide
right_side_tree (right.Expr e) = FromExpr (expr_tree e)
right_side_tree (right.Call c) = FromCall (call_tree c)

abbrev pub test_tree : TestInMemory → Test
test_tree (test.Expr e) = TestExpr (expr_tree e)
test_tree (test.Call c) = TestCall (call_tree c)

abbrev pub plain_tree : PlainInMemory → PlainStmt
plain_tree (plain.Declare t x r) = Declare t x (right_side_tree r)
plain_tree (plain.DeclareArray t x size) = DeclareArray t x size
plain_tree (plain.Assign x r) = Assign x (right_side_tree r)
plain_tree (plain.AssignElement x i e) = AssignElement x (expr_tree i) (expr_tree e)
plain_tree (plain.Perform c) = Perform (call_tree c)
plain_tree (plain.PutJint e) = PutJint (expr_tree e)

-- what a statement of this line does; the statements of a block in memory are a row
abbrev mutual
  pub form_tree : ℕ → Form → Stmt
  form_tree line (form.Plain p) = Plain line (plain_tree p)
  form_tree line (form.If test b d) = If line (test_tree test) (block_tree b) (else_tree d)
  form_tree line (form.While test b) = While line (expr_tree test) (block_tree b)
  form_tree line (form.Return e) = Return line (option_map expr_tree e)

  pub else_tree : ElseInMemory → Else
  else_tree other.Nothing = NoElse
  else_tree (other.Block b) = ElseBlock (block_tree b)

  pub block_tree : BlockInMemory → Block
  block_tree (Block' count row end_line) = row_tree row end_line

  pub row_tree : {count : _} → Row_of-Stmt count → ℕ → Block
  row_tree end_of-Stmt end_line = End end_line
  row_tree (more_of-Stmt line form rest) end_line = Next (form_tree line form) (row_tree rest end_line)

abbrev pub stmt_tree : StmtInMemory → Stmt
stmt_tree s = form_tree s.line s.form

abbrev pub parameter_tree : ParameterInMemory → Parameter
parameter_tree p = record { type = p.kind; name = p.name }

abbrev pub function_tree : FunctionInMemory → Function
function_tree f = record {
  line = f.line;
  result = f.result;
  name = f.name;
  class_name = f.class_name;
  parameters = map parameter_tree f.parameters.items;
  body = block_tree f.body;
}

abbrev pub static_tree : StaticInMemory → Static
static_tree s = record { line = s.line; type = s.kind; name = s.name }

abbrev pub item_tree : ItemInMemory → Item
item_tree (item.Static s) = StaticItem (static_tree s)
item_tree (item.Function f) = FunctionItem (function_tree f)

abbrev pub unit_tree : List ItemInMemory → SourceUnit
unit_tree items = record { items = map item_tree items }
