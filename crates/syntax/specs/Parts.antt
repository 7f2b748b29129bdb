-- The parts of a tree, each list in text order.
use Rattle.std.specs.Prelude.{ℕ, List, [], ◌∷◌, ◌++◌, Option, Some, None, map, flat_map, filter_map}
use Rattle.std.specs.Option.{option_to_list}
use Rattle.base.specs.Bytes.{Identifier}
use Rattle.syntax.specs.declared.expr.BinaryOp.TheVariants.{Equal, NotEqual}
use Rattle.syntax.specs.declared.expr.Constant.TheVariants.{Null}
use Rattle.syntax.specs.Tree.{Expr, Number, Named, Variable, Element, Prefix, Binary, Paren, Argument, Value, Text, AddressOf, Call, RightSide, FromExpr, FromCall, Test, TestExpr, TestCall, PlainStmt, Declare, DeclareArray, Assign, AssignElement, Perform, PutJint, Stmt, Plain, If, While, Return, NoElse, ElseBlock, Block, End, Next, Function, Static, Item, StaticItem, FunctionItem, SourceUnit}

-- the functions of a unit
abbrev pub functions_of : SourceUnit → List Function
functions_of unit = filter_map (elim [ StaticItem s ↦ None | FunctionItem f ↦ Some f ]) unit.items

-- the statics of a unit
abbrev pub statics_of : SourceUnit → List Static
statics_of unit = filter_map (elim [ StaticItem s ↦ Some s | FunctionItem f ↦ None ]) unit.items

-- the name that an item gives to its file
abbrev pub item_name : Item → Identifier
item_name (StaticItem s) = s.name
item_name (FunctionItem f) = f.name

abbrev mutual
  -- the statements inside a statement
  pub statements_inside : Stmt → List Stmt
  statements_inside (If line test then' NoElse) = statements_of then'
  statements_inside (If line test then' (ElseBlock else')) = statements_of then' ++ statements_of else'
  statements_inside (While line test body) = statements_of body
  statements_inside s = []

  -- a block's statements and those inside them, each before what is inside it
  pub statements_of : Block → List Stmt
  statements_of (End line) = []
  statements_of (Next s rest) = (s ∷ statements_inside s) ++ statements_of rest

-- a statement and those inside it
abbrev pub statements_within : Stmt → List Stmt
statements_within s = s ∷ statements_inside s

-- ---- a statement's own parts, without those of the blocks inside it

-- the line of a statement
abbrev pub line_of : Stmt → ℕ
line_of (Plain line p) = line
line_of (If line test then' else') = line
line_of (While line test body) = line
line_of (Return line e) = line

-- the name that a statement declares
abbrev pub declared_name : Stmt → Option Identifier
declared_name (Plain line (Declare t x r)) = Some x
declared_name (Plain line (DeclareArray t x size)) = Some x
declared_name s = None

-- the right side that a statement sets its variable to
abbrev pub right_side : Stmt → Option RightSide
right_side (Plain line (Declare t x r)) = Some r
right_side (Plain line (Assign x r)) = Some r
right_side s = None

-- the call that a variable is set to
abbrev pub call_of_right_side : Option RightSide → Option Call
call_of_right_side (Some (FromCall c)) = Some c
call_of_right_side r = None

-- the call that a statement makes
abbrev pub own_call : Stmt → Option Call
own_call (Plain line (Perform c)) = Some c
own_call (If line (TestCall c) then' else') = Some c
own_call s = call_of_right_side (right_side s)

-- the arguments of the call that a statement makes
abbrev pub own_arguments : Stmt → List Argument
own_arguments s = flat_map (λ (c : Call). c.arguments) (option_to_list (own_call s))

-- the expression that an argument is
abbrev pub argument_expressions : Argument → List Expr
argument_expressions (Value e) = e ∷ []
argument_expressions (Text t) = []
argument_expressions (AddressOf x) = []

-- the expressions that are arguments of a call
abbrev pub call_expressions : Call → List Expr
call_expressions c = flat_map argument_expressions c.arguments

-- the expressions of a right side
abbrev pub right_side_expressions : RightSide → List Expr
right_side_expressions (FromExpr e) = e ∷ []
right_side_expressions (FromCall c) = call_expressions c

-- the expressions of a test
abbrev pub test_expressions : Test → List Expr
test_expressions (TestExpr e) = e ∷ []
test_expressions (TestCall c) = call_expressions c

-- the expressions of a plain statement
abbrev pub plain_expressions : PlainStmt → List Expr
plain_expressions (Declare t x r) = right_side_expressions r
plain_expressions (DeclareArray t x size) = []
plain_expressions (Assign x r) = right_side_expressions r
plain_expressions (AssignElement x i e) = i ∷ e ∷ []
plain_expressions (Perform c) = call_expressions c
plain_expressions (PutJint e) = e ∷ []

-- the expressions that a statement evaluates itself
abbrev pub own_expressions : Stmt → List Expr
own_expressions (Plain line p) = plain_expressions p
own_expressions (If line test then' else') = test_expressions test
own_expressions (While line test body) = test ∷ []
own_expressions (Return line e) = option_to_list e

-- ---- names

-- the names in an expression, and those of which it reads an element
abbrev pub names_in : Expr → List Identifier
names_in (Number n unsigned) = []
names_in (Named c) = []
names_in (Variable x) = x ∷ []
names_in (Element x i) = x ∷ names_in i
names_in (Prefix op a) = names_in a
names_in (Binary op a b) = names_in a ++ names_in b
names_in (Paren a) = names_in a

-- the names of which an expression reads an element
abbrev pub elements_in : Expr → List Identifier
elements_in (Number n unsigned) = []
elements_in (Named c) = []
elements_in (Variable x) = []
elements_in (Element x i) = x ∷ elements_in i
elements_in (Prefix op a) = elements_in a
elements_in (Binary op a b) = elements_in a ++ elements_in b
elements_in (Paren a) = elements_in a

-- the variables whose address a call takes
abbrev pub addresses_in : Option Call → List Identifier
addresses_in None = []
addresses_in (Some c) = filter_map (elim [ AddressOf x ↦ Some x | _ ↦ None ]) c.arguments

-- the variable that an assignment sets, and the one whose element it sets
abbrev pub assigned_name : Stmt → Option Identifier
assigned_name (Plain line (Assign x r)) = Some x
assigned_name s = None

-- the variable whose element an assignment sets
abbrev pub written_name : Stmt → Option Identifier
written_name (Plain line (AssignElement x i e)) = Some x
written_name s = None

-- the name in `x == NULL` or `x != NULL`
abbrev pub null_tested : Expr → Option Identifier
null_tested (Binary Equal (Variable x) (Named Null)) = Some x
null_tested (Binary NotEqual (Variable x) (Named Null)) = Some x
null_tested e = None

-- the names whose values a statement uses, not those that it declares or sets
abbrev pub used_names : Stmt → List Identifier
used_names s = option_to_list (written_name s) ++ flat_map names_in (own_expressions s) ++ addresses_in (own_call s)

-- the names that are declared in a block, also those that are no longer known at its end
abbrev pub names_declared : List Stmt → List Identifier
names_declared statements = filter_map declared_name statements

-- the names of a function's parameters, the class first
abbrev pub parameter_names : Function → List Identifier
parameter_names f = f.class_name ∷ map (λ p. p.name) f.parameters
