-- Which instructions the parts of a program become. What no accepted program has becomes nothing, and no place of a code
-- stands for it (Stands).
use Rattle.std.specs.Prelude.{ℕ, ◌+◌, Bool, true, false, not, List, [], ◌∷◌, ◌++◌, length, map, zip, flat_map, Option, Some, None, if◌then◌else◌}
use Rattle.std.specs.Option.{option_map}
use Rattle.base.specs.Bytes.{Identifier, lookup}
use Rattle.base.specs.declared.element.ElementType.{ElementType}
use Rattle.base.specs.declared.element.ElementType.TheVariants.{Int as JInt, Short as JShort, Byte as JByte, Char as JChar}
use Rattle.syntax.specs.Tree as tree
use Rattle.syntax.specs.declared.expr.Constant.TheVariants as constants
use Rattle.syntax.specs.declared.expr.PrefixOp.{PrefixOp}
use Rattle.syntax.specs.declared.expr.PrefixOp.TheVariants.{LogicalNot, Complement, ToWord, ToInt}
use Rattle.syntax.specs.declared.expr.BinaryOp.{BinaryOp}
use Rattle.syntax.specs.declared.expr.BinaryOp.TheVariants.{LogicalOr, LogicalAnd, BitOr, BitXor, BitAnd, Equal, NotEqual, Less, LessEqual, Greater, GreaterEqual, ShiftLeft, ShiftRight, Add, Subtract, Multiply, Divide, Remainder}
use Rattle.syntax.specs.declared.expr.Constant.{Constant}
use Rattle.syntax.specs.Tree.{Expr, Argument, RightSide, FromExpr, FromCall, Test, TestExpr, TestCall, PlainStmt, Stmt, Else, Block, End, Next, Function}
use Rattle.type_rules.specs.declared.ty.ExprType.{ExprType}
use Rattle.type_rules.specs.declared.ty.ExprType.TheVariants.{Ref, Global, Weak, FieldId, MethodId, Buffer, Array}
use Rattle.type_rules.specs.ExprTypes.{is_jint}
use Rattle.type_rules.specs.TypeRules.{declared_type}
use Rattle.jni.specs.declared.function.JniFunction.{JniFunction}
use Rattle.jni.specs.JniFunction.{parameters_for, function_named}
use Rattle.jni.specs.declared.kinds.ParameterKind.{ParameterKind}
use Rattle.jni.specs.declared.kinds.ParameterKind.TheVariants.{IntNumber, Mode, Passed}
use Rattle.code.specs.declared.instr.Operand.{Operand}
use Rattle.code.specs.declared.instr.Operand.TheVariants as operand
use Rattle.jni.specs.declared.mode.ReleaseMode.{ReleaseMode}
use Rattle.jni.specs.declared.mode.ReleaseMode.TheVariants as mode
use Rattle.base.specs.declared.element.ElementType.TheVariants as element
use Rattle.code.specs.declared.instr.Operator.TheVariants as operator
use Rattle.code.specs.declared.instr.TrappingOperator.TheVariants as trapping
use Rattle.code.specs.declared.instr.NullableVariable.{NullableVariable}
use Rattle.code.specs.declared.instr.NullableVariable.TheVariants as nullable
use Rattle.code.specs.declared.instr.ReferenceOperand.TheVariants.{Null, Local}
use Rattle.code.specs.declared.instr.Target.{Target}
use Rattle.code.specs.declared.instr.Target.TheVariants as target
use Rattle.code.specs.declared.instr.Instr.{Instr}
use Rattle.code.specs.declared.instr.Instr.TheVariants.{Push, Load, Store, Convert, Operate, OperateOrTrap, JumpIfFalseOrPop, JumpIfTrueOrPop, JumpIfFalse, Jump, JumpBack, LoadElement, StoreElement, LoadBuffer, StoreBuffer, ClearArray, TestNull, StoreNull, PutJint, Call, Return, ReturnJint, ReturnReference}
use Rattle.code.specs.declared.instr.Instr.TheVariants as instr
use Rattle.jni.specs.declared.mode.ReleaseMode.TheVariants.{CopyBackAndFree, CopyBack, FreeUncopied}
use Rattle.semantics.specs.Arguments.{mode_of}
use Rattle.semantics.specs.Term as term
use Rattle.semantics.specs.Term.{Term, Done, Read, And, Or, IsNull, Prefix, Binary, term_of}
use Rattle.semantics.specs.declared.value.Value.TheVariants.{Int}
use Rattle.code_meaning.specs.Layout.{Slot, Known, Layout, new_slot, entry_layout, closed, layout_after, block_layout}

-- ---- variables

-- a variable that can be NULL
abbrev pub nullable_of : ExprType → ℕ → Option NullableVariable
nullable_of Ref i = Some (nullable.Local i)
nullable_of Global i = Some (nullable.Static i)
nullable_of Weak i = Some (nullable.Static i)
nullable_of FieldId i = Some (nullable.FieldId i)
nullable_of MethodId i = Some (nullable.FieldId i)
nullable_of (Buffer t writable) i = Some (nullable.Buffer i)
nullable_of s i = None

-- the test whether it is NULL, or isn't
abbrev pub test_of : Bool → Option NullableVariable → List Instr
test_of equal (Some v) = TestNull v equal ∷ []
test_of equal None = []

-- the same of a name
abbrev pub null_code : Bool → Option Slot → List Instr
null_code equal (Some s) = test_of equal (nullable_of s.ty s.index)
null_code equal None = []

-- NULL goes there
abbrev pub store_of : Option NullableVariable → List Instr
store_of (Some v) = StoreNull v ∷ []
store_of None = []

-- the element type of an instruction
abbrev pub element_of : ElementType → ElementType
element_of JInt = element.Int
element_of JShort = element.Short
element_of JByte = element.Byte
element_of JChar = element.Char

-- an element of an array with its first slot here, or of a buffer with its slot here
abbrev pub element_code : (line : ℕ) → ExprType → ℕ → List Instr
element_code line (Array t size) i = LoadElement (record { start = i; len = size }) line ∷ []
element_code line (Buffer t writable) i = LoadBuffer i line ∷ []
element_code line s i = []

-- such an element is written
abbrev pub write_code : (line : ℕ) → ExprType → ℕ → List Instr
write_code line (Array t size) i = StoreElement (element_of t) (record { start = i; len = size }) line ∷ []
write_code line (Buffer t writable) i = StoreBuffer (element_of t) i line ∷ []
write_code line s i = []

-- a part that needs the slot of a name
abbrev pub of_slot : (ExprType → ℕ → List Instr) → Option Slot → List Instr
of_slot code (Some s) = code s.ty s.index
of_slot code None = []

-- the value of a name
abbrev pub load_code : ExprType → ℕ → List Instr
load_code s i = Load i ∷ []

-- ---- expressions

-- a named constant
abbrev pub constant_code : Constant → List Instr
constant_code constants.True = Push 1 ∷ []
constant_code constants.False = Push 0 ∷ []
constant_code c = []

-- a prefix operator after its operand
abbrev pub prefix_code : PrefixOp → Instr
prefix_code LogicalNot = instr.Not
prefix_code Complement = instr.Complement
prefix_code ToWord = Convert
prefix_code ToInt = Convert

-- An operator after its operands, which are `jint`s where it says so. `&&` and `||` have instructions of their own,
-- between their operands.
abbrev pub operator_code : (line : ℕ) (signed : Bool) → BinaryOp → Instr
operator_code line signed LogicalOr = Operate operator.Or
operator_code line signed LogicalAnd = Operate operator.And
operator_code line signed BitOr = Operate operator.Or
operator_code line signed BitXor = Operate operator.Xor
operator_code line signed BitAnd = Operate operator.And
operator_code line signed Equal = Operate operator.Equal
operator_code line signed NotEqual = Operate operator.NotEqual
operator_code line false Less = Operate operator.Less
operator_code line false LessEqual = Operate operator.LessEqual
operator_code line false Greater = Operate operator.Greater
operator_code line false GreaterEqual = Operate operator.GreaterEqual
operator_code line true Less = Operate operator.SignedLess
operator_code line true LessEqual = Operate operator.SignedLessEqual
operator_code line true Greater = Operate operator.SignedGreater
operator_code line true GreaterEqual = Operate operator.SignedGreaterEqual
operator_code line signed ShiftLeft = OperateOrTrap trapping.ShiftLeft line
operator_code line signed ShiftRight = OperateOrTrap trapping.ShiftRight line
operator_code line signed Add = Operate operator.Add
operator_code line signed Subtract = Operate operator.Subtract
operator_code line signed Multiply = Operate operator.Multiply
operator_code line signed Divide = OperateOrTrap trapping.Divide line
operator_code line signed Remainder = OperateOrTrap trapping.Remainder line

-- whether an operand is a `jint`
abbrev pub is_signed : Known → Term → Bool
is_signed known (Done (Int z)) = true
is_signed known (term.Number n unsigned) = not unsigned
is_signed known (Read x) = is_jint (option_map (λ s. s.ty) (lookup x known))
is_signed known (term.Element x t) = true
is_signed known (Prefix ToInt t) = true
is_signed known t = false

-- the jump over the right side of `&&`, or else of `||`
abbrev pub skip_code : (and' : Bool) → ℕ → Instr
skip_code true n = JumpIfFalseOrPop n
skip_code false n = JumpIfTrueOrPop n

-- `&&` or `||` with the code of its sides
abbrev pub logical_code : (and' : Bool) → (left right : List Instr) → List Instr
logical_code and' left right = left ++ skip_code and' (length right) ∷ right

-- the instructions of the parts of an expression that have no value yet, in a statement on this line
abbrev pub term_code : Known → (line : ℕ) → Term → List Instr
term_code known line (Done v) = []
term_code known line (term.Number n unsigned) = Push n ∷ []
term_code known line (term.Named c) = constant_code c
term_code known line (Read x) = of_slot load_code (lookup x known)
term_code known line (term.Element x t) = term_code known line t ++ of_slot (element_code line) (lookup x known)
term_code known line (IsNull equal x) = null_code equal (lookup x known)
term_code known line (Prefix op t) = term_code known line t ++ prefix_code op ∷ []
term_code known line (And a b) = logical_code true (term_code known line a) (term_code known line b)
term_code known line (Or a b) = logical_code false (term_code known line a) (term_code known line b)
term_code known line (Binary op a b) = term_code known line a ++ (term_code known line b ++ operator_code line (is_signed known a) op ∷ [])

-- an expression; its parentheses need no instruction
abbrev pub expr_code : Known → (line : ℕ) → Expr → List Instr
expr_code known line e = term_code known line (term_of e)

-- ---- calls

-- a variable that isn't a number
abbrev pub variable_operand : ExprType → ℕ → Operand
variable_operand Ref i = operand.Local i
variable_operand Global i = operand.Static i
variable_operand Weak i = operand.Static i
variable_operand FieldId i = operand.FieldId i
variable_operand MethodId i = operand.MethodId i
variable_operand (Array t size) i = operand.Array (record { start = i; len = size })
variable_operand (Buffer t writable) i = operand.Buffer i
variable_operand s i = operand.Null

-- where the variable of a name is
abbrev pub operand_of : Option Slot → Operand
operand_of None = operand.Null
operand_of (Some s) = variable_operand s.ty s.index

-- where what a variable holds is found, where it may be a number
abbrev pub passed_variable : Option Slot → Operand
passed_variable None = operand.Null
passed_variable (Some s) = if is_jint (Some s.ty) then operand.Number else variable_operand s.ty s.index

-- where its address leads to
abbrev pub address_operand : Option Slot → Operand
address_operand None = operand.Null
address_operand (Some s) = operand.IsCopy s.index

-- a release mode, as an operand has it
abbrev pub mode_code : ReleaseMode → ReleaseMode
mode_code CopyBackAndFree = mode.CopyBackAndFree
mode_code CopyBack = mode.CopyBack
mode_code FreeUncopied = mode.FreeUncopied

-- where what a method is given is found: a number is on the stack, and a reference is a variable or NULL
abbrev pub passed_code : Known → Expr → Operand
passed_code known (tree.Named constants.Null) = operand.Null
passed_code known (tree.Variable x) = passed_variable (lookup x known)
passed_code known e = operand.Number

-- where an argument is found: a number is on the stack, a text is the call's own, a mode is in the operand, and all else
-- is a variable or NULL
abbrev pub operand_code : Known → ParameterKind × Argument → Operand
operand_code known (IntNumber, tree.Value e) = operand.Number
operand_code known (Passed, tree.Value e) = passed_code known e
operand_code known (Mode, tree.Value e) = operand.Mode (mode_code (mode_of e))
operand_code known (p, tree.Value (tree.Variable x)) = operand_of (lookup x known)
operand_code known (p, tree.Value e) = operand.Null
operand_code known (p, tree.Text bytes) = operand.Text
operand_code known (p, tree.AddressOf x) = address_operand (lookup x known)

-- whether a name is that of a number
abbrev pub names_number : Known → Identifier → Bool
names_number known x = is_jint (option_map (λ s. s.ty) (lookup x known))

-- the number that a name may be of; a reference needs no instruction
abbrev pub number_code : ExprType → ℕ → List Instr
number_code s i = if is_jint (Some s) then load_code s i else []

-- what a method is given, where it is a number
abbrev pub passed_rest : Known → (line : ℕ) → Expr → List Instr
passed_rest known line (tree.Named constants.Null) = []
passed_rest known line (tree.Variable x) = of_slot number_code (lookup x known)
passed_rest known line e = expr_code known line e

-- an argument that is worked out before the call
abbrev pub argument_code : Known → (line : ℕ) → ParameterKind × Argument → List Instr
argument_code known line (IntNumber, tree.Value e) = expr_code known line e
argument_code known line (Passed, tree.Value e) = passed_rest known line e
argument_code known line (p, a) = []

-- the arguments that are, in order
abbrev pub arguments_code : Known → (line : ℕ) → List (ParameterKind × Argument) → List Instr
arguments_code known line given = flat_map (argument_code known line) given

-- the text of an argument
abbrev pub argument_text : Argument → List (List ℕ)
argument_text (tree.Text bytes) = bytes ∷ []
argument_text a = []

-- those of several, in order
abbrev pub arguments_texts : List Argument → List (List ℕ)
arguments_texts arguments = flat_map argument_text arguments

-- where a result for a variable of this type goes
abbrev pub result_target : ExprType → ℕ → Target
result_target Ref i = target.Local i
result_target Global i = target.Static i
result_target Weak i = target.Static i
result_target FieldId i = target.FieldId i
result_target MethodId i = target.MethodId i
result_target (Buffer t writable) i = target.Buffer (element_of t) i
result_target s i = target.Number i

-- a call of a function, whose result goes there
abbrev pub call_code : Known → (line : ℕ) → Target → JniFunction → List Argument → List Instr
call_code known line target f arguments =
    let given = zip (parameters_for f (length arguments)) arguments in
    arguments_code known line given ++ Call (record {
      line = line;
      target = target;
      function = f;
      operands = map (operand_code known) given;
      texts = arguments_texts arguments;
    }) ∷ []

-- the same, if the function is known
abbrev pub named_call_code : Known → (line : ℕ) → Target → Option JniFunction → List Argument → List Instr
named_call_code known line target None arguments = []
named_call_code known line target (Some f) arguments = call_code known line target f arguments

-- ---- statements

-- a value for a variable
abbrev pub value_code : Known → (line : ℕ) → Slot → Expr → List Instr
value_code known line s (tree.Named constants.Null) = store_of (nullable_of s.ty s.index)
value_code known line s e = expr_code known line e ++ Store s.index ∷ []

-- a right side
abbrev pub right_code : Known → (line : ℕ) → Slot → RightSide → List Instr
right_code known line s (FromExpr e) = value_code known line s e
right_code known line s (FromCall c) = named_call_code known line (result_target s.ty s.index) (function_named c.function) c.arguments

-- a right side for a name that is known
abbrev pub assign_code : Known → (line : ℕ) → Option Slot → RightSide → List Instr
assign_code known line (Some s) r = right_code known line s r
assign_code known line None r = []

-- a name is returned, a number or a reference
abbrev pub returned_code : ExprType → ℕ → List Instr
returned_code Ref i = ReturnReference (Local i) ∷ []
returned_code s i = Load i ∷ ReturnJint ∷ []

-- a value is returned
abbrev pub return_code : Known → (line : ℕ) → Term → List Instr
return_code known line (term.Named constants.Null) = ReturnReference Null ∷ []
return_code known line (Read x) = of_slot returned_code (lookup x known)
return_code known line t = term_code known line t ++ ReturnJint ∷ []

-- a return
abbrev pub result_code : Known → (line : ℕ) → Option Expr → List Instr
result_code known line None = Return ∷ []
result_code known line (Some e) = return_code known line (term_of e)

-- a plain statement
abbrev pub plain_code : Layout → (line : ℕ) → PlainStmt → List Instr
plain_code l line (tree.Declare t x r) = right_code l.known line (new_slot (declared_type t) l) r
plain_code l line (tree.DeclareArray t x size) = ClearArray (record { start = l.slots.numbers; len = size }) ∷ []
plain_code l line (tree.Assign x r) = assign_code l.known line (lookup x l.known) r
plain_code l line (tree.AssignElement x i e) = expr_code l.known line i ++ (expr_code l.known line e ++ of_slot (write_code line) (lookup x l.known))
plain_code l line (tree.Perform c) = named_call_code l.known line target.Dropped (function_named c.function) c.arguments
plain_code l line (tree.PutJint e) = expr_code l.known line e ++ PutJint ∷ []

-- the two branches of an `if` after its test, of which each ends by a jump
abbrev pub paths_code : (then' else' : List Instr) → List Instr
paths_code then' else' = JumpIfFalse (length then' + 1) ∷ (then' ++ Jump (length else') ∷ else')

-- an `if` up to the end of its first branch, where it isn't known how far the jump there leads
abbrev pub first_code : (test then' : List Instr) → List Instr
first_code test then' = test ++ JumpIfFalse (length then' + 1) ∷ (then' ++ Jump 0 ∷ [])

-- a turn of a loop after its test, and the path back
abbrev pub turn_code : (test body : List Instr) → List Instr
turn_code test body = JumpIfFalse (length body + 1) ∷ (body ++ JumpBack (length test + 1 + length body) ∷ [])

-- a loop with the code of its test and its body
abbrev pub loop_code : (test body : List Instr) → List Instr
loop_code test body = test ++ turn_code test body

-- a test
abbrev pub test_code : Known → (line : ℕ) → Test → List Instr
test_code known line (TestExpr e) = expr_code known line e
test_code known line (TestCall c) = named_call_code known line target.Test (function_named c.function) c.arguments

-- an `if` with the code of its branches
abbrev pub if_code : Known → (line : ℕ) → Test → (then' else' : List Instr) → List Instr
if_code known line test then' else' = test_code known line test ++ paths_code then' (else' ++ Jump 0 ∷ [])

abbrev mutual
  -- a statement
  pub stmt_code : Layout → Stmt → List Instr
  stmt_code l (tree.Plain line p) = plain_code l line p
  stmt_code l (tree.If line test then' else') = if_code l.known line test (block_code l then') (else_code (closed l (block_layout l then')) else')
  stmt_code l (tree.While line test body) = loop_code (expr_code l.known line test) (block_code l body)
  stmt_code l (tree.Return line e) = result_code l.known line e

  -- the second block of an `if`, where it has one
  pub else_code : Layout → Else → List Instr
  else_code l tree.NoElse = []
  else_code l (tree.ElseBlock b) = block_code l b

  -- the statements of a block
  pub block_code : Layout → Block → List Instr
  block_code l (End line) = []
  block_code l (Next s rest) = stmt_code l s ++ block_code (layout_after l s) rest

-- A function, after these statics. The last instruction is for jumps to the end of the body.
abbrev pub function_code : (statics : Known) → Function → List Instr
function_code statics f = block_code (entry_layout statics f) f.body ++ Return ∷ []
