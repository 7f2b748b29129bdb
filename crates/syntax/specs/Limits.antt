-- Which trees a text may spell: they follow the operators' precedence and keep the limits.
use Rattle.std.specs.Prelude.{ℕ, ◌+◌, ◌≤◌, Bool, true, false, ◌&&◌, List, [], ◌∷◌, ◌++◌, length, map, nat_lt, nat_le, max, IsTrue}
use Rattle.std.specs.List.{list_all}
use Rattle.base.specs.Limits.{most_elements, most_functions, most_names, most_statics}
pub use Rattle.base.specs.Numbers.{number_limit}
use Rattle.syntax.specs.Parts.{functions_of, statics_of, statements_of, own_expressions, own_arguments, names_declared, parameter_names}
use Rattle.syntax.specs.declared.expr.BinaryOp.{BinaryOp}
use Rattle.syntax.specs.declared.expr.BinaryOp.TheVariants.{LogicalOr, LogicalAnd, BitOr, BitXor, BitAnd, Equal, NotEqual, Less, LessEqual, Greater, GreaterEqual, ShiftLeft, ShiftRight, Add, Subtract, Multiply, Divide, Remainder}
use Rattle.syntax.specs.Tree.{Expr, Number, Named, Variable, Element, Prefix, Binary, Paren, Argument, Text, PlainStmt, DeclareArray, AssignElement, Stmt, Plain, If, While, Return, NoElse, ElseBlock, Block, End, Next, SourceUnit}

-- ---- levels

-- how tightly an operator holds its operands, the loosest first (ISO/IEC 9899:1999, 6.5.5 to 6.5.14)
abbrev pub operator_level : BinaryOp → ℕ
operator_level LogicalOr = 1
operator_level LogicalAnd = 2
operator_level BitOr = 3
operator_level BitXor = 4
operator_level BitAnd = 5
operator_level Equal = 6
operator_level NotEqual = 6
operator_level Less = 7
operator_level LessEqual = 7
operator_level Greater = 7
operator_level GreaterEqual = 7
operator_level ShiftLeft = 8
operator_level ShiftRight = 8
operator_level Add = 9
operator_level Subtract = 9
operator_level Multiply = 10
operator_level Divide = 10
operator_level Remainder = 10

-- prefixes hold better than all binary operators
abbrev pub prefix_level : ℕ
prefix_level = 11

-- how tightly an expression holds together; what has no operator holds best
abbrev pub level : Expr → ℕ
level (Binary op a b) = operator_level op
level (Prefix op a) = prefix_level
level e = 12

-- ---- which trees a text may spell

-- each operand holds as tightly as its operator, and a right one tighter
abbrev pub levelled : Expr → Bool
levelled (Number n unsigned) = true
levelled (Named c) = true
levelled (Variable x) = true
levelled (Element x i) = levelled i
levelled (Prefix op a) = nat_le prefix_level (level a) && levelled a
levelled (Binary op a b) = nat_le (operator_level op) (level a) && nat_lt (operator_level op) (level b) && levelled a && levelled b
levelled (Paren a) = levelled a

-- each number is in the range of its type
abbrev pub numbers_in_range : Expr → Bool
numbers_in_range (Number n unsigned) = nat_lt n (number_limit unsigned)
numbers_in_range (Named c) = true
numbers_in_range (Variable x) = true
numbers_in_range (Element x i) = numbers_in_range i
numbers_in_range (Prefix op a) = numbers_in_range a
numbers_in_range (Binary op a b) = numbers_in_range a && numbers_in_range b
numbers_in_range (Paren a) = numbers_in_range a

-- a text is of bytes
abbrev pub text_of_bytes : Argument → Bool
text_of_bytes (Text bytes) = list_all (λ b. nat_lt b 256) bytes
text_of_bytes a = true

-- operators, parentheses, casts, indexes and blocks inside one another
abbrev pub height : Expr → ℕ
height (Number n unsigned) = 0
height (Named c) = 0
height (Variable x) = 0
height (Element x i) = 1 + height i
height (Prefix op a) = 1 + height a
height (Binary op a b) = 1 + max (height a) (height b)
height (Paren a) = 1 + height a

-- the greatest of heights
abbrev pub highest : List ℕ → ℕ
highest [] = 0
highest (n ∷ ns) = max n (highest ns)

-- the height of the expressions; an element that is set counts its index
abbrev pub own_height : Stmt → ℕ
own_height (Plain line (AssignElement x i e)) = max (1 + height i) (height e)
own_height s = highest (map height (own_expressions s))

abbrev mutual
  pub statement_height : Stmt → ℕ
  statement_height (If line test then' NoElse) = max (own_height (If line test then' NoElse)) (block_height then')
  statement_height (If line test then' (ElseBlock else')) =
      max (own_height (If line test then' (ElseBlock else'))) (max (block_height then') (block_height else'))
  statement_height (While line test body) = max (own_height (While line test body)) (block_height body)
  statement_height s = own_height s

  pub block_height : Block → ℕ
  block_height (End line) = 1
  block_height (Next s rest) = max (1 + statement_height s) (block_height rest)

-- a return is the last statement of its block, and a local array's size is from 1 to 1024
abbrev pub is_end : Block → Bool
is_end (End line) = true
is_end (Next s rest) = false

abbrev pub plain_well_formed : PlainStmt → Bool
plain_well_formed (DeclareArray t x size) = nat_le 1 size && nat_le size most_elements
plain_well_formed p = true

abbrev mutual
  pub well_formed : Stmt → Bool
  well_formed (Plain line p) = plain_well_formed p
  well_formed (If line test then' NoElse) = block_well_formed then'
  well_formed (If line test then' (ElseBlock else')) = block_well_formed then' && block_well_formed else'
  well_formed (While line test body) = block_well_formed body
  well_formed (Return line e) = true

  pub block_well_formed : Block → Bool
  block_well_formed (End line) = true
  block_well_formed (Next (Return line e) rest) = is_end rest
  block_well_formed (Next s rest) = well_formed s && block_well_formed rest

-- the tree follows precedence, has the forms of the grammar, and is in its limits
pub record IsTree (unit : SourceUnit) : Type 0 where
  pub levelled_expressions : IsTrue (list_all (λ f. list_all (λ s. list_all levelled (own_expressions s)) (statements_of f.body)) (functions_of unit))
  pub numbers : IsTrue (list_all (λ f. list_all (λ s. list_all numbers_in_range (own_expressions s)) (statements_of f.body)) (functions_of unit))
  pub texts : IsTrue (list_all (λ f. list_all (λ s. list_all text_of_bytes (own_arguments s)) (statements_of f.body)) (functions_of unit))
  pub forms : IsTrue (list_all (λ f. block_well_formed f.body) (functions_of unit))
  pub low : IsTrue (list_all (λ f. nat_le (block_height f.body) 32) (functions_of unit))
  pub few_functions : length (functions_of unit) ≤ most_functions
  pub few_statics : length (statics_of unit) ≤ most_statics
  pub few_names : IsTrue (list_all (λ f. nat_le (length (parameter_names f ++ names_declared (statements_of f.body))) most_names) (functions_of unit))
