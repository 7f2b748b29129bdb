-- Reading expressions and calls from left to right, with the first fault that is met.
use Rattle.std.specs.Prelude.{ℕ, zero, suc, ◌+◌, max, Bool, false, ◌&&◌, ◌||◌, nat_lt, ◌==◌, List, [], ◌∷◌, length, Option, Some, None, Result, Ok, Err, is_ok, if◌then◌else◌}
use Rattle.scan.specs.declared.token.Mark.{Mark}
use Rattle.scan.specs.declared.token.Mark.TheVariants as marks
use Rattle.base.specs.Bytes.{Identifier}
use Rattle.syntax.specs.declared.expr.PrefixOp.{PrefixOp}
use Rattle.syntax.specs.declared.expr.PrefixOp.TheVariants.{LogicalNot, Complement, ToWord, ToInt}
use Rattle.syntax.specs.declared.expr.BinaryOp.{BinaryOp}
use Rattle.syntax.specs.declared.expr.BinaryOp.TheVariants.{LogicalOr, LogicalAnd, BitOr, BitXor, BitAnd, Equal, NotEqual, Less, LessEqual, Greater, GreaterEqual, ShiftLeft, ShiftRight, Add, Subtract, Multiply, Divide, Remainder}
use Rattle.syntax.specs.declared.expr.Constant.{Constant}
use Rattle.syntax.specs.Tree.{Expr, Number, Named, Variable, Element, Prefix, Binary, Paren, Argument, Value, Text, AddressOf, Call, RightSide, FromExpr, FromCall, Test, TestExpr, TestCall}
use Rattle.syntax.specs.Limits.{operator_level, prefix_level}
use Rattle.parse_lexemes.specs.declared.fault.ParseRule.TheVariants.{NoForm, TooHigh}
use Rattle.parse_lexemes.specs.declared.fault.ParseError.{ParseError}
use Rattle.parse_lexemes.specs.Faults.{breaks}
use Rattle.scan.specs.declared.reserved.Word.TheVariants as words
use Rattle.parse_lexemes.specs.declared.first.Fixed.TheVariants as fixed
use Rattle.parse_lexemes.specs.Results.{◌>>=◌}
use Rattle.parse_lexemes.specs.Meaning.{Meaning, Fixed', Name', Number', Text'}
use Rattle.parse_lexemes.specs.Lexemes.{Lexed, fault_at, expect, name_at}
use Rattle.parse_lexemes.specs.Reading.{starts_with, rest_of, starts_name, constant_of_word, text_at, number_at}

-- ---- expressions

abbrev pub binary_of_mark : Mark → Option BinaryOp
binary_of_mark marks.LogicalOr = Some LogicalOr
binary_of_mark marks.LogicalAnd = Some LogicalAnd
binary_of_mark marks.Bar = Some BitOr
binary_of_mark marks.Caret = Some BitXor
binary_of_mark marks.Ampersand = Some BitAnd
binary_of_mark marks.Equal = Some Equal
binary_of_mark marks.NotEqual = Some NotEqual
binary_of_mark marks.Less = Some Less
binary_of_mark marks.LessEqual = Some LessEqual
binary_of_mark marks.Greater = Some Greater
binary_of_mark marks.GreaterEqual = Some GreaterEqual
binary_of_mark marks.ShiftLeft = Some ShiftLeft
binary_of_mark marks.ShiftRight = Some ShiftRight
binary_of_mark marks.Plus = Some Add
binary_of_mark marks.Minus = Some Subtract
binary_of_mark marks.Star = Some Multiply
binary_of_mark marks.Slash = Some Divide
binary_of_mark marks.Percent = Some Remainder
binary_of_mark _ = None

abbrev pub binary_of : Meaning → Option BinaryOp
binary_of (Fixed' (fixed.Mark m)) = binary_of_mark m
binary_of (Fixed' (fixed.Word w)) = None
binary_of (Fixed' fixed.End) = None
binary_of (Name' bytes) = None
binary_of (Number' value unsigned) = None
binary_of (Text' bytes) = None

-- the operator that comes next
abbrev pub operator_at : List Lexed → Option BinaryOp
operator_at [] = None
operator_at (l ∷ ls) = binary_of l.meaning

-- an expression, its height, and what comes after it
abbrev pub ReadExpr : Type 0
ReadExpr = Expr × ℕ × List Lexed

abbrev pub Reader : Type 0
Reader = ℕ → List Lexed → Result ReadExpr ParseError

-- what is read goes on from a larger expression
abbrev pub More : Type 0
More = Expr → ℕ → List Lexed → Result ReadExpr ParseError

abbrev pub climb_step : Reader → ℕ → ℕ → More → Expr → ℕ → List Lexed → Option BinaryOp → Result ReadExpr ParseError
climb_step deep room least more left high ls None = Ok (left, high, ls)
climb_step deep room least more left high ls (Some op) =
    if nat_lt (operator_level op) least then Ok (left, high, ls)
    else if nat_lt high room then (deep (operator_level op + 1) (rest_of ls) >>= λ r. more (Binary op left r.0) (1 + max high r.1) r.2)
    else Err (fault_at TooHigh ls)

-- operators of a level or tighter, after an expression; a step for each, and deep reads what comes after it
unfoldable pub climb : Reader → ℕ → ℕ → ℕ → More
climb deep room least zero left high ls = Err (fault_at TooHigh ls)
climb deep room least (suc steps) left high ls = climb_step deep room least (climb deep room least steps) left high ls (operator_at ls)

-- a prefix's operand
unfoldable pub under_prefix : Reader → PrefixOp → List Lexed → Result ReadExpr ParseError
under_prefix deep op ls = do
  e ← deep prefix_level ls
  Ok (Prefix op e.0, 1 + e.1, e.2)

unfoldable pub in_parens : Reader → List Lexed → Result ReadExpr ParseError
in_parens deep ls = do
  e ← deep 0 ls
  after ← expect (fixed.Mark marks.CloseParen) e.2
  Ok (Paren e.0, 1 + e.1, after)

-- after an opening parenthesis: a type, or an expression
unfoldable pub after_paren : Reader → List Lexed → Result ReadExpr ParseError
after_paren deep ls =
    if starts_with (fixed.Word words.Uint32) ls then (expect (fixed.Mark marks.CloseParen) (rest_of ls) >>= λ after. under_prefix deep ToWord after)
    else if starts_with (fixed.Word words.Jint) ls then (expect (fixed.Mark marks.CloseParen) (rest_of ls) >>= λ after. under_prefix deep ToInt after)
    else in_parens deep ls

-- an index in its brackets
unfoldable pub index_by : ℕ → Reader → List Lexed → Result ReadExpr ParseError
index_by room deep ls =
    if room == 0 then Err (fault_at TooHigh ls)
    else (expect (fixed.Mark marks.OpenBracket) ls >>= λ within. deep 0 within >>= λ i. expect
    (fixed.Mark marks.CloseBracket) i.2 >>= λ after. Ok (i.0, i.1, after))

-- whether a name with an index comes next
abbrev pub starts_element : List Lexed → Bool
starts_element ls = if starts_name ls then starts_with (fixed.Mark marks.OpenBracket) (rest_of ls) else false

unfoldable pub element_by : ℕ → Reader → List Lexed → Result ReadExpr ParseError
element_by room deep ls = do
  name ← name_at ls
  i ← index_by room deep name.1
  Ok (Element name.0 i.0, 1 + i.1, i.2)

abbrev pub named_of : Option Constant → List Lexed → List Lexed → Result ReadExpr ParseError
named_of None ls after = Err (fault_at NoForm ls)
named_of (Some c) ls after = Ok (Named c, 0, after)

-- a number, a named constant or a name; the first lexeme means this
abbrev pub primary_of : Meaning → List Lexed → List Lexed → Result ReadExpr ParseError
primary_of (Number' value unsigned) ls after = Ok (Number value unsigned, 0, after)
primary_of (Name' bytes) ls after = Ok (Variable bytes, 0, after)
primary_of (Fixed' (fixed.Word w)) ls after = named_of (constant_of_word w) ls after
primary_of (Fixed' (fixed.Mark m)) ls after = Err (fault_at NoForm ls)
primary_of (Fixed' fixed.End) ls after = Err (fault_at NoForm ls)
primary_of (Text' bytes) ls after = Err (fault_at NoForm ls)

unfoldable pub primary_at : List Lexed → Result ReadExpr ParseError
primary_at [] = Err (breaks NoForm 0)
primary_at (l ∷ after) = primary_of l.meaning (l ∷ after) after

-- a prefix with its operand, parentheses, an element, or what holds best
unfoldable pub operand_by : ℕ → Reader → List Lexed → Result ReadExpr ParseError
operand_by room deep ls =
    if starts_with (fixed.Mark marks.Tilde) ls then (if room == 0 then Err (fault_at TooHigh ls) else under_prefix deep Complement (rest_of ls))
    else if starts_with (fixed.Mark marks.Exclamation) ls then (if room == 0 then Err (fault_at TooHigh ls) else under_prefix deep LogicalNot (rest_of ls))
    else if starts_with (fixed.Mark marks.OpenParen) ls then (if room == 0 then Err (fault_at TooHigh ls) else after_paren deep (rest_of ls))
    else if starts_element ls then element_by room deep ls
    else primary_at ls

unfoldable pub expr_by : ℕ → Reader → ℕ → List Lexed → Result ReadExpr ParseError
expr_by room deep least ls = operand_by room deep ls >>= λ e. climb deep room least (room + 1) e.0 e.1 e.2

-- expressions one step deeper than where there is this room
unfoldable pub deeper : ℕ → Reader
deeper zero = λ least ls. Err (fault_at TooHigh ls)
deeper (suc room) = λ least ls. expr_by room (deeper room) least ls

abbrev pub operand_at : ℕ → List Lexed → Result ReadExpr ParseError
operand_at room ls = operand_by room (deeper room) ls

-- the expression of this level or tighter, no higher than there is room
abbrev pub expr_at : ℕ → ℕ → List Lexed → Result ReadExpr ParseError
expr_at room least ls = expr_by room (deeper room) least ls

-- an index where there is this room
abbrev pub index_at : ℕ → List Lexed → Result ReadExpr ParseError
index_at room ls = index_by room (deeper room) ls

-- ---- calls

-- (*env)->
unfoldable pub interface_at : List Lexed → Result (List Lexed) ParseError
interface_at ls = do
  a ← expect (fixed.Mark marks.OpenParen) ls
  b ← expect (fixed.Mark marks.Star) a
  c ← expect (fixed.Word words.Env) b
  d ← expect (fixed.Mark marks.CloseParen) c
  expect (fixed.Mark marks.Arrow) d

-- an argument that is no string
unfoldable pub value_at : ℕ → List Lexed → Result (Argument × List Lexed) ParseError
value_at room ls =
    if starts_with (fixed.Mark marks.Ampersand) ls then (name_at (rest_of ls) >>= λ name. Ok (AddressOf name.0, name.1))
    else (expr_at room 0 ls >>= λ e. Ok (Value e.0, e.2))

abbrev pub argument_by : ℕ → Option (List ℕ) → List Lexed → Result (Argument × List Lexed) ParseError
argument_by room None ls = value_at room ls
argument_by room (Some bytes) ls = Ok (Text bytes, rest_of ls)

unfoldable pub argument_at : ℕ → List Lexed → Result (Argument × List Lexed) ParseError
argument_at room ls = argument_by room (text_at ls) ls

-- arguments, each with the comma before it, of which there are fewer than steps
unfoldable pub arguments_at : (room steps : ℕ) → List Lexed → Result (List Argument × List Lexed) ParseError
arguments_at room zero ls = Err (fault_at NoForm ls)
arguments_at room (suc steps) ls =
    if starts_with (fixed.Mark marks.Comma) ls
    then (argument_at room (rest_of ls) >>= λ a. arguments_at room steps a.1 >>= λ more. Ok (a.0 ∷ more.0, more.1))
    else Ok ([], ls)

unfoldable pub call_at : ℕ → List Lexed → Result (Call × List Lexed) ParseError
call_at room ls = do
  a ← interface_at ls
  function ← name_at a
  b ← expect (fixed.Mark marks.OpenParen) function.1
  c ← expect (fixed.Word words.Env) b
  arguments ← arguments_at room (length c + 1) c
  after ← expect (fixed.Mark marks.CloseParen) arguments.1
  Ok (record { function = function.0; arguments = arguments.0 }, after)

-- no expression begins with these two
abbrev pub starts_call : List Lexed → Bool
starts_call ls = if starts_with (fixed.Mark marks.OpenParen) ls then starts_with (fixed.Mark marks.Star) (rest_of ls) else false

-- whether what comes next may follow the opening parenthesis of an operand: of a cast, or of an expression in parentheses
unfoldable pub starts_inside : List Lexed → Bool
starts_inside ls =
    is_ok (primary_at ls) || starts_with (fixed.Mark marks.OpenParen) ls || starts_with (fixed.Mark marks.Tilde) ls
    || starts_with (fixed.Mark marks.Exclamation) ls
    || starts_with (fixed.Word words.Uint32) ls || starts_with (fixed.Word words.Jint) ls

-- The expression of a right side. Where no height is left, its parenthesis may still be that of a call: the token after it is the first that can't be there.
unfoldable pub right_expr_at : ℕ → List Lexed → Result ReadExpr ParseError
right_expr_at room ls =
    if starts_with (fixed.Mark marks.OpenParen) ls && room == 0 then Err (fault_at (if starts_inside (rest_of ls) then TooHigh else NoForm) (rest_of ls))
    else expr_at room 0 ls

unfoldable pub right_at : ℕ → List Lexed → Result (RightSide × List Lexed) ParseError
right_at room ls =
    if starts_call ls then (call_at room ls >>= λ c. Ok (FromCall c.0, c.1))
    else (right_expr_at room ls >>= λ e. Ok (FromExpr e.0, e.2))

-- ---- statements without blocks

-- a name, and what it is set to
unfoldable pub setting_at : ℕ → List Lexed → Result (Identifier × RightSide × List Lexed) ParseError
setting_at room ls = do
  name ← name_at ls
  within ← expect (fixed.Mark marks.Assign) name.1
  right ← right_at room within
  rest ← expect (fixed.Mark marks.Semicolon) right.1
  Ok (name.0, right.0, rest)

-- an expression, or a call that is tested for 0
unfoldable pub test_at : ℕ → List Lexed → Result (Test × List Lexed) ParseError
test_at room ls =
    if starts_call ls then (call_at room ls >>= λ c. expect (fixed.Mark marks.Equal) c.1 >>= λ a. number_at 0 0 a >>= λ number. Ok (TestCall c.0, number.1))
    else (expr_at room 0 ls >>= λ e. Ok (TestExpr e.0, e.2))
