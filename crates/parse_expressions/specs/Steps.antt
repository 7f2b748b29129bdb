-- A last step of reading.
use Rattle.std.specs.Prelude.{ℕ, ◌+◌, Bool, ◌&&◌, ◌||◌, ◌==◌, List, Option, Some, None, Result, Ok, Err, nat_lt, if◌then◌else◌}
use Rattle.base.specs.Bytes.{Identifier}
use Rattle.scan.specs.declared.token.Mark.TheVariants as marks
use Rattle.scan.specs.declared.reserved.Word.TheVariants as words
use Rattle.syntax.specs.Limits.{operator_level, prefix_level}
use Rattle.syntax.specs.declared.expr.PrefixOp.{PrefixOp}
use Rattle.syntax.specs.declared.expr.PrefixOp.TheVariants.{LogicalNot, Complement, ToWord, ToInt}
use Rattle.syntax.specs.declared.expr.BinaryOp.{BinaryOp}
use Rattle.syntax.specs.Tree.{Expr, Variable, Element, Prefix, Paren}
use Rattle.parse_lexemes.specs.declared.first.Fixed.TheVariants as fixed
use Rattle.parse_lexemes.specs.declared.fault.ParseRule.TheVariants.{TooHigh}
use Rattle.parse_lexemes.specs.declared.fault.ParseError.{ParseError}
use Rattle.parse_lexemes.specs.Reading.{rest_of, starts_with}
use Rattle.parse_lexemes.specs.Results.{◌>>=◌}
use Rattle.parse_lexemes.specs.Lexemes.{Lexed, name_at, expect, fault_at}
use Rattle.parse_expressions.specs.declared.expressions.Opening.{Opening as InMemory}
use Rattle.parse_expressions.specs.declared.expressions.Opening.TheVariants as opening
use Rattle.parse_expressions.specs.Reading.{Reader, ReadExpr, starts_element}

-- a name
abbrev pub variable_at : List Lexed → Result ReadExpr ParseError
variable_at ls = name_at ls >>= λ name. Ok (Variable name.0, 0, name.1)

-- an operator, where it is of this level or tighter
abbrev pub within : ℕ → Option BinaryOp → Option BinaryOp
within least None = None
within least (Some op) = if nat_lt (operator_level op) least then None else Some op

-- what comes after an operator, whose left operand is this high
abbrev pub right_by : Reader → (room high : ℕ) → BinaryOp → List Lexed → Result ReadExpr ParseError
right_by deep room high op ls = if nat_lt high room then deep (operator_level op + 1) (rest_of ls) else Err (fault_at TooHigh ls)

-- ---- operands

-- what comes in an operand before an expression inside it
pub data Opening : Type 0 where
  OfPrefix : PrefixOp → Opening
  OfParen : Opening
  OfElement : Identifier → Opening

abbrev pub opening_view : InMemory → Opening
opening_view (opening.Prefix op) = OfPrefix op
opening_view opening.Paren = OfParen
opening_view (opening.Element name) = OfElement name.now

-- how an operand opens that has an expression inside, and what comes after that
abbrev pub ReadOpening : Type 0
ReadOpening = Option (Opening × List Lexed)

-- the level of the expression inside
abbrev pub level_inside : Opening → ℕ
level_inside (OfPrefix op) = prefix_level
level_inside OfParen = 0
level_inside (OfElement name) = 0

-- an expression inside an operand, with what is around it
abbrev pub around : Opening → Expr → Expr
around (OfPrefix op) e = Prefix op e
around OfParen e = Paren e
around (OfElement name) e = Element name e

-- what comes after the end of the operand
abbrev pub ending_at : Opening → List Lexed → Result (List Lexed) ParseError
ending_at (OfPrefix op) ls = Ok ls
ending_at OfParen ls = expect (fixed.Mark marks.CloseParen) ls
ending_at (OfElement name) ls = expect (fixed.Mark marks.CloseBracket) ls

abbrev pub operand_of : Opening → ReadExpr → Result ReadExpr ParseError
operand_of opening e = ending_at opening e.2 >>= λ after. Ok (around opening e.0, 1 + e.1, after)

-- a cast to a type, of which the closing parenthesis is read
abbrev pub cast_at : PrefixOp → List Lexed → Result ReadOpening ParseError
cast_at op ls = expect (fixed.Mark marks.CloseParen) ls >>= λ after. Ok (Some (OfPrefix op, after))

-- what opens with a parenthesis: a cast, or an expression
unfoldable pub paren_opening_at : List Lexed → Result ReadOpening ParseError
paren_opening_at ls =
    if starts_with (fixed.Word words.Uint32) ls then cast_at ToWord (rest_of ls)
    else if starts_with (fixed.Word words.Jint) ls then cast_at ToInt (rest_of ls)
    else Ok (Some (OfParen, ls))

-- the opening bracket of an index
unfoldable pub bracket_at : ℕ → List Lexed → Result (List Lexed) ParseError
bracket_at room ls = if room == 0 then Err (fault_at TooHigh ls) else expect (fixed.Mark marks.OpenBracket) ls

-- the name of an element, and its opening bracket
unfoldable pub element_opening_at : ℕ → List Lexed → Result ReadOpening ParseError
element_opening_at room ls = do
  name ← name_at ls
  rest ← bracket_at room name.1
  Ok (Some (OfElement name.0, rest))

-- whether an operand begins that holds another expression, and is no element
abbrev pub starts_deep : List Lexed → Bool
starts_deep ls = starts_with (fixed.Mark marks.Tilde) ls || starts_with (fixed.Mark marks.Exclamation) ls || starts_with (fixed.Mark marks.OpenParen) ls

unfoldable pub opening_at : ℕ → List Lexed → Result ReadOpening ParseError
opening_at room ls =
    if room == 0 && starts_deep ls then Err (fault_at TooHigh ls)
    else if starts_with (fixed.Mark marks.Tilde) ls then Ok (Some (OfPrefix Complement, rest_of ls))
    else if starts_with (fixed.Mark marks.Exclamation) ls then Ok (Some (OfPrefix LogicalNot, rest_of ls))
    else if starts_with (fixed.Mark marks.OpenParen) ls then paren_opening_at (rest_of ls)
    else if starts_element ls then element_opening_at room ls
    else Ok None
