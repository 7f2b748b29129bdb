-- Reading statements and blocks from left to right, with the first fault that is met.
use Rattle.std.specs.Prelude.{ℕ, zero, suc, ◌+◌, ◌-◌, Bool, true, false, ◌||◌, ◌==◌, List, length, Option, Some, None, is_some, Result, Ok, Err, if◌then◌else◌}
use Rattle.base.specs.Limits.{most_elements}
use Rattle.scan.specs.declared.token.Mark.TheVariants as marks
use Rattle.base.specs.declared.element.ElementType.{ElementType}
use Rattle.base.specs.declared.element.ElementType.TheVariants.{Int as JInt, Short as JShort, Byte as JByte, Char as JChar}
use Rattle.syntax.specs.declared.declared_type.VariableType.{VariableType}
use Rattle.syntax.specs.declared.declared_type.VariableType.TheVariants.{Jint as JIntVariable}
use Rattle.syntax.specs.declared.declared_type.DeclaredType.TheVariants.{Simple, Pointer, ConstChars}
use Rattle.syntax.specs.Tree.{Expr, Test, Stmt, Plain, Declare, DeclareArray, Assign, AssignElement, Perform, PutJint, If, NoElse, ElseBlock, While, Return, Block, End, Next}
use Rattle.parse_lexemes.specs.declared.fault.ParseRule.TheVariants.{NoForm, TooHigh, TooMany}
use Rattle.parse_lexemes.specs.declared.fault.ParseError.{ParseError}
use Rattle.scan.specs.declared.reserved.Word.TheVariants as words
use Rattle.parse_lexemes.specs.declared.first.Fixed.TheVariants as fixed
use Rattle.parse_lexemes.specs.Results.{◌>>=◌}
use Rattle.parse_lexemes.specs.Lexemes.{Lexed, fault_at, line_at, expect, name_at}
use Rattle.parse_lexemes.specs.Reading.{starts_with, rest_of, element_type_at, variable_type_at, number_at}
use Rattle.parse_expressions.specs.Reading.{starts_element, expr_at, index_at, call_at, setting_at, test_at}

abbrev pub ReadPlain : Type 0
ReadPlain = Stmt × List Lexed

unfoldable pub put_at : (room line : ℕ) → List Lexed → Result ReadPlain ParseError
put_at room line ls = do
  within ← expect (fixed.Mark marks.OpenParen) ls
  e ← expr_at room 0 within
  after ← expect (fixed.Mark marks.CloseParen) e.2
  rest ← expect (fixed.Mark marks.Semicolon) after
  Ok (Plain line (PutJint e.0), rest)

unfoldable pub return_at : (room line : ℕ) → List Lexed → Result ReadPlain ParseError
return_at room line ls =
    if starts_with (fixed.Mark marks.Semicolon) ls then Ok (Return line None, rest_of ls)
    else (expr_at room 0 ls >>= λ e. expect (fixed.Mark marks.Semicolon) e.2 >>= λ rest. Ok (Return line (Some e.0), rest))

unfoldable pub perform_at : (room line : ℕ) → List Lexed → Result ReadPlain ParseError
perform_at room line ls = do
  c ← call_at room ls
  rest ← expect (fixed.Mark marks.Semicolon) c.1
  Ok (Plain line (Perform c.0), rest)

unfoldable pub set_element_at : (room line : ℕ) → List Lexed → Result ReadPlain ParseError
set_element_at room line ls = do
  name ← name_at ls
  i ← index_at room name.1
  within ← expect (fixed.Mark marks.Assign) i.2
  e ← expr_at room 0 within
  rest ← expect (fixed.Mark marks.Semicolon) e.2
  Ok (Plain line (AssignElement name.0 i.0 e.0), rest)

unfoldable pub set_at : (room line : ℕ) → List Lexed → Result ReadPlain ParseError
set_at room line ls =
    if starts_element ls then set_element_at room line ls
    else (setting_at room ls >>= λ s. Ok (Plain line (Assign s.0 s.1), s.2))

-- a statement that declares no name and has no block
unfoldable pub plain_at : ℕ → List Lexed → Result ReadPlain ParseError
plain_at room ls =
    if starts_with (fixed.Word words.PutJint) ls then put_at room (line_at ls) (rest_of ls)
    else if starts_with (fixed.Word words.Return) ls then return_at room (line_at ls) (rest_of ls)
    else if starts_with (fixed.Mark marks.OpenParen) ls then perform_at room (line_at ls) ls
    else set_at room (line_at ls) ls

-- ---- declarations

-- = {0};
unfoldable pub zeros_at : List Lexed → Result (List Lexed) ParseError
zeros_at ls = do
  a ← expect (fixed.Mark marks.Assign) ls
  b ← expect (fixed.Mark marks.OpenBrace) a
  number ← number_at 0 0 b
  c ← expect (fixed.Mark marks.CloseBrace) number.1
  expect (fixed.Mark marks.Semicolon) c

-- the name, the size and the zeros of a local array
unfoldable pub array_at : (line : ℕ) → ElementType → List Lexed → Result ReadPlain ParseError
array_at line t ls = do
  name ← name_at ls
  a ← expect (fixed.Mark marks.OpenBracket) name.1
  size ← number_at 1 most_elements a
  b ← expect (fixed.Mark marks.CloseBracket) size.1
  rest ← zeros_at b
  Ok (Plain line (DeclareArray t name.0 size.0), rest)

-- whether an array is declared after an element's type, of which `jint` alone is a variable's too
abbrev pub is_array : ElementType → List Lexed → Bool
is_array JInt ls = starts_with (fixed.Mark marks.OpenBracket) (rest_of ls)
is_array JShort ls = true
is_array JByte ls = true
is_array JChar ls = true

-- what comes after an element's type
unfoldable pub after_element : (room line : ℕ) → ElementType → List Lexed → Result ReadPlain ParseError
after_element room line t ls =
    if starts_with (fixed.Mark marks.Star) ls then (setting_at room (rest_of ls) >>= λ s. Ok (Plain line (Declare (Pointer t) s.0 s.1), s.2))
    else if is_array t ls then array_at line t ls
    else (setting_at room ls >>= λ s. Ok (Plain line (Declare (Simple JIntVariable) s.0 s.1), s.2))

unfoldable pub after_variable : (room line : ℕ) → VariableType → List Lexed → Result ReadPlain ParseError
after_variable room line t ls = do
  s ← setting_at room ls
  Ok (Plain line (Declare (Simple t) s.0 s.1), s.2)

-- const jchar *
unfoldable pub after_const : (room line : ℕ) → List Lexed → Result ReadPlain ParseError
after_const room line ls = do
  a ← expect (fixed.Word words.Jchar) ls
  b ← expect (fixed.Mark marks.Star) a
  s ← setting_at room b
  Ok (Plain line (Declare ConstChars s.0 s.1), s.2)

-- a declaration that begins with one of these types, or with `const`
abbrev pub declared_by : ℕ → Option ElementType → Option VariableType → List Lexed → Result ReadPlain ParseError
declared_by room (Some t) o ls = after_element room (line_at ls) t (rest_of ls)
declared_by room None (Some t) ls = after_variable room (line_at ls) t (rest_of ls)
declared_by room None None ls = after_const room (line_at ls) (rest_of ls)

unfoldable pub declared_at : ℕ → List Lexed → Result ReadPlain ParseError
declared_at room ls = declared_by room (element_type_at ls) (variable_type_at ls) ls

-- whether a declaration comes next
abbrev pub starts_declaration : List Lexed → Bool
starts_declaration ls = is_some (element_type_at ls) || is_some (variable_type_at ls) || starts_with (fixed.Word words.Const) ls

-- a statement, how many more names may be declared after it, and what comes after it
abbrev pub ReadStmt : Type 0
ReadStmt = Stmt × ℕ × List Lexed

-- a statement without a block, where `free` more names may be declared
unfoldable pub simple_at : (room free : ℕ) → List Lexed → Result ReadStmt ParseError
simple_at room free ls =
    if starts_declaration ls then (if free == 0 then Err (fault_at TooMany ls) else (declared_at room ls >>= λ s. Ok (s.0, free - 1, s.1)))
    else (plain_at room ls >>= λ s. Ok (s.0, free, s.1))

-- ---- blocks

-- a block, how many more names may be declared after it, and what comes after it
abbrev pub ReadBlock : Type 0
ReadBlock = Block × ℕ × List Lexed

-- reads what comes after an opening brace, where this many more names may be declared
abbrev pub BlockReader : Type 0
BlockReader = ℕ → List Lexed → Result ReadBlock ParseError

-- after the first block of an `if`
unfoldable pub else_by : BlockReader → (line : ℕ) → Test → Block → (free : ℕ) → List Lexed → Result ReadStmt ParseError
else_by deep line test then' free ls =
    if starts_with (fixed.Word words.Else) ls
    then (expect (fixed.Mark marks.OpenBrace) (rest_of ls) >>= λ within. deep free within >>= λ b. Ok (If line test then' (ElseBlock b.0), b.1, b.2))
    else Ok (If line test then' NoElse, free, ls)

-- what an `if` tests, in its parentheses, and the brace after them
unfoldable pub if_test_at : ℕ → List Lexed → Result (Test × List Lexed) ParseError
if_test_at room ls = do
  a ← expect (fixed.Mark marks.OpenParen) ls
  test ← test_at room a
  b ← expect (fixed.Mark marks.CloseParen) test.1
  within ← expect (fixed.Mark marks.OpenBrace) b
  Ok (test.0, within)

unfoldable pub if_by : BlockReader → (room free line : ℕ) → List Lexed → Result ReadStmt ParseError
if_by deep room free line ls = do
  test ← if_test_at room ls
  then' ← deep free test.1
  else_by deep line test.0 then'.0 then'.1 then'.2

-- what a `while` tests, in its parentheses, and the brace after them
unfoldable pub while_test_at : ℕ → List Lexed → Result (Expr × List Lexed) ParseError
while_test_at room ls = do
  a ← expect (fixed.Mark marks.OpenParen) ls
  test ← expr_at room 0 a
  b ← expect (fixed.Mark marks.CloseParen) test.2
  within ← expect (fixed.Mark marks.OpenBrace) b
  Ok (test.0, within)

unfoldable pub while_by : BlockReader → (room free line : ℕ) → List Lexed → Result ReadStmt ParseError
while_by deep room free line ls = do
  test ← while_test_at room ls
  body ← deep free test.1
  Ok (While line test.0 body.0, body.1, body.2)

unfoldable pub statement_by : BlockReader → (room free : ℕ) → List Lexed → Result ReadStmt ParseError
statement_by deep room free ls =
    if starts_with (fixed.Word words.If) ls then (if room == 0 then Err (fault_at TooHigh ls) else if_by deep room free (line_at ls) (rest_of ls))
    else if starts_with (fixed.Word words.While) ls then (if room == 0 then Err (fault_at TooHigh ls) else while_by deep room free (line_at ls) (rest_of ls))
    else simple_at room free ls

abbrev pub is_return : Stmt → Bool
is_return (Return line e) = true
is_return s = false

-- statements up to the closing brace, of which there are fewer than `steps`, where `free` more names
-- may be declared; none comes after a return
unfoldable pub block_by : BlockReader → (room free steps : ℕ) → Bool → List Lexed → Result ReadBlock ParseError
block_by deep room free zero returned ls = Err (fault_at NoForm ls)
block_by deep room free (suc steps) returned ls =
    if starts_with (fixed.Mark marks.CloseBrace) ls then Ok (End (line_at ls), free, rest_of ls)
    else if returned then Err (fault_at NoForm ls)
    else (statement_by deep room free ls >>= λ s. block_by deep room s.1 steps (is_return s.0) s.2 >>= λ b. Ok (Next s.0 b.0, b.1, b.2))

-- blocks one step deeper than where there is this room
unfoldable pub inner : ℕ → BlockReader
inner zero = λ free ls. Err (fault_at TooHigh ls)
inner (suc room) = λ free ls. block_by (inner room) room free (length ls + 1) false ls

abbrev pub statement_at : (room free : ℕ) → List Lexed → Result ReadStmt ParseError
statement_at room free ls = statement_by (inner room) room free ls

-- the block whose statements have this room
abbrev pub block_at : (room free : ℕ) → List Lexed → Result ReadBlock ParseError
block_at room free ls = block_by (inner room) room free (length ls + 1) false ls
