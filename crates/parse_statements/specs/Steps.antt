-- Steps of reading that have functions of their own.
use Rattle.std.specs.Prelude.{ℕ, ◌==◌, Bool, true, false, ◌&&◌, ◌||◌, List, Option, Some, None, Result, Ok, Err, if◌then◌else◌}
use Rattle.base.specs.Bytes.{Identifier}
use Rattle.scan.specs.declared.token.Mark.TheVariants as marks
use Rattle.scan.specs.declared.reserved.Word.TheVariants as words
use Rattle.syntax.specs.Tree.{Expr, Test, Stmt, Plain, AssignElement, If, NoElse, ElseBlock, While, Block}
use Rattle.syntax.specs.Views.{expr_tree, test_tree}
use Rattle.parse_lexemes.specs.declared.fault.ParseRule.TheVariants.{TooHigh}
use Rattle.parse_lexemes.specs.declared.fault.ParseError.{ParseError}
use Rattle.parse_lexemes.specs.Results.{◌>>=◌}
use Rattle.parse_lexemes.specs.declared.first.Fixed.TheVariants as fixed
use Rattle.parse_lexemes.specs.Lexemes.{Lexed, expect, fault_at}
use Rattle.parse_lexemes.specs.Reading.{starts_with, rest_of}
use Rattle.parse_expressions.specs.Reading.{expr_at}
use Rattle.parse_statements.specs.declared.statements.Head.{Head as InMemory}
use Rattle.parse_statements.specs.declared.statements.Head.TheVariants as head
use Rattle.parse_statements.specs.Reading.{BlockReader, ReadPlain, if_test_at, while_test_at}

-- what an element is set to
unfoldable pub element_set_at : (room line : ℕ) → Identifier → Expr → List Lexed → Result ReadPlain ParseError
element_set_at room line x i ls = do
  within ← expect (fixed.Mark marks.Assign) ls
  e ← expr_at room 0 within
  rest ← expect (fixed.Mark marks.Semicolon) e.2
  Ok (Plain line (AssignElement x i e.0), rest)

-- what comes in a statement before its first block
pub data Head : Type 0 where
  IfHead : Test → Head
  WhileHead : Expr → Head

abbrev pub head_view : InMemory → Head
head_view (head.If test) = IfHead (test_tree test)
head_view (head.While test) = WhileHead (expr_tree test)

-- how a statement with blocks begins, up to the brace of the first, and what comes after that
abbrev pub ReadHead : Type 0
ReadHead = Option (Head × List Lexed)

abbrev pub starts_nested : List Lexed → Bool
starts_nested ls = starts_with (fixed.Word words.If) ls || starts_with (fixed.Word words.While) ls

unfoldable pub nested_head_at : (room : ℕ) → List Lexed → Result ReadHead ParseError
nested_head_at room ls =
    if room == 0 && starts_nested ls then Err (fault_at TooHigh ls)
    else if starts_with (fixed.Word words.If) ls then (if_test_at room (rest_of ls) >>= λ t. Ok (Some (IfHead t.0, t.1)))
    else if starts_with (fixed.Word words.While) ls then (while_test_at room (rest_of ls) >>= λ t. Ok (Some (WhileHead t.0, t.1)))
    else Ok None

-- whether a second block may come after the first
abbrev pub takes_other : Head → Bool
takes_other (IfHead test) = true
takes_other (WhileHead test) = false

-- a statement with its blocks
abbrev pub nested_made : (line : ℕ) → Head → Block → Option Block → Stmt
nested_made line (WhileHead test) body other = While line test body
nested_made line (IfHead test) body None = If line test body NoElse
nested_made line (IfHead test) body (Some other) = If line test body (ElseBlock other)

abbrev pub BlockRead : Type 0
BlockRead = Block × ℕ × List Lexed

abbrev pub OtherRead : Type 0
OtherRead = Option Block × ℕ × List Lexed

abbrev pub BranchesRead : Type 0
BranchesRead = Block × Option Block × ℕ × List Lexed

abbrev pub second_of : Result BlockRead ParseError → Result OtherRead ParseError
second_of read = read >>= λ b. Ok (Some b.0, b.1, b.2)

-- the second block, where there may be one
unfoldable pub other_at : BlockReader → (free : ℕ) → Bool → List Lexed → Result OtherRead ParseError
other_at deep free otherwise ls =
    if otherwise && starts_with (fixed.Word words.Else) ls
    then (expect (fixed.Mark marks.OpenBrace) (rest_of ls) >>= λ within. second_of (deep free within))
    else Ok (None, free, ls)

abbrev pub both_of : Block → Result OtherRead ParseError → Result BranchesRead ParseError
both_of body read = read >>= λ o. Ok (body, o.0, o.1, o.2)

-- both blocks
unfoldable pub branches_at : BlockReader → (free : ℕ) → Bool → List Lexed → Result BranchesRead ParseError
branches_at deep free otherwise ls = deep free ls >>= λ body. both_of body.0 (other_at deep body.1 otherwise body.2)

abbrev pub nested_of : (line : ℕ) → Head → Result BranchesRead ParseError → Result (Stmt × ℕ × List Lexed) ParseError
nested_of line head read = read >>= λ w. Ok (nested_made line head w.0 w.1, w.2, w.3)
