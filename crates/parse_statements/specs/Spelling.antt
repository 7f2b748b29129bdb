-- How statements and blocks are spelled in tokens.
use Rattle.std.specs.Prelude.{false, List, [], ◌∷◌, ◌++◌, Option, Some, None}
use Rattle.scan.specs.declared.token.Mark.TheVariants as marks
use Rattle.syntax.specs.declared.declared_type.DeclaredType.{DeclaredType}
use Rattle.syntax.specs.declared.declared_type.DeclaredType.TheVariants.{Simple, Pointer, ConstChars}
use Rattle.syntax.specs.Tree.{Expr, PlainStmt, Declare, DeclareArray, Assign, AssignElement, Perform, PutJint, Stmt, Plain, If, NoElse, ElseBlock, While, Return, Block, End, Next}
use Rattle.scan.specs.declared.reserved.Word.{Word}
use Rattle.scan.specs.declared.reserved.Word.TheVariants as words
use Rattle.parse_lexemes.specs.Meaning.{Number'}
use Rattle.parse_lexemes.specs.Spelling.{Spelled, mark, word, name, on_line, element_word, variable_word, Anywhere}
use Rattle.parse_expressions.specs.Spelling.{expression, call, test_tokens, setting}

-- if (test), while (test)
abbrev pub tested : Word → List Spelled → List Spelled
tested w test = word w ∷ mark marks.OpenParen ∷ (test ++ mark marks.CloseParen ∷ [])

-- the words of a declared type
abbrev pub declared_words : DeclaredType → List Spelled
declared_words (Simple t) = word (variable_word t) ∷ []
declared_words (Pointer t) = word (element_word t) ∷ mark marks.Star ∷ []
declared_words ConstChars = word words.Const ∷ word words.Jchar ∷ mark marks.Star ∷ []

-- what follows `return`
abbrev pub returned : Option Expr → List Spelled
returned None = mark marks.Semicolon ∷ []
returned (Some e) = expression e ++ mark marks.Semicolon ∷ []

-- a plain statement
abbrev pub plain_tokens : PlainStmt → List Spelled
plain_tokens (Declare t x r) = declared_words t ++ setting x r
plain_tokens (DeclareArray t x size) =
    word (element_word t) ∷ name x ∷ mark marks.OpenBracket ∷ Anywhere (Number' size false) ∷ mark marks.CloseBracket
    ∷ mark marks.Assign ∷ mark marks.OpenBrace ∷ Anywhere (Number' 0 false) ∷ mark marks.CloseBrace ∷ mark marks.Semicolon ∷ []
plain_tokens (Assign x r) = setting x r
plain_tokens (AssignElement x i e) = name x ∷ mark marks.OpenBracket
    ∷ (expression i ++ mark marks.CloseBracket ∷ mark marks.Assign ∷ (expression e ++ mark marks.Semicolon ∷ []))
plain_tokens (Perform c) = call c ++ mark marks.Semicolon ∷ []
plain_tokens (PutJint e) = word words.PutJint ∷ mark marks.OpenParen ∷ (expression e ++ mark marks.CloseParen ∷ mark marks.Semicolon ∷ [])

abbrev mutual
  pub statement : Stmt → List Spelled
  statement (Plain line p) = on_line line (plain_tokens p)
  statement (If line test then' NoElse) = on_line line (tested words.If (test_tokens test)) ++ mark marks.OpenBrace ∷ inside then'
  statement (If line test then' (ElseBlock else')) = on_line line (tested words.If (test_tokens test))
      ++ mark marks.OpenBrace ∷ inside then' ++ word words.Else ∷ mark marks.OpenBrace ∷ inside else'
  statement (While line test body) = on_line line (tested words.While (expression test)) ++ mark marks.OpenBrace ∷ inside body
  statement (Return line e) = on_line line (word words.Return ∷ returned e)

  -- what follows a block's opening brace
  pub inside : Block → List Spelled
  inside (End line) = on_line line (mark marks.CloseBrace ∷ [])
  inside (Next s rest) = statement s ++ inside rest
