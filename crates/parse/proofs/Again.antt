-- What is spelled so is read: statements, blocks, functions, statics and units.
use Rattle.std.proofs.Common.{◌≡◌, ℕ, zero, suc, ◌-◌, ◌<◌, ◌≤◌, Bool, true, false, List, [], ◌∷◌, ◌++◌, length, Result, Ok, refl, ap, subst, ◌∙◌, arith, add-one}
use Rattle.std.specs.Prelude.{flat_map}
use Rattle.std.proofs.lemmas.Bool.{ne_eqb}
use Rattle.scan.specs.declared.token.Mark.TheVariants as marks
use Rattle.syntax.specs.declared.declared_type.DeclaredType.TheVariants.{Simple, Pointer, ConstChars}
use Rattle.syntax.specs.Tree.{Expr, Test, Stmt, Plain, Declare, DeclareArray, Assign, AssignElement, Perform, PutJint, If, NoElse, ElseBlock, While, Return, Block, End, Next, Parameter, Function, Static, Item, StaticItem, FunctionItem}
use Rattle.syntax.specs.Parts.{statements_within, statements_of, line_of}
use Rattle.parse_lexemes.specs.declared.fault.ParseError.{ParseError}
use Rattle.scan.specs.declared.reserved.Word.TheVariants as words
use Rattle.parse_lexemes.specs.declared.first.Fixed.{Fixed}
use Rattle.parse_lexemes.specs.declared.first.Fixed.TheVariants as fixed
use Rattle.parse_lexemes.specs.Meaning.{Meaning, Fixed', Name'}
use Rattle.parse_lexemes.specs.Lexemes.{Lexed, same_fixed, is_fixed_meaning, expect}
use Rattle.parse_lexemes.specs.Spelling.{Spelled, Anywhere, OnLine, mark, word, static_word, element_word, variable_word, result_word, parameter_word}
use Rattle.parse_expressions.specs.Spelling.{expression, setting, test_tokens}
use Rattle.parse_statements.specs.Spelling.{statement, inside, returned}
use Rattle.parse.specs.Spelling.{parameter, function, item}
use Rattle.parse_lexemes.specs.Reading.{starts_with, rest_of}
use Rattle.parse_statements.specs.Reading.{ReadStmt, simple_at, ReadBlock, BlockReader, else_by, if_test_at, if_by, while_test_at, while_by, statement_by, is_return, block_by, inner, block_at}
use Rattle.parse.specs.Reading.{parameter_at, parameters_at, head_at, body_at, signature_at, function_at, static_at, item_at, items_at}
use Rattle.parse_statements.proofs.Forms.{names_of, names_in, IsForm, MayFollow, IsBlock}
use Rattle.parse.proofs.Forms.{IsFunction, AreItems}
use Rattle.parse_expressions.proofs.Forms.{IsTest, IsExpr}
use Rattle.parse_lexemes.proofs.Singles.{Begins, same_itself, begins_split, begins_length, shortens, first_rest, first_is, expect_again, name_again, on_is, on_line_is}
use Rattle.parse_expressions.proofs.Table.{Closes, closes_mark}
use Rattle.parse_lexemes.proofs.TypeWords.{static_type_again, result_type_again, parameter_type_again}
use Rattle.parse_expressions.proofs.Levels.{expr_reads_again}
use Rattle.parse_expressions.proofs.JniCalls.{test_again}
use Rattle.parse_statements.proofs.Sentences.{call_tail, element_tail, setting_tail, IsPlain, plain_again}
use Rattle.parse_statements.proofs.Declared.{array_tail, declares, declares_first, declares_no, element_declares, variable_declares, IsDeclared, declared_again}
use Rattle.parse_statements.proofs.Nested.{tested_tail, names_split}
use Rattle.parse.proofs.Programs.{parameters_head, functions_in, statics_in}

-- ---- the first token of a statement

first_meaning : Stmt → Meaning
first_meaning (Plain line (Declare (Simple t) x r)) = Fixed' (fixed.Word (variable_word t))
first_meaning (Plain line (Declare (Pointer t) x r)) = Fixed' (fixed.Word (element_word t))
first_meaning (Plain line (Declare ConstChars x r)) = Fixed' (fixed.Word words.Const)
first_meaning (Plain line (DeclareArray t x size)) = Fixed' (fixed.Word (element_word t))
first_meaning (Plain line (Assign x r)) = Name' x
first_meaning (Plain line (AssignElement x i e)) = Name' x
first_meaning (Plain line (Perform c)) = Fixed' (fixed.Mark marks.OpenParen)
first_meaning (Plain line (PutJint e)) = Fixed' (fixed.Word words.PutJint)
first_meaning (If line test b d) = Fixed' (fixed.Word words.If)
first_meaning (While line test b) = Fixed' (fixed.Word words.While)
first_meaning (Return line e) = Fixed' (fixed.Word words.Return)

first_others : Stmt → List Spelled
first_others (Plain line (Declare (Simple t) x r)) = setting x r
first_others (Plain line (Declare (Pointer t) x r)) = mark marks.Star ∷ setting x r
first_others (Plain line (Declare ConstChars x r)) = word words.Jchar ∷ mark marks.Star ∷ setting x r
first_others (Plain line (DeclareArray t x size)) = Anywhere (Name' x) ∷ array_tail size
first_others (Plain line (Assign x r)) = setting_tail r
first_others (Plain line (AssignElement x i e)) = element_tail i e
first_others (Plain line (Perform c)) = call_tail c ++ mark marks.Semicolon ∷ []
first_others (Plain line (PutJint e)) = mark marks.OpenParen ∷ (expression e ++ (mark marks.CloseParen ∷ mark marks.Semicolon ∷ []))
first_others (If line test b NoElse) = tested_tail (test_tokens test) ++ mark marks.OpenBrace ∷ inside b
first_others (If line test b (ElseBlock d)) = tested_tail (test_tokens test) ++ mark marks.OpenBrace ∷ inside b ++ word words.Else ∷ mark marks.OpenBrace ∷ inside d
first_others (While line test b) = tested_tail (expression test) ++ mark marks.OpenBrace ∷ inside b
first_others (Return line e) = returned e

first_of : (s : Stmt) → statement s ≡ OnLine (line_of s) (first_meaning s) ∷ first_others s
unfolding first_meaning first_others
first_of (Plain line (Declare (Simple t) x r)) = refl
first_of (Plain line (Declare (Pointer t) x r)) = refl
first_of (Plain line (Declare ConstChars x r)) = refl
first_of (Plain line (DeclareArray t x size)) = refl
first_of (Plain line (Assign x r)) = refl
first_of (Plain line (AssignElement x i e)) = refl
first_of (Plain line (Perform c)) = refl
first_of (Plain line (PutJint e)) = refl
first_of (If line test b NoElse) = refl
first_of (If line test b (ElseBlock d)) = refl
first_of (While line test b) = refl
first_of (Return line e) = refl

begins_first : (s : Stmt) (ls rest : List Lexed) → Begins (statement s) ls rest → Begins (OnLine (line_of s) (first_meaning s) ∷ first_others s) ls rest
begins_first s ls rest h = subst (λ (es : List Spelled). Begins es ls rest) (first_of s) h

statement_starts : (s : Stmt) (f : Fixed) (ls rest : List Lexed) → Begins (statement s) ls rest → starts_with f ls ≡ is_fixed_meaning (first_meaning s) f
statement_starts s f ls rest h = on_is (line_of s) (first_meaning s) (first_others s) ls rest f (begins_first s ls rest h)

statement_shorter : (s : Stmt) (ls rest : List Lexed) → Begins (statement s) ls rest → length rest < length ls
statement_shorter s ls rest h = shortens (OnLine (line_of s) (first_meaning s)) (first_others s) ls rest (begins_first s ls rest h)

-- no statement begins so
record IsNoStart (f : Fixed) : Type 0 where
  declared : declares (Fixed' f) ≡ false
  paren : same_fixed (fixed.Mark marks.OpenParen) f ≡ false
  put : same_fixed (fixed.Word words.PutJint) f ≡ false
  test : same_fixed (fixed.Word words.If) f ≡ false
  loop : same_fixed (fixed.Word words.While) f ≡ false
  last : same_fixed (fixed.Word words.Return) f ≡ false

no_start : (f : Fixed) → IsNoStart f → (s : Stmt) → is_fixed_meaning (first_meaning s) f ≡ false
unfolding first_meaning
no_start f is (Plain line (Declare (Simple t) x r)) = declares_no (Fixed' (fixed.Word (variable_word t))) f (variable_declares t) is.declared
no_start f is (Plain line (Declare (Pointer t) x r)) = declares_no (Fixed' (fixed.Word (element_word t))) f (element_declares t) is.declared
no_start f is (Plain line (Declare ConstChars x r)) = declares_no (Fixed' (fixed.Word words.Const)) f refl is.declared
no_start f is (Plain line (DeclareArray t x size)) = declares_no (Fixed' (fixed.Word (element_word t))) f (element_declares t) is.declared
no_start f is (Plain line (Assign x r)) = refl
no_start f is (Plain line (AssignElement x i e)) = refl
no_start f is (Plain line (Perform c)) = is.paren
no_start f is (Plain line (PutJint e)) = is.put
no_start f is (If line test b d) = is.test
no_start f is (While line test b) = is.loop
no_start f is (Return line e) = is.last

no_brace : IsNoStart (fixed.Mark marks.CloseBrace)
no_brace = record { declared = refl; paren = refl; put = refl; test = refl; loop = refl; last = refl }

no_else : IsNoStart (fixed.Word words.Else)
no_else = record { declared = refl; paren = refl; put = refl; test = refl; loop = refl; last = refl }

-- nor does the inside of a block begin with `else`
inside_no_else : (b : Block) (ls rest : List Lexed) → Begins (inside b) ls rest → starts_with (fixed.Word words.Else) ls ≡ false
inside_no_else (End line) ls rest h = on_is line (Fixed' (fixed.Mark marks.CloseBrace)) [] ls rest (fixed.Word words.Else) h
inside_no_else (Next s b) ls rest h =
    let parts = begins_split (statement s) (inside b) ls rest h in
    statement_starts s (fixed.Word words.Else) ls parts.0 parts.1 ∙ no_start (fixed.Word words.Else) no_else s

-- ---- statements without blocks

abbrev statement_read : Stmt → ℕ → List Lexed → Result ReadStmt ParseError
statement_read s left ls = Ok (s, left, ls)

declared_simple : (room free : ℕ) (s : Stmt) (ls rest : List Lexed) → Begins (statement s) ls rest → declares (first_meaning s) ≡ true → names_of s ≡ 1 → IsForm room s → IsDeclared s → names_of s ≤ free → simple_at room free ls ≡ Ok (s, free - names_of s, rest)
unfolding simple_at
declared_simple room free s ls rest h first one is declared few =
    let starts = declares_first (line_of s) (first_meaning s) (first_others s) ls rest (begins_first s ls rest h) ∙ first in
    let left : free - 1 ≡ free - names_of s = omega (arith, one) in
    rw (starts, ne_eqb free 0 (omega (arith, one, few)), declared_again room s ls rest h is declared) (ap (λ (n : ℕ). statement_read s n rest) left)

plain_simple : (room free : ℕ) (s : Stmt) (ls rest : List Lexed) → Begins (statement s) ls rest → declares (first_meaning s) ≡ false → names_of s ≡ 0 → IsForm room s → IsPlain s → simple_at room free ls ≡ Ok (s, free - names_of s, rest)
unfolding simple_at
plain_simple room free s ls rest h first none is plain =
    let starts = declares_first (line_of s) (first_meaning s) (first_others s) ls rest (begins_first s ls rest h) ∙ first in
    let left : free ≡ free - names_of s = omega (arith, none) in
    rw (starts, plain_again room s ls rest h is plain) (ap (λ (n : ℕ). statement_read s n rest) left)

-- ---- blocks

-- a test in its parentheses, and what comes after them
record Tested (test more : List Spelled) (ls rest : List Lexed) : Type 0 where
  inner_ls : List Lexed
  closing : List Lexed
  mid : List Lexed
  opens : expect (fixed.Mark marks.OpenParen) ls ≡ Ok inner_ls
  parts : Begins test inner_ls closing
  closed : Closes closing
  closes : expect (fixed.Mark marks.CloseParen) closing ≡ Ok mid
  after_it : Begins more mid rest

abbrev rest_read : List Lexed → Result (List Lexed) ParseError
rest_read ls = Ok ls

tested_again : (test more : List Spelled) (ls rest : List Lexed) → Begins (tested_tail test ++ more) ls rest → Tested test more ls rest
tested_again test more ls rest h =
    let s = begins_split (tested_tail test) more ls rest h in
    let o = expect_again (fixed.Mark marks.OpenParen) (test ++ mark marks.CloseParen ∷ []) ls s.0 s.1 in
    let p = begins_split test (mark marks.CloseParen ∷ []) o.0 s.0 o.2 in
    let c = expect_again (fixed.Mark marks.CloseParen) [] p.0 s.0 p.2 in
    record {
      inner_ls = o.0;
      closing = p.0;
      mid = s.0;
      opens = o.1;
      parts = p.1;
      closed = closes_mark marks.CloseParen refl refl [] p.0 s.0 p.2;
      closes = c.1 ∙ ap rest_read c.2;
      after_it = s.2;
    }

abbrev AllBlocksAgain : BlockReader → ℕ → Type 0
AllBlocksAgain deep room = (free : ℕ) (b : Block) (ls rest : List Lexed) → 1 ≤ room → Begins (inside b) ls rest → IsBlock (room - 1) b → names_in b ≤ free → deep free ls ≡ Ok (b, free - names_in b, rest)

abbrev block_read : Block → ℕ → List Lexed → Result ReadBlock ParseError
block_read b left ls = Ok (b, left, ls)

module _ (deep : BlockReader) (room : ℕ) (all : AllBlocksAgain deep room) where
  -- up to the end of the first block
  if_head : (free line : ℕ) (test : Test) (b : Block) (ls mid : List Lexed) → Begins (tested_tail (test_tokens test) ++ mark marks.OpenBrace ∷ inside b) ls mid → 1 ≤ room → IsTest room test → IsBlock (room - 1) b → names_in b ≤ free → if_by deep room free line ls ≡ else_by deep line test b (free - names_in b) mid
  unfolding if_by if_test_at
  if_head free line test b ls mid h some is_test is_block few =
      let t = tested_again (test_tokens test) (mark marks.OpenBrace ∷ inside b) ls mid h in
      let d = expect_again (fixed.Mark marks.OpenBrace) (inside b) t.mid mid t.after_it in
      rw (t.opens, test_again room test t.inner_ls t.closing t.parts is_test t.closed, t.closes, d.1, all free b d.0 mid some d.2 is_block few) refl

  if_again : (free line : ℕ) (test : Test) (b : Block) (ls rest : List Lexed) → Begins (tested_tail (test_tokens test) ++ mark marks.OpenBrace ∷ inside b) ls rest → 1 ≤ room → IsTest room test → IsBlock (room - 1) b → names_in b ≤ free → starts_with (fixed.Word words.Else) rest ≡ false → if_by deep room free line ls ≡ Ok (If line test b NoElse, free - names_in b, rest)
  unfolding else_by
  if_again free line test b ls rest h some is_test is_block few other = rw (if_head free line test b ls rest h some is_test is_block few, other) refl

  else_again : (free line : ℕ) (test : Test) (b d : Block) (ls rest : List Lexed) → Begins (word words.Else ∷ mark marks.OpenBrace ∷ inside d) ls rest → 1 ≤ room → IsBlock (room - 1) d → names_in d ≤ free → else_by deep line test b free ls ≡ Ok (If line test b (ElseBlock d), free - names_in d, rest)
  unfolding else_by
  else_again free line test b d ls rest h some is_block few =
      let s = first_is (Fixed' (fixed.Word words.Else)) (mark marks.OpenBrace ∷ inside d) ls rest (fixed.Word words.Else) h in
      let o = expect_again (fixed.Mark marks.OpenBrace) (inside d) (rest_of ls) rest (first_rest (word words.Else) (mark marks.OpenBrace ∷ inside d) ls rest h) in
      rw (s, o.1, all free d o.0 rest some o.2 is_block few) refl

  while_again : (free line : ℕ) (test : Expr) (b : Block) (ls rest : List Lexed) → Begins (tested_tail (expression test) ++ mark marks.OpenBrace ∷ inside b) ls rest → 1 ≤ room → IsExpr room test → IsBlock (room - 1) b → names_in b ≤ free → while_by deep room free line ls ≡ Ok (While line test b, free - names_in b, rest)
  unfolding while_by while_test_at
  while_again free line test b ls rest h some is_test is_block few =
      let t = tested_again (expression test) (mark marks.OpenBrace ∷ inside b) ls rest h in
      let d = expect_again (fixed.Mark marks.OpenBrace) (inside b) t.mid rest t.after_it in
      rw (t.opens, expr_reads_again room t.inner_ls t.closing test t.parts is_test t.closed, t.closes, d.1, all free b d.0 rest some d.2 is_block few) refl

  simple_again : (free : ℕ) (s : Stmt) (ls rest : List Lexed) → Begins (statement s) ls rest → is_fixed_meaning (first_meaning s) (fixed.Word words.If) ≡ false → is_fixed_meaning (first_meaning s) (fixed.Word words.While) ≡ false → simple_at room free ls ≡ Ok (s, free - names_of s, rest) → statement_by deep room free ls ≡ Ok (s, free - names_of s, rest)
  unfolding statement_by
  simple_again free s ls rest h no_if no_while read = rw (statement_starts s (fixed.Word words.If) ls rest h ∙ no_if, statement_starts s (fixed.Word words.While) ls rest h ∙ no_while, read) refl

  declared_statement : (free : ℕ) (s : Stmt) (ls rest : List Lexed) → Begins (statement s) ls rest → declares (first_meaning s) ≡ true → names_of s ≡ 1 → IsForm room s → IsDeclared s → names_of s ≤ free → statement_by deep room free ls ≡ Ok (s, free - names_of s, rest)
  declared_statement free s ls rest h first one is declared few =
      simple_again free s ls rest h (declares_no (first_meaning s) (fixed.Word words.If) first refl) (declares_no (first_meaning s) (fixed.Word words.While) first refl) (declared_simple room free s ls rest h first one is declared few)

  -- a statement, after which no `else` comes
  statement_again : (free : ℕ) (s : Stmt) (ls rest : List Lexed) → Begins (statement s) ls rest → IsForm room s → names_of s ≤ free → starts_with (fixed.Word words.Else) rest ≡ false → statement_by deep room free ls ≡ Ok (s, free - names_of s, rest)
  unfolding statement_by first_meaning
  statement_again free (Plain line (Declare (Simple t) x r)) ls rest h is few other = declared_statement free (Plain line (Declare (Simple t) x r)) ls rest h (variable_declares t) refl is tt few
  statement_again free (Plain line (Declare (Pointer t) x r)) ls rest h is few other = declared_statement free (Plain line (Declare (Pointer t) x r)) ls rest h (element_declares t) refl is tt few
  statement_again free (Plain line (Declare ConstChars x r)) ls rest h is few other = declared_statement free (Plain line (Declare ConstChars x r)) ls rest h refl refl is tt few
  statement_again free (Plain line (DeclareArray t x size)) ls rest h is few other = declared_statement free (Plain line (DeclareArray t x size)) ls rest h (element_declares t) refl is tt few
  statement_again free (Plain line (Assign x r)) ls rest h is few other = simple_again free (Plain line (Assign x r)) ls rest h refl refl (plain_simple room free (Plain line (Assign x r)) ls rest h refl refl is tt)
  statement_again free (Plain line (AssignElement x i e)) ls rest h is few other = simple_again free (Plain line (AssignElement x i e)) ls rest h refl refl (plain_simple room free (Plain line (AssignElement x i e)) ls rest h refl refl is tt)
  statement_again free (Plain line (Perform c)) ls rest h is few other = simple_again free (Plain line (Perform c)) ls rest h refl refl (plain_simple room free (Plain line (Perform c)) ls rest h refl refl is tt)
  statement_again free (Plain line (PutJint e)) ls rest h is few other = simple_again free (Plain line (PutJint e)) ls rest h refl refl (plain_simple room free (Plain line (PutJint e)) ls rest h refl refl is tt)
  statement_again free (Return line e) ls rest h is few other = simple_again free (Return line e) ls rest h refl refl (plain_simple room free (Return line e) ls rest h refl refl is tt)
  statement_again free (If line test b NoElse) ls rest h is few other =
      let m : Meaning = Fixed' (fixed.Word words.If) in
      let es : List Spelled = tested_tail (test_tokens test) ++ mark marks.OpenBrace ∷ inside b in
      let s = on_is line m es ls rest (fixed.Word words.If) h in
      rw (s, ne_eqb room 0 (omega (arith, is.0)), on_line_is line m es ls rest h) (if_again free line test b (rest_of ls) rest (first_rest (OnLine line m) es ls rest h) is.0 is.1 is.2 few other)
  statement_again free (If line test b (ElseBlock d)) ls rest h is few other =
      let m : Meaning = Fixed' (fixed.Word words.If) in
      let es : List Spelled = tested_tail (test_tokens test) ++ mark marks.OpenBrace ∷ inside b in
      let parts = begins_split (OnLine line m ∷ es) (word words.Else ∷ mark marks.OpenBrace ∷ inside d) ls rest h in
      let split = names_split (statements_of b) (statements_of d) in
      let s = on_is line m es ls parts.0 (fixed.Word words.If) parts.1 in
      let first = if_head free line test b (rest_of ls) parts.0 (first_rest (OnLine line m) es ls parts.0 parts.1) is.0 is.1 is.2 (omega (arith, few, split)) in
      let second = else_again (free - names_in b) line test b d parts.0 rest parts.2 is.0 is.3 (omega (arith, few, split)) in
      let left : free - names_in b - names_in d ≡ free - names_of (If line test b (ElseBlock d)) = omega (arith, split) in
      rw (s, ne_eqb room 0 (omega (arith, is.0)), on_line_is line m es ls parts.0 parts.1, first, second) (ap (λ (n : ℕ). statement_read (If line test b (ElseBlock d)) n rest) left)
  statement_again free (While line test b) ls rest h is few other =
      let m : Meaning = Fixed' (fixed.Word words.While) in
      let es : List Spelled = tested_tail (expression test) ++ mark marks.OpenBrace ∷ inside b in
      let s = on_is line m es ls rest (fixed.Word words.If) h in
      let t = on_is line m es ls rest (fixed.Word words.While) h in
      rw (s, t, ne_eqb room 0 (omega (arith, is.0)), on_line_is line m es ls rest h) (while_again free line test b (rest_of ls) rest (first_rest (OnLine line m) es ls rest h) is.0 is.1 is.2 few)

  block_by_again : (free : ℕ) (b : Block) (steps : ℕ) (returned : Bool) (ls rest : List Lexed) → length ls ≤ steps → Begins (inside b) ls rest → IsBlock room b → MayFollow returned b → names_in b ≤ free → block_by deep room free (suc steps) returned ls ≡ Ok (b, free - names_in b, rest)
  unfolding block_by
  block_by_again free (End line) steps returned ls rest enough h is follows few =
      let s = on_is line (Fixed' (fixed.Mark marks.CloseBrace)) [] ls rest (fixed.Mark marks.CloseBrace) h in
      let none : free ≡ free - 0 = omega arith in
      rw (s, on_line_is line (Fixed' (fixed.Mark marks.CloseBrace)) [] ls rest h) (ap (block_read (End line) free) (first_rest (OnLine line (Fixed' (fixed.Mark marks.CloseBrace))) [] ls rest h) ∙ ap (λ (n : ℕ). block_read (End line) n rest) none)
  block_by_again free (Next s b) steps true ls rest enough h is follows few = absurd follows
  block_by_again free (Next s b) zero false ls rest enough h is follows few =
      let parts = begins_split (statement s) (inside b) ls rest h in
      let short = statement_shorter s ls parts.0 parts.1 in
      absurd (omega (arith, enough, short))
  block_by_again free (Next s b) (suc steps) false ls rest enough h is follows few =
      let parts = begins_split (statement s) (inside b) ls rest h in
      let count = names_split (statements_within s) (statements_of b) in
      let brace = statement_starts s (fixed.Mark marks.CloseBrace) ls parts.0 parts.1 ∙ no_start (fixed.Mark marks.CloseBrace) no_brace s in
      let short = statement_shorter s ls parts.0 parts.1 in
      let one = statement_again free s ls parts.0 parts.1 is.0 (omega (arith, count, few)) (inside_no_else b parts.0 rest parts.2) in
      let more = block_by_again (free - names_of s) b steps (is_return s) parts.0 rest (omega (arith, enough, short)) parts.2 is.2 is.1 (omega (arith, count, few)) in
      let left : free - names_of s - names_in b ≡ free - names_in (Next s b) = omega (arith, count) in
      rw (brace, one, more) (ap (λ (n : ℕ). block_read (Next s b) n rest) left)

inner_again : (room : ℕ) → AllBlocksAgain (inner room) room
unfolding inner
inner_again zero = λ free b ls rest some h is few. absurd (omega (arith, some))
inner_again (suc room) = λ free b ls rest some h is few.
    let same : suc room - 1 ≡ room = omega arith in
    rw (add-one (length ls)) (block_by_again (inner room) room (inner_again room) free b (length ls) false ls rest (omega arith) h (subst (λ (n : ℕ). IsBlock n b) same is) tt few)

pub block_again : (room free : ℕ) (b : Block) (ls rest : List Lexed) → Begins (inside b) ls rest → IsBlock room b → names_in b ≤ free → block_at room free ls ≡ Ok (b, free - names_in b, rest)
block_again room free b ls rest h is few = rw (add-one (length ls)) (block_by_again (inner room) room (inner_again room) free b (length ls) false ls rest (omega arith) h is tt few)

-- ---- functions

expect_on : (line : ℕ) (f : Fixed) (es : List Spelled) (ls rest : List Lexed) → Begins (OnLine line (Fixed' f) ∷ es) ls rest → expect f ls ≡ Ok (rest_of ls)
unfolding expect
expect_on line f es [] rest h = absurd h
expect_on line f es (l ∷ ls) rest h = rw (h.0.0, same_itself f) refl

head_again : (es : List Spelled) (ls rest : List Lexed) → Begins (parameters_head ++ es) ls rest → (after : List Lexed) × (head_at ls ≡ Ok after) × Begins es after rest
unfolding head_at
head_again es ls rest h =
    let a = expect_again (fixed.Mark marks.OpenParen) (word words.JniEnv ∷ mark marks.Star ∷ word words.Env ∷ mark marks.Comma ∷ word words.Jclass ∷ es) ls rest h in
    let b = expect_again (fixed.Word words.JniEnv) (mark marks.Star ∷ word words.Env ∷ mark marks.Comma ∷ word words.Jclass ∷ es) a.0 rest a.2 in
    let c = expect_again (fixed.Mark marks.Star) (word words.Env ∷ mark marks.Comma ∷ word words.Jclass ∷ es) b.0 rest b.2 in
    let d = expect_again (fixed.Word words.Env) (mark marks.Comma ∷ word words.Jclass ∷ es) c.0 rest c.2 in
    let e = expect_again (fixed.Mark marks.Comma) (word words.Jclass ∷ es) d.0 rest d.2 in
    let f = expect_again (fixed.Word words.Jclass) es e.0 rest e.2 in
    (f.0, rw (a.1, b.1, c.1, d.1, e.1) f.1, f.2)

parameter_again : (p : Parameter) (es : List Spelled) (ls rest : List Lexed) → Begins (word (parameter_word p.type) ∷ Anywhere (Name' p.name) ∷ es) ls rest → parameter_at ls ≡ Ok (p, rest_of (rest_of ls))
unfolding parameter_at
parameter_again p es ls rest h =
    let inside_type = first_rest (word (parameter_word p.type)) (Anywhere (Name' p.name) ∷ es) ls rest h in
    rw (parameter_type_again p.type (Anywhere (Name' p.name) ∷ es) ls rest h, name_again p.name es (rest_of ls) rest inside_type) refl

abbrev parameters_read : List Parameter → List Lexed → Result (List Parameter × List Lexed) ParseError
parameters_read ps ls = Ok (ps, ls)

parameters_again : (free : ℕ) (ps : List Parameter) (ls rest : List Lexed) → length ps ≤ free → Begins (flat_map parameter ps) ls rest → starts_with (fixed.Mark marks.Comma) rest ≡ false → parameters_at free ls ≡ Ok (ps, rest)
unfolding parameters_at
parameters_again zero [] ls rest few h comma = rw (ap (starts_with (fixed.Mark marks.Comma)) h ∙ comma) (ap (parameters_read []) h)
parameters_again (suc free) [] ls rest few h comma = rw (ap (starts_with (fixed.Mark marks.Comma)) h ∙ comma) (ap (parameters_read []) h)
parameters_again zero (p ∷ ps) ls rest few h comma = absurd (omega (arith, few))
parameters_again (suc free) (p ∷ ps) ls rest few h comma =
    let es1 : List Spelled = Anywhere (Name' p.name) ∷ flat_map parameter ps in
    let es : List Spelled = word (parameter_word p.type) ∷ es1 in
    let s = first_is (Fixed' (fixed.Mark marks.Comma)) es ls rest (fixed.Mark marks.Comma) h in
    let h1 = first_rest (mark marks.Comma) es ls rest h in
    let h2 = first_rest (word (parameter_word p.type)) es1 (rest_of ls) rest h1 in
    let h3 = first_rest (Anywhere (Name' p.name)) (flat_map parameter ps) (rest_of (rest_of ls)) rest h2 in
    let one = parameter_again p (flat_map parameter ps) (rest_of ls) rest h1 in
    let more = parameters_again free ps (rest_of (rest_of (rest_of ls))) rest (omega (arith, few)) h3 comma in
    rw (s, one, more) refl

body_again : (free : ℕ) (b : Block) (ls rest : List Lexed) → Begins (mark marks.CloseParen ∷ mark marks.OpenBrace ∷ inside b) ls rest → IsBlock 31 b → names_in b ≤ free → body_at free ls ≡ Ok (b, rest)
unfolding body_at
body_again free b ls rest h is few =
    let a = expect_again (fixed.Mark marks.CloseParen) (mark marks.OpenBrace ∷ inside b) ls rest h in
    let c = expect_again (fixed.Mark marks.OpenBrace) (inside b) a.0 rest a.2 in
    rw (a.1, c.1, block_again 31 free b c.0 rest c.2 is few) refl

record FunctionAgain (f : Function) (ls rest : List Lexed) : Type 0 where
  read : function_at ls ≡ Ok (f, rest)
  no_end : starts_with fixed.End ls ≡ false
  export : starts_with (fixed.Word words.JniExport) ls ≡ true
  shorter : length rest < length ls

function_again : (f : Function) (ls rest : List Lexed) → Begins (function f) ls rest → IsFunction f → FunctionAgain f ls rest
unfolding function_at signature_at
function_again f ls rest h is =
    let names = is.names in
    let es7 : List Spelled = mark marks.CloseParen ∷ mark marks.OpenBrace ∷ inside f.body in
    let es6 : List Spelled = flat_map parameter f.parameters ++ es7 in
    let es5 : List Spelled = Anywhere (Name' f.class_name) ∷ es6 in
    let es4 : List Spelled = parameters_head ++ es5 in
    let es3 : List Spelled = Anywhere (Name' f.name) ∷ es4 in
    let es2 : List Spelled = word words.JniCall ∷ es3 in
    let es1 : List Spelled = word (result_word f.result) ∷ es2 in
    let first : Spelled = OnLine f.line (Fixed' (fixed.Word words.JniExport)) in
    let h1 = first_rest first es1 ls rest h in
    let r = result_type_again f.result es2 (rest_of ls) rest h1 in
    let h2 = first_rest (word (result_word f.result)) es2 (rest_of ls) rest h1 in
    let c = expect_again (fixed.Word words.JniCall) es3 (rest_of (rest_of ls)) rest h2 in
    let n = name_again f.name es4 c.0 rest c.2 in
    let h4 = first_rest (Anywhere (Name' f.name)) es4 c.0 rest c.2 in
    let e = head_again es5 (rest_of c.0) rest h4 in
    let k = name_again f.class_name es6 e.0 rest e.2 in
    let h6 = first_rest (Anywhere (Name' f.class_name)) es6 e.0 rest e.2 in
    let parts = begins_split (flat_map parameter f.parameters) es7 (rest_of e.0) rest h6 in
    let comma = first_is (Fixed' (fixed.Mark marks.CloseParen)) (mark marks.OpenBrace ∷ inside f.body) parts.0 rest (fixed.Mark marks.Comma) parts.2 in
    let q = parameters_again 255 f.parameters (rest_of e.0) parts.0 (omega (arith, names)) parts.1 comma in
    let b = body_again (255 - length f.parameters) f.body parts.0 rest parts.2 is.body (omega (arith, names)) in
    let p = begins_length (first ∷ es1) ls rest h in
    record {
      read = rw (expect_on f.line (fixed.Word words.JniExport) es1 ls rest h, r, c.1, n, e.1, k, q, b, on_line_is f.line (Fixed' (fixed.Word words.JniExport)) es1 ls rest h) refl;
      no_end = on_is f.line (Fixed' (fixed.Word words.JniExport)) es1 ls rest fixed.End h;
      export = on_is f.line (Fixed' (fixed.Word words.JniExport)) es1 ls rest (fixed.Word words.JniExport) h;
      shorter = omega (arith, p);
    }

-- ---- statics

record StaticAgain (s : Static) (ls rest : List Lexed) : Type 0 where
  read : static_at ls ≡ Ok (s, rest)
  no_end : starts_with fixed.End ls ≡ false
  no_export : starts_with (fixed.Word words.JniExport) ls ≡ false
  starts : starts_with (fixed.Word words.Static) ls ≡ true
  shorter : length rest < length ls

abbrev static_read : Static → List Lexed → Result (Static × List Lexed) ParseError
static_read s ls = Ok (s, ls)

static_again : (s : Static) (ls rest : List Lexed) → Begins (item (StaticItem s)) ls rest → StaticAgain s ls rest
unfolding static_at
static_again s ls rest h =
    let m : Meaning = Fixed' (fixed.Word words.Static) in
    let es4 : List Spelled = word words.Null ∷ mark marks.Semicolon ∷ [] in
    let es3 : List Spelled = mark marks.Assign ∷ es4 in
    let es2 : List Spelled = Anywhere (Name' s.name) ∷ es3 in
    let es1 : List Spelled = word (static_word s.type) ∷ es2 in
    let h1 = first_rest (OnLine s.line m) es1 ls rest h in
    let t = static_type_again s.type es2 (rest_of ls) rest h1 in
    let h2 = first_rest (word (static_word s.type)) es2 (rest_of ls) rest h1 in
    let n = name_again s.name es3 (rest_of (rest_of ls)) rest h2 in
    let a = expect_again (fixed.Mark marks.Assign) es4 (rest_of (rest_of (rest_of ls))) rest (first_rest (Anywhere (Name' s.name)) es3 (rest_of (rest_of ls)) rest h2) in
    let b = expect_again (fixed.Word words.Null) (mark marks.Semicolon ∷ []) a.0 rest a.2 in
    let c = expect_again (fixed.Mark marks.Semicolon) [] b.0 rest b.2 in
    let p = begins_length (OnLine s.line m ∷ es1) ls rest h in
    record {
      read = rw (expect_on s.line (fixed.Word words.Static) es1 ls rest h, t, n, a.1, b.1, c.1, on_line_is s.line m es1 ls rest h) (ap (static_read s) c.2);
      no_end = on_is s.line m es1 ls rest fixed.End h;
      no_export = on_is s.line m es1 ls rest (fixed.Word words.JniExport) h;
      starts = on_is s.line m es1 ls rest (fixed.Word words.Static) h;
      shorter = omega (arith, p);
    }

-- ---- units

pub items_again : (items : List Item) (steps functions statics : ℕ) (ls rest : List Lexed) → length ls ≤ steps → Begins (flat_map item items) ls rest → starts_with fixed.End rest ≡ true → AreItems items → functions_in items ≤ functions → statics_in items ≤ statics → items_at (suc steps) functions statics ls ≡ Ok items
unfolding items_at item_at
items_again [] steps functions statics ls rest enough h ended is few_functions few_statics = rw (ap (starts_with fixed.End) h ∙ ended) refl
items_again (StaticItem s ∷ items) zero functions statics ls rest enough h ended is few_functions few_statics =
    let parts = begins_split (item (StaticItem s)) (flat_map item items) ls rest h in
    let one = static_again s ls parts.0 parts.1 in
    absurd (omega (arith, enough, one.shorter))
items_again (StaticItem s ∷ items) (suc steps) functions statics ls rest enough h ended is few_functions few_statics =
    let parts = begins_split (item (StaticItem s)) (flat_map item items) ls rest h in
    let one = static_again s ls parts.0 parts.1 in
    let more = items_again items steps functions (statics - 1) parts.0 rest (omega (arith, enough, one.shorter)) parts.2 ended is few_functions (omega (arith, few_statics)) in
    rw (one.no_end, one.no_export, one.starts, ne_eqb statics 0 (omega (arith, few_statics)), one.read, more) refl
items_again (FunctionItem f ∷ items) zero functions statics ls rest enough h ended is few_functions few_statics =
    let parts = begins_split (function f) (flat_map item items) ls rest h in
    let one = function_again f ls parts.0 parts.1 is.0 in
    absurd (omega (arith, enough, one.shorter))
items_again (FunctionItem f ∷ items) (suc steps) functions statics ls rest enough h ended is few_functions few_statics =
    let parts = begins_split (function f) (flat_map item items) ls rest h in
    let one = function_again f ls parts.0 parts.1 is.0 in
    let more = items_again items steps (functions - 1) statics parts.0 rest (omega (arith, enough, one.shorter)) parts.2 ended is.1 (omega (arith, few_functions)) few_statics in
    rw (one.no_end, one.export, ne_eqb functions 0 (omega (arith, few_functions)), one.read, more) refl
