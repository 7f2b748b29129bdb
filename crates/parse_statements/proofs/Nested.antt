-- Statements and blocks: what is read is spelled so.
use Rattle.std.proofs.Common.{◌≡◌, ℕ, zero, suc, ◌+◌, ◌-◌, ◌<◌, ◌≤◌, Bool, true, false, List, [], ◌∷◌, ◌++◌, length, Result, Ok, Err, refl, sym, ap, subst, ◌∙◌, arith, inl, inr}
use Rattle.std.specs.Prelude.{◌==◌, ◌≢◌}
use Rattle.std.proofs.lemmas.Bool.{eqb-false}
use Rattle.std.proofs.lemmas.List.{length-append}
use Rattle.std.proofs.lemmas.List.Elements.{filter_map-append}
use Rattle.scan.specs.declared.token.Mark.TheVariants as marks
use Rattle.syntax.specs.Tree.{Expr, Test, Stmt, If, NoElse, ElseBlock, While, Block, End, Next}
use Rattle.syntax.specs.Parts.{statements_within, statements_of, declared_name, names_declared}
use Rattle.parse_lexemes.specs.declared.fault.ParseError.{ParseError}
use Rattle.scan.specs.declared.reserved.Word.{Word}
use Rattle.scan.specs.declared.reserved.Word.TheVariants as words
use Rattle.scan.proofs.Grammar.{chosen}
use Rattle.parse_lexemes.specs.declared.first.Fixed.TheVariants as fixed
use Rattle.parse_lexemes.specs.Results.{◌>>=◌}
use Rattle.parse_lexemes.specs.Meaning.{Fixed'}
use Rattle.parse_lexemes.specs.Lexemes.{Lexed, line_at, expect}
use Rattle.parse_lexemes.specs.Spelling.{Spelled, OnLine, mark, word}
use Rattle.parse_expressions.specs.Spelling.{expression, test_tokens}
use Rattle.parse_statements.specs.Spelling.{statement, inside}
use Rattle.parse_lexemes.specs.Reading.{starts_with, rest_of}
use Rattle.parse_expressions.specs.Reading.{ReadExpr, expr_at, test_at}
use Rattle.parse_statements.specs.Reading.{plain_at, declared_at, starts_declaration, ReadStmt, simple_at, ReadBlock, BlockReader, else_by, if_test_at, if_by, while_test_at, while_by, statement_by, is_return, block_by, inner, statement_at, block_at}
use Rattle.parse_statements.proofs.Forms.{IsForm, IsBlock, MayFollow, names_of, names_in}
use Rattle.parse_expressions.proofs.Forms.{IsTest}
use Rattle.parse_lexemes.proofs.Singles.{Begins, bind_ok, ok_is, begins_append, first_takes, starts_takes, expect_takes, then_takes, shortens, on_takes}
use Rattle.parse_expressions.proofs.Levels.{expr_reads}
use Rattle.parse_expressions.proofs.JniCalls.{test_takes}
use Rattle.parse_statements.proofs.Sentences.{plain_takes}
use Rattle.parse_statements.proofs.Declared.{declared_takes}

pub record TakesStmt (room free : ℕ) (ls : List Lexed) (x : ReadStmt) : Type 0 where
  pub parts : Begins (statement x.0) ls x.2
  pub formed : IsForm room x.0
  pub count : names_of x.0 + x.1 ≡ free
  pub shorter : length x.2 < length ls

simple_takes : (room free : ℕ) (ls : List Lexed) (x : ReadStmt) → simple_at room free ls ≡ Ok x → TakesStmt room free ls x
unfolding simple_at
simple_takes room free ls x e =
    elim (chosen (starts_declaration ls) _ _ (Ok x) e) [
      | inl w ↦ elim (chosen (free == 0) _ _ (Ok x) w.1) [
        | inl v ↦ absurd cc
        | inr v ↦
            let a = bind_ok (declared_at room ls) (λ s. Ok (s.0, free - 1, s.1)) x v.1 in
            let t = declared_takes room ls a.0 w.0 a.1 in
            let other : free ≢ 0 = eqb-false free 0 v.0 in
            let one = t.one in
            let made : ReadStmt = (a.0.0, free - 1, a.0.1) in
            subst (λ (y : ReadStmt). TakesStmt room free ls y) (ok_is made x a.2) (record {
              parts = t.parts;
              formed = t.formed;
              count = omega (arith, one, other);
              shorter = shortens t.first t.others ls a.0.1 (subst (λ (es : List Spelled). Begins es ls a.0.1) (sym t.spelled) t.parts);
            })
      ]
      | inr w ↦
          let a = bind_ok (plain_at room ls) (λ s. Ok (s.0, free, s.1)) x w.1 in
          let t = plain_takes room ls a.0 a.1 in
          let none = t.none in
          let made : ReadStmt = (a.0.0, free, a.0.1) in
          subst (λ (y : ReadStmt). TakesStmt room free ls y) (ok_is made x a.2) (record { parts = t.parts; formed = t.formed; count = omega (arith, none); shorter = t.shorter })
    ]

-- the names of statements one after the other
pub names_split : (a b : List Stmt) → length (names_declared (a ++ b)) ≡ length (names_declared a) + length (names_declared b)
names_split a b = ap length (filter_map-append declared_name a b) ∙ length-append (names_declared a) (names_declared b)

pub record TakesBlock (room free : ℕ) (returned : Bool) (ls : List Lexed) (x : ReadBlock) : Type 0 where
  pub parts : Begins (inside x.0) ls x.2
  pub formed : IsBlock room x.0
  pub follows : MayFollow returned x.0
  pub count : names_in x.0 + x.1 ≡ free

abbrev AllTakeBlocks : BlockReader → ℕ → Type 0
AllTakeBlocks deep room = (free : ℕ) (ls : List Lexed) (x : ReadBlock) → deep free ls ≡ Ok x → TakesBlock (room - 1) free false ls x

-- what comes after the test's opening parenthesis, before the block's brace
abbrev pub tested_tail : List Spelled → List Spelled
tested_tail test = mark marks.OpenParen ∷ (test ++ mark marks.CloseParen ∷ [])

abbrev if_step4 : BlockReader → ℕ → Test → ReadBlock → Result ReadStmt ParseError
if_step4 deep line test b = else_by deep line test b.0 b.1 b.2

abbrev if_step3 : BlockReader → (free line : ℕ) → Test → List Lexed → Result ReadStmt ParseError
if_step3 deep free line test within = deep free within >>= if_step4 deep line test

abbrev if_step2 : BlockReader → (free line : ℕ) → Test → List Lexed → Result ReadStmt ParseError
if_step2 deep free line test b = expect (fixed.Mark marks.OpenBrace) b >>= if_step3 deep free line test

abbrev if_step1 : BlockReader → (free line : ℕ) → Test × List Lexed → Result ReadStmt ParseError
if_step1 deep free line test = expect (fixed.Mark marks.CloseParen) test.1 >>= if_step2 deep free line test.0

abbrev if_step0 : BlockReader → (room free line : ℕ) → List Lexed → Result ReadStmt ParseError
if_step0 deep room free line a = test_at room a >>= if_step1 deep free line

-- steps in a row, the first of them read as one
pub in_a_row : {A B C : Type 0} (r : Result A ParseError) (f : A → Result B ParseError) (g : B → Result C ParseError) (h : A → Result C ParseError) → ((x : A) → (f x >>= g) ≡ h x) → ((r >>= f) >>= g) ≡ (r >>= h)
in_a_row (Ok x) f g h same = same x
in_a_row (Err e) f g h same = refl

abbrev if_steps : BlockReader → (free line : ℕ) → Test × List Lexed → Result ReadStmt ParseError
if_steps deep free line test = if_step3 deep free line test.0 test.1

if_is : (deep : BlockReader) (room free line : ℕ) (ls : List Lexed) → if_by deep room free line ls ≡ (expect (fixed.Mark marks.OpenParen) ls >>= if_step0 deep room free line)
unfolding if_by if_test_at
if_is deep room free line ls =
    in_a_row (expect (fixed.Mark marks.OpenParen) ls) _ (if_steps deep free line) (if_step0 deep room free line) (λ a.
    in_a_row (test_at room a) _ (if_steps deep free line) (if_step1 deep free line) (λ test.
    in_a_row (expect (fixed.Mark marks.CloseParen) test.1) _ (if_steps deep free line) (if_step2 deep free line test.0) (λ b.
    in_a_row (expect (fixed.Mark marks.OpenBrace) b) _ (if_steps deep free line) (if_step3 deep free line test.0) (λ within. refl))))

abbrev while_step4 : ℕ → Expr → ReadBlock → Result ReadStmt ParseError
while_step4 line test b = Ok (While line test b.0, b.1, b.2)

abbrev while_step3 : BlockReader → (free line : ℕ) → Expr → List Lexed → Result ReadStmt ParseError
while_step3 deep free line test within = deep free within >>= while_step4 line test

abbrev while_step2 : BlockReader → (free line : ℕ) → Expr → List Lexed → Result ReadStmt ParseError
while_step2 deep free line test b = expect (fixed.Mark marks.OpenBrace) b >>= while_step3 deep free line test

abbrev while_step1 : BlockReader → (free line : ℕ) → ReadExpr → Result ReadStmt ParseError
while_step1 deep free line test = expect (fixed.Mark marks.CloseParen) test.2 >>= while_step2 deep free line test.0

abbrev while_step0 : BlockReader → (room free line : ℕ) → List Lexed → Result ReadStmt ParseError
while_step0 deep room free line a = expr_at room 0 a >>= while_step1 deep free line

abbrev while_steps : BlockReader → (free line : ℕ) → Expr × List Lexed → Result ReadStmt ParseError
while_steps deep free line test = while_step3 deep free line test.0 test.1

while_is : (deep : BlockReader) (room free line : ℕ) (ls : List Lexed) → while_by deep room free line ls ≡ (expect (fixed.Mark marks.OpenParen) ls >>= while_step0 deep room free line)
unfolding while_by while_test_at
while_is deep room free line ls =
    in_a_row (expect (fixed.Mark marks.OpenParen) ls) _ (while_steps deep free line) (while_step0 deep room free line) (λ a.
    in_a_row (expr_at room 0 a) _ (while_steps deep free line) (while_step1 deep free line) (λ test.
    in_a_row (expect (fixed.Mark marks.CloseParen) test.2) _ (while_steps deep free line) (while_step2 deep free line test.0) (λ b.
    in_a_row (expect (fixed.Mark marks.OpenBrace) b) _ (while_steps deep free line) (while_step3 deep free line test.0) (λ within. refl))))

module _ (deep : BlockReader) (room : ℕ) (all : AllTakeBlocks deep room) where
  -- a block with its opening brace
  braced : (free : ℕ) (ls mid : List Lexed) (x : ReadBlock) → expect (fixed.Mark marks.OpenBrace) ls ≡ Ok mid → deep free mid ≡ Ok x → Begins (mark marks.OpenBrace ∷ inside x.0) ls x.2
  braced free ls mid x e h = then_takes (fixed.Mark marks.OpenBrace) (inside x.0) ls mid x.2 e (all free mid x h).parts

  -- a test in its parentheses, after its word
  tested : (w : Word) (test : List Spelled) (ls a b c : List Lexed) → starts_with (fixed.Word w) ls ≡ true → expect (fixed.Mark marks.OpenParen) (rest_of ls) ≡ Ok a → Begins test a b → expect (fixed.Mark marks.CloseParen) b ≡ Ok c → Begins (OnLine (line_at ls) (Fixed' (fixed.Word w)) ∷ tested_tail test) ls c
  tested w test ls a b c s opened h closed =
      on_takes (fixed.Word w) (tested_tail test) ls c s (then_takes (fixed.Mark marks.OpenParen) (test ++ mark marks.CloseParen ∷ []) (rest_of ls) a c opened (begins_append test (mark marks.CloseParen ∷ []) a b c h (expect_takes (fixed.Mark marks.CloseParen) b c closed)))

  -- after the first block of an `if`, whose tokens up to that block's end are these
  else_takes : (free line : ℕ) (test : Test) (b : Block) (count : ℕ) (ls mid : List Lexed) (x : ReadStmt) → 1 ≤ room → IsTest room test → IsBlock (room - 1) b → names_in b + count ≡ free → Begins (statement (If line test b NoElse)) ls mid → else_by deep line test b count mid ≡ Ok x → TakesStmt room free ls x
  unfolding else_by
  else_takes free line test b count ls mid x some is_test is_block is_count h e =
      elim (chosen (starts_with (fixed.Word words.Else) mid) _ _ (Ok x) e) [
        | inl w ↦
            let c = bind_ok (expect (fixed.Mark marks.OpenBrace) (rest_of mid)) (λ within. deep count within >>= λ d. Ok (If line test b (ElseBlock d.0), d.1, d.2)) x w.1 in
            let d = bind_ok (deep count c.0) (λ d. Ok (If line test b (ElseBlock d.0), d.1, d.2)) x c.2 in
            let t = all count c.0 d.0 d.1 in
            let split = names_split (statements_of b) (statements_of d.0.0) in
            let other_count = t.count in
            let made : ReadStmt = (If line test b (ElseBlock d.0.0), d.0.1, d.0.2) in
            let other = first_takes (Fixed' (fixed.Word words.Else)) (mark marks.OpenBrace ∷ inside d.0.0) mid d.0.2 (starts_takes (fixed.Word words.Else) mid w.0) (braced count (rest_of mid) c.0 d.0 c.1 d.1) in
            let parts = begins_append (statement (If line test b NoElse)) (word words.Else ∷ mark marks.OpenBrace ∷ inside d.0.0) ls mid d.0.2 h other in
            subst (λ (y : ReadStmt). TakesStmt room free ls y) (ok_is made x d.2) (record {
              parts = parts;
              formed = (some, is_test, is_block, t.formed);
              count = omega (arith, is_count, split, other_count);
              shorter = shortens (OnLine line (Fixed' (fixed.Word words.If))) (tested_tail (test_tokens test) ++ mark marks.OpenBrace ∷ inside b ++ word words.Else ∷ mark marks.OpenBrace ∷ inside d.0.0) ls d.0.2 parts;
            })
        | inr w ↦
            let made : ReadStmt = (If line test b NoElse, count, mid) in
            subst (λ (y : ReadStmt). TakesStmt room free ls y) (ok_is made x w.1) (record {
              parts = h;
              formed = (some, is_test, is_block);
              count = is_count;
              shorter = shortens (OnLine line (Fixed' (fixed.Word words.If))) (tested_tail (test_tokens test) ++ mark marks.OpenBrace ∷ inside b) ls mid h;
            })
      ]

  if_takes : (free : ℕ) (ls : List Lexed) (x : ReadStmt) → starts_with (fixed.Word words.If) ls ≡ true → 1 ≤ room → if_by deep room free (line_at ls) (rest_of ls) ≡ Ok x → TakesStmt room free ls x
  if_takes free ls x s some e =
      let line = line_at ls in
      let a = bind_ok (expect (fixed.Mark marks.OpenParen) (rest_of ls)) (if_step0 deep room free line) x (sym (if_is deep room free line (rest_of ls)) ∙ e) in
      let b = bind_ok (test_at room a.0) (if_step1 deep free line) x a.2 in
      let c = bind_ok (expect (fixed.Mark marks.CloseParen) b.0.1) (if_step2 deep free line b.0.0) x b.2 in
      let d = bind_ok (expect (fixed.Mark marks.OpenBrace) c.0) (if_step3 deep free line b.0.0) x c.2 in
      let f = bind_ok (deep free d.0) (if_step4 deep line b.0.0) x d.2 in
      let t = test_takes room a.0 b.0 b.1 in
      let k = all free d.0 f.0 f.1 in
      let head = tested words.If (test_tokens b.0.0) ls a.0 b.0.1 c.0 s a.1 t.0 c.1 in
      let parts = begins_append (OnLine line (Fixed' (fixed.Word words.If)) ∷ tested_tail (test_tokens b.0.0)) (mark marks.OpenBrace ∷ inside f.0.0) ls c.0 f.0.2 head (braced free c.0 d.0 f.0 d.1 f.1) in
      else_takes free line b.0.0 f.0.0 f.0.1 ls f.0.2 x some t.1 k.formed k.count parts f.2

  while_takes : (free : ℕ) (ls : List Lexed) (x : ReadStmt) → starts_with (fixed.Word words.While) ls ≡ true → 1 ≤ room → while_by deep room free (line_at ls) (rest_of ls) ≡ Ok x → TakesStmt room free ls x
  while_takes free ls x s some e =
      let line = line_at ls in
      let a = bind_ok (expect (fixed.Mark marks.OpenParen) (rest_of ls)) (while_step0 deep room free line) x (sym (while_is deep room free line (rest_of ls)) ∙ e) in
      let b = bind_ok (expr_at room 0 a.0) (while_step1 deep free line) x a.2 in
      let c = bind_ok (expect (fixed.Mark marks.CloseParen) b.0.2) (while_step2 deep free line b.0.0) x b.2 in
      let d = bind_ok (expect (fixed.Mark marks.OpenBrace) c.0) (while_step3 deep free line b.0.0) x c.2 in
      let f = bind_ok (deep free d.0) (while_step4 line b.0.0) x d.2 in
      let t = expr_reads room a.0 b.0 b.1 in
      let k = all free d.0 f.0 f.1 in
      let head = tested words.While (expression b.0.0) ls a.0 b.0.2 c.0 s a.1 t.0 c.1 in
      let parts = begins_append (OnLine line (Fixed' (fixed.Word words.While)) ∷ tested_tail (expression b.0.0)) (mark marks.OpenBrace ∷ inside f.0.0) ls c.0 f.0.2 head (braced free c.0 d.0 f.0 d.1 f.1) in
      let count = k.count in
      let made : ReadStmt = (While line b.0.0 f.0.0, f.0.1, f.0.2) in
      subst (λ (y : ReadStmt). TakesStmt room free ls y) (ok_is made x f.2) (record {
        parts = parts;
        formed = (some, t.1, k.formed);
        count = omega (arith, count);
        shorter = shortens (OnLine line (Fixed' (fixed.Word words.While))) (tested_tail (expression b.0.0) ++ mark marks.OpenBrace ∷ inside f.0.0) ls f.0.2 parts;
      })

  statement_by_takes : (free : ℕ) (ls : List Lexed) (x : ReadStmt) → statement_by deep room free ls ≡ Ok x → TakesStmt room free ls x
  unfolding statement_by
  statement_by_takes free ls x e =
      elim (chosen (starts_with (fixed.Word words.If) ls) _ _ (Ok x) e) [
        | inl w ↦ elim (chosen (room == 0) _ _ (Ok x) w.1) [
          | inl v ↦ absurd cc
          | inr v ↦ let other : room ≢ 0 = eqb-false room 0 v.0 in if_takes free ls x w.0 (omega (arith, other)) v.1
        ]
        | inr w ↦ elim (chosen (starts_with (fixed.Word words.While) ls) _ _ (Ok x) w.1) [
          | inl u ↦ elim (chosen (room == 0) _ _ (Ok x) u.1) [
            | inl v ↦ absurd cc
            | inr v ↦ let other : room ≢ 0 = eqb-false room 0 v.0 in while_takes free ls x u.0 (omega (arith, other)) v.1
          ]
          | inr u ↦ simple_takes room free ls x u.1
        ]
      ]

  block_by_takes : (free steps : ℕ) (returned : Bool) (ls : List Lexed) (x : ReadBlock) → block_by deep room free steps returned ls ≡ Ok x → TakesBlock room free returned ls x
  unfolding block_by
  block_by_takes free zero returned ls x e = absurd cc
  block_by_takes free (suc steps) returned ls x e =
      elim (chosen (starts_with (fixed.Mark marks.CloseBrace) ls) _ _ (Ok x) e) [
        | inl w ↦ subst (λ (y : ReadBlock). TakesBlock room free returned ls y) (ok_is (End (line_at ls), free, rest_of ls) x w.1) (record { parts = on_takes (fixed.Mark marks.CloseBrace) [] ls (rest_of ls) w.0 refl; formed = tt; follows = may_end returned; count = omega arith })
        | inr v ↦ elim (chosen returned _ _ (Ok x) v.1) [
          | inl w ↦ absurd cc
          | inr w ↦
              let a = bind_ok (statement_by deep room free ls) (λ s. block_by deep room s.1 steps (is_return s.0) s.2 >>= λ b. Ok (Next s.0 b.0, b.1, b.2)) x w.1 in
              let b = bind_ok (block_by deep room a.0.1 steps (is_return a.0.0) a.0.2) (λ b. Ok (Next a.0.0 b.0, b.1, b.2)) x a.2 in
              let t = statement_by_takes free ls a.0 a.1 in
              let r = block_by_takes a.0.1 steps (is_return a.0.0) a.0.2 b.0 b.1 in
              let follows : MayFollow returned (Next a.0.0 b.0.0) = rw w.0 tt in
              let split = names_split (statements_within a.0.0) (statements_of b.0.0) in
              subst (λ (y : ReadBlock). TakesBlock room free returned ls y) (ok_is (Next a.0.0 b.0.0, b.0.1, b.0.2) x b.2) (record {
                parts = begins_append (statement a.0.0) (inside b.0.0) ls a.0.2 b.0.2 t.parts r.parts;
                formed = (t.formed, r.follows, r.formed);
                follows = follows;
                count = omega (arith, split, t.count, r.count);
              })
        ]
      ]
    where
      may_end : (returned : Bool) → MayFollow returned (End (line_at ls))
      may_end false = tt
      may_end true = tt

inner_takes : (room : ℕ) → AllTakeBlocks (inner room) room
unfolding inner
inner_takes zero = λ free ls x e. absurd cc
inner_takes (suc room) = λ free ls x e.
    let same : room ≡ suc room - 1 = omega arith in
    subst (λ (n : ℕ). TakesBlock n free false ls x) same (block_by_takes (inner room) room (inner_takes room) free (length ls + 1) false ls x e)

-- ---- whole statements and blocks

pub statement_takes : (room free : ℕ) (ls : List Lexed) (x : ReadStmt) → statement_at room free ls ≡ Ok x → TakesStmt room free ls x
statement_takes room free ls x e = statement_by_takes (inner room) room (inner_takes room) free ls x e

pub block_takes : (room free : ℕ) (ls : List Lexed) (x : ReadBlock) → block_at room free ls ≡ Ok x → TakesBlock room free false ls x
block_takes room free ls x e = block_by_takes (inner room) room (inner_takes room) free (length ls + 1) false ls x e
