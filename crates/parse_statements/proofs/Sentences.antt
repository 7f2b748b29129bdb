-- Statements without blocks that declare nothing: what is read is spelled so, and what is spelled so is read.
use Rattle.std.proofs.Common.{◌≡◌, ℕ, ◌<◌, Bool, true, false, List, [], ◌∷◌, ◌++◌, length, Option, Some, None, Result, Ok, refl, ap, subst, inl, inr}
use Rattle.scan.specs.declared.token.Mark.TheVariants as marks
use Rattle.base.specs.Bytes.{Identifier}
use Rattle.syntax.specs.Tree.{Expr, Call, RightSide, Stmt, Plain, Declare, DeclareArray, Assign, AssignElement, Perform, PutJint, If, While, Return}
use Rattle.parse_lexemes.specs.declared.fault.ParseError.{ParseError}
use Rattle.scan.specs.declared.reserved.Word.TheVariants as words
use Rattle.scan.proofs.Grammar.{chosen}
use Rattle.parse_lexemes.specs.declared.first.Fixed.TheVariants as fixed
use Rattle.parse_lexemes.specs.Results.{◌>>=◌}
use Rattle.parse_lexemes.specs.Meaning.{Meaning, Fixed', Name'}
use Rattle.parse_lexemes.specs.Lexemes.{Lexed, line_at, expect, name_at}
use Rattle.parse_lexemes.specs.Spelling.{Spelled, Anywhere, OnLine, mark, word}
use Rattle.parse_expressions.specs.Spelling.{expression, call, right, setting}
use Rattle.parse_statements.specs.Spelling.{statement}
use Rattle.parse_lexemes.specs.Reading.{starts_with, rest_of, starts_name}
use Rattle.parse_expressions.specs.Reading.{ReadExpr, expr_at, index_at, starts_element, call_at, right_at, setting_at}
use Rattle.parse_statements.specs.Reading.{ReadPlain, put_at, return_at, perform_at, set_element_at, set_at, plain_at}
use Rattle.parse_expressions.proofs.Forms.{IsExpr, AreArguments, IsRight}
use Rattle.parse_statements.proofs.Forms.{IsIndex, IsForm, names_of}
use Rattle.parse_lexemes.proofs.Singles.{Begins, bind_ok, ok_is, begins_append, begins_split, starts_takes, expect_takes, then_takes, name_takes, shortens, on_takes, on_first, off_first, on_is, on_line_is, first_is, first_rest, expect_again, name_again, starts_name_again}
use Rattle.parse_expressions.proofs.Table.{closes_mark}
use Rattle.parse_expressions.proofs.Levels.{index_tokens, index_more, index_split, index_reads, index_reads_again, expr_reads, expr_reads_again, no_first, no_first_mark}
use Rattle.parse_expressions.proofs.JniCalls.{argument_tokens, call_takes, call_again, right_takes, right_again}

put_takes : (room line : ℕ) (ls : List Lexed) (x : ReadPlain) → put_at room line ls ≡ Ok x → (e : Expr) × (Plain line (PutJint e) ≡ x.0) × IsExpr room e × Begins (mark marks.OpenParen ∷ (expression e ++ (mark marks.CloseParen ∷ mark marks.Semicolon ∷ []))) ls x.1
unfolding put_at
put_takes room line ls x e =
    let a = bind_ok (expect (fixed.Mark marks.OpenParen) ls) (λ within. expr_at room 0 within >>= λ y. expect (fixed.Mark marks.CloseParen) y.2 >>= λ after. expect (fixed.Mark marks.Semicolon) after >>= λ rest. Ok (Plain line (PutJint y.0), rest)) x e in
    let b = bind_ok (expr_at room 0 a.0) (λ y. expect (fixed.Mark marks.CloseParen) y.2 >>= λ after. expect (fixed.Mark marks.Semicolon) after >>= λ rest. Ok (Plain line (PutJint y.0), rest)) x a.2 in
    let c = bind_ok (expect (fixed.Mark marks.CloseParen) b.0.2) (λ after. expect (fixed.Mark marks.Semicolon) after >>= λ rest. Ok (Plain line (PutJint b.0.0), rest)) x b.2 in
    let d = bind_ok (expect (fixed.Mark marks.Semicolon) c.0) (λ rest. Ok (Plain line (PutJint b.0.0), rest)) x c.2 in
    let made : ReadPlain = (Plain line (PutJint b.0.0), d.0) in
    let same : made ≡ x = ok_is made x d.2 in
    let t = expr_reads room a.0 b.0 b.1 in
    let closing = begins_append (mark marks.CloseParen ∷ []) (mark marks.Semicolon ∷ []) b.0.2 c.0 d.0 (expect_takes (fixed.Mark marks.CloseParen) b.0.2 c.0 c.1) (expect_takes (fixed.Mark marks.Semicolon) c.0 d.0 d.1) in
    let within = begins_append (expression b.0.0) (mark marks.CloseParen ∷ mark marks.Semicolon ∷ []) a.0 b.0.2 d.0 t.0 closing in
    let all = begins_append (mark marks.OpenParen ∷ []) (expression b.0.0 ++ (mark marks.CloseParen ∷ mark marks.Semicolon ∷ [])) ls a.0 d.0 (expect_takes (fixed.Mark marks.OpenParen) ls a.0 a.1) within in
    (b.0.0, ap (λ (p : ReadPlain). p.0) same, t.1, subst (λ (p : ReadPlain). Begins (mark marks.OpenParen ∷ (expression b.0.0 ++ (mark marks.CloseParen ∷ mark marks.Semicolon ∷ []))) ls p.1) same all)

-- a return's value, and its tokens
abbrev pub return_of : ℕ → Option Expr → Stmt
return_of line None = Return line None
return_of line (Some e) = Return line (Some e)

abbrev pub operand_tokens : Option Expr → List Spelled
operand_tokens None = []
operand_tokens (Some e) = expression e

abbrev IsOperandExpr : ℕ → Option Expr → Type 0
IsOperandExpr room None = Unit {0}
IsOperandExpr room (Some e) = IsExpr room e

return_takes : (room line : ℕ) (ls : List Lexed) (x : ReadPlain) → return_at room line ls ≡ Ok x → (o : Option Expr) × (return_of line o ≡ x.0) × IsOperandExpr room o × Begins (operand_tokens o ++ mark marks.Semicolon ∷ []) ls x.1
unfolding return_at
return_takes room line ls x e =
    elim (chosen (starts_with (fixed.Mark marks.Semicolon) ls) _ _ (Ok x) e) [
      | inl w ↦
          let made : ReadPlain = (Return line None, rest_of ls) in
          let same : made ≡ x = ok_is made x w.1 in
          (None, ap (λ (p : ReadPlain). p.0) same, tt, subst (λ (p : ReadPlain). Begins (mark marks.Semicolon ∷ []) ls p.1) same (starts_takes (fixed.Mark marks.Semicolon) ls w.0))
      | inr w ↦
          let b = bind_ok (expr_at room 0 ls) (λ y. expect (fixed.Mark marks.Semicolon) y.2 >>= λ rest. Ok (Return line (Some y.0), rest)) x w.1 in
          let d = bind_ok (expect (fixed.Mark marks.Semicolon) b.0.2) (λ rest. Ok (Return line (Some b.0.0), rest)) x b.2 in
          let made : ReadPlain = (Return line (Some b.0.0), d.0) in
          let same : made ≡ x = ok_is made x d.2 in
          let t = expr_reads room ls b.0 b.1 in
          (Some b.0.0, ap (λ (p : ReadPlain). p.0) same, t.1, subst (λ (p : ReadPlain). Begins (expression b.0.0 ++ mark marks.Semicolon ∷ []) ls p.1) same (begins_append (expression b.0.0) (mark marks.Semicolon ∷ []) ls b.0.2 d.0 t.0 (expect_takes (fixed.Mark marks.Semicolon) b.0.2 d.0 d.1)))
    ]

-- a name, and what it is set to
abbrev pub Setting : Type 0
Setting = Identifier × RightSide × List Lexed

abbrev pub TakesSetting : ℕ → List Lexed → Setting → Type 0
TakesSetting room ls x = Begins (setting x.0 x.1) ls x.2 × IsRight room x.1

abbrev setting3 : Identifier → RightSide → List Lexed → Result Setting ParseError
setting3 x r rest = Ok (x, r, rest)

abbrev setting2 : Identifier → RightSide × List Lexed → Result Setting ParseError
setting2 x r = expect (fixed.Mark marks.Semicolon) r.1 >>= setting3 x r.0

abbrev setting1 : ℕ → Identifier → List Lexed → Result Setting ParseError
setting1 room x ls = right_at room ls >>= setting2 x

abbrev setting0 : ℕ → Identifier × List Lexed → Result Setting ParseError
setting0 room x = expect (fixed.Mark marks.Assign) x.1 >>= setting1 room x.0

pub setting_takes : (room : ℕ) (ls : List Lexed) (x : Setting) → setting_at room ls ≡ Ok x → TakesSetting room ls x
unfolding setting_at
setting_takes room ls x h =
    let a = bind_ok (name_at ls) (setting0 room) x h in
    let b = bind_ok (expect (fixed.Mark marks.Assign) a.0.1) (setting1 room a.0.0) x a.2 in
    let c = bind_ok (right_at room b.0) (setting2 a.0.0) x b.2 in
    let d = bind_ok (expect (fixed.Mark marks.Semicolon) c.0.1) (setting3 a.0.0 c.0.0) x c.2 in
    let t = right_takes room b.0 c.0 c.1 in
    let es : List Spelled = right c.0.0 ++ mark marks.Semicolon ∷ [] in
    let t2 = begins_append (right c.0.0) (mark marks.Semicolon ∷ []) b.0 c.0.1 d.0 t.0 (expect_takes (fixed.Mark marks.Semicolon) c.0.1 d.0 d.1) in
    let t1 = then_takes (fixed.Mark marks.Assign) es a.0.1 b.0 d.0 b.1 t2 in
    let t0 = begins_append (Anywhere (Name' a.0.0) ∷ []) (mark marks.Assign ∷ es) ls a.0.1 d.0 (name_takes ls a.0 a.1) t1 in
    let made : Setting = (a.0.0, c.0.0, d.0) in
    subst (λ (y : Setting). TakesSetting room ls y) (ok_is made x d.2) (t0, t.1)

-- a statement that declares nothing
pub record TakesPlain (room : ℕ) (ls : List Lexed) (x : ReadPlain) : Type 0 where
  pub parts : Begins (statement x.0) ls x.1
  pub formed : IsForm room x.0
  pub none : names_of x.0 ≡ 0
  pub shorter : length x.1 < length ls

return_stmt : (room line : ℕ) (o : Option Expr) (ls rest : List Lexed) → IsOperandExpr room o → Begins (OnLine line (Fixed' (fixed.Word words.Return)) ∷ (operand_tokens o ++ mark marks.Semicolon ∷ [])) ls rest → TakesPlain room ls (return_of line o, rest)
return_stmt room line None ls rest is h = record { parts = h; formed = tt; none = refl; shorter = shortens (OnLine line (Fixed' (fixed.Word words.Return))) (mark marks.Semicolon ∷ []) ls rest h }
return_stmt room line (Some e) ls rest is h = record { parts = h; formed = is; none = refl; shorter = shortens (OnLine line (Fixed' (fixed.Word words.Return))) (expression e ++ mark marks.Semicolon ∷ []) ls rest h }

-- what comes after the first token of a call
abbrev pub call_tail : Call → List Spelled
call_tail c = mark marks.Star ∷ word words.Env ∷ mark marks.CloseParen ∷ mark marks.Arrow ∷ Anywhere (Name' c.function) ∷ mark marks.OpenParen ∷ word words.Env ∷ (argument_tokens c.arguments ++ mark marks.CloseParen ∷ [])

perform_takes : (room : ℕ) (ls : List Lexed) (x : ReadPlain) → perform_at room (line_at ls) ls ≡ Ok x → TakesPlain room ls x
unfolding perform_at
perform_takes room ls x e =
    let a = bind_ok (call_at room ls) (λ c. expect (fixed.Mark marks.Semicolon) c.1 >>= λ rest. Ok (Plain (line_at ls) (Perform c.0), rest)) x e in
    let b = bind_ok (expect (fixed.Mark marks.Semicolon) a.0.1) (λ rest. Ok (Plain (line_at ls) (Perform a.0.0), rest)) x a.2 in
    let t = call_takes room ls a.0 a.1 in
    let all = begins_append (call a.0.0) (mark marks.Semicolon ∷ []) ls a.0.1 b.0 t.0 (expect_takes (fixed.Mark marks.Semicolon) a.0.1 b.0 b.1) in
    let es : List Spelled = call_tail a.0.0 ++ mark marks.Semicolon ∷ [] in
    let parts = on_first (Fixed' (fixed.Mark marks.OpenParen)) es ls b.0 all in
    let made : ReadPlain = (Plain (line_at ls) (Perform a.0.0), b.0) in
    subst (λ (y : ReadPlain). TakesPlain room ls y) (ok_is made x b.2) (record {
      parts = parts;
      formed = t.1;
      none = refl;
      shorter = shortens (OnLine (line_at ls) (Fixed' (fixed.Mark marks.OpenParen))) es ls b.0 parts;
    })

-- what comes after the name of an element that is set
abbrev pub element_tail : Expr → Expr → List Spelled
element_tail i e = mark marks.OpenBracket ∷ (expression i ++ mark marks.CloseBracket ∷ mark marks.Assign ∷ (expression e ++ mark marks.Semicolon ∷ []))

abbrev set_step3 : (line : ℕ) → Identifier → Expr → ReadExpr → Result ReadPlain ParseError
set_step3 line x i e = expect (fixed.Mark marks.Semicolon) e.2 >>= λ rest. Ok (Plain line (AssignElement x i e.0), rest)

abbrev set_step2 : (room line : ℕ) → Identifier → Expr → List Lexed → Result ReadPlain ParseError
set_step2 room line x i within = expr_at room 0 within >>= set_step3 line x i

abbrev set_step1 : (room line : ℕ) → Identifier → ReadExpr → Result ReadPlain ParseError
set_step1 room line x i = expect (fixed.Mark marks.Assign) i.2 >>= set_step2 room line x i.0

abbrev set_step0 : (room line : ℕ) → Identifier × List Lexed → Result ReadPlain ParseError
set_step0 room line x = index_at room x.1 >>= set_step1 room line x.0

set_element_takes : (room : ℕ) (ls : List Lexed) (x : ReadPlain) → set_element_at room (line_at ls) ls ≡ Ok x → TakesPlain room ls x
unfolding set_element_at
set_element_takes room ls x h =
    let line = line_at ls in
    let a = bind_ok (name_at ls) (set_step0 room line) x h in
    let b = bind_ok (index_at room a.0.1) (set_step1 room line a.0.0) x a.2 in
    let c = bind_ok (expect (fixed.Mark marks.Assign) b.0.2) (set_step2 room line a.0.0 b.0.0) x b.2 in
    let d = bind_ok (expr_at room 0 c.0) (set_step3 line a.0.0 b.0.0) x c.2 in
    let e = bind_ok (expect (fixed.Mark marks.Semicolon) d.0.2) (λ rest. Ok (Plain line (AssignElement a.0.0 b.0.0 d.0.0), rest)) x d.2 in
    let i = index_reads room a.0.1 b.0 b.1 in
    let t = expr_reads room c.0 d.0 d.1 in
    let closing : List Spelled = expression d.0.0 ++ mark marks.Semicolon ∷ [] in
    let t3 = begins_append (expression d.0.0) (mark marks.Semicolon ∷ []) c.0 d.0.2 e.0 t.0 (expect_takes (fixed.Mark marks.Semicolon) d.0.2 e.0 e.1) in
    let t2 = then_takes (fixed.Mark marks.Assign) closing b.0.2 c.0 e.0 c.1 t3 in
    let t1 = index_more b.0.0 (mark marks.Assign ∷ closing) a.0.1 e.0 (begins_append (index_tokens b.0.0) (mark marks.Assign ∷ closing) a.0.1 b.0.2 e.0 i.parts t2) in
    let t0 = begins_append (Anywhere (Name' a.0.0) ∷ []) (element_tail b.0.0 d.0.0) ls a.0.1 e.0 (name_takes ls a.0 a.1) t1 in
    let parts = on_first (Name' a.0.0) (element_tail b.0.0 d.0.0) ls e.0 t0 in
    let made : ReadPlain = (Plain line (AssignElement a.0.0 b.0.0 d.0.0), e.0) in
    subst (λ (y : ReadPlain). TakesPlain room ls y) (ok_is made x e.2) (record {
      parts = parts;
      formed = (record { levelled = i.levelled; low = i.low }, t.1);
      none = refl;
      shorter = shortens (OnLine line (Name' a.0.0)) (element_tail b.0.0 d.0.0) ls e.0 parts;
    })

-- what comes after a name that is set
abbrev pub setting_tail : RightSide → List Spelled
setting_tail r = mark marks.Assign ∷ (right r ++ mark marks.Semicolon ∷ [])

set_takes : (room : ℕ) (ls : List Lexed) (x : ReadPlain) → set_at room (line_at ls) ls ≡ Ok x → TakesPlain room ls x
unfolding set_at
set_takes room ls x e =
    elim (chosen (starts_element ls) _ _ (Ok x) e) [
      | inl w ↦ set_element_takes room ls x w.1
      | inr w ↦
          let a = bind_ok (setting_at room ls) (λ s. Ok (Plain (line_at ls) (Assign s.0 s.1), s.2)) x w.1 in
          let t = setting_takes room ls a.0 a.1 in
          let parts = on_first (Name' a.0.0) (setting_tail a.0.1) ls a.0.2 t.0 in
          let made : ReadPlain = (Plain (line_at ls) (Assign a.0.0 a.0.1), a.0.2) in
          subst (λ (y : ReadPlain). TakesPlain room ls y) (ok_is made x a.2) (record {
            parts = parts;
            formed = t.1;
            none = refl;
            shorter = shortens (OnLine (line_at ls) (Name' a.0.0)) (setting_tail a.0.1) ls a.0.2 parts;
          })
    ]

pub plain_takes : (room : ℕ) (ls : List Lexed) (x : ReadPlain) → plain_at room ls ≡ Ok x → TakesPlain room ls x
unfolding plain_at
plain_takes room ls x e =
    elim (chosen (starts_with (fixed.Word words.PutJint) ls) _ _ (Ok x) e) [
      | inl w ↦
          let t = put_takes room (line_at ls) (rest_of ls) x w.1 in
          let es : List Spelled = mark marks.OpenParen ∷ (expression t.0 ++ (mark marks.CloseParen ∷ mark marks.Semicolon ∷ [])) in
          let parts = on_takes (fixed.Word words.PutJint) es ls x.1 w.0 t.3 in
          subst (λ (s : Stmt). TakesPlain room ls (s, x.1)) t.1 (record { parts = parts; formed = t.2; none = refl; shorter = shortens (OnLine (line_at ls) (Fixed' (fixed.Word words.PutJint))) es ls x.1 parts })
      | inr v ↦ elim (chosen (starts_with (fixed.Word words.Return) ls) _ _ (Ok x) v.1) [
        | inl w ↦
            let t = return_takes room (line_at ls) (rest_of ls) x w.1 in
            let parts = on_takes (fixed.Word words.Return) (operand_tokens t.0 ++ mark marks.Semicolon ∷ []) ls x.1 w.0 t.3 in
            subst (λ (s : Stmt). TakesPlain room ls (s, x.1)) t.1 (return_stmt room (line_at ls) t.0 ls x.1 t.2 parts)
        | inr w ↦ elim (chosen (starts_with (fixed.Mark marks.OpenParen) ls) _ _ (Ok x) w.1) [
          | inl u ↦ perform_takes room ls x u.1
          | inr u ↦ set_takes room ls x u.1
        ]
      ]
    ]

-- ---- what is spelled so is read

abbrev plain_read : Stmt → List Lexed → Result ReadPlain ParseError
plain_read s ls = Ok (s, ls)

put_again : (room line : ℕ) (e : Expr) (ls rest : List Lexed) → Begins (mark marks.OpenParen ∷ (expression e ++ (mark marks.CloseParen ∷ mark marks.Semicolon ∷ []))) ls rest → IsExpr room e → put_at room line ls ≡ Ok (Plain line (PutJint e), rest)
unfolding put_at
put_again room line e ls rest h is =
    let closing : List Spelled = mark marks.CloseParen ∷ mark marks.Semicolon ∷ [] in
    let a = expect_again (fixed.Mark marks.OpenParen) (expression e ++ closing) ls rest h in
    let parts = begins_split (expression e) closing a.0 rest a.2 in
    let d = expr_reads_again room a.0 parts.0 e parts.1 is (closes_mark marks.CloseParen refl refl (mark marks.Semicolon ∷ []) parts.0 rest parts.2) in
    let b = expect_again (fixed.Mark marks.CloseParen) (mark marks.Semicolon ∷ []) parts.0 rest parts.2 in
    let c = expect_again (fixed.Mark marks.Semicolon) [] b.0 rest b.2 in
    rw (a.1, d, b.1, c.1) (ap (plain_read (Plain line (PutJint e))) c.2)

return_again : (room line : ℕ) (ls rest : List Lexed) → Begins (mark marks.Semicolon ∷ []) ls rest → return_at room line ls ≡ Ok (Return line None, rest)
unfolding return_at
return_again room line ls rest h =
    let s = first_is (Fixed' (fixed.Mark marks.Semicolon)) [] ls rest (fixed.Mark marks.Semicolon) h in
    rw s (ap (plain_read (Return line None)) (first_rest (mark marks.Semicolon) [] ls rest h))

value_again : (room line : ℕ) (e : Expr) (ls rest : List Lexed) → Begins (expression e ++ mark marks.Semicolon ∷ []) ls rest → IsExpr room e → return_at room line ls ≡ Ok (Return line (Some e), rest)
unfolding return_at
value_again room line e ls rest h is =
    let parts = begins_split (expression e) (mark marks.Semicolon ∷ []) ls rest h in
    let s = no_first (fixed.Mark marks.Semicolon) (no_first_mark marks.Semicolon refl refl refl) 0 e is.levelled ls parts.0 parts.1 in
    let d = expr_reads_again room ls parts.0 e parts.1 is (closes_mark marks.Semicolon refl refl [] parts.0 rest parts.2) in
    let c = expect_again (fixed.Mark marks.Semicolon) [] parts.0 rest parts.2 in
    rw (s, d, c.1) (ap (plain_read (Return line (Some e))) c.2)

abbrev setting_read : Identifier → RightSide → List Lexed → Result Setting ParseError
setting_read x r ls = Ok (x, r, ls)

pub setting_again : (room : ℕ) (x : Identifier) (r : RightSide) (ls rest : List Lexed) → Begins (setting x r) ls rest → IsRight room r → setting_at room ls ≡ Ok (x, r, rest)
unfolding setting_at
setting_again room x r ls rest h is =
    let closing : List Spelled = mark marks.Semicolon ∷ [] in
    let n = name_again x (mark marks.Assign ∷ (right r ++ closing)) ls rest h in
    let a = expect_again (fixed.Mark marks.Assign) (right r ++ closing) (rest_of ls) rest (first_rest (Anywhere (Name' x)) (mark marks.Assign ∷ (right r ++ closing)) ls rest h) in
    let parts = begins_split (right r) closing a.0 rest a.2 in
    let d = right_again room r a.0 parts.0 parts.1 is (closes_mark marks.Semicolon refl refl [] parts.0 rest parts.2) in
    let c = expect_again (fixed.Mark marks.Semicolon) [] parts.0 rest parts.2 in
    rw (n, a.1, d, c.1) (ap (setting_read x r) c.2)

perform_again : (room line : ℕ) (c : Call) (ls rest : List Lexed) → Begins (call c ++ mark marks.Semicolon ∷ []) ls rest → AreArguments room c.arguments → perform_at room line ls ≡ Ok (Plain line (Perform c), rest)
unfolding perform_at
perform_again room line c ls rest h is =
    let parts = begins_split (call c) (mark marks.Semicolon ∷ []) ls rest h in
    let d = call_again room c ls parts.0 parts.1 is in
    let e = expect_again (fixed.Mark marks.Semicolon) [] parts.0 rest parts.2 in
    rw (d, e.1) (ap (plain_read (Plain line (Perform c))) e.2)

set_element_again : (room line : ℕ) (x : Identifier) (i e : Expr) (ls rest : List Lexed) → Begins (Anywhere (Name' x) ∷ element_tail i e) ls rest → IsIndex room i → IsExpr room e → set_element_at room line ls ≡ Ok (Plain line (AssignElement x i e), rest)
unfolding set_element_at
set_element_again room line x i e ls rest h is_index is =
    let closing : List Spelled = expression e ++ mark marks.Semicolon ∷ [] in
    let n = name_again x (element_tail i e) ls rest h in
    let parts = index_split i (mark marks.Assign ∷ closing) (rest_of ls) rest (first_rest (Anywhere (Name' x)) (element_tail i e) ls rest h) in
    let k = index_reads_again room i (rest_of ls) parts.0 parts.1 is_index.levelled is_index.low in
    let a = expect_again (fixed.Mark marks.Assign) closing parts.0 rest parts.2 in
    let last = begins_split (expression e) (mark marks.Semicolon ∷ []) a.0 rest a.2 in
    let d = expr_reads_again room a.0 last.0 e last.1 is (closes_mark marks.Semicolon refl refl [] last.0 rest last.2) in
    let c = expect_again (fixed.Mark marks.Semicolon) [] last.0 rest last.2 in
    rw (n, k, a.1, d, c.1) (ap (plain_read (Plain line (AssignElement x i e))) c.2)

-- a name that is set is no element
not_bracket : (ls : List Lexed) → starts_with (fixed.Mark marks.OpenBracket) (rest_of ls) ≡ false → starts_element ls ≡ false
not_bracket ls e = bool_cases (starts_name ls) refl
  where
    bool_cases : (b : Bool) → starts_name ls ≡ b → starts_element ls ≡ false
    bool_cases true n = rw (n, e) refl
    bool_cases false n = rw n refl

element_starts : (x : Identifier) (i e : Expr) (ls rest : List Lexed) → Begins (Anywhere (Name' x) ∷ element_tail i e) ls rest → starts_element ls ≡ true
element_starts x i e ls rest h =
    let n = starts_name_again x (element_tail i e) ls rest h in
    let b = first_is (Fixed' (fixed.Mark marks.OpenBracket)) (expression i ++ mark marks.CloseBracket ∷ mark marks.Assign ∷ (expression e ++ mark marks.Semicolon ∷ [])) (rest_of ls) rest (fixed.Mark marks.OpenBracket) (first_rest (Anywhere (Name' x)) (element_tail i e) ls rest h) in
    rw (n, b) refl

-- each of these statements
abbrev pub IsPlain : Stmt → Type 0
IsPlain (Plain line (Assign x r)) = Unit {0}
IsPlain (Plain line (AssignElement x i e)) = Unit {0}
IsPlain (Plain line (Perform c)) = Unit {0}
IsPlain (Plain line (PutJint e)) = Unit {0}
IsPlain (Return line e) = Unit {0}
IsPlain s = ⊥

pub plain_again : (room : ℕ) (s : Stmt) (ls rest : List Lexed) → Begins (statement s) ls rest → IsForm room s → IsPlain s → plain_at room ls ≡ Ok (s, rest)
unfolding plain_at set_at
plain_again room (Plain line (PutJint e)) ls rest h is plain =
    let m : Meaning = Fixed' (fixed.Word words.PutJint) in
    let es : List Spelled = mark marks.OpenParen ∷ (expression e ++ (mark marks.CloseParen ∷ mark marks.Semicolon ∷ [])) in
    let s = on_is line m es ls rest (fixed.Word words.PutJint) h in
    rw (s, on_line_is line m es ls rest h, put_again room line e (rest_of ls) rest (first_rest (OnLine line m) es ls rest h) is) refl
plain_again room (Return line None) ls rest h is plain =
    let m : Meaning = Fixed' (fixed.Word words.Return) in
    let es : List Spelled = mark marks.Semicolon ∷ [] in
    let s = on_is line m es ls rest (fixed.Word words.PutJint) h in
    let t = on_is line m es ls rest (fixed.Word words.Return) h in
    rw (s, t, on_line_is line m es ls rest h, return_again room line (rest_of ls) rest (first_rest (OnLine line m) es ls rest h)) refl
plain_again room (Return line (Some e)) ls rest h is plain =
    let m : Meaning = Fixed' (fixed.Word words.Return) in
    let es : List Spelled = expression e ++ mark marks.Semicolon ∷ [] in
    let s = on_is line m es ls rest (fixed.Word words.PutJint) h in
    let t = on_is line m es ls rest (fixed.Word words.Return) h in
    rw (s, t, on_line_is line m es ls rest h, value_again room line e (rest_of ls) rest (first_rest (OnLine line m) es ls rest h) is) refl
plain_again room (Plain line (Perform c)) ls rest h is plain =
    let m : Meaning = Fixed' (fixed.Mark marks.OpenParen) in
    let es : List Spelled = call_tail c ++ mark marks.Semicolon ∷ [] in
    let s = on_is line m es ls rest (fixed.Word words.PutJint) h in
    let t = on_is line m es ls rest (fixed.Word words.Return) h in
    let u = on_is line m es ls rest (fixed.Mark marks.OpenParen) h in
    rw (s, t, u, on_line_is line m es ls rest h, perform_again room line c ls rest (off_first line m es ls rest h) is) refl
plain_again room (Plain line (Assign x r)) ls rest h is plain =
    let es : List Spelled = setting_tail r in
    let s = on_is line (Name' x) es ls rest (fixed.Word words.PutJint) h in
    let t = on_is line (Name' x) es ls rest (fixed.Word words.Return) h in
    let u = on_is line (Name' x) es ls rest (fixed.Mark marks.OpenParen) h in
    let b = first_is (Fixed' (fixed.Mark marks.Assign)) (right r ++ mark marks.Semicolon ∷ []) (rest_of ls) rest (fixed.Mark marks.OpenBracket) (first_rest (OnLine line (Name' x)) es ls rest h) in
    rw (s, t, u, not_bracket ls b, on_line_is line (Name' x) es ls rest h, setting_again room x r ls rest (off_first line (Name' x) es ls rest h) is) refl
plain_again room (Plain line (AssignElement x i e)) ls rest h is plain =
    let es : List Spelled = element_tail i e in
    let s = on_is line (Name' x) es ls rest (fixed.Word words.PutJint) h in
    let t = on_is line (Name' x) es ls rest (fixed.Word words.Return) h in
    let u = on_is line (Name' x) es ls rest (fixed.Mark marks.OpenParen) h in
    let named = off_first line (Name' x) es ls rest h in
    rw (s, t, u, element_starts x i e ls rest named, on_line_is line (Name' x) es ls rest h, set_element_again room line x i e ls rest named is.0 is.1) refl
plain_again room (Plain line (Declare t x r)) ls rest h is plain = absurd plain
plain_again room (Plain line (DeclareArray t x size)) ls rest h is plain = absurd plain
plain_again room (If line test b d) ls rest h is plain = absurd plain
plain_again room (While line test b) ls rest h is plain = absurd plain
