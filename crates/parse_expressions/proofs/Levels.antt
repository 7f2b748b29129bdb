-- Expressions: what is read is spelled so, and what is spelled so is read. Nothing here names an operator or its level.
use Rattle.std.proofs.Common.{◌≡◌, ℕ, zero, suc, ◌+◌, ◌<◌, ◌≤◌, max, true, false, List, [], ◌∷◌, ◌++◌, Option, Some, None, Result, Ok, refl, sym, ap, subst, ◌∙◌, append_assoc, arith, inl, inr}
use Rattle.std.specs.Prelude.{nat_lt, ◌==◌}
use Rattle.std.proofs.lemmas.Bool.{le-ltb, lt-ltb, ltb-true, ltb-false, ne_eqb}
use Rattle.std.proofs.lemmas.List.{append-nil}
use Rattle.scan.specs.declared.token.Mark.{Mark}
use Rattle.scan.specs.declared.token.Mark.TheVariants as marks
use Rattle.syntax.specs.declared.expr.PrefixOp.{PrefixOp}
use Rattle.syntax.specs.declared.expr.PrefixOp.TheVariants.{LogicalNot, Complement, ToWord, ToInt}
use Rattle.syntax.specs.declared.expr.BinaryOp.{BinaryOp}
use Rattle.syntax.specs.declared.expr.Constant.{Constant}
use Rattle.syntax.specs.declared.expr.Constant.TheVariants.{True, False, Commit, Abort, Null}
use Rattle.syntax.specs.Tree.{Expr, Number, Named, Variable, Element, Prefix, Binary, Paren}
use Rattle.syntax.specs.Limits.{operator_level, prefix_level, height}
use Rattle.parse_lexemes.specs.declared.fault.ParseError.{ParseError}
use Rattle.scan.specs.declared.reserved.Word.{Word}
use Rattle.scan.specs.declared.reserved.Word.TheVariants as words
use Rattle.scan.proofs.Grammar.{chosen}
use Rattle.parse_lexemes.specs.declared.first.Fixed.{Fixed}
use Rattle.parse_lexemes.specs.declared.first.Fixed.TheVariants as fixed
use Rattle.parse_lexemes.specs.Results.{◌>>=◌}
use Rattle.parse_lexemes.specs.Meaning.{Meaning, Fixed', Name', Number', Text'}
use Rattle.parse_lexemes.specs.Lexemes.{Lexed, same_mark, same_fixed, is_fixed_meaning, expect, name_at}
use Rattle.parse_lexemes.specs.Spelling.{Spelled, Anywhere, mark, word, constant_word}
use Rattle.parse_expressions.specs.Spelling.{operator_mark, prefix_tokens, expression}
use Rattle.parse_expressions.specs.Reading.{Reader, ReadExpr, operator_at, climb, climb_step, under_prefix, in_parens, after_paren, index_by, index_at, starts_element, element_by, named_of, primary_of, primary_at, operand_by, expr_by, deeper, expr_at, starts_call}
use Rattle.parse_lexemes.specs.Reading.{starts_with, rest_of, constant_of_word, starts_name}
use Rattle.parse_expressions.proofs.Forms.{IsLevelled, IsExpr}
use Rattle.parse_lexemes.proofs.Singles.{Begins, bind_ok, ok_is, begins_append, begins_split, first_takes, first_rest, first_is, starts_takes, expect_takes, expect_again, then_takes, name_takes, name_again, starts_name_again, first_no_name}
use Rattle.parse_lexemes.proofs.TypeWords.{constant_again, constant_is}
use Rattle.parse_expressions.proofs.Table.{operator_is, operator_again, operator_no_index, level_small, NoIndex, Closes, closes_mark}

-- an expression that may be at a level may be at a looser one
pub weaker : (e : Expr) (m n : ℕ) → n ≤ m → IsLevelled m e → IsLevelled n e
weaker (Number value unsigned) m n le h = tt
weaker (Named c) m n le h = h
weaker (Variable x) m n le h = tt
weaker (Element x i) m n le h = h
weaker (Prefix op e) m n le h = h
weaker (Binary op a b) m n le h = (omega (arith, h.0), h.1, h.2)
weaker (Paren e) m n le h = h

-- no operator of this operator_level or tighter comes Next
abbrev pub Stops : ℕ → List Lexed → Type 0
Stops least ls = (op : BinaryOp) → operator_at ls ≡ Some op → operator_level op < least

-- the operator that comes Next may have this to its left
abbrev pub Takeable : Expr → List Lexed → Type 0
Takeable e ls = (op : BinaryOp) → operator_at ls ≡ Some op → IsLevelled (operator_level op) e

same_op : (o : Option BinaryOp) (a b : BinaryOp) → o ≡ Some a → o ≡ Some b → a ≡ b
same_op o a b e f = let g : Some a ≡ Some b = sym e ∙ f in cc

abbrev answer : ReadExpr → Result ReadExpr ParseError
answer x = Ok x

-- ---- what is read is spelled so

pub record Takes (least : ℕ) (ls : List Lexed) (x : ReadExpr) : Type 0 where
  pub parts : Begins (expression x.0) ls x.2
  pub levelled : IsLevelled least x.0
  pub high : x.1 ≡ height x.0
  pub stops : Stops least x.2

abbrev pub AllTakes : Reader → ℕ → Type 0
AllTakes deep room = (least : ℕ) (ls : List Lexed) (x : ReadExpr) → deep least ls ≡ Ok x → Takes least ls x × (height x.0 < room)

-- an operand, which may be at each level
record TakesOperand (room : ℕ) (ls : List Lexed) (x : ReadExpr) : Type 0 where
  parts : Begins (expression x.0) ls x.2
  levelled : (least : ℕ) → IsLevelled least x.0
  high : x.1 ≡ height x.0
  low : height x.0 ≤ room

-- an index in its brackets
abbrev pub index_tokens : Expr → List Spelled
index_tokens i = mark marks.OpenBracket ∷ (expression i ++ mark marks.CloseBracket ∷ [])

pub record TakesIndex (room : ℕ) (ls : List Lexed) (x : ReadExpr) : Type 0 where
  pub parts : Begins (index_tokens x.0) ls x.2
  pub levelled : IsLevelled 0 x.0
  pub high : x.1 ≡ height x.0
  pub low : height x.0 < room

-- an expression that goes on from left
record TakesMore (room least : ℕ) (left : Expr) (ls : List Lexed) (x : ReadExpr) : Type 0 where
  more : List Spelled
  spelled : expression x.0 ≡ expression left ++ more
  parts : Begins more ls x.2
  levelled : IsLevelled least x.0
  high : x.1 ≡ height x.0
  low : height x.0 ≤ room
  stops : Stops least x.2

module _ (deep : Reader) (room : ℕ) (all : AllTakes deep room) where
  prefix_takes : (op : PrefixOp) (before : List Spelled) (ls mid : List Lexed) (x : ReadExpr) → prefix_tokens op ≡ before → Begins before ls mid → under_prefix deep op mid ≡ Ok x → TakesOperand room ls x
  unfolding under_prefix
  prefix_takes op before ls mid x is h e =
      let a = bind_ok (deep prefix_level mid) (λ y. Ok (Prefix op y.0, 1 + y.1, y.2)) x e in
      let t = all prefix_level mid a.0 a.1 in
      let made : ReadExpr = (Prefix op a.0.0, 1 + a.0.1, a.0.2) in
      subst (λ (y : ReadExpr). TakesOperand room ls y) (ok_is made x a.2) (record {
        parts = begins_append (prefix_tokens op) (expression a.0.0) ls mid a.0.2 (subst (λ (b : List Spelled). Begins b ls mid) (sym is) h) t.0.parts;
        levelled = λ least. t.0.levelled;
        high = ap (λ n. 1 + n) t.0.high;
        low = omega (arith, t.1);
      })

  parens_take : (ls : List Lexed) (x : ReadExpr) → Begins (mark marks.OpenParen ∷ []) ls (rest_of ls) → in_parens deep (rest_of ls) ≡ Ok x → TakesOperand room ls x
  unfolding in_parens
  parens_take ls x h e =
      let a = bind_ok (deep 0 (rest_of ls)) (λ y. expect (fixed.Mark marks.CloseParen) y.2 >>= λ after. Ok (Paren y.0, 1 + y.1, after)) x e in
      let b = bind_ok (expect (fixed.Mark marks.CloseParen) a.0.2) (λ after. Ok (Paren a.0.0, 1 + a.0.1, after)) x a.2 in
      let t = all 0 (rest_of ls) a.0 a.1 in
      let made : ReadExpr = (Paren a.0.0, 1 + a.0.1, b.0) in
      subst (λ (y : ReadExpr). TakesOperand room ls y) (ok_is made x b.2) (record {
        parts = first_takes _ _ ls b.0 h (begins_append (expression a.0.0) (mark marks.CloseParen ∷ []) (rest_of ls) a.0.2 b.0 t.0.parts (expect_takes _ a.0.2 b.0 b.1));
        levelled = λ least. t.0.levelled;
        high = ap (λ n. 1 + n) t.0.high;
        low = omega (arith, t.1);
      })

  cast_takes : (op : PrefixOp) (w : Fixed) (ls : List Lexed) (x : ReadExpr) → prefix_tokens op ≡ mark marks.OpenParen ∷ Anywhere (Fixed' w) ∷ mark marks.CloseParen ∷ [] → Begins (mark marks.OpenParen ∷ []) ls (rest_of ls) → starts_with w (rest_of ls) ≡ true → (expect (fixed.Mark marks.CloseParen) (rest_of (rest_of ls)) >>= λ after. under_prefix deep op after) ≡ Ok x → TakesOperand room ls x
  cast_takes op w ls x is h s e =
      let a = bind_ok (expect (fixed.Mark marks.CloseParen) (rest_of (rest_of ls))) (λ after. under_prefix deep op after) x e in
      prefix_takes op (mark marks.OpenParen ∷ Anywhere (Fixed' w) ∷ mark marks.CloseParen ∷ []) ls a.0 x is (first_takes (Fixed' (fixed.Mark marks.OpenParen)) (Anywhere (Fixed' w) ∷ mark marks.CloseParen ∷ []) ls a.0 h (first_takes (Fixed' w) (mark marks.CloseParen ∷ []) (rest_of ls) a.0 (starts_takes w (rest_of ls) s) (expect_takes _ (rest_of (rest_of ls)) a.0 a.1))) a.2

  paren_takes : (ls : List Lexed) (x : ReadExpr) → Begins (mark marks.OpenParen ∷ []) ls (rest_of ls) → after_paren deep (rest_of ls) ≡ Ok x → TakesOperand room ls x
  unfolding after_paren
  paren_takes ls x h e =
      elim (chosen (starts_with (fixed.Word words.Uint32) (rest_of ls)) _ _ (Ok x) e) [
        | inl w ↦ cast_takes ToWord (fixed.Word words.Uint32) ls x refl h w.0 w.1
        | inr w ↦ elim (chosen (starts_with (fixed.Word words.Jint) (rest_of ls)) _ _ (Ok x) w.1) [
          | inl v ↦ cast_takes ToInt (fixed.Word words.Jint) ls x refl h v.0 v.1
          | inr v ↦ parens_take ls x h v.1
        ]
      ]

  named_takes : (l : Lexed) (ls : List Lexed) (x : ReadExpr) (w : Word) (o : Option Constant) → l.meaning ≡ Fixed' (fixed.Word w) → constant_of_word w ≡ o → named_of o (l ∷ ls) ls ≡ Ok x → TakesOperand room (l ∷ ls) x
  named_takes l ls x w None is same e = absurd cc
  named_takes l ls x w (Some c) is same e =
      let made : ReadExpr = (Named c, 0, ls) in
      subst (λ (y : ReadExpr). TakesOperand room (l ∷ ls) y) (ok_is made x e) (record { parts = (is ∙ ap (λ (v : Word). Fixed' (fixed.Word v)) (constant_is w c same), refl); levelled = λ least. tt; high = refl; low = omega arith })

  primary_of_takes : (l : Lexed) (ls : List Lexed) (x : ReadExpr) (m : Meaning) → l.meaning ≡ m → primary_of m (l ∷ ls) ls ≡ Ok x → TakesOperand room (l ∷ ls) x
  primary_of_takes l ls x (Number' value unsigned) is e =
      let made : ReadExpr = (Number value unsigned, 0, ls) in
      subst (λ (y : ReadExpr). TakesOperand room (l ∷ ls) y) (ok_is made x e) (record { parts = (is, refl); levelled = λ least. tt; high = refl; low = omega arith })
  primary_of_takes l ls x (Name' bytes) is e =
      let made : ReadExpr = (Variable bytes, 0, ls) in
      subst (λ (y : ReadExpr). TakesOperand room (l ∷ ls) y) (ok_is made x e) (record { parts = (is, refl); levelled = λ least. tt; high = refl; low = omega arith })
  primary_of_takes l ls x (Fixed' (fixed.Word w)) is e = named_takes l ls x w (constant_of_word w) is refl e
  primary_of_takes l ls x (Fixed' (fixed.Mark m)) is e = absurd cc
  primary_of_takes l ls x (Fixed' fixed.End) is e = absurd cc
  primary_of_takes l ls x (Text' bytes) is e = absurd cc

  primary_takes : (ls : List Lexed) (x : ReadExpr) → primary_at ls ≡ Ok x → TakesOperand room ls x
  unfolding primary_at
  primary_takes [] x e = absurd cc
  primary_takes (l ∷ ls) x e = primary_of_takes l ls x l.meaning refl e

  index_takes : (ls : List Lexed) (x : ReadExpr) → index_by room deep ls ≡ Ok x → TakesIndex room ls x
  unfolding index_by
  index_takes ls x e =
      elim (chosen (room == 0) _ _ (Ok x) e) [
        | inl w ↦ absurd cc
        | inr w ↦
            let a = bind_ok (expect (fixed.Mark marks.OpenBracket) ls) (λ within. deep 0 within >>= λ i. expect (fixed.Mark marks.CloseBracket) i.2 >>= λ after. Ok (i.0, i.1, after)) x w.1 in
            let b = bind_ok (deep 0 a.0) (λ i. expect (fixed.Mark marks.CloseBracket) i.2 >>= λ after. Ok (i.0, i.1, after)) x a.2 in
            let c = bind_ok (expect (fixed.Mark marks.CloseBracket) b.0.2) (λ after. Ok (b.0.0, b.0.1, after)) x b.2 in
            let t = all 0 a.0 b.0 b.1 in
            let made : ReadExpr = (b.0.0, b.0.1, c.0) in
            subst (λ (y : ReadExpr). TakesIndex room ls y) (ok_is made x c.2) (record {
              parts = then_takes (fixed.Mark marks.OpenBracket) (expression b.0.0 ++ mark marks.CloseBracket ∷ []) ls a.0 c.0 a.1 (begins_append (expression b.0.0) (mark marks.CloseBracket ∷ []) a.0 b.0.2 c.0 t.0.parts (expect_takes (fixed.Mark marks.CloseBracket) b.0.2 c.0 c.1));
              levelled = t.0.levelled;
              high = t.0.high;
              low = t.1;
            })
      ]

  element_takes : (ls : List Lexed) (x : ReadExpr) → element_by room deep ls ≡ Ok x → TakesOperand room ls x
  unfolding element_by
  element_takes ls x e =
      let a = bind_ok (name_at ls) (λ name. index_by room deep name.1 >>= λ i. Ok (Element name.0 i.0, 1 + i.1, i.2)) x e in
      let b = bind_ok (index_by room deep a.0.1) (λ i. Ok (Element a.0.0 i.0, 1 + i.1, i.2)) x a.2 in
      let t = index_takes a.0.1 b.0 b.1 in
      let made : ReadExpr = (Element a.0.0 b.0.0, 1 + b.0.1, b.0.2) in
      subst (λ (y : ReadExpr). TakesOperand room ls y) (ok_is made x b.2) (record {
        parts = begins_append (Anywhere (Name' a.0.0) ∷ []) (index_tokens b.0.0) ls a.0.1 b.0.2 (name_takes ls a.0 a.1) t.parts;
        levelled = λ least. t.levelled;
        high = ap (λ n. 1 + n) t.high;
        low = let low = t.low in omega (arith, low);
      })

  operand_takes : (ls : List Lexed) (x : ReadExpr) → operand_by room deep ls ≡ Ok x → TakesOperand room ls x
  unfolding operand_by
  operand_takes ls x e =
      elim (chosen (starts_with (fixed.Mark marks.Tilde) ls) _ _ (Ok x) e) [
        | inl w ↦ elim (chosen (room == 0) _ _ (Ok x) w.1) [
          | inl v ↦ absurd cc
          | inr v ↦ prefix_takes Complement (mark marks.Tilde ∷ []) ls (rest_of ls) x refl (starts_takes (fixed.Mark marks.Tilde) ls w.0) v.1
        ]
        | inr w ↦ elim (chosen (starts_with (fixed.Mark marks.Exclamation) ls) _ _ (Ok x) w.1) [
          | inl v ↦ elim (chosen (room == 0) _ _ (Ok x) v.1) [
            | inl u ↦ absurd cc
            | inr u ↦ prefix_takes LogicalNot (mark marks.Exclamation ∷ []) ls (rest_of ls) x refl (starts_takes (fixed.Mark marks.Exclamation) ls v.0) u.1
          ]
          | inr v ↦ elim (chosen (starts_with (fixed.Mark marks.OpenParen) ls) _ _ (Ok x) v.1) [
            | inl u ↦ elim (chosen (room == 0) _ _ (Ok x) u.1) [
              | inl q ↦ absurd cc
              | inr q ↦ paren_takes ls x (starts_takes (fixed.Mark marks.OpenParen) ls u.0) q.1
            ]
            | inr u ↦ elim (chosen (starts_element ls) _ _ (Ok x) u.1) [
              | inl q ↦ element_takes ls x q.1
              | inr q ↦ primary_takes ls x q.1
            ]
          ]
        ]
      ]

  stays : (least : ℕ) (left : Expr) (high : ℕ) (ls : List Lexed) (x : ReadExpr) → high ≡ height left → height left ≤ room → IsLevelled least left → Stops least ls → answer (left, high, ls) ≡ Ok x → TakesMore room least left ls x
  stays least left high ls x h low levelled stops e =
      let made : ReadExpr = (left, high, ls) in
      subst (λ (y : ReadExpr). TakesMore room least left ls y) (ok_is made x e) (record { more = []; spelled = sym (append-nil (expression left)); parts = refl; levelled = levelled; high = h; low = low; stops = stops })

  climb_takes : (steps least : ℕ) (left : Expr) (high : ℕ) (ls : List Lexed) (x : ReadExpr) → high ≡ height left → height left ≤ room → IsLevelled least left → Takeable left ls → climb deep room least steps left high ls ≡ Ok x → TakesMore room least left ls x
  unfolding climb
  climb_takes zero least left high ls x h low levelled takeable e = absurd cc
  climb_takes (suc steps) least left high ls x h low levelled takeable e =
      climbed (climb_takes steps least) (operator_at ls) refl e
    where
      climbed : ((left : Expr) (high : ℕ) (ls : List Lexed) (x : ReadExpr) → high ≡ height left → height left ≤ room → IsLevelled least left → Takeable left ls → climb deep room least steps left high ls ≡ Ok x → TakesMore room least left ls x) → (o : Option BinaryOp) → operator_at ls ≡ o → climb_step deep room least (climb deep room least steps) left high ls o ≡ Ok x → TakesMore room least left ls x
      climbed rec None o e = stays least left high ls x h low levelled (λ op same. let f : None ≡ Some op = sym o ∙ same in absurd cc) e
      climbed rec (Some op) o e =
          elim (chosen (nat_lt (operator_level op) least) _ _ (Ok x) e) [
            | inl w ↦ stays least left high ls x h low levelled (λ other same. subst (λ (b : BinaryOp). operator_level b < least) (same_op (operator_at ls) op other o same) (ltb-true (operator_level op) least w.0)) w.1
            | inr w ↦ elim (chosen (nat_lt high room) _ _ (Ok x) w.1) [
              | inr v ↦ absurd cc
              | inl v ↦
                  let le = ltb-false (operator_level op) least w.0 in
                  let lt = ltb-true high room v.0 in
                  let a = bind_ok (deep (operator_level op + 1) (rest_of ls)) (λ r. climb deep room least steps (Binary op left r.0) (1 + max high r.1) r.2) x v.1 in
                  let t = all (operator_level op + 1) (rest_of ls) a.0 a.1 in
                  let now_high : 1 + max high a.0.1 ≡ height (Binary op left a.0.0) = omega (arith, t.0.high) in
                  let now_low : height (Binary op left a.0.0) ≤ room = omega (arith, t.1) in
                  let m = rec (Binary op left a.0.0) (1 + max high a.0.1) a.0.2 x now_high now_low (le, takeable op o, t.0.levelled) (λ other same. (let n = t.0.stops other same in omega (arith, n), takeable op o, t.0.levelled)) a.2 in
                  record {
                    more = (mark (operator_mark op) ∷ expression a.0.0) ++ m.more;
                    spelled = m.spelled ∙ append_assoc (expression left) (mark (operator_mark op) ∷ expression a.0.0) m.more;
                    parts = first_takes (Fixed' (fixed.Mark (operator_mark op))) (expression a.0.0 ++ m.more) ls x.2 (operator_is op ls o) (begins_append (expression a.0.0) m.more (rest_of ls) a.0.2 x.2 t.0.parts m.parts);
                    levelled = m.levelled;
                    high = m.high;
                    low = m.low;
                    stops = m.stops;
                  }
            ]
          ]

  pub expr_takes : (least : ℕ) (ls : List Lexed) (x : ReadExpr) → expr_by room deep least ls ≡ Ok x → Takes least ls x × (height x.0 ≤ room)
  unfolding expr_by
  expr_takes least ls x e =
      let a = bind_ok (operand_by room deep ls) (λ y. climb deep room least (room + 1) y.0 y.1 y.2) x e in
      let t = operand_takes ls a.0 a.1 in
      let m = climb_takes (room + 1) least a.0.0 a.0.1 a.0.2 x t.high t.low (t.levelled least) (λ op same. t.levelled (operator_level op)) a.2 in
      (record { parts = subst (λ (es : List Spelled). Begins es ls x.2) (sym m.spelled) (begins_append (expression a.0.0) m.more ls a.0.2 x.2 t.parts m.parts); levelled = m.levelled; high = m.high; stops = m.stops }, m.low)

pub deeper_takes : (room : ℕ) → AllTakes (deeper room) room
unfolding deeper
deeper_takes zero = λ least ls x e. absurd cc
deeper_takes (suc room) = λ least ls x e.
    let t = expr_takes (deeper room) room (deeper_takes room) least ls x e in
    (t.0, omega (arith, t.1))

-- ---- what is spelled so is read

abbrev pub AllAgain : Reader → ℕ → Type 0
AllAgain deep room = (least : ℕ) (ls rest : List Lexed) (e : Expr) → Begins (expression e) ls rest → IsLevelled least e → height e < room → Stops least rest → NoIndex rest → deep least ls ≡ Ok (e, height e, rest)

-- An expression that is spelled here is read, and then what goes on from it.
record Climbed (deep : Reader) (room least : ℕ) (ls : List Lexed) (e : Expr) (rest : List Lexed) : Type 0 where
  steps : ℕ
  enough : room < height e + steps
  same : expr_by room deep least ls ≡ climb deep room least steps e (height e) rest

-- what is one deeper is lower
under : (n room : ℕ) → 1 + n ≤ room → n < room
under n room le = omega (arith, le)

-- no expression begins with another fixed token than these
pub record IsNoFirst (f : Fixed) : Type 0 where
  pub tilde : same_fixed (fixed.Mark marks.Tilde) f ≡ false
  pub exclamation : same_fixed (fixed.Mark marks.Exclamation) f ≡ false
  pub paren : same_fixed (fixed.Mark marks.OpenParen) f ≡ false
  pub constant : (c : Constant) → same_fixed (fixed.Word (constant_word c)) f ≡ false

pub no_first : (f : Fixed) → IsNoFirst f → (least : ℕ) (e : Expr) → IsLevelled least e → (ls rest : List Lexed) → Begins (expression e) ls rest → starts_with f ls ≡ false
no_first f is least (Number value unsigned) levelled ls rest h = first_is (Number' value unsigned) [] ls rest f h
no_first f is least (Named c) levelled ls rest h = first_is (Fixed' (fixed.Word (constant_word c))) [] ls rest f h ∙ is.constant c
no_first f is least (Variable x) levelled ls rest h = first_is (Name' x) [] ls rest f h
no_first f is least (Element x i) levelled ls rest h = first_is (Name' x) (index_tokens i) ls rest f h
no_first f is least (Prefix LogicalNot e) levelled ls rest h = first_is (Fixed' (fixed.Mark marks.Exclamation)) (expression e) ls rest f h ∙ is.exclamation
no_first f is least (Prefix Complement e) levelled ls rest h = first_is (Fixed' (fixed.Mark marks.Tilde)) (expression e) ls rest f h ∙ is.tilde
no_first f is least (Prefix ToWord e) levelled ls rest h = first_is (Fixed' (fixed.Mark marks.OpenParen)) (word words.Uint32 ∷ mark marks.CloseParen ∷ expression e) ls rest f h ∙ is.paren
no_first f is least (Prefix ToInt e) levelled ls rest h = first_is (Fixed' (fixed.Mark marks.OpenParen)) (word words.Jint ∷ mark marks.CloseParen ∷ expression e) ls rest f h ∙ is.paren
no_first f is least (Binary op a b) levelled ls rest h = let parts = begins_split (expression a) (mark (operator_mark op) ∷ expression b) ls rest h in no_first f is (operator_level op) a levelled.1 ls parts.0 parts.1
no_first f is least (Paren e) levelled ls rest h = first_is (Fixed' (fixed.Mark marks.OpenParen)) (expression e ++ mark marks.CloseParen ∷ []) ls rest f h ∙ is.paren

pub no_first_mark : (m : Mark) → same_mark marks.Tilde m ≡ false → same_mark marks.Exclamation m ≡ false → same_mark marks.OpenParen m ≡ false → IsNoFirst (fixed.Mark m)
no_first_mark m tilde exclamation paren = record { tilde = tilde; exclamation = exclamation; paren = paren; constant = λ c. refl }

no_uint32 : IsNoFirst (fixed.Word words.Uint32)
no_uint32 = record { tilde = refl; exclamation = refl; paren = refl; constant = other }
  where
    other : (c : Constant) → same_fixed (fixed.Word (constant_word c)) (fixed.Word words.Uint32) ≡ false
    other True = refl
    other False = refl
    other Commit = refl
    other Abort = refl
    other Null = refl

no_jint : IsNoFirst (fixed.Word words.Jint)
no_jint = record { tilde = refl; exclamation = refl; paren = refl; constant = other }
  where
    other : (c : Constant) → same_fixed (fixed.Word (constant_word c)) (fixed.Word words.Jint) ≡ false
    other True = refl
    other False = refl
    other Commit = refl
    other Abort = refl
    other Null = refl

-- no expression begins as a call does
not_paren : (ls : List Lexed) → starts_with (fixed.Mark marks.OpenParen) ls ≡ false → starts_call ls ≡ false
not_paren ls e = rw e refl

not_star : (ls : List Lexed) → starts_with (fixed.Mark marks.OpenParen) ls ≡ true → starts_with (fixed.Mark marks.Star) (rest_of ls) ≡ false → starts_call ls ≡ false
not_star ls e f = rw (e, f) refl

cast_no_call : (w : Word) (es : List Spelled) (ls rest : List Lexed) → Begins (mark marks.OpenParen ∷ word w ∷ es) ls rest → starts_call ls ≡ false
cast_no_call w es ls rest h = not_star ls (first_is (Fixed' (fixed.Mark marks.OpenParen)) (word w ∷ es) ls rest (fixed.Mark marks.OpenParen) h) (first_is (Fixed' (fixed.Word w)) es (rest_of ls) rest (fixed.Mark marks.Star) (first_rest (mark marks.OpenParen) (word w ∷ es) ls rest h))

pub no_call : (least : ℕ) (e : Expr) → IsLevelled least e → (ls rest : List Lexed) → Begins (expression e) ls rest → starts_call ls ≡ false
no_call least (Number value unsigned) levelled ls rest h = not_paren ls (first_is (Number' value unsigned) [] ls rest (fixed.Mark marks.OpenParen) h)
no_call least (Named c) levelled ls rest h = not_paren ls (first_is (Fixed' (fixed.Word (constant_word c))) [] ls rest (fixed.Mark marks.OpenParen) h)
no_call least (Variable x) levelled ls rest h = not_paren ls (first_is (Name' x) [] ls rest (fixed.Mark marks.OpenParen) h)
no_call least (Element x i) levelled ls rest h = not_paren ls (first_is (Name' x) (index_tokens i) ls rest (fixed.Mark marks.OpenParen) h)
no_call least (Prefix LogicalNot e) levelled ls rest h = not_paren ls (first_is (Fixed' (fixed.Mark marks.Exclamation)) (expression e) ls rest (fixed.Mark marks.OpenParen) h)
no_call least (Prefix Complement e) levelled ls rest h = not_paren ls (first_is (Fixed' (fixed.Mark marks.Tilde)) (expression e) ls rest (fixed.Mark marks.OpenParen) h)
no_call least (Prefix ToWord e) levelled ls rest h = cast_no_call words.Uint32 (mark marks.CloseParen ∷ expression e) ls rest h
no_call least (Prefix ToInt e) levelled ls rest h = cast_no_call words.Jint (mark marks.CloseParen ∷ expression e) ls rest h
no_call least (Binary op a b) levelled ls rest h = let parts = begins_split (expression a) (mark (operator_mark op) ∷ expression b) ls rest h in no_call (operator_level op) a levelled.1 ls parts.0 parts.1
no_call least (Paren e) levelled ls rest h =
    let es : List Spelled = expression e ++ mark marks.CloseParen ∷ [] in
    let parts = begins_split (expression e) (mark marks.CloseParen ∷ []) (rest_of ls) rest (first_rest (mark marks.OpenParen) es ls rest h) in
    not_star ls (first_is (Fixed' (fixed.Mark marks.OpenParen)) es ls rest (fixed.Mark marks.OpenParen) h) (no_first (fixed.Mark marks.Star) (no_first_mark marks.Star refl refl refl) 0 e levelled (rest_of ls) parts.0 parts.1)

-- no name with an index comes next
no_element : (ls : List Lexed) → starts_name ls ≡ false → starts_element ls ≡ false
no_element ls e = rw e refl

no_index : (ls : List Lexed) → starts_name ls ≡ true → starts_with (fixed.Mark marks.OpenBracket) (rest_of ls) ≡ false → starts_element ls ≡ false
no_index ls e f = rw (e, f) refl

abbrev IsOperand : Expr → Type 0
IsOperand (Number value unsigned) = Unit {0}
IsOperand (Named c) = Unit {0}
IsOperand (Variable x) = Unit {0}
IsOperand (Element x i) = Unit {0}
IsOperand (Prefix op e) = Unit {0}
IsOperand (Binary op a b) = ⊥
IsOperand (Paren e) = Unit {0}

-- where no operator of the operator_level comes, nothing goes on
climb_ends : (deep : Reader) (room steps least : ℕ) (e : Expr) (high : ℕ) (rest : List Lexed) → high ≤ room → room < high + steps → Stops least rest → climb deep room least steps e high rest ≡ Ok (e, high, rest)
unfolding climb
climb_ends deep room zero least e high rest low enough stops = absurd (omega arith)
climb_ends deep room (suc steps) least e high rest low enough stops = ended (operator_at rest) refl
  where
    ended : (o : Option BinaryOp) → operator_at rest ≡ o → climb_step deep room least (climb deep room least steps) e high rest o ≡ Ok (e, high, rest)
    ended None is = refl
    ended (Some op) is = rw (lt-ltb (operator_level op) least (stops op is)) refl

module _ (deep : Reader) (room : ℕ) (all : AllAgain deep room) where
  prefix_again : (op : PrefixOp) (e : Expr) (ls rest : List Lexed) → Begins (expression e) ls rest → IsLevelled prefix_level e → height e < room → NoIndex rest → under_prefix deep op ls ≡ Ok (Prefix op e, 1 + height e, rest)
  unfolding under_prefix
  prefix_again op e ls rest h levelled low bare = rw (all prefix_level ls rest e h levelled low (λ other same. level_small other) bare) refl

  room_left : (e : Expr) → height e < room → (room == 0) ≡ false
  room_left e low = ne_eqb room 0 (omega arith)

  cast_again : (op : PrefixOp) (w : Fixed) (e : Expr) (ls rest : List Lexed) → Begins (Anywhere (Fixed' w) ∷ mark marks.CloseParen ∷ expression e) ls rest → IsLevelled prefix_level e → height e < room → NoIndex rest → (expect (fixed.Mark marks.CloseParen) (rest_of ls) >>= λ after. under_prefix deep op after) ≡ Ok (Prefix op e, 1 + height e, rest)
  cast_again op w e ls rest h levelled low bare =
      let a = expect_again (fixed.Mark marks.CloseParen) (expression e) (rest_of ls) rest (first_rest (Anywhere (Fixed' w)) (mark marks.CloseParen ∷ expression e) ls rest h) in
      rw a.1 (prefix_again op e a.0 rest a.2 levelled low bare)

  primary_again : (m : Meaning) (e : Expr) → is_fixed_meaning m (fixed.Mark marks.Tilde) ≡ false → is_fixed_meaning m (fixed.Mark marks.Exclamation) ≡ false → is_fixed_meaning m (fixed.Mark marks.OpenParen) ≡ false → ((from after : List Lexed) → primary_of m from after ≡ answer (e, 0, after)) → (ls rest : List Lexed) → Begins (Anywhere m ∷ []) ls rest → starts_element ls ≡ false → operand_by room deep ls ≡ Ok (e, 0, rest)
  unfolding operand_by primary_at
  primary_again m e tilde exclamation paren so [] rest h bare = absurd h
  primary_again m e tilde exclamation paren so (l ∷ ls) rest h bare = rw (bare, h.0, tilde, exclamation, paren, so (record { meaning = m; line = l.line } ∷ ls) ls) (ap (λ (r : List Lexed). answer (e, 0, r)) h.1)

  -- an index
  pub index_again : (i : Expr) (ls rest : List Lexed) → Begins (index_tokens i) ls rest → IsLevelled 0 i → height i < room → index_by room deep ls ≡ Ok (i, height i, rest)
  unfolding index_by
  index_again i ls rest h levelled low =
      let closing : List Spelled = mark marks.CloseBracket ∷ [] in
      let a = expect_again (fixed.Mark marks.OpenBracket) (expression i ++ closing) ls rest h in
      let parts = begins_split (expression i) closing a.0 rest a.2 in
      let closed = closes_mark marks.CloseBracket refl refl [] parts.0 rest parts.2 in
      let d = all 0 a.0 parts.0 i parts.1 levelled low (λ op same. let g : None ≡ Some op = sym closed.none ∙ same in absurd cc) closed.index in
      let c = expect_again (fixed.Mark marks.CloseBracket) [] parts.0 rest parts.2 in
      rw (room_left i low, a.1, d, c.1) (ap (λ (r : List Lexed). answer (i, height i, r)) c.2)

  -- each operand
  operand_again : (e : Expr) (ls rest : List Lexed) → IsOperand e → Begins (expression e) ls rest → IsLevelled 0 e → height e ≤ room → NoIndex rest → operand_by room deep ls ≡ Ok (e, height e, rest)
  unfolding operand_by after_paren in_parens element_by
  operand_again (Number value unsigned) ls rest is h levelled low bare = primary_again (Number' value unsigned) (Number value unsigned) refl refl refl (λ from after. refl) ls rest h (no_element ls (first_no_name (Number' value unsigned) refl [] ls rest h))
  operand_again (Named c) ls rest is h levelled low bare = primary_again (Fixed' (fixed.Word (constant_word c))) (Named c) refl refl refl (λ from after. rw (constant_again c) refl) ls rest h (no_element ls (first_no_name (Fixed' (fixed.Word (constant_word c))) refl [] ls rest h))
  operand_again (Variable x) ls rest is h levelled low bare = primary_again (Name' x) (Variable x) refl refl refl (λ from after. refl) ls rest h (no_index ls (starts_name_again x [] ls rest h) (ap (starts_with (fixed.Mark marks.OpenBracket)) (first_rest (Anywhere (Name' x)) [] ls rest h) ∙ bare))
  operand_again (Element x i) ls rest is h levelled low bare =
      let es = index_tokens i in
      let t = first_is (Name' x) es ls rest (fixed.Mark marks.Tilde) h in
      let e = first_is (Name' x) es ls rest (fixed.Mark marks.Exclamation) h in
      let f = first_is (Name' x) es ls rest (fixed.Mark marks.OpenParen) h in
      let within = first_rest (Anywhere (Name' x)) es ls rest h in
      let s = starts_name_again x es ls rest h in
      let b = first_is (Fixed' (fixed.Mark marks.OpenBracket)) (expression i ++ mark marks.CloseBracket ∷ []) (rest_of ls) rest (fixed.Mark marks.OpenBracket) within in
      rw (t, e, f, s, b, name_again x es ls rest h, index_again i (rest_of ls) rest within levelled (under _ room low)) refl
  operand_again (Prefix LogicalNot e) ls rest is h levelled low bare =
      let t = first_is (Fixed' (fixed.Mark marks.Exclamation)) (expression e) ls rest (fixed.Mark marks.Tilde) h in
      let f = first_is (Fixed' (fixed.Mark marks.Exclamation)) (expression e) ls rest (fixed.Mark marks.Exclamation) h in
      rw (t, f, room_left e (under _ room low)) (prefix_again LogicalNot e (rest_of ls) rest (first_rest (mark marks.Exclamation) (expression e) ls rest h) levelled (under _ room low) bare)
  operand_again (Prefix Complement e) ls rest is h levelled low bare =
      let f = first_is (Fixed' (fixed.Mark marks.Tilde)) (expression e) ls rest (fixed.Mark marks.Tilde) h in
      rw (f, room_left e (under _ room low)) (prefix_again Complement e (rest_of ls) rest (first_rest (mark marks.Tilde) (expression e) ls rest h) levelled (under _ room low) bare)
  operand_again (Prefix ToWord e) ls rest is h levelled low bare =
      let es : List Spelled = word words.Uint32 ∷ mark marks.CloseParen ∷ expression e in
      let inside = first_rest (mark marks.OpenParen) es ls rest h in
      let t = first_is (Fixed' (fixed.Mark marks.OpenParen)) es ls rest (fixed.Mark marks.Tilde) h in
      let q = first_is (Fixed' (fixed.Mark marks.OpenParen)) es ls rest (fixed.Mark marks.Exclamation) h in
      let f = first_is (Fixed' (fixed.Mark marks.OpenParen)) es ls rest (fixed.Mark marks.OpenParen) h in
      let g = first_is (Fixed' (fixed.Word words.Uint32)) (mark marks.CloseParen ∷ expression e) (rest_of ls) rest (fixed.Word words.Uint32) inside in
      rw (t, q, f, room_left e (under _ room low), g) (cast_again ToWord (fixed.Word words.Uint32) e (rest_of ls) rest inside levelled (under _ room low) bare)
  operand_again (Prefix ToInt e) ls rest is h levelled low bare =
      let es : List Spelled = word words.Jint ∷ mark marks.CloseParen ∷ expression e in
      let inside = first_rest (mark marks.OpenParen) es ls rest h in
      let t = first_is (Fixed' (fixed.Mark marks.OpenParen)) es ls rest (fixed.Mark marks.Tilde) h in
      let q = first_is (Fixed' (fixed.Mark marks.OpenParen)) es ls rest (fixed.Mark marks.Exclamation) h in
      let f = first_is (Fixed' (fixed.Mark marks.OpenParen)) es ls rest (fixed.Mark marks.OpenParen) h in
      let u = first_is (Fixed' (fixed.Word words.Jint)) (mark marks.CloseParen ∷ expression e) (rest_of ls) rest (fixed.Word words.Uint32) inside in
      let g = first_is (Fixed' (fixed.Word words.Jint)) (mark marks.CloseParen ∷ expression e) (rest_of ls) rest (fixed.Word words.Jint) inside in
      rw (t, q, f, room_left e (under _ room low), u, g) (cast_again ToInt (fixed.Word words.Jint) e (rest_of ls) rest inside levelled (under _ room low) bare)
  operand_again (Binary op a b) ls rest is h levelled low bare = absurd is
  operand_again (Paren e) ls rest is h levelled low bare =
      let es : List Spelled = expression e ++ mark marks.CloseParen ∷ [] in
      let inside = first_rest (mark marks.OpenParen) es ls rest h in
      let t = first_is (Fixed' (fixed.Mark marks.OpenParen)) es ls rest (fixed.Mark marks.Tilde) h in
      let q = first_is (Fixed' (fixed.Mark marks.OpenParen)) es ls rest (fixed.Mark marks.Exclamation) h in
      let f = first_is (Fixed' (fixed.Mark marks.OpenParen)) es ls rest (fixed.Mark marks.OpenParen) h in
      let parts = begins_split (expression e) (mark marks.CloseParen ∷ []) (rest_of ls) rest inside in
      let u = no_first (fixed.Word words.Uint32) no_uint32 0 e levelled (rest_of ls) parts.0 parts.1 in
      let v = no_first (fixed.Word words.Jint) no_jint 0 e levelled (rest_of ls) parts.0 parts.1 in
      let closed = closes_mark marks.CloseParen refl refl [] parts.0 rest parts.2 in
      let d = all 0 (rest_of ls) parts.0 e parts.1 levelled (under _ room low) (λ op same. let g : None ≡ Some op = sym closed.none ∙ same in absurd cc) closed.index in
      let a = expect_again (fixed.Mark marks.CloseParen) [] parts.0 rest parts.2 in
      rw (t, q, f, room_left e (under _ room low), u, v, d, a.1) (ap (λ (r : List Lexed). answer (Paren e, 1 + height e, r)) a.2)

  from_operand : (e : Expr) (least : ℕ) (ls rest : List Lexed) → operand_by room deep ls ≡ Ok (e, height e, rest) → Climbed deep room least ls e rest
  unfolding expr_by
  from_operand e least ls rest h = record { steps = room + 1; enough = omega arith; same = rw h refl }

  climb_next : (steps least : ℕ) (op : BinaryOp) (a b : Expr) (mid rest : List Lexed) → height a < room → room < height a + steps → least ≤ operator_level op → operator_at mid ≡ Some op → deep (operator_level op + 1) (rest_of mid) ≡ Ok (b, height b, rest) → (s : ℕ) × (room < height (Binary op a b) + s) × (climb deep room least steps a (height a) mid ≡ climb deep room least s (Binary op a b) (height (Binary op a b)) rest)
  unfolding climb
  climb_next zero least op a b mid rest low enough le o d = absurd (omega arith)
  climb_next (suc s) least op a b mid rest low enough le o d =
      (s, omega arith, rw (o, le-ltb (operator_level op) least le, lt-ltb (height a) room low, d) refl)

  climbed : (e : Expr) (least : ℕ) (ls rest : List Lexed) → Begins (expression e) ls rest → IsLevelled least e → height e ≤ room → Takeable e rest → NoIndex rest → Climbed deep room least ls e rest
  climbed (Number value unsigned) least ls rest h levelled low takeable bare = from_operand _ least ls rest (operand_again (Number value unsigned) ls rest tt h levelled low bare)
  climbed (Named c) least ls rest h levelled low takeable bare = from_operand _ least ls rest (operand_again (Named c) ls rest tt h levelled low bare)
  climbed (Variable x) least ls rest h levelled low takeable bare = from_operand _ least ls rest (operand_again (Variable x) ls rest tt h levelled low bare)
  climbed (Element x i) least ls rest h levelled low takeable bare = from_operand _ least ls rest (operand_again (Element x i) ls rest tt h levelled low bare)
  climbed (Prefix op e) least ls rest h levelled low takeable bare = from_operand _ least ls rest (operand_again (Prefix op e) ls rest tt h levelled low bare)
  climbed (Paren e) least ls rest h levelled low takeable bare = from_operand _ least ls rest (operand_again (Paren e) ls rest tt h levelled low bare)
  climbed (Binary op a b) least ls rest h levelled low takeable bare =
      let parts = begins_split (expression a) (mark (operator_mark op) ∷ expression b) ls rest h in
      let o = operator_again op (expression b) parts.0 rest parts.2 in
      let low_a : height a < room = omega arith in
      let low_b : height b < room = omega arith in
      let first = climbed a least ls parts.0 parts.1 (weaker a (operator_level op) least levelled.0 levelled.1) (omega (arith, low_a)) (λ other same. subst (λ (q : BinaryOp). IsLevelled (operator_level q) a) (same_op (operator_at parts.0) op other o same) levelled.1) (operator_no_index op parts.0 o) in
      let d = all (operator_level op + 1) (rest_of parts.0) rest b (first_rest (mark (operator_mark op)) (expression b) parts.0 rest parts.2) levelled.2 low_b (λ other same. let q = takeable other same in omega (arith, q.0)) bare in
      let more = climb_next first.steps least op a b parts.0 rest low_a first.enough levelled.0 o d in
      record { steps = more.0; enough = more.1; same = first.same ∙ more.2 }

  pub expr_again : (least : ℕ) (ls rest : List Lexed) (e : Expr) → Begins (expression e) ls rest → IsLevelled least e → height e ≤ room → Stops least rest → NoIndex rest → expr_by room deep least ls ≡ Ok (e, height e, rest)
  expr_again least ls rest e h levelled low stops bare =
      let c = climbed e least ls rest h levelled low (λ op same. weaker e least (operator_level op) (let lt = stops op same in omega (arith, lt)) levelled) bare in
      c.same ∙ climb_ends deep room c.steps least e (height e) rest low c.enough stops

pub deeper_again : (room : ℕ) → AllAgain (deeper room) room
unfolding deeper
deeper_again zero = λ least ls rest e h levelled low stops bare. absurd (omega (arith, low))
deeper_again (suc room) = λ least ls rest e h levelled low stops bare. expr_again (deeper room) room (deeper_again room) least ls rest e h levelled (omega (arith, low)) stops bare

-- ---- whole expressions

pub expr_reads : (room : ℕ) (ls : List Lexed) (y : ReadExpr) → expr_at room 0 ls ≡ Ok y → Begins (expression y.0) ls y.2 × IsExpr room y.0
expr_reads room ls y e =
    let t = expr_takes (deeper room) room (deeper_takes room) 0 ls y e in
    (t.0.parts, record { levelled = t.0.levelled; low = t.1 })

pub expr_reads_again : (room : ℕ) (ls rest : List Lexed) (e : Expr) → Begins (expression e) ls rest → IsExpr room e → Closes rest → expr_at room 0 ls ≡ Ok (e, height e, rest)
expr_reads_again room ls rest e h is closed =
    expr_again (deeper room) room (deeper_again room) 0 ls rest e h is.levelled is.low (λ op same. let f : None ≡ Some op = sym closed.none ∙ same in absurd cc) closed.index

pub index_reads : (room : ℕ) (ls : List Lexed) (y : ReadExpr) → index_at room ls ≡ Ok y → TakesIndex room ls y
index_reads room ls y e = index_takes (deeper room) room (deeper_takes room) ls y e

pub index_reads_again : (room : ℕ) (i : Expr) (ls rest : List Lexed) → Begins (index_tokens i) ls rest → IsLevelled 0 i → height i < room → index_at room ls ≡ Ok (i, height i, rest)
index_reads_again room i ls rest h levelled low = index_again (deeper room) room (deeper_again room) i ls rest h levelled low

-- what comes after an index
pub index_more : (i : Expr) (more : List Spelled) (ls rest : List Lexed) → Begins (index_tokens i ++ more) ls rest → Begins (mark marks.OpenBracket ∷ (expression i ++ mark marks.CloseBracket ∷ more)) ls rest
index_more i more ls rest h = subst (λ (es : List Spelled). Begins (mark marks.OpenBracket ∷ es) ls rest) (append_assoc (expression i) (mark marks.CloseBracket ∷ []) more) h

pub index_split : (i : Expr) (more : List Spelled) (ls rest : List Lexed) → Begins (mark marks.OpenBracket ∷ (expression i ++ mark marks.CloseBracket ∷ more)) ls rest → (mid : List Lexed) × Begins (index_tokens i) ls mid × Begins more mid rest
index_split i more ls rest h = begins_split (index_tokens i) more ls rest (subst (λ (es : List Spelled). Begins (mark marks.OpenBracket ∷ es) ls rest) (sym (append_assoc (expression i) (mark marks.CloseBracket ∷ []) more)) h)
