-- An operand, read as how it opens and the expression inside.
use Rattle.std.proofs.Common.{◌≡◌, ℕ, ◌+◌, ◌-◌, ◌≤◌, Bool, true, false, List, Some, None, Result, Ok, Err, if◌then◌else◌, refl, ap, ◌∙◌}
use Rattle.std.specs.Prelude.{◌||◌, ◌&&◌, ◌==◌}
use Rattle.base.specs.Bytes.{Identifier}
use Rattle.scan.specs.declared.token.Mark.TheVariants as marks
use Rattle.scan.specs.declared.reserved.Word.TheVariants as words
use Rattle.syntax.specs.declared.expr.PrefixOp.{PrefixOp}
use Rattle.syntax.specs.declared.expr.PrefixOp.TheVariants.{LogicalNot, Complement, ToWord, ToInt}
use Rattle.syntax.specs.Tree.{Expr, Element}
use Rattle.parse_lexemes.specs.declared.first.Fixed.{Fixed}
use Rattle.parse_lexemes.specs.declared.first.Fixed.TheVariants as fixed
use Rattle.parse_lexemes.specs.declared.fault.ParseRule.TheVariants.{TooHigh}
use Rattle.parse_lexemes.specs.declared.fault.ParseError.{ParseError}
use Rattle.parse_lexemes.specs.declared.fault.ParseError.TheVariants.{Memory, Fault}
use Rattle.parse_lexemes.specs.Results.{◌>>=◌, Fails}
use Rattle.parse_lexemes.specs.Lexemes.{Lexed, expect, name_at, fault_at}
use Rattle.parse_lexemes.specs.Reading.{starts_with, rest_of}
use Rattle.parse_expressions.specs.Reading.{Reader, ReadExpr, under_prefix, in_parens, after_paren, index_by, starts_element, element_by, primary_at, operand_by, deeper, expr_at, operand_at, index_at}
use Rattle.parse_expressions.proofs.Climbing.{deeper_is}
use Rattle.parse_expressions.specs.Steps.{Opening, OfPrefix, OfParen, OfElement, ReadOpening, level_inside, operand_of, cast_at, paren_opening_at, bracket_at, element_opening_at, opening_at}

-- what is read of an operand that opens so, or of one without an expression inside
abbrev pub operand_from : Reader → List Lexed → ReadOpening → Result ReadExpr ParseError
operand_from deep ls None = primary_at ls
operand_from deep ls (Some x) = deep (level_inside x.0) x.1 >>= λ e. operand_of x.0 e

abbrev until_bracket : ReadExpr → Result ReadExpr ParseError
until_bracket i = expect (fixed.Mark marks.CloseBracket) i.2 >>= λ after. Ok (i.0, i.1, after)

abbrev element_of : Identifier → ReadExpr → Result ReadExpr ParseError
element_of name i = Ok (Element name i.0, 1 + i.1, i.2)

module _ (deep : Reader) (ls : List Lexed) where
  cast_is : (op : PrefixOp) (r : Result (List Lexed) ParseError) → (r >>= λ after. under_prefix deep op after) ≡ (r >>= (λ after. Ok (Some (OfPrefix op, after))) >>= λ o. operand_from deep ls o)
  unfolding under_prefix
  cast_is op (Ok after) = refl
  cast_is op (Err e) = refl

  -- where it opens with a parenthesis
  by_word : (a b : Bool) (from : List Lexed) → (if a then (expect (fixed.Mark marks.CloseParen) (rest_of from) >>= λ after. under_prefix deep ToWord after) else if b then (expect (fixed.Mark marks.CloseParen) (rest_of from) >>= λ after. under_prefix deep ToInt after) else in_parens deep from)
      ≡ ((if a then cast_at ToWord (rest_of from) else if b then cast_at ToInt (rest_of from) else Ok (Some (OfParen, from))) >>= λ o. operand_from deep ls o)
  unfolding in_parens
  by_word true b from = cast_is ToWord (expect (fixed.Mark marks.CloseParen) (rest_of from))
  by_word false true from = cast_is ToInt (expect (fixed.Mark marks.CloseParen) (rest_of from))
  by_word false false from = refl

  paren_is : (from : List Lexed) → after_paren deep from ≡ (paren_opening_at from >>= λ o. operand_from deep ls o)
  unfolding after_paren paren_opening_at
  paren_is from = by_word (starts_with (fixed.Word words.Uint32) from) (starts_with (fixed.Word words.Jint) from) from

-- an index, read as its opening bracket and what comes after it
pub index_is : (room : ℕ) (deep : Reader) (ls : List Lexed) → index_by room deep ls ≡ (bracket_at room ls >>= λ within. deep 0 within >>= λ i. until_bracket i)
unfolding index_by bracket_at
index_is room deep ls = by_room (room == 0)
  where
    by_room : (b : Bool) → (if b then Err (fault_at TooHigh ls) else (expect (fixed.Mark marks.OpenBracket) ls >>= λ within. deep 0 within >>= λ i. until_bracket i))
        ≡ ((if b then Err (fault_at TooHigh ls) else expect (fixed.Mark marks.OpenBracket) ls) >>= λ within. deep 0 within >>= λ i. until_bracket i)
    by_room true = refl
    by_room false = refl

module _ (room : ℕ) (deep : Reader) (ls : List Lexed) where
  ended_is : (name : Identifier) (i : ReadExpr) (r : Result (List Lexed) ParseError) → (r >>= (λ after. Ok (i.0, i.1, after)) >>= λ x. element_of name x) ≡ (r >>= λ after. Ok (Element name i.0, 1 + i.1, after))
  ended_is name i (Ok after) = refl
  ended_is name i (Err e) = refl

  inside_is : (name : Identifier) (r : Result ReadExpr ParseError) → (r >>= (λ i. until_bracket i) >>= λ x. element_of name x) ≡ (r >>= λ e. operand_of (OfElement name) e)
  inside_is name (Ok i) = ended_is name i (expect (fixed.Mark marks.CloseBracket) i.2)
  inside_is name (Err e) = refl

  bracket_is : (name : Identifier) (r : Result (List Lexed) ParseError) → (r >>= (λ within. deep 0 within >>= λ i. until_bracket i) >>= λ x. element_of name x) ≡ (r >>= (λ rest. Ok (Some (OfElement name, rest))) >>= λ o. operand_from deep ls o)
  bracket_is name (Ok within) = inside_is name (deep 0 within)
  bracket_is name (Err e) = refl

  named_is : (r : Result (Identifier × List Lexed) ParseError) → (r >>= λ name. index_by room deep name.1 >>= λ x. element_of name.0 x) ≡ (r >>= (λ name. bracket_at room name.1 >>= λ rest. Ok (Some (OfElement name.0, rest))) >>= λ o. operand_from deep ls o)
  named_is (Ok name) = ap (λ (r : Result ReadExpr ParseError). r >>= λ x. element_of name.0 x) (index_is room deep name.1) ∙ bracket_is name.0 (bracket_at room name.1)
  named_is (Err e) = refl

  element_is : element_by room deep ls ≡ (element_opening_at room ls >>= λ o. operand_from deep ls o)
  unfolding element_by element_opening_at
  element_is = named_is (name_at ls)

  choice : (z t x p e : Bool) (f : ParseError) (a b c d : Result ReadExpr ParseError) (c' d' : Result ReadOpening ParseError) (a' b' : ReadOpening) → a ≡ operand_from deep ls a' → b ≡ operand_from deep ls b' → c ≡ (c' >>= λ o. operand_from deep ls o) → d ≡ (d' >>= λ o. operand_from deep ls o)
      → (if t then (if z then Err f else a) else if x then (if z then Err f else b) else if p then (if z then Err f else c) else if e then d else primary_at ls)
      ≡ ((if z && (t || x || p) then Err f else if t then Ok a' else if x then Ok b' else if p then c' else if e then d' else Ok None) >>= λ o. operand_from deep ls o)
  choice true true x p e f a b c d c' d' a' b' ea eb ec ed = refl
  choice true false true p e f a b c d c' d' a' b' ea eb ec ed = refl
  choice true false false true e f a b c d c' d' a' b' ea eb ec ed = refl
  choice true false false false true f a b c d c' d' a' b' ea eb ec ed = ed
  choice true false false false false f a b c d c' d' a' b' ea eb ec ed = refl
  choice false true x p e f a b c d c' d' a' b' ea eb ec ed = ea
  choice false false true p e f a b c d c' d' a' b' ea eb ec ed = eb
  choice false false false true e f a b c d c' d' a' b' ea eb ec ed = ec
  choice false false false false true f a b c d c' d' a' b' ea eb ec ed = ed
  choice false false false false false f a b c d c' d' a' b' ea eb ec ed = refl

  pub operand_is : operand_by room deep ls ≡ (opening_at room ls >>= λ o. operand_from deep ls o)
  unfolding operand_by opening_at under_prefix
  operand_is =
      choice (room == 0) (starts_with (fixed.Mark marks.Tilde) ls) (starts_with (fixed.Mark marks.Exclamation) ls) (starts_with (fixed.Mark marks.OpenParen) ls) (starts_element ls) (fault_at TooHigh ls)
      (under_prefix deep Complement (rest_of ls)) (under_prefix deep LogicalNot (rest_of ls)) (after_paren deep (rest_of ls)) (element_by room deep ls) (paren_opening_at (rest_of ls)) (element_opening_at room ls)
      (Some (OfPrefix Complement, rest_of ls)) (Some (OfPrefix LogicalNot, rest_of ls)) refl refl (paren_is deep ls (rest_of ls)) element_is

-- where what comes next opens nothing
pub opens_none : (room : ℕ) (ls : List Lexed) → ((f : Fixed) → starts_with f ls ≡ false) → starts_element ls ≡ false → opening_at room ls ≡ Ok None
unfolding opening_at
opens_none room ls no_fixed no_element = rw (no_fixed (fixed.Mark marks.Tilde), no_fixed (fixed.Mark marks.Exclamation), no_fixed (fixed.Mark marks.OpenParen), no_element) (plain (room == 0))
  where
    plain : (b : Bool) → (let read : Result ReadOpening ParseError = if b && false then Err (fault_at TooHigh ls) else Ok None in read) ≡ Ok None
    plain true = refl
    plain false = refl

-- how the cases of an operand are read
module _ (room : ℕ) (ls : List Lexed) where
  pub operand_fails : (f : ParseError) → Fails f (opening_at room ls) → Fails f (operand_at room ls)
  operand_fails Memory h = tt
  operand_fails (Fault broken) h = rw (operand_is room (deeper room) ls, h) refl

  pub operand_plain : opening_at room ls ≡ Ok None → operand_at room ls ≡ primary_at ls
  operand_plain h = rw (operand_is room (deeper room) ls, h) refl

  pub operand_opens : (o : Opening) (rest : List Lexed) → opening_at room ls ≡ Ok (Some (o, rest)) → 1 ≤ room → operand_at room ls ≡ (expr_at (room - 1) (level_inside o) rest >>= λ e. operand_of o e)
  operand_opens o rest h some = rw (operand_is room (deeper room) ls, h, deeper_is room (level_inside o) rest some) refl

  pub inside_fails : (o : Opening) (rest : List Lexed) (f : ParseError) → opening_at room ls ≡ Ok (Some (o, rest)) → 1 ≤ room → Fails f (expr_at (room - 1) (level_inside o) rest) → Fails f (operand_at room ls)
  inside_fails o rest Memory h some fails = tt
  inside_fails o rest (Fault broken) h some fails = rw (operand_opens o rest h some, fails) refl

  pub index_fails : (f : ParseError) → Fails f (bracket_at room ls) → Fails f (index_at room ls)
  index_fails Memory h = tt
  index_fails (Fault broken) h = rw (index_is room (deeper room) ls, h) refl

  index_opens : (within : List Lexed) → bracket_at room ls ≡ Ok within → 1 ≤ room → index_at room ls ≡ (expr_at (room - 1) 0 within >>= λ i. until_bracket i)
  index_opens within h some = rw (index_is room (deeper room) ls, h, deeper_is room 0 within some) refl

  pub index_inside_fails : (within : List Lexed) (f : ParseError) → bracket_at room ls ≡ Ok within → 1 ≤ room → Fails f (expr_at (room - 1) 0 within) → Fails f (index_at room ls)
  index_inside_fails within Memory h some fails = tt
  index_inside_fails within (Fault broken) h some fails = rw (index_opens within h some, fails) refl

  pub index_end_fails : (within : List Lexed) (i : ReadExpr) (f : ParseError) → bracket_at room ls ≡ Ok within → 1 ≤ room → expr_at (room - 1) 0 within ≡ Ok i → Fails f (expect (fixed.Mark marks.CloseBracket) i.2) → Fails f (index_at room ls)
  index_end_fails within i Memory h some read fails = tt
  index_end_fails within i (Fault broken) h some read fails = rw (index_opens within h some, read, fails) refl

  pub index_read : (within rest after : List Lexed) (e : Expr) (height : ℕ) → bracket_at room ls ≡ Ok within → 1 ≤ room → expr_at (room - 1) 0 within ≡ Ok (e, height, rest) → expect (fixed.Mark marks.CloseBracket) rest ≡ Ok after → index_at room ls ≡ Ok (e, height, after)
  index_read within rest after e height h some read closed = rw (index_opens within h some, read, closed) refl
