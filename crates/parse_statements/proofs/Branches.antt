-- A statement, read as how it begins and its blocks.
use Rattle.std.proofs.Common.{◌≡◌, ℕ, ◌-◌, ◌≤◌, Bool, true, false, List, Some, None, Result, Ok, Err, refl, ◌∙◌, if◌then◌else◌}
use Rattle.std.specs.Prelude.{◌&&◌, ◌||◌, ◌==◌}
use Rattle.scan.specs.declared.token.Mark.TheVariants as marks
use Rattle.scan.specs.declared.reserved.Word.TheVariants as words
use Rattle.syntax.specs.Tree.{Expr, Test, If, NoElse, Block}
use Rattle.parse_lexemes.specs.declared.first.Fixed.TheVariants as fixed
use Rattle.parse_lexemes.specs.declared.fault.ParseRule.TheVariants.{TooHigh}
use Rattle.parse_lexemes.specs.declared.fault.ParseError.{ParseError}
use Rattle.parse_lexemes.specs.declared.fault.ParseError.TheVariants.{Memory, Fault}
use Rattle.parse_lexemes.specs.Results.{◌>>=◌, Fails}
use Rattle.parse_lexemes.specs.Lexemes.{Lexed, line_at, fault_at, expect}
use Rattle.parse_lexemes.specs.Reading.{starts_with, rest_of}
use Rattle.parse_statements.specs.Reading.{BlockReader, ReadBlock, ReadStmt, simple_at, else_by, if_test_at, if_by, while_test_at, while_by, statement_by, inner, statement_at, block_at}
use Rattle.parse_statements.specs.Steps.{Head, IfHead, WhileHead, ReadHead, OtherRead, BranchesRead, nested_head_at, takes_other, nested_made, nested_of, both_of, second_of, other_at, branches_at}
use Rattle.parse_statements.proofs.Blocks.{inner_is}
use Rattle.parse_statements.proofs.Steps.{last, last_two}

-- what is read of a statement that begins so, or of one without blocks
abbrev pub statement_from : BlockReader → (room free : ℕ) → List Lexed → ReadHead → Result ReadStmt ParseError
statement_from deep room free ls None = simple_at room free ls
statement_from deep room free ls (Some x) = nested_of (line_at ls) x.0 (branches_at deep free (takes_other x.0) x.1)

module _ (deep : BlockReader) (line : ℕ) (test : Test) where
  -- the value that is made of the second block
  made : Block → OtherRead → Result ReadStmt ParseError
  made body o = Ok (nested_made line (IfHead test) body o.0, o.1, o.2)

  all : BranchesRead → Result ReadStmt ParseError
  all w = Ok (nested_made line (IfHead test) w.0 w.1, w.2, w.3)

  else_is : (body : Block) (free : ℕ) (ls : List Lexed) → else_by deep line test body free ls ≡ (other_at deep free true ls >>= made body)
  unfolding else_by other_at made
  else_is body free ls = chosen (starts_with (fixed.Word words.Else) ls)
    where
      chosen : (b : Bool) → (if b then (expect (fixed.Mark marks.OpenBrace) (rest_of ls) >>= λ within. deep free within >>= λ o. made body (Some o.0, o.1, o.2)) else Ok (If line test body NoElse, free, ls))
          ≡ ((if b then (expect (fixed.Mark marks.OpenBrace) (rest_of ls) >>= λ within. second_of (deep free within)) else Ok (None, free, ls)) >>= made body)
      chosen true = last_two (expect (fixed.Mark marks.OpenBrace) (rest_of ls)) (λ within. deep free within) (λ within (o : ReadBlock). (Some o.0, o.1, o.2)) (made body)
      chosen false = refl

  branches_are : (r : Result ReadBlock ParseError) → (r >>= λ b. else_by deep line test b.0 b.1 b.2) ≡ (r >>= (λ b. both_of b.0 (other_at deep b.1 true b.2)) >>= all)
  unfolding made all
  branches_are (Ok b) = else_is b.0 b.1 b.2 ∙ last (other_at deep b.1 true b.2) (λ (o : OtherRead). (b.0, o.0, o.1, o.2)) all
  branches_are (Err e) = refl

module _ (deep : BlockReader) (room free : ℕ) (ls : List Lexed) where
  -- where it begins with `if`
  if_is : (r : Result (Test × List Lexed) ParseError) → (r >>= λ t. deep free t.1 >>= λ b. else_by deep (line_at ls) t.0 b.0 b.1 b.2) ≡ (r >>= (λ t. Ok (Some (IfHead t.0, t.1))) >>= λ h. statement_from deep room free ls h)
  unfolding branches_at all
  if_is (Ok t) = branches_are deep (line_at ls) t.0 (deep free t.1)
  if_is (Err e) = refl

  -- where it begins with `while`
  body_is : (test : Expr) (r : Result ReadBlock ParseError) → (r >>= λ b. nested_of (line_at ls) (WhileHead test) (Ok (b.0, None, b.1, b.2))) ≡ nested_of (line_at ls) (WhileHead test) (r >>= λ b. both_of b.0 (other_at deep b.1 false b.2))
  unfolding other_at
  body_is test (Ok b) = refl
  body_is test (Err e) = refl

  while_is : (r : Result (Expr × List Lexed) ParseError) → (r >>= λ t. deep free t.1 >>= λ b. nested_of (line_at ls) (WhileHead t.0) (Ok (b.0, None, b.1, b.2))) ≡ (r >>= (λ t. Ok (Some (WhileHead t.0, t.1))) >>= λ h. statement_from deep room free ls h)
  unfolding branches_at
  while_is (Ok t) = body_is t.0 (deep free t.1)
  while_is (Err e) = refl

  choice : (z i w : Bool) (f : ParseError) (a b : Result ReadStmt ParseError) (a' b' : Result ReadHead ParseError) → a ≡ (a' >>= λ h. statement_from deep room free ls h) → b ≡ (b' >>= λ h. statement_from deep room free ls h)
      → (if i then (if z then Err f else a) else if w then (if z then Err f else b) else simple_at room free ls)
      ≡ ((if z && (i || w) then Err f else if i then a' else if w then b' else Ok None) >>= λ h. statement_from deep room free ls h)
  choice true true w f a b a' b' ea eb = refl
  choice true false true f a b a' b' ea eb = refl
  choice true false false f a b a' b' ea eb = refl
  choice false true w f a b a' b' ea eb = ea
  choice false false true f a b a' b' ea eb = eb
  choice false false false f a b a' b' ea eb = refl

  pub statement_is : statement_by deep room free ls ≡ (nested_head_at room ls >>= λ h. statement_from deep room free ls h)
  unfolding statement_by nested_head_at if_by while_by
  statement_is =
      choice (room == 0) (starts_with (fixed.Word words.If) ls) (starts_with (fixed.Word words.While) ls) (fault_at TooHigh ls) (if_by deep room free (line_at ls) (rest_of ls)) (while_by deep room free (line_at ls) (rest_of ls))
      (if_test_at room (rest_of ls) >>= λ t. Ok (Some (IfHead t.0, t.1))) (while_test_at room (rest_of ls) >>= λ t. Ok (Some (WhileHead t.0, t.1))) (if_is (if_test_at room (rest_of ls))) (while_is (while_test_at room (rest_of ls)))

-- how the cases of a statement are read
module _ (room free : ℕ) (ls : List Lexed) where
  pub statement_fails : (f : ParseError) → Fails f (nested_head_at room ls) → Fails f (statement_at room free ls)
  statement_fails Memory h = tt
  statement_fails (Fault broken) h = rw (statement_is (inner room) room free ls, h) refl

  pub statement_simple : nested_head_at room ls ≡ Ok None → statement_at room free ls ≡ simple_at room free ls
  statement_simple h = rw (statement_is (inner room) room free ls, h) refl

  pub statement_nested : (head : Head) (rest : List Lexed) → nested_head_at room ls ≡ Ok (Some (head, rest)) → statement_at room free ls ≡ nested_of (line_at ls) head (branches_at (inner room) free (takes_other head) rest)
  statement_nested head rest h = rw (statement_is (inner room) room free ls, h) refl

  pub branches_fail : (otherwise : Bool) (f : ParseError) → 1 ≤ room → Fails f (block_at (room - 1) free ls) → Fails f (branches_at (inner room) free otherwise ls)
  unfolding branches_at
  branches_fail otherwise Memory some h = tt
  branches_fail otherwise (Fault broken) some h = rw (inner_is room free ls some, h) refl

  pub branches_on : (otherwise : Bool) (body : Block) (left : ℕ) (rest : List Lexed) → 1 ≤ room → block_at (room - 1) free ls ≡ Ok (body, left, rest) → branches_at (inner room) free otherwise ls ≡ both_of body (other_at (inner room) left otherwise rest)
  unfolding branches_at
  branches_on otherwise body left rest some h = rw (inner_is room free ls some, h) refl

  pub other_fails : (otherwise : Bool) (f : ParseError) → otherwise ≡ true → starts_with (fixed.Word words.Else) ls ≡ true → Fails f (expect (fixed.Mark marks.OpenBrace) (rest_of ls)) → Fails f (other_at (inner room) free otherwise ls)
  unfolding other_at
  other_fails otherwise Memory may s h = tt
  other_fails otherwise (Fault broken) may s h = rw (may, s, h) refl

  pub other_on : (otherwise : Bool) (within : List Lexed) → otherwise ≡ true → starts_with (fixed.Word words.Else) ls ≡ true → expect (fixed.Mark marks.OpenBrace) (rest_of ls) ≡ Ok within → 1 ≤ room → other_at (inner room) free otherwise ls ≡ second_of (block_at (room - 1) free within)
  unfolding other_at
  other_on otherwise within may s h some = rw (may, s, h, inner_is room free within some) refl
