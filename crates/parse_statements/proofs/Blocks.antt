-- What the loop over the statements of a block keeps.
use Rattle.std.proofs.Common.{◌≡◌, ℕ, zero, suc, ◌-◌, ◌<◌, ◌≤◌, Bool, true, false, List, [], ◌∷◌, ◌++◌, length, Result, Ok, Err, refl, sym, ap, ◌∙◌, arith, add-one}
use Rattle.scan.specs.declared.token.Mark.TheVariants as marks
use Rattle.syntax.specs.Tree.{Block, End, Next}
use Rattle.syntax.specs.declared.stmt.Stmt.{Stmt as StmtInMemory}
use Rattle.syntax.specs.Views.{stmt_tree}
use Rattle.syntax.proofs.Blocks.{statements_tree}
use Rattle.parse_lexemes.specs.declared.fault.ParseRule.TheVariants.{NoForm}
use Rattle.parse_lexemes.specs.declared.fault.ParseError.{ParseError}
use Rattle.parse_lexemes.specs.declared.fault.ParseError.TheVariants.{Memory, Fault}
use Rattle.parse_lexemes.specs.declared.first.Fixed.TheVariants as fixed
use Rattle.parse_lexemes.specs.Results.{◌>>=◌, Fails}
use Rattle.parse_lexemes.specs.Lexemes.{Lexed, line_at, fault_at}
use Rattle.parse_lexemes.specs.Reading.{starts_with, rest_of}
use Rattle.parse_statements.specs.Reading.{is_return, ReadBlock, block_by, inner, statement_at, block_at}
use Rattle.parse_statements.proofs.Nested.{statement_takes}

-- blocks one step deeper are those where there is less room
pub inner_is : (room free : ℕ) (ls : List Lexed) → 0 < room → inner room free ls ≡ block_at (room - 1) free ls
unfolding inner
inner_is zero free ls lt = absurd (omega arith)
inner_is (suc room) free ls lt = let e : suc room - 1 ≡ room = omega arith in rw e refl

-- statements that come before a block
abbrev pub before : List StmtInMemory → Block → Block
before [] b = b
before (s ∷ ss) b = Next (stmt_tree s) (before ss b)

pub before_push : (ss : List StmtInMemory) (s : StmtInMemory) (b : Block) → before (ss ++ s ∷ []) b ≡ before ss (Next (stmt_tree s) b)
before_push [] s b = refl
before_push (t ∷ ss) s b = ap (λ (c : Block). Next (stmt_tree t) c) (before_push ss s b)

pub before_end : (ss : List StmtInMemory) (line : ℕ) → before ss (End line) ≡ statements_tree ss line
before_end [] line = refl
before_end (s ∷ ss) line = ap (λ (c : Block). Next (stmt_tree s) c) (before_end ss line)

abbrev pub with_before : List StmtInMemory → Result ReadBlock ParseError → Result ReadBlock ParseError
with_before ss read = read >>= λ b. Ok (before ss b.0, b.1, b.2)

-- What is read from here, after the statements so far, is all that is read.
pub record Fills (room free : ℕ) (ss : List StmtInMemory) (returned : Bool) (ls : List Lexed) (total : Result ReadBlock ParseError) : Type 0 where
  pub steps : ℕ
  pub enough : length ls ≤ steps
  pub same : with_before ss (block_by (inner room) room free (suc steps) returned ls) ≡ total

abbrev given : ℕ → List Lexed → Block → Result ReadBlock ParseError
given free ls b = Ok (b, free, ls)

no_before : (read : Result ReadBlock ParseError) → with_before [] read ≡ read
no_before (Ok x) = refl
no_before (Err f) = refl

pub fills_start : (room free : ℕ) (ls : List Lexed) → Fills room free [] false ls (block_at room free ls)
fills_start room free ls = record { steps = length ls; enough = omega arith; same = no_before (block_by (inner room) room free (suc (length ls)) false ls) ∙ sym (ap (λ n. block_by (inner room) room free n false ls) (add-one (length ls))) }

regroup : (ss : List StmtInMemory) (s : StmtInMemory) (read : Result ReadBlock ParseError) → with_before (ss ++ s ∷ []) read ≡ with_before ss (read >>= λ b. Ok (Next (stmt_tree s) b.0, b.1, b.2))
regroup ss s (Ok x) = ap (given x.1 x.2) (before_push ss s x.0)
regroup ss s (Err e) = refl

module _ (room free : ℕ) (ss : List StmtInMemory) (returned : Bool) (ls : List Lexed) (total : Result ReadBlock ParseError) (f : Fills room free ss returned ls total) where
  pub fills_done : starts_with (fixed.Mark marks.CloseBrace) ls ≡ true → total ≡ Ok (statements_tree ss (line_at ls), free, rest_of ls)
  unfolding block_by
  fills_done s =
      let one : with_before ss (block_by (inner room) room free (suc f.steps) returned ls) ≡ Ok (statements_tree ss (line_at ls), free, rest_of ls) = rw s (ap (given free (rest_of ls)) (before_end ss (line_at ls))) in
      sym f.same ∙ one

  pub fills_refuses : starts_with (fixed.Mark marks.CloseBrace) ls ≡ false → returned ≡ true → total ≡ Err (fault_at NoForm ls)
  unfolding block_by
  fills_refuses s r =
      let one : with_before ss (block_by (inner room) room free (suc f.steps) returned ls) ≡ Err (fault_at NoForm ls) = rw (s, r) refl in
      sym f.same ∙ one

  pub fills_fails : (e : ParseError) → starts_with (fixed.Mark marks.CloseBrace) ls ≡ false → returned ≡ false → Fails e (statement_at room free ls) → Fails e total
  unfolding block_by
  fills_fails Memory s r h = tt
  fills_fails (Fault broken) s r h =
      let one : with_before ss (block_by (inner room) room free (suc f.steps) returned ls) ≡ Err (Fault broken) = rw (s, r, h) refl in
      sym f.same ∙ one

  pub fills_on : (s : StmtInMemory) (left : ℕ) (now_returned : Bool) (after : List Lexed) → starts_with (fixed.Mark marks.CloseBrace) ls ≡ false → returned ≡ false → statement_at room free ls ≡ Ok (stmt_tree s, left, after) → now_returned ≡ is_return (stmt_tree s) → Fills room left (ss ++ s ∷ []) now_returned after total
  unfolding block_by
  fills_on s left now_returned after no_close r h is =
      go f.steps f.enough f.same
    where
      short : length after < length ls
      short = (statement_takes room free ls (stmt_tree s, left, after) h).shorter

      go : (steps : ℕ) → length ls ≤ steps → with_before ss (block_by (inner room) room free (suc steps) returned ls) ≡ total → Fills room left (ss ++ s ∷ []) now_returned after total
      go zero enough same = absurd (omega (arith, short))
      go (suc steps) enough same =
          let one : with_before ss (block_by (inner room) room free (suc (suc steps)) returned ls) ≡ with_before (ss ++ s ∷ []) (block_by (inner room) room left (suc steps) now_returned after) = rw (no_close, r, h, is) (sym (regroup ss s (block_by (inner room) room left (suc steps) (is_return (stmt_tree s)) after))) in
          record { steps = steps; enough = omega (arith, short); same = sym one ∙ same }
