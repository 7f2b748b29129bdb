-- What the loop over operators keeps.
use Rattle.std.proofs.Common.{◌≡◌, ℕ, zero, suc, ◌+◌, ◌-◌, ◌<◌, ◌≤◌, max, List, Option, Some, None, Result, Ok, Err, true, false, if◌then◌else◌, refl, sym, ap, ◌∙◌, Bool, arith, add-one}
use Rattle.std.specs.Prelude.{nat_lt}
use Rattle.std.proofs.lemmas.Bool.{le-ltb, lt-ltb, ltb-true, ltb-false}
use Rattle.syntax.specs.declared.expr.BinaryOp.{BinaryOp}
use Rattle.syntax.specs.Tree.{Expr, Binary}
use Rattle.syntax.specs.Limits.{operator_level}
use Rattle.parse_lexemes.specs.declared.fault.ParseRule.TheVariants.{TooHigh}
use Rattle.parse_lexemes.specs.declared.fault.ParseError.{ParseError}
use Rattle.parse_lexemes.specs.declared.fault.ParseError.TheVariants.{Memory, Fault}
use Rattle.parse_lexemes.specs.Results.{◌>>=◌, Fails}
use Rattle.parse_lexemes.specs.Lexemes.{Lexed, fault_at}
use Rattle.parse_expressions.specs.Reading.{ReadExpr, operator_at, climb, climb_step, deeper, operand_at, expr_by, expr_at}
use Rattle.parse_expressions.specs.Steps.{right_by, within}
use Rattle.parse_lexemes.specs.Reading.{rest_of}

-- Some steps are left, and what is read from here is all that is read.
pub record Climbs (room least : ℕ) (left : Expr) (high : ℕ) (ls : List Lexed) (total : Result ReadExpr ParseError) : Type 0 where
  pub low : high ≤ room
  pub steps : ℕ
  pub enough : room < high + suc steps
  pub same : climb (deeper room) room least (suc steps) left high ls ≡ total

-- expressions one step deeper are those where there is less room
pub deeper_is : (room least : ℕ) (ls : List Lexed) → 0 < room → deeper room least ls ≡ expr_at (room - 1) least ls
unfolding deeper
deeper_is zero least ls lt = absurd (omega arith)
deeper_is (suc room) least ls lt = let e : suc room - 1 ≡ room = omega arith in rw e refl

-- what comes after an operator, where there is room
pub right_is : (room high : ℕ) (op : BinaryOp) (ls : List Lexed) → high < room → right_by (deeper room) room high op ls ≡ expr_at (room - 1) (operator_level op + 1) (rest_of ls)
right_is room high op ls lt = let some : 0 < room = omega arith in rw (lt-ltb high room lt, deeper_is room (operator_level op + 1) (rest_of ls) some) refl

pub none_since : (o : Option BinaryOp) → ((op : BinaryOp) → o ≡ Some op → ⊥) → None ≡ o
none_since None h = refl
none_since (Some op) h = absurd (h op refl)

pub climbs_start : (room least : ℕ) (ls : List Lexed) (left : Expr) (high : ℕ) (rest : List Lexed) → high ≤ room → operand_at room ls ≡ Ok (left, high, rest) → Climbs room least left high rest (expr_at room least ls)
unfolding expr_by
climbs_start room least ls left high rest low h = record { low = low; steps = room; enough = omega arith; same = sym (rw (h, add-one room) refl) }

pub start_fails : (room least : ℕ) (ls : List Lexed) (f : ParseError) → Fails f (operand_at room ls) → Fails f (expr_at room least ls)
unfolding expr_by
start_fails room least ls Memory h = tt
start_fails room least ls (Fault broken) h = rw h refl

-- an operator within a level is one that comes next
pub within_some : (least : ℕ) (o : Option BinaryOp) (op : BinaryOp) → Some op ≡ within least o → Some op ≡ o
within_some least None op e = absurd cc
within_some least (Some other) op e = elim (nat_lt (operator_level other) least) as (λ b. Some op ≡ (if b then None else Some other) → Some op ≡ Some other) [
  | true ↦ λ e. absurd cc
  | false ↦ λ e. e
] e

pub within_tight : (least : ℕ) (o : Option BinaryOp) (op : BinaryOp) → Some op ≡ within least o → least ≤ operator_level op
within_tight least None op e = absurd cc
within_tight least (Some other) op e =
    elim (nat_lt (operator_level other) least) as (λ b. nat_lt (operator_level other) least ≡ b → Some op ≡ (if b then None else Some other) → least ≤ operator_level op) [
      | true ↦ λ lt e. absurd cc
      | false ↦ λ lt e. let same : op ≡ other = cc in rw same (ltb-false (operator_level other) least lt)
    ] refl e

module _ (room least : ℕ) (left : Expr) (high : ℕ) (ls : List Lexed) (total : Result ReadExpr ParseError) (c : Climbs room least left high ls total) where
  step_is : (o : Option BinaryOp) → o ≡ operator_at ls → climb_step (deeper room) room least (climb (deeper room) room least c.steps) left high ls o ≡ total
  unfolding climb
  step_is o e = ap (climb_step (deeper room) room least (climb (deeper room) room least c.steps) left high ls) e ∙ c.same

  -- no operator comes, or a looser one
  pub climb_none : None ≡ operator_at ls → total ≡ Ok (left, high, ls)
  climb_none e = sym (step_is None e)

  pub climb_loose : (op : BinaryOp) → Some op ≡ operator_at ls → operator_level op < least → total ≡ Ok (left, high, ls)
  climb_loose op e lt = sym (step_is (Some op) e) ∙ rw (lt-ltb (operator_level op) least lt) refl

  -- so the loop ends where none is within the level
  done_at : (o : Option BinaryOp) → o ≡ operator_at ls → None ≡ within least o → total ≡ Ok (left, high, ls)
  done_at None e none = climb_none e
  done_at (Some op) e none =
      elim (nat_lt (operator_level op) least) as (λ b. nat_lt (operator_level op) least ≡ b → None ≡ (if b then None else Some op) → total ≡ Ok (left, high, ls)) [
        | true ↦ λ lt n. climb_loose op e (ltb-true (operator_level op) least lt)
        | false ↦ λ lt n. absurd cc
      ] refl none

  pub climb_done : None ≡ within least (operator_at ls) → total ≡ Ok (left, high, ls)
  climb_done none = done_at (operator_at ls) refl none

  -- the right operand, and what is read after the larger expression
  after_right : (op : BinaryOp) → Result ReadExpr ParseError → Result ReadExpr ParseError
  after_right op right = right >>= λ r. climb (deeper room) room least c.steps (Binary op left r.0) (1 + max high r.1) r.2

  joined : (op : BinaryOp) → Some op ≡ operator_at ls → least ≤ operator_level op → total ≡ after_right op (right_by (deeper room) room high op ls)
  unfolding after_right
  joined op e le = sym (step_is (Some op) e) ∙ rw (le-ltb (operator_level op) least le) (chosen (nat_lt high room))
    where
      chosen : (b : Bool) → (if b then (deeper room (operator_level op + 1) (rest_of ls) >>= λ r. climb (deeper room) room least c.steps (Binary op left r.0) (1 + max high r.1) r.2) else Err (fault_at TooHigh ls))
          ≡ after_right op (if b then deeper room (operator_level op + 1) (rest_of ls) else Err (fault_at TooHigh ls))
      chosen true = refl
      chosen false = refl

  pub climb_fails : (op : BinaryOp) (f : ParseError) → Some op ≡ operator_at ls → least ≤ operator_level op → Fails f (right_by (deeper room) room high op ls) → Fails f total
  unfolding after_right
  climb_fails op Memory e le h = tt
  climb_fails op (Fault broken) e le h = joined op e le ∙ rw h refl

  pub climb_on : (op : BinaryOp) (right : Expr) (height : ℕ) (rest : List Lexed) → Some op ≡ operator_at ls → least ≤ operator_level op → high < room → height < room → right_by (deeper room) room high op ls ≡ Ok (right, height, rest) → Climbs room least (Binary op left right) (1 + max high height) rest total
  unfolding after_right
  climb_on op right height rest e le low_left low_right h =
      let on : climb (deeper room) room least c.steps (Binary op left right) (1 + max high height) rest ≡ total = sym (joined op e le ∙ rw h refl) in
      climbs_from (Binary op left right) (1 + max high height) rest (omega arith) c.steps (omega (arith, c.enough)) on
    where
      climbs_from : (next : Expr) (high' : ℕ) (rest : List Lexed) → high' ≤ room → (steps : ℕ) → room < high' + steps → climb (deeper room) room least steps next high' rest ≡ total → Climbs room least next high' rest total
      climbs_from next high' rest low zero enough same = absurd (omega arith)
      climbs_from next high' rest low (suc steps) enough same = record { low = low; steps = steps; enough = enough; same = same }

-- an operand after which no operator comes is the whole expression
pub alone : (room least : ℕ) (e : Expr) (ls rest : List Lexed) → operand_at room ls ≡ Ok (e, 0, rest) → None ≡ within least (operator_at rest) → expr_at room least ls ≡ Ok (e, 0, rest)
alone room least e ls rest read none = climb_done room least e 0 rest (expr_at room least ls) (climbs_start room least ls e 0 rest (omega arith) read) none
