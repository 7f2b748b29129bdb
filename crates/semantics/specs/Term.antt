-- How an expression is worked out, one part a step (ISO/IEC 9899:1999, 6.5).
use Rattle.std.specs.Prelude.{ℕ, Bool, true, false, not, pos, negsuc, Option, Some}
use Rattle.syntax.specs.Tree as tree
use Rattle.base.specs.Bytes.{Identifier}
use Rattle.syntax.specs.declared.expr.PrefixOp.{PrefixOp}
use Rattle.syntax.specs.declared.expr.BinaryOp.{BinaryOp}
use Rattle.syntax.specs.declared.expr.BinaryOp.TheVariants.{LogicalAnd, LogicalOr, Equal, NotEqual}
use Rattle.syntax.specs.declared.expr.Constant.{Constant}
use Rattle.syntax.specs.declared.expr.Constant.TheVariants.{True, False, Commit, Abort, Null}
use Rattle.syntax.specs.Tree.{Expr, Paren}
use Rattle.syntax.specs.Parts.{null_tested}
use Rattle.semantics.specs.Sight.{Sight}
use Rattle.semantics.specs.declared.trap.Trap.TheVariants.{OutOfRange}
use Rattle.semantics.specs.declared.value.Value.{Value}
use Rattle.semantics.specs.declared.value.Value.TheVariants.{Word, Int, Flag, Truth}
use Rattle.semantics.specs.Value.{Outcome, Gives, Traps, Stuck, outcome_then, outcome_map, prefix_value, binary_value}

-- An expression of which some parts are replaced by their values. Operands are worked out from left to right, which C
-- leaves open.
pub data Term : Type 0 where
  Done : Value → Term
  Number : (value : ℕ) (unsigned : Bool) → Term
  Named : Constant → Term
  Read : Identifier → Term
  Element : Identifier → Term → Term
  -- `x == NULL` at true, `x != NULL` at false
  IsNull : Bool → Identifier → Term
  Prefix : PrefixOp → Term → Term
  And Or : Term → Term → Term
  Binary : BinaryOp → Term → Term → Term

-- a binary operator, `&&` and `||` and the null test apart
abbrev pub binary_term : BinaryOp → Option Identifier → Term → Term → Term
binary_term LogicalAnd x a b = And a b
binary_term LogicalOr x a b = Or a b
binary_term Equal (Some x) a b = IsNull true x
binary_term NotEqual (Some x) a b = IsNull false x
binary_term operator x a b = Binary operator a b

-- an expression before its first step; parentheses count for nothing
abbrev pub term_of : Expr → Term
term_of (tree.Number n unsigned) = Number n unsigned
term_of (tree.Named c) = Named c
term_of (tree.Variable x) = Read x
term_of (tree.Element x e) = Element x (term_of e)
term_of (tree.Prefix operator e) = Prefix operator (term_of e)
term_of (tree.Binary operator a b) = binary_term operator (null_tested (tree.Binary operator a b)) (term_of a) (term_of b)
term_of (Paren e) = term_of e

-- ---- the values of the smallest parts

-- a number, with `u` or without
abbrev pub literal : ℕ → Bool → Value
literal n true = Word n
literal n false = Int (pos n)

-- a named constant; NULL has no number
abbrev pub constant : Constant → Outcome Value
constant True = Gives (Flag true)
constant False = Gives (Flag false)
constant Commit = Gives (Int (pos 1))
constant Abort = Gives (Int (pos 2))
constant Null = Stuck

-- an index that isn't negative
abbrev pub index_of : Value → Outcome ℕ
index_of (Word n) = Gives n
index_of (Int (pos n)) = Gives n
index_of (Int (negsuc n)) = Traps OutOfRange
index_of v = Stuck

-- the element at an index
abbrev pub element_value : Sight → Identifier → Value → Outcome Value
element_value sight x i = outcome_then (λ n. outcome_map Int (sight.element x n)) (index_of i)

-- ---- one step

-- what a step makes of a term
abbrev pub Reduction : Type 0
Reduction = Outcome Term

-- a value that was worked out
abbrev pub done : Outcome Value → Reduction
done v = outcome_map Done v

-- the value of a part is used, or the part, which has none yet, takes its step inside the whole
abbrev pub with_part : (Value → Reduction) → (Term → Term) → Term → Reduction → Reduction
with_part use_value whole (Done v) step = use_value v
with_part use_value whole part step = outcome_map whole step

-- `&&` after its left side
abbrev pub and_then : Term → Value → Reduction
and_then b (Truth true) = Gives b
and_then b (Truth false) = Gives (Done (Truth false))
and_then b v = Stuck

-- `||` after its left side
abbrev pub or_else : Term → Value → Reduction
or_else b (Truth true) = Gives (Done (Truth true))
or_else b (Truth false) = Gives b
or_else b v = Stuck

-- the leftmost part that can be reduced is replaced by its value
abbrev pub reduce : Sight → Term → Reduction
reduce sight (Done v) = Stuck
reduce sight (Number n unsigned) = Gives (Done (literal n unsigned))
reduce sight (Named c) = done (constant c)
reduce sight (Read x) = done (sight.number x)
reduce sight (Element x e) = with_part (λ i. done (element_value sight x i)) (Element x) e (reduce sight e)
reduce sight (IsNull true x) = done (outcome_map Truth (sight.is_null x))
reduce sight (IsNull false x) = done (outcome_map (λ b. Truth (not b)) (sight.is_null x))
reduce sight (Prefix operator e) = with_part (λ v. done (prefix_value operator v)) (Prefix operator) e (reduce sight e)
reduce sight (And a b) = with_part (and_then b) (λ t. And t b) a (reduce sight a)
reduce sight (Or a b) = with_part (or_else b) (λ t. Or t b) a (reduce sight a)
reduce sight (Binary operator a b) =
    with_part (λ v. with_part (λ w. done (binary_value operator v w)) (Binary operator (Done v)) b (reduce sight b))
    (λ t. Binary operator t b) a (reduce sight a)
