-- Operators on values of their types give a value of theirs, or a trap.
use Rattle.std.proofs.Common.{◌≡◌, ℕ, Bool, sym, subst}
use Rattle.std.specs.Prelude.{◌==◌, nat_lt, ℤ, pos, negsuc}
use Rattle.std.proofs.lemmas.Bool.{cond_both}
use Rattle.syntax.specs.declared.expr.PrefixOp.{PrefixOp}
use Rattle.syntax.specs.declared.expr.PrefixOp.TheVariants.{LogicalNot, Complement, ToWord, ToInt}
use Rattle.syntax.specs.declared.expr.BinaryOp.{BinaryOp}
use Rattle.syntax.specs.declared.expr.BinaryOp.TheVariants.{LogicalOr, LogicalAnd, BitOr, BitXor, BitAnd, Equal, NotEqual, Less, LessEqual, Greater, GreaterEqual, ShiftLeft, ShiftRight, Add, Subtract, Multiply, Divide, Remainder}
use Rattle.type_rules.specs.declared.ty.ExprType.{ExprType}
use Rattle.type_rules.specs.ExprTypes.{OperatorGroup, Logic, Equality, Order, OnWords, group}
use Rattle.type_rules.specs.declared.ty.ExprType.TheVariants as types
use Rattle.type_rules.specs.TypeGroups.{IsIndexType, IsNumberType, OperatorFits}
use Rattle.semantics.specs.Term.{index_of}
use Rattle.semantics.specs.declared.trap.Trap.TheVariants.{DivisionByZero, ShiftTooFar}
use Rattle.semantics.specs.declared.value.Value.{Value}
use Rattle.semantics.specs.declared.value.Value.TheVariants.{Word, Int, Flag, Truth}
use Rattle.semantics.specs.Value.{Outcome, Gives, Traps, Stuck, on_words, on_ints, on_flags, binary_value, prefix_value}
use Rattle.semantics_safety.specs.Points.{value_type, PrefixFits}

-- a value of this type, or a trap
abbrev pub ValueFits : ExprType → Outcome Value → Type 0
ValueFits s (Gives v) = value_type v ≡ s
ValueFits s (Traps trap) = Unit {0}
ValueFits s Stuck = ⊥

words_fit : (op : BinaryOp) (a b : ℕ) (s : ExprType) → OperatorFits (group op) types.Word s → ValueFits s (on_words op a b)
words_fit Add a b s h = sym h.1
words_fit Subtract a b s h = sym h.1
words_fit Multiply a b s h = sym h.1
words_fit Divide a b s h = cond_both (b == 0) (Traps DivisionByZero) _ (ValueFits s) (λ e. tt) (λ e. sym h.1)
words_fit Remainder a b s h = cond_both (b == 0) (Traps DivisionByZero) _ (ValueFits s) (λ e. tt) (λ e. sym h.1)
words_fit ShiftLeft a b s h = cond_both (nat_lt b 32) _ (Traps ShiftTooFar) (ValueFits s) (λ e. sym h.1) (λ e. tt)
words_fit ShiftRight a b s h = cond_both (nat_lt b 32) _ (Traps ShiftTooFar) (ValueFits s) (λ e. sym h.1) (λ e. tt)
words_fit BitAnd a b s h = sym h.1
words_fit BitOr a b s h = sym h.1
words_fit BitXor a b s h = sym h.1
words_fit Equal a b s h = sym h.1
words_fit NotEqual a b s h = sym h.1
words_fit Less a b s h = sym h.1
words_fit LessEqual a b s h = sym h.1
words_fit Greater a b s h = sym h.1
words_fit GreaterEqual a b s h = sym h.1
words_fit LogicalOr a b s h = h
words_fit LogicalAnd a b s h = h

no_words : (s : ExprType) → OperatorFits OnWords types.Jint s → ⊥
no_words s h = let e = h.0 in cc

ints_fit : (op : BinaryOp) (a b : ℤ) (s : ExprType) → OperatorFits (group op) types.Jint s → ValueFits s (on_ints op a b)
ints_fit Equal a b s h = sym h.1
ints_fit NotEqual a b s h = sym h.1
ints_fit Less a b s h = sym h.1
ints_fit LessEqual a b s h = sym h.1
ints_fit Greater a b s h = sym h.1
ints_fit GreaterEqual a b s h = sym h.1
ints_fit LogicalOr a b s h = h
ints_fit LogicalAnd a b s h = h
ints_fit op a b s h = no_words s h

no_flags : (s : ExprType) → OperatorFits OnWords types.Flag s → ⊥
no_flags s h = let e = h.0 in cc

flags_fit : (op : BinaryOp) (a b : Bool) (s : ExprType) → OperatorFits (group op) types.Flag s → ValueFits s (on_flags op a b)
flags_fit Equal a b s h = sym h.1
flags_fit NotEqual a b s h = sym h.1
flags_fit LogicalOr a b s h = h
flags_fit LogicalAnd a b s h = h
flags_fit Less a b s h = h.0
flags_fit LessEqual a b s h = h.0
flags_fit Greater a b s h = h.0
flags_fit GreaterEqual a b s h = h.0
flags_fit op a b s h = no_flags s h

no_truths : (g : OperatorGroup) (s : ExprType) → OperatorFits g types.Truth s → ⊥
no_truths Logic s h = h
no_truths Equality s h = h.0
no_truths Order s h = h.0
no_truths OnWords s h = let e = h.0 in cc

pub binary_fits : (op : BinaryOp) (v w : Value) (r s : ExprType) → OperatorFits (group op) r s → value_type v ≡ r → value_type w ≡ r → ValueFits s (binary_value op v w)
binary_fits op (Word a) (Word b) r s h e f = words_fit op a b s (subst (λ (q : ExprType). OperatorFits (group op) q s) (sym e) h)
binary_fits op (Int a) (Int b) r s h e f = ints_fit op a b s (subst (λ (q : ExprType). OperatorFits (group op) q s) (sym e) h)
binary_fits op (Flag a) (Flag b) r s h e f = flags_fit op a b s (subst (λ (q : ExprType). OperatorFits (group op) q s) (sym e) h)
binary_fits op (Truth a) (Truth b) r s h e f = absurd (no_truths (group op) s (subst (λ (q : ExprType). OperatorFits (group op) q s) (sym e) h))
binary_fits op v w r s h e f = absurd (cc)

pub prefix_fits : (op : PrefixOp) (v : Value) (r s : ExprType) → PrefixFits op r s → value_type v ≡ r → ValueFits s (prefix_value op v)
prefix_fits LogicalNot (Truth b) r s h e = sym h.1
prefix_fits LogicalNot (Word n) r s h e = absurd (let f = h.0 in cc)
prefix_fits LogicalNot (Int n) r s h e = absurd (let f = h.0 in cc)
prefix_fits LogicalNot (Flag n) r s h e = absurd (let f = h.0 in cc)
prefix_fits Complement (Word n) r s h e = sym h.1
prefix_fits Complement (Truth n) r s h e = absurd (let f = h.0 in cc)
prefix_fits Complement (Int n) r s h e = absurd (let f = h.0 in cc)
prefix_fits Complement (Flag n) r s h e = absurd (let f = h.0 in cc)
prefix_fits ToWord (Word n) r s h e = sym h.1
prefix_fits ToWord (Int n) r s h e = sym h.1
prefix_fits ToWord (Flag n) r s h e = sym h.1
prefix_fits ToWord (Truth n) r s h e = subst IsNumberType (sym e) h.0
prefix_fits ToInt (Word n) r s h e = sym h.1
prefix_fits ToInt (Int n) r s h e = sym h.1
prefix_fits ToInt (Flag n) r s h e = sym h.1
prefix_fits ToInt (Truth n) r s h e = subst IsNumberType (sym e) h.0

-- an index, or a trap
abbrev pub IndexFits : Outcome ℕ → Type 0
IndexFits (Gives n) = Unit {0}
IndexFits (Traps trap) = Unit {0}
IndexFits Stuck = ⊥

pub index_fits : (v : Value) (r : ExprType) → IsIndexType r → value_type v ≡ r → IndexFits (index_of v)
index_fits (Word n) r h e = tt
index_fits (Int (pos n)) r h e = tt
index_fits (Int (negsuc n)) r h e = tt
index_fits (Flag b) r h e = subst IsIndexType (sym e) h
index_fits (Truth b) r h e = subst IsIndexType (sym e) h
