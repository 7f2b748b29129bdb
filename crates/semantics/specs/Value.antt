-- The values of expressions, and what the operators make of them (ISO/IEC 9899:1999, 6.2.5, 6.3.1 and 6.5).
use Rattle.std.specs.Prelude.{ℕ, ◌+◌, ◌-◌, ◌*◌, ◌/◌, ◌%◌, ◌^◌, Bool, true, false, not, ◌==◌, nat_lt, nat_le, if◌then◌else◌, ℤ, pos, int_lt, int_le, bit_and, bit_or, bit_xor}
use Rattle.std.specs.Int.{cast_signed, cast_unsigned, w8, w16, w32}
use Rattle.std.specs.Ordering.{int_eq}
use Rattle.std.specs.Bool.{beq}
use Rattle.base.specs.declared.element.ElementType.{ElementType}
use Rattle.base.specs.declared.element.ElementType.TheVariants.{Int as JInt, Short as JShort, Byte as JByte, Char as JChar}
use Rattle.syntax.specs.declared.expr.PrefixOp.{PrefixOp}
use Rattle.syntax.specs.declared.expr.PrefixOp.TheVariants.{LogicalNot, Complement, ToWord, ToInt}
use Rattle.syntax.specs.declared.expr.BinaryOp.{BinaryOp}
use Rattle.syntax.specs.declared.expr.BinaryOp.TheVariants.{LogicalOr, LogicalAnd, BitOr, BitXor, BitAnd, Equal, NotEqual, Less, LessEqual, Greater, GreaterEqual, ShiftLeft, ShiftRight, Add, Subtract, Multiply, Divide, Remainder}
use Rattle.semantics.specs.declared.value.Value.{Value}
use Rattle.semantics.specs.declared.value.Value.TheVariants.{Word, Int, Flag, Truth}
use Rattle.semantics.specs.declared.trap.Trap.{Trap}
use Rattle.semantics.specs.declared.trap.Trap.TheVariants.{DivisionByZero, ShiftTooFar, OutOfRange, NullReference, ExceptionPending, WrongObject, DeletedReference, NoCapacity, Fatal, CallsTooDeep}

-- the number under which a trap is reported
abbrev pub trap_number : Trap → ℕ
trap_number DivisionByZero = 1
trap_number ShiftTooFar = 2
trap_number OutOfRange = 3
trap_number NullReference = 4
trap_number ExceptionPending = 5
trap_number WrongObject = 6
trap_number DeletedReference = 7
trap_number NoCapacity = 8
trap_number Fatal = 9
trap_number CallsTooDeep = 10

-- what a computation gives: a result, a trap, or nothing where its parts don't fit, as in no accepted program
pub data Outcome (A : Type 0) : Type 0 where
  Gives : A → Outcome A
  Traps : Trap → Outcome A
  Stuck : Outcome A

-- goes on with the result
abbrev pub outcome_then : {A B : Type 0} → (A → Outcome B) → Outcome A → Outcome B
outcome_then f (Gives a) = f a
outcome_then f (Traps t) = Traps t
outcome_then f Stuck = Stuck

-- the result, put into something larger
abbrev pub outcome_map : {A B : Type 0} → (A → B) → Outcome A → Outcome B
outcome_map f (Gives a) = Gives (f a)
outcome_map f (Traps t) = Traps t
outcome_map f Stuck = Stuck

-- 1 or 0
abbrev pub bit : Bool → ℕ
bit true = 1
bit false = 0

-- modulo 2 to the 32
abbrev pub wrap : ℕ → Value
wrap n = Word (n % 2 ^ 32)

-- arithmetic and comparison of two words
abbrev pub on_words : BinaryOp → ℕ → ℕ → Outcome Value
on_words Add a b = Gives (wrap (a + b))
on_words Subtract a b = Gives (wrap (a + (2 ^ 32 - b)))
on_words Multiply a b = Gives (wrap (a * b))
on_words Divide a b = if b == 0 then Traps DivisionByZero else Gives (Word (a / b))
on_words Remainder a b = if b == 0 then Traps DivisionByZero else Gives (Word (a % b))
on_words ShiftLeft a b = if nat_lt b 32 then Gives (wrap (a * 2 ^ b)) else Traps ShiftTooFar
on_words ShiftRight a b = if nat_lt b 32 then Gives (Word (a / 2 ^ b)) else Traps ShiftTooFar
on_words BitAnd a b = Gives (Word (bit_and a b))
on_words BitOr a b = Gives (Word (bit_or a b))
on_words BitXor a b = Gives (Word (bit_xor a b))
on_words Equal a b = Gives (Truth (a == b))
on_words NotEqual a b = Gives (Truth (not (a == b)))
on_words Less a b = Gives (Truth (nat_lt a b))
on_words LessEqual a b = Gives (Truth (nat_le a b))
on_words Greater a b = Gives (Truth (nat_lt b a))
on_words GreaterEqual a b = Gives (Truth (nat_le b a))
on_words LogicalOr a b = Stuck
on_words LogicalAnd a b = Stuck

-- comparison of two `jint`s
abbrev pub on_ints : BinaryOp → ℤ → ℤ → Outcome Value
on_ints Equal a b = Gives (Truth (int_eq a b))
on_ints NotEqual a b = Gives (Truth (not (int_eq a b)))
on_ints Less a b = Gives (Truth (int_lt a b))
on_ints LessEqual a b = Gives (Truth (int_le a b))
on_ints Greater a b = Gives (Truth (int_lt b a))
on_ints GreaterEqual a b = Gives (Truth (int_le b a))
on_ints operator a b = Stuck

-- comparison of two `jboolean`s
abbrev pub on_flags : BinaryOp → Bool → Bool → Outcome Value
on_flags Equal a b = Gives (Truth (beq a b))
on_flags NotEqual a b = Gives (Truth (not (beq a b)))
on_flags operator a b = Stuck

-- a binary operator, other than `&&` and `||`, between two values
abbrev pub binary_value : BinaryOp → Value → Value → Outcome Value
binary_value operator (Word a) (Word b) = on_words operator a b
binary_value operator (Int a) (Int b) = on_ints operator a b
binary_value operator (Flag a) (Flag b) = on_flags operator a b
binary_value operator a b = Stuck

-- what is left of a number in an element type: a `jchar` is modulo, and the signed types wrap, which C leaves open
abbrev pub convert : ElementType → ℤ → ℤ
convert JInt z = cast_signed w32 (cast_unsigned w32 z % 2 ^ 32)
convert JShort z = cast_signed w16 (cast_unsigned w32 z % 2 ^ 16)
convert JByte z = cast_signed w8 (cast_unsigned w32 z % 2 ^ 8)
convert JChar z = pos (cast_unsigned w32 z % 2 ^ 16)

-- the cast `(uint32_t)`
abbrev pub to_word : Value → Outcome Value
to_word (Word n) = Gives (Word n)
to_word (Int z) = Gives (Word (cast_unsigned w32 z))
to_word (Flag b) = Gives (Word (bit b))
to_word (Truth b) = Stuck

-- the cast `(jint)`
abbrev pub to_int : Value → Outcome Value
to_int (Word n) = Gives (Int (convert JInt (pos n)))
to_int (Int z) = Gives (Int z)
to_int (Flag b) = Gives (Int (pos (bit b)))
to_int (Truth b) = Stuck

-- a prefix operator on a value
abbrev pub prefix_value : PrefixOp → Value → Outcome Value
prefix_value LogicalNot (Truth b) = Gives (Truth (not b))
prefix_value Complement (Word n) = Gives (Word (4294967295 - n))
prefix_value ToWord v = to_word v
prefix_value ToInt v = to_int v
prefix_value operator v = Stuck
