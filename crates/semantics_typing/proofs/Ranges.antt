-- A number that is converted to an element type is in its range.
use Rattle.std.proofs.Common.{ℕ, ℤ, pos, negsuc, ◌<◌, ◌^◌, ◌%◌, lit<, arith}
use Rattle.std.specs.Prelude.{FitsSigned, IsTrue}
use Rattle.std.specs.Int.{w8, w16, w32, cast_unsigned}
use Rattle.std.proofs.lemmas.Bool.{le-leb, lt-ltb}
use Rattle.std.proofs.Math.Nat.{mod-lt}
use Rattle.std.proofs.Math.Facts.{Fits-of_lt, sfits_to_z}
use Rattle.base.specs.declared.element.ElementType.{ElementType}
use Rattle.base.specs.declared.element.ElementType.TheVariants.{Int as JInt, Short as JShort, Byte as JByte, Char as JChar}
use Rattle.semantics.specs.Value.{convert}
use Rattle.world_values.specs.WorldRules.{is_in_range}

in_int : (z : ℤ) → FitsSigned w32 z → IsTrue (is_in_range JInt z)
in_int (pos n) h = le-leb n 2147483647 (omega (arith, h.sfits))
in_int (negsuc n) h = lt-ltb n 2147483648 (omega (arith, h.sfits))

in_short : (z : ℤ) → FitsSigned w16 z → IsTrue (is_in_range JShort z)
in_short (pos n) h = le-leb n 32767 (omega (arith, h.sfits))
in_short (negsuc n) h = lt-ltb n 32768 (omega (arith, h.sfits))

in_byte : (z : ℤ) → FitsSigned w8 z → IsTrue (is_in_range JByte z)
in_byte (pos n) h = le-leb n 127 (omega (arith, h.sfits))
in_byte (negsuc n) h = lt-ltb n 128 (omega (arith, h.sfits))

in_char : (n : ℕ) → n < 2 ^ 16 → IsTrue (is_in_range JChar (pos n))
in_char n h = le-leb n 65535 (omega (arith, h))

pub convert_in_range : (t : ElementType) (z : ℤ) → IsTrue (is_in_range t (convert t z))
convert_in_range JInt z = let small = mod-lt (cast_unsigned w32 z) {m = 2 ^ 32} (lit< tt) in in_int (convert JInt z) (sfits_to_z (Fits-of_lt small))
convert_in_range JShort z = let small = mod-lt (cast_unsigned w32 z) {m = 2 ^ 16} (lit< tt) in in_short (convert JShort z) (sfits_to_z {w = w16} (Fits-of_lt small))
convert_in_range JByte z = let small = mod-lt (cast_unsigned w32 z) {m = 2 ^ 8} (lit< tt) in in_byte (convert JByte z) (sfits_to_z {w = w8} (Fits-of_lt small))
convert_in_range JChar z = in_char (cast_unsigned w32 z % 2 ^ 16) (mod-lt (cast_unsigned w32 z) {m = 2 ^ 16} (lit< tt))

-- 0 is in each range
pub zero_in_range : (t : ElementType) → IsTrue (is_in_range t (pos 0))
zero_in_range JInt = le-leb 0 2147483647 (omega arith)
zero_in_range JShort = le-leb 0 32767 (omega arith)
zero_in_range JByte = le-leb 0 127 (omega arith)
zero_in_range JChar = le-leb 0 65535 (omega arith)

-- and a byte of a text in that of a char
pub byte_in_range : (b : ℕ) → b < 65536 → IsTrue (is_in_range JChar (pos b))
byte_in_range b h = le-leb b 65535 (omega (arith, h))
