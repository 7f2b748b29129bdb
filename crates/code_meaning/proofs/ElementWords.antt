-- The element type of an instruction is the one in memory; what is left of a `jint` in an element is its conversion to the element type, as a word.
use Rattle.std.proofs.Common.{◌≡◌, ℤ, ◌<◌, ◌^◌, lit<, refl, sym, arith, mod-eq_of_lt}
use Rattle.std.specs.Prelude.{FitsSigned}
use Rattle.std.specs.Int.{w8, w16, w32, cast_unsigned}
use Rattle.std.proofs.Math.Nat.{mod-lt}
use Rattle.std.proofs.Math.Facts.{Fits-of_lt, Fits-of_z, Fits-lt-pow, of_z-to_z, sfits_to_z}
use Rattle.base.specs.declared.element.ElementType.{ElementType}
use Rattle.base.specs.declared.element.ElementType.TheVariants as element
use Rattle.base.specs.declared.element.ElementType.TheVariants.{Int as JInt, Short as JShort, Byte as JByte, Char as JChar}
use Rattle.code.specs.Effect.{element_word}
use Rattle.semantics.specs.Value.{convert}
use Rattle.code_meaning.specs.Coding.{element_of}

pub element_same : (t : ElementType) → element_of t ≡ t
element_same element.Int = refl
element_same element.Short = refl
element_same element.Byte = refl
element_same element.Char = refl

pub element_words : (t : ElementType) (z : ℤ) → FitsSigned w32 z → element_word (element_of t) (cast_unsigned w32 z) ≡ cast_unsigned w32 (convert t z)
element_words JInt z fits =
    let small : cast_unsigned w32 z < 2 ^ 32 = Fits-lt-pow (Fits-of_z fits) in
    rw (mod-eq_of_lt small) (sym (of_z-to_z {w = w32} (Fits-of_lt small)))
element_words JShort z fits = refl
element_words JByte z fits = refl
element_words JChar z fits = refl

pub convert_fits : (t : ElementType) (z : ℤ) → FitsSigned w32 (convert t z)
convert_fits JInt z = let small = mod-lt (cast_unsigned w32 z) {m = 2 ^ 32} (lit< tt) in sfits_to_z (Fits-of_lt small)
convert_fits JShort z = let small = mod-lt (cast_unsigned w32 z) {m = 2 ^ 16} (lit< tt) in let h = sfits_to_z {w = w16} (Fits-of_lt small) in record { sfits = omega (arith, h.sfits) }
convert_fits JByte z = let small = mod-lt (cast_unsigned w32 z) {m = 2 ^ 8} (lit< tt) in let h = sfits_to_z {w = w8} (Fits-of_lt small) in record { sfits = omega (arith, h.sfits) }
convert_fits JChar z = let small = mod-lt (cast_unsigned w32 z) {m = 2 ^ 16} (lit< tt) in record { sfits = omega arith }
