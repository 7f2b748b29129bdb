-- `jint`s, each as the word that is its two's complement.
use Rattle.std.proofs.Common.{◌≡◌, ℕ, suc, ◌-◌, ◌%◌, ◌^◌, ◌<◌, ◌≤◌, Bool, false, not, ℤ, negsuc, sym, ap, ◌∙◌, arith}
use Rattle.std.specs.Prelude.{◌==◌, nat_lt, int_lt, int_le, FitsSigned}
use Rattle.std.specs.Bool.{Decides}
use Rattle.std.specs.Int.{w32, cast_signed, cast_unsigned}
use Rattle.std.specs.Ordering.{int_eq}
use Rattle.std.proofs.lemmas.Bool.{le-ltb}
use Rattle.std.proofs.lemmas.Bool.Decides.{Decides-eqb, Decides-int_eq, same_from_decides}
use Rattle.std.proofs.lemmas.Int.{ints, to_z-of_z}
use Rattle.code.specs.declared.instr.Operator.TheVariants.{Equal, NotEqual, SignedLess, SignedLessEqual, SignedGreater, SignedGreaterEqual}
use Rattle.base.specs.declared.element.ElementType.{ElementType}
use Rattle.base.specs.declared.element.ElementType.TheVariants.{Int, Short, Byte, Char}
use Rattle.code.specs.Effect.{truth_word, operate, element_word}

-- a `jint` is in the range of its type
module _ (a b : ℤ) (a_fits : FitsSigned w32 a) (b_fits : FitsSigned w32 b) where
  same_words : cast_unsigned w32 a ≡ cast_unsigned w32 b → a ≡ b
  same_words h = sym (to_z-of_z w32 a a_fits) ∙ ap (cast_signed w32) h ∙ to_z-of_z w32 b b_fits

  -- the words are equal where the numbers are
  pub equal_words : (cast_unsigned w32 a == cast_unsigned w32 b) ≡ int_eq a b
  equal_words =
      let words = Decides-eqb (cast_unsigned w32 a) (cast_unsigned w32 b) in
      let decides : Decides (cast_unsigned w32 a == cast_unsigned w32 b) (a ≡ b) = (λ h. same_words (words.0 h), λ h. words.1 (ap (cast_unsigned w32) h)) in
      same_from_decides (cast_unsigned w32 a == cast_unsigned w32 b) (int_eq a b) decides (Decides-int_eq a b)

  pub operate_equal : operate Equal (cast_unsigned w32 a) (cast_unsigned w32 b) ≡ truth_word (int_eq a b)
  operate_equal = ap truth_word equal_words

  pub operate_not_equal : operate NotEqual (cast_unsigned w32 a) (cast_unsigned w32 b) ≡ truth_word (not (int_eq a b))
  operate_not_equal = ap (λ r. truth_word (not r)) equal_words

  -- the signed comparisons are those of the numbers
  compared : (test : ℤ → ℤ → Bool) → truth_word (test (cast_signed w32 (cast_unsigned w32 a)) (cast_signed w32 (cast_unsigned w32 b))) ≡ truth_word (test a b)
  compared test = ap (λ x. truth_word (test x (cast_signed w32 (cast_unsigned w32 b)))) (to_z-of_z w32 a a_fits) ∙ ap (λ y. truth_word (test a y)) (to_z-of_z w32 b b_fits)

  pub operate_less : operate SignedLess (cast_unsigned w32 a) (cast_unsigned w32 b) ≡ truth_word (int_lt a b)
  operate_less = compared int_lt

  pub operate_less_equal : operate SignedLessEqual (cast_unsigned w32 a) (cast_unsigned w32 b) ≡ truth_word (int_le a b)
  operate_less_equal = compared int_le

  pub operate_greater : operate SignedGreater (cast_unsigned w32 a) (cast_unsigned w32 b) ≡ truth_word (int_lt b a)
  operate_greater = compared (λ x y. int_lt y x)

  pub operate_greater_equal : operate SignedGreaterEqual (cast_unsigned w32 a) (cast_unsigned w32 b) ≡ truth_word (int_le b a)
  operate_greater_equal = compared (λ x y. int_le y x)

-- the word of a negative `jint` is below no array's length
pub negative_index : (n len : ℕ) → FitsSigned w32 (negsuc n) → len ≤ 1024 → nat_lt (cast_unsigned w32 (negsuc n)) len ≡ false
negative_index n len fits h =
    let range : n < 2147483648 = fits.sfits in
    le-ltb (4294967296 - suc n) len (omega arith)

-- what is in an element is a `jint`'s word
pub element_fits : (type : ElementType) (word : ℕ) → word < 2 ^ 32 → element_word type word < 2 ^ 32
element_fits Int word h = h
element_fits Short word h = let low : word % 65536 < 65536 = omega arith in omega (arith, ints)
element_fits Byte word h = let low : word % 256 < 256 = omega arith in omega (arith, ints)
element_fits Char word h = omega arith
