-- The words that values are written as are read as these values.
use Rattle.std.proofs.Common.{◌≡◌, ℕ, zero, suc, ◌-◌, ◌^◌, ◌<◌, ◌≤◌, Bool, true, false, List, [], ◌∷◌, length, map, min, Some, refl, sym, ap, ◌∙◌, arith}
use Rattle.std.specs.Prelude.{codes, decimal, not, ◌==◌, nat_le, ℤ, pos, negsuc}
use Rattle.std.specs.Fmt.{signed_decimal}
use Rattle.std.specs.Char.{is_ascii_digit}
use Rattle.std.specs.List.{list_all}
use Rattle.std.specs.Str.{all_ascii_digits}
use Rattle.std.proofs.lemmas.Bool.{and_from, and_parts, leb-true, ltb-true}
use Rattle.std.proofs.lemmas.Bool.Decides.{nat_tests}
use Rattle.std.proofs.lemmas.Fmt.{decimal_nonempty, digits_decimal}
use Rattle.std.proofs.lemmas.Str.Parse.{numerals_by_value, tells_all_ascii_digits}
use Rattle.base.specs.Bytes.{is_some_byte}
use Rattle.base.specs.declared.element.ElementType.{ElementType}
use Rattle.base.specs.declared.element.ElementType.TheVariants.{Int as JInt, Short as JShort, Byte as JByte, Char as JChar}
use Rattle.world_schedules.specs.Numbers.{natural_of}
use Rattle.world_schedules.specs.ReadingWords.{with_word}
use Rattle.world_lines.specs.ReadingValues.{value_named, values_named, element_named}
use Rattle.world_values.specs.WorldLines.{WorldValue, NumberValue, NullValue, NamedObject, NamedClass, has_no_space, is_line_word, is_value_word, value_text, element_letter}
use Rattle.world_values.specs.WorldRules.{is_in_range, value_in_range}
use Rattle.world_schedules.proofs.MeantSchedules.{natural_of-decimal}
use Rattle.world_schedules.proofs.ScheduleLaws.{decimal-natural_of}

-- ---- numbers

-- any number is read as it is written
natural_of-written : (n : ℕ) → n < 2 ^ 64 → natural_of (decimal n) ≡ Some n
natural_of-written zero small = ap natural_of (decimal-natural_of (codes "0") 0 refl (omega arith))
natural_of-written (suc n) small = natural_of-decimal (suc n) (omega arith) small

-- a number's first byte is a digit
record BeginsWithDigit (bytes : List ℕ) : Type 0 where
  digit : ℕ
  rest : List ℕ
  is : bytes ≡ digit ∷ rest
  low : 48 ≤ digit
  high : digit ≤ 57

begins : (bytes : List ℕ) → 0 < length bytes → all_ascii_digits bytes ≡ true → BeginsWithDigit bytes
begins [] some h = absurd (omega arith)
begins (d ∷ ds) some h =
    let a = and_parts (is_ascii_digit d) (all_ascii_digits ds) h in
    let b = and_parts (nat_le 48 d) (nat_le d 57) a.0 in
    let low : 48 ≤ d = grind (arith, nat_tests, b.0) in
    let high : d ≤ 57 = grind (arith, nat_tests, b.1) in
    record { digit = d; rest = ds; is = refl; low = low; high = high }

decimal_begins : (n : ℕ) → n < 2 ^ 64 → BeginsWithDigit (decimal n)
decimal_begins n small = begins (decimal n) (decimal_nonempty n small) (digits_decimal (numerals_by_value (λ ds. all_ascii_digits ds ≡ true) tells_all_ascii_digits) n small)

-- a word that begins with a digit is read as the number
digit_word : (d : ℕ) (ds : List ℕ) (n : ℕ) → 48 ≤ d → d ≤ 57 → n < 2 ^ 31 → natural_of (d ∷ ds) ≡ Some n → value_named (d ∷ ds) ≡ Some (NumberValue (pos n))
unfolding value_named
digit_word d ds n low high small h =
    let at : (d == 64) ≡ false = grind (arith, nat_tests, high) in
    let c : (d == 99) ≡ false = grind (arith, nat_tests, high) in
    let nul : (d == 110) ≡ false = grind (arith, nat_tests, high) in
    let minus : (d == 45) ≡ false = grind (arith, nat_tests, low) in
    let same : min n (2 ^ 63 - 1) ≡ n = omega (arith, small) in
    rw (at, c, nul, minus, h, same) refl

below_word : (ds : List ℕ) (m : ℕ) → m < 2 ^ 31 → natural_of ds ≡ Some (suc m) → value_named (45 ∷ ds) ≡ Some (NumberValue (negsuc m))
unfolding value_named
below_word ds m small h =
    let same : min (suc m - 1) (2 ^ 63 - 1) ≡ m = omega (arith, small) in
    let some : (suc m == 0) ≡ false = grind (arith, nat_tests) in
    rw (h, some, same) refl

number_read : (z : ℤ) → is_in_range JInt z ≡ true → value_named (signed_decimal z) ≡ Some (NumberValue z)
number_read (pos n) range =
    let low : n ≤ 2147483647 = grind (arith, nat_tests, range) in
    let b = decimal_begins n (omega (arith, low)) in
    let read = natural_of-written n (omega (arith, low)) in
    ap value_named b.is ∙ digit_word b.digit b.rest n b.low b.high (omega (arith, low)) (ap natural_of (sym b.is) ∙ read)
number_read (negsuc m) range =
    let low : m < 2147483648 = grind (arith, nat_tests, range) in
    below_word (decimal (suc m)) m (omega (arith, low)) (natural_of-written (suc m) (omega (arith, low)))

-- ---- words

digits_word : (ds : List ℕ) → all_ascii_digits ds ≡ true → has_no_space ds ≡ true
digits_word [] h = refl
digits_word (d ∷ ds) h =
    let b = and_parts (is_ascii_digit d) (all_ascii_digits ds) h in
    and_from (not (d == 32)) (has_no_space ds) (by_test (d == 32) refl b.0) (digits_word ds b.1)
  where
    by_test : (t : Bool) → (d == 32) ≡ t → is_ascii_digit d ≡ true → not t ≡ true
    by_test false e k = refl
    by_test true e k = let is : d ≡ 32 = grind (arith, nat_tests, e) in absurd (let none : false ≡ true = ap is_ascii_digit (sym is) ∙ k in cc)

begun_word : (bytes : List ℕ) → BeginsWithDigit bytes → is_some_byte bytes ≡ true
begun_word bytes b = ap is_some_byte b.is

pub decimal_word : (n : ℕ) → n < 2 ^ 64 → is_line_word (decimal n) ≡ true
decimal_word n small =
    and_from (is_some_byte (decimal n)) (has_no_space (decimal n)) (begun_word (decimal n) (decimal_begins n small))
    (digits_word (decimal n) (digits_decimal (numerals_by_value (λ ds. all_ascii_digits ds ≡ true) tells_all_ascii_digits) n small))

number_word : (z : ℤ) → is_in_range JInt z ≡ true → is_line_word (signed_decimal z) ≡ true
number_word (pos n) range = let low = leb-true n 2147483647 range in decimal_word n (omega (arith, low))
number_word (negsuc m) range =
    let low = ltb-true m 2147483648 range in
    (and_parts (is_some_byte (decimal (suc m))) (has_no_space (decimal (suc m))) (decimal_word (suc m) (omega (arith, low)))).1

-- the words of values
pub value_word : (v : WorldValue) → is_value_word v ≡ true → value_in_range JInt v ≡ true → is_line_word (value_text v) ≡ true
value_word (NumberValue z) h range = number_word z range
value_word NullValue h range = refl
value_word (NamedObject x) h range = h
value_word (NamedClass name) h range = h

pub value_words : (vs : List WorldValue) → list_all is_value_word vs ≡ true → list_all (value_in_range JInt) vs ≡ true → list_all is_line_word (map value_text vs) ≡ true
value_words [] h range = refl
value_words (v ∷ vs) h range =
    let w = and_parts (is_value_word v) (list_all is_value_word vs) h in
    let r = and_parts (value_in_range JInt v) (list_all (value_in_range JInt) vs) range in
    and_from (is_line_word (value_text v)) (list_all is_line_word (map value_text vs)) (value_word v w.0 r.0) (value_words vs w.1 r.1)

-- ---- values

value_read : (v : WorldValue) → value_in_range JInt v ≡ true → value_named (value_text v) ≡ Some v
unfolding value_named
value_read (NumberValue z) range = number_read z range
value_read NullValue range = refl
value_read (NamedObject x) range = refl
value_read (NamedClass name) range = refl

pub values_read : (vs : List WorldValue) → list_all (value_in_range JInt) vs ≡ true → values_named (map value_text vs) ≡ Some vs
values_read [] range = refl
values_read (v ∷ vs) range =
    let r = and_parts (value_in_range JInt v) (list_all (value_in_range JInt) vs) range in
    ap (λ o. with_word o (values_named (map value_text vs))) (value_read v r.0) ∙ ap (with_word (Some v)) (values_read vs r.1)

-- ---- the letter of a type

pub element_read : (t : ElementType) → element_named (element_letter t) ≡ Some t
element_read JInt = refl
element_read JShort = refl
element_read JByte = refl
element_read JChar = refl

pub element_word : (t : ElementType) → is_line_word (element_letter t) ≡ true
element_word JInt = refl
element_word JShort = refl
element_word JByte = refl
element_word JChar = refl
