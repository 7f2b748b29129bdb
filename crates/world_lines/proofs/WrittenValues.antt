-- Words that are read as values are written so.
use Rattle.std.proofs.Common.{◌≡◌, ℕ, suc, ◌-◌, ◌^◌, ◌<◌, ◌≤◌, Bool, true, false, cond, List, [], ◌∷◌, ◌++◌, map, take, drop, min, Option, Some, None, refl, sym, ap, ◌∙◌, subst, arith}
use Rattle.std.specs.Prelude.{codes, decimal, ◌==◌, nat_lt, nat_le, ℤ, pos, negsuc}
use Rattle.std.specs.Fmt.{signed_decimal}
use Rattle.std.specs.Option.{option_map}
use Rattle.std.specs.List.{list_all}
use Rattle.std.specs.Str.{bytes_eq}
use Rattle.std.proofs.lemmas.Bool.{and_from, and_parts, eqb-true}
use Rattle.std.proofs.lemmas.Bool.Decides.{nat_tests}
use Rattle.std.proofs.lemmas.List.{take-append-drop}
use Rattle.std.proofs.lemmas.Option.{cond_some}
use Rattle.std.proofs.lemmas.Slice.Eq.{bytes_eq-Decides}
use Rattle.base.specs.Bytes.{Identifier}
use Rattle.base.specs.declared.element.ElementType.{ElementType}
use Rattle.base.specs.declared.element.ElementType.TheVariants.{Int as JInt, Short as JShort, Byte as JByte, Char as JChar}
use Rattle.world_schedules.specs.Numbers.{natural_of, negated, number_named}
use Rattle.world_lines.specs.ReadingValues.{object_named, plain_value, value_named, values_named, element_named}
use Rattle.world_values.specs.WorldLines.{WorldValue, NumberValue, NullValue, NamedObject, NamedClass, has_no_space, is_value_word, at_name, value_text, element_letter}
use Rattle.world_values.specs.WorldRules.{is_in_range, value_in_range}
use Rattle.world_values.proofs.LoadedWorlds.{number_in_range}
use Rattle.world_schedules.proofs.ScheduleLaws.{some_with, decimal-natural_of}
use Rattle.world_lines.proofs.Tests.{mapped}

-- ---- numbers

below_zero : (n m : ℕ) → (n == 0) ≡ false → m ≡ min (n - 1) (2 ^ 63 - 1) → m < 2147483648 → n < 2 ^ 64 → (suc m ≡ n)
below_zero n m h e small big = let some : 0 < n = grind (arith, nat_tests, h) in omega arith

number_below : (digits : List ℕ) (z : ℤ) → negated (natural_of digits) ≡ Some z → is_in_range JInt z ≡ true → signed_decimal z ≡ 45 ∷ digits
number_below digits z h range = by_value (natural_of digits) refl h
  where
    by_value : (o : Option ℕ) → natural_of digits ≡ o → negated o ≡ Some z → signed_decimal z ≡ 45 ∷ digits
    by_value None e h = absurd (cc)
    by_value (Some n) e h = by_test (n == 0) refl h
      where
        by_test : (b : Bool) → (n == 0) ≡ b → cond b None (Some (negsuc (min (n - 1) (2 ^ 63 - 1)))) ≡ Some z → signed_decimal z ≡ 45 ∷ digits
        by_test true t h = absurd (cc)
        by_test false t h =
            let m = min (n - 1) (2 ^ 63 - 1) in
            let is : negsuc m ≡ z = cc in
            let small : nat_lt m 2147483648 ≡ true = ap (is_in_range JInt) is ∙ range in
            let low : m < 2147483648 = grind (arith, nat_tests, small) in
            let some : 0 < n = grind (arith, nat_tests, t) in
            let exact : suc m ≡ n = omega (arith, low, some) in
            ap signed_decimal (sym is) ∙ ap (λ k. 45 ∷ decimal k) exact ∙ ap (λ (ds : List ℕ). 45 ∷ ds) (decimal-natural_of digits n e (omega (arith, low, exact)))

number_above : (word : List ℕ) (z : ℤ) → option_map (λ n. pos (min n (2 ^ 63 - 1))) (natural_of word) ≡ Some z → is_in_range JInt z ≡ true → signed_decimal z ≡ word
number_above word z h range =
    let n = mapped (λ n. pos (min n (2 ^ 63 - 1))) (natural_of word) z h in
    let small : nat_le (min n.0 (2 ^ 63 - 1)) 2147483647 ≡ true = ap (is_in_range JInt) n.2 ∙ range in
    let low : min n.0 (2 ^ 63 - 1) ≤ 2147483647 = grind (arith, nat_tests, small) in
    let exact : min n.0 (2 ^ 63 - 1) ≡ n.0 = omega (arith, low) in
    ap signed_decimal (sym n.2) ∙ ap decimal exact ∙ decimal-natural_of word n.0 n.1 (omega (arith, low))

-- a number is written as it is read
number_written : (word : List ℕ) (z : ℤ) → number_named word ≡ Some z → is_in_range JInt z ≡ true → signed_decimal z ≡ word
number_written [] z h range = absurd (cc)
number_written (sign ∷ digits) z h range = by_sign (sign == 45) refl h
  where
    by_sign : (b : Bool) → (sign == 45) ≡ b → cond b (negated (natural_of digits)) (option_map (λ n. pos (min n (2 ^ 63 - 1))) (natural_of (sign ∷ digits))) ≡ Some z → signed_decimal z ≡ sign ∷ digits
    by_sign true t h = let is : sign ≡ 45 = grind (arith, nat_tests, t) in number_below digits z h range ∙ ap (λ s. s ∷ digits) (sym is)
    by_sign false t h = number_above (sign ∷ digits) z h range

-- ---- values

-- the name of an object
pub object_written : (word : List ℕ) (x : Identifier) → object_named word ≡ Some x → word ≡ at_name x
object_written [] x h = absurd (cc)
object_written (c ∷ y) x h =
    let g = cond_some (c == 64) y x h in
    ap (λ s. s ∷ y) (eqb-true c 64 g.0) ∙ ap (λ (n : Identifier). 64 ∷ n) g.1

plain_written : (word : List ℕ) (v : WorldValue) → plain_value word ≡ Some v → value_in_range JInt v ≡ true → word ≡ value_text v
plain_written word v h range = by_test (bytes_eq word (codes "null")) refl h
  where
    by_test : (b : Bool) → bytes_eq word (codes "null") ≡ b → cond b (Some NullValue) (option_map NumberValue (number_named word)) ≡ Some v → word ≡ value_text v
    by_test true t h = let is : NullValue ≡ v = cc in (bytes_eq-Decides word (codes "null")).0 t ∙ ap value_text is
    by_test false t h =
        let z = mapped NumberValue (number_named word) v h in
        sym (number_written word z.0 z.1 (ap (value_in_range JInt) z.2 ∙ range)) ∙ ap value_text z.2

value_written : (word : List ℕ) (v : WorldValue) → value_named word ≡ Some v → value_in_range JInt v ≡ true → word ≡ value_text v
unfolding value_named
value_written [] v h range = absurd (cc)
value_written (c ∷ rest) v h range = by_sign (c == 64) (bytes_eq (take 6 (c ∷ rest)) (codes "class:")) refl h
  where
    by_sign : (a b : Bool) → bytes_eq (take 6 (c ∷ rest)) (codes "class:") ≡ b
        → cond a (option_map NamedObject (object_named (c ∷ rest))) (cond b (Some (NamedClass (drop 6 (c ∷ rest)))) (plain_value (c ∷ rest))) ≡ Some v → c ∷ rest ≡ value_text v
    by_sign true b t h =
        let x = mapped NamedObject (object_named (c ∷ rest)) v h in
        object_written (c ∷ rest) x.0 x.1 ∙ ap value_text x.2
    by_sign false true t h =
        let is : NamedClass (drop 6 (c ∷ rest)) ≡ v = cc in
        sym (take-append-drop 6 (c ∷ rest)) ∙ ap (λ (front : List ℕ). front ++ drop 6 (c ∷ rest)) ((bytes_eq-Decides (take 6 (c ∷ rest)) (codes "class:")).0 t) ∙ ap value_text is
    by_sign false false t h = plain_written (c ∷ rest) v h range

-- what is written as a word is one
word_value : (v : WorldValue) → has_no_space (value_text v) ≡ true → is_value_word v ≡ true
word_value (NumberValue z) h = refl
word_value NullValue h = refl
word_value (NamedObject x) h = h
word_value (NamedClass name) h = h

-- words are the texts of values
pub record AreWritten (words : List (List ℕ)) (vs : List WorldValue) : Type 0 where
  pub texts : words ≡ map value_text vs
  pub are_words : list_all is_value_word vs ≡ true

pub values_written : (words : List (List ℕ)) (vs : List WorldValue) → list_all has_no_space words ≡ true → values_named words ≡ Some vs → list_all (value_in_range JInt) vs ≡ true → AreWritten words vs
values_written [] vs free h range = let none : [] ≡ vs = cc in subst (AreWritten []) none (record { texts = refl; are_words = refl })
values_written (word ∷ words) vs free h range =
    let w = some_with (value_named word) (values_named words) vs h in
    let f = and_parts (has_no_space word) (list_all has_no_space words) free in
    let r = and_parts (value_in_range JInt w.0) (list_all (value_in_range JInt) w.1) (ap (list_all (value_in_range JInt)) (sym w.4) ∙ range) in
    let first = value_written word w.0 w.2 r.0 in
    let others = values_written words w.1 f.1 w.3 r.1 in
    subst (AreWritten (word ∷ words)) (sym w.4) (record {
      texts = ap (λ (x : List ℕ). x ∷ words) first ∙ ap (λ (xs : List (List ℕ)). value_text w.0 ∷ xs) others.texts;
      are_words = and_from (is_value_word w.0) (list_all is_value_word w.1) (word_value w.0 (ap has_no_space (sym first) ∙ f.0)) others.are_words;
    })

-- ---- ranges

pub value_in_jint : (t : ElementType) (v : WorldValue) → value_in_range t v ≡ true → value_in_range JInt v ≡ true
value_in_jint t (NumberValue z) h = number_in_range t z h
value_in_jint t NullValue h = refl
value_in_jint t (NamedObject x) h = refl
value_in_jint t (NamedClass x) h = refl

-- ---- the letter of a type

pub element_written : (word : List ℕ) (t : ElementType) → element_named word ≡ Some t → word ≡ element_letter t
element_written word t h = by_letter (bytes_eq word (codes "I")) (bytes_eq word (codes "S")) (bytes_eq word (codes "B")) (bytes_eq word (codes "C")) refl refl refl refl h
  where
    by_letter : (i s b c : Bool) → bytes_eq word (codes "I") ≡ i → bytes_eq word (codes "S") ≡ s → bytes_eq word (codes "B") ≡ b → bytes_eq word (codes "C") ≡ c
        → cond i (Some JInt) (cond s (Some JShort) (cond b (Some JByte) (cond c (Some JChar) None))) ≡ Some t → word ≡ element_letter t
    by_letter true s b c p q r u h = let is : JInt ≡ t = cc in (bytes_eq-Decides word (codes "I")).0 p ∙ ap element_letter is
    by_letter false true b c p q r u h = let is : JShort ≡ t = cc in (bytes_eq-Decides word (codes "S")).0 q ∙ ap element_letter is
    by_letter false false true c p q r u h = let is : JByte ≡ t = cc in (bytes_eq-Decides word (codes "B")).0 r ∙ ap element_letter is
    by_letter false false false true p q r u h = let is : JChar ≡ t = cc in (bytes_eq-Decides word (codes "C")).0 u ∙ ap element_letter is
    by_letter false false false false p q r u h = absurd (cc)
