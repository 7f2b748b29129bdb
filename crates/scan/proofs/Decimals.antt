-- Decimal numbers that are read in one pass.
use Rattle.std.proofs.Common.{◌≡◌, ℕ, zero, suc, ◌+◌, ◌-◌, ◌*◌, ◌<◌, ◌≤◌, Bool, true, false, List, [], ◌∷◌, ◌++◌, length, get_or, take, drop, Some, Result, Ok, refl, sym, ap, subst, ◌∙◌, arith, inl, inr}
use Rattle.std.specs.Prelude.{◌==◌, ◌&&◌}
use Rattle.std.specs.List.{prefix_len}
use Rattle.std.proofs.lemmas.Bool.{or_cases, or_from, ne_eqb}
use Rattle.std.proofs.lemmas.List.{append-nil, get_or-drop, get_or-take, length-take-le, take-append-drop, take_more}
use Rattle.base.specs.Bytes.{is_from_to}
use Rattle.scan.specs.declared.token.Kind.{Kind}
use Rattle.scan.specs.declared.token.Kind.TheVariants.{Number}
use Rattle.scan.specs.declared.fault.ScanRule.{ScanRule}
use Rattle.scan.specs.Bytes.{is_word, is_digit, digit_value, base_value}
use Rattle.scan.specs.Spelling.{Every, IsDigits, IsNumber}
use Rattle.scan.specs.Reading.{Piece, number_at, number_of, number_piece, is_e, is_sign}
use Rattle.scan.proofs.Words.{within_parts, every_append, prefix_front}
use Rattle.scan.proofs.Digits.{number_words, number_again}

abbrev answer : Kind → ℕ → Result Piece ScanRule
answer kind n = Ok (Some kind, n)

-- ---- the digits that are read

-- the first n bytes are decimal digits of this value, at least one
pub record IsFront (text : List ℕ) (n value : ℕ) : Type 0 where
  pub some : 1 ≤ n
  pub within : n ≤ length text
  pub figures : Every (is_digit 10) (take n text)
  pub value_is : base_value 10 0 (take n text) ≡ value
  pub small : value ≤ 1000000245

value_append : (base before : ℕ) (front back : List ℕ) → base_value base before (front ++ back) ≡ base_value base (base_value base before front) back
value_append base before [] back = refl
value_append base before (d ∷ front) back = value_append base (before * base + digit_value d) front back

pub front_more : (text : List ℕ) (n value next : ℕ) → IsFront text n value → n < length text → is_digit 10 (get_or text n 0) ≡ true → next ≡ value * 10 + digit_value (get_or text n 0) → next ≤ 1000000245 → IsFront text (n + 1) next
front_more text n value next h lt figure is small =
    let more : take (n + 1) text ≡ take n text ++ get_or text n 0 ∷ [] = take_more text n 0 lt in
    record {
      some = omega arith;
      within = omega (arith, lt);
      figures = subst (Every (is_digit 10)) (sym more) (every_append (is_digit 10) (take n text) (get_or text n 0 ∷ []) h.figures (figure, tt));
      value_is = ap (base_value 10 0) more ∙ value_append 10 0 (take n text) (get_or text n 0 ∷ []) ∙ ap (λ v. v * 10 + digit_value (get_or text n 0)) h.value_is ∙ sym is;
      small = small;
    }

-- ---- the number that is read

-- its last byte is no e
no_e : (b : ℕ) → b ≤ 57 → is_e b ≡ false
no_e b le = or_from (b == 101) (b == 69) (ne_eqb b 101 (λ e. omega arith)) (ne_eqb b 69 (λ e. omega arith))

figure_low : (b : ℕ) → is_digit 10 b ≡ true → b ≤ 57
figure_low b e =
    elim (or_cases (is_from_to 48 57 b) false e) [
      | inl w ↦ (within_parts 48 57 b w).1
      | inr w ↦ absurd cc
    ]

every_at : (s : List ℕ) (i : ℕ) → Every (is_digit 10) s → i < length s → is_digit 10 (get_or s i 0) ≡ true
every_at [] i h lt = absurd (omega arith)
every_at (b ∷ s) zero h lt = h.0
every_at (b ∷ s) (suc i) h lt = every_at s i h.1 (omega arith)

-- a number of n bytes that no word goes on with, and that doesn't end in e
number_read : (s : List ℕ) (value : ℕ) (unsigned : Bool) (n : ℕ) → n ≤ length s → IsNumber (take n s) value unsigned → is_word (get_or s n 0) ≡ false → is_e (get_or (take n s) (n - 1) 0) ≡ false → number_at s ≡ answer (Number unsigned value) n
unfolding number_at
number_read s value unsigned n le form free plain =
    let split : take n s ++ drop n s ≡ s = take-append-drop n s in
    let rest : get_or (drop n s) 0 0 ≡ get_or s n 0 = get_or-drop n s 0 0 ∙ ap (λ k. get_or s k 0) (omega arith) in
    let size : length (take n s) ≡ n = length-take-le n s le in
    let len : prefix_len is_word (take n s ++ drop n s) ≡ length (take n s) = prefix_front is_word (take n s) (drop n s) (number_words _ value unsigned form) refl (ap is_word rest ∙ free) in
    let same : prefix_len is_word s ≡ n = ap (prefix_len is_word) (sym split) ∙ len ∙ size in
    subst (λ k. number_piece (number_of (take k s)) (is_e (get_or (take k s) (length (take k s) - 1) 0) && is_sign (get_or s k 0)) k ≡ answer (Number unsigned value) n) (sym same) (rw (number_again (take n s) value unsigned form) (rw size (rw plain refl)))

pub formed : (text : List ℕ) (n value : ℕ) → IsFront text n value → (1 < n → get_or text 0 0 ≡ 48 → ⊥) → IsDigits 10 (take n text)
formed text zero value h lead = absurd (let w = h.some in omega (arith, w))
formed [] (suc n) value h lead = absurd (let w = h.within in omega (arith, w))
formed (a ∷ text) (suc zero) value h lead = (h.figures, λ ten nought. refl)
formed (a ∷ text) (suc (suc n)) value h lead = (h.figures, λ ten nought. absurd (lead (omega arith) nought))

some_digits : (s : List ℕ) → IsDigits 10 s → 1 ≤ length s
some_digits [] h = absurd h
some_digits (a ∷ s) h = omega arith

all_digits : (s : List ℕ) → IsDigits 10 s → Every (is_digit 10) s
all_digits [] h = absurd h
all_digits (a ∷ s) h = h.0

-- without u
pub plain_read : (text : List ℕ) (n value : ℕ) → n ≤ length text → IsDigits 10 (take n text) → value ≡ base_value 10 0 (take n text) → value < 2147483648 → is_word (get_or text n 0) ≡ false → number_at text ≡ answer (Number false value) n
plain_read text n value le digits is small free =
    let size : length (take n text) ≡ n = length-take-le n text le in
    let some = some_digits (take n text) digits in
    let last = every_at (take n text) (n - 1) (all_digits (take n text) digits) (omega (arith, size, some)) in
    number_read text value false n le (record {
      base = 10;
      sign = [];
      digits = take n text;
      based = inl (refl, refl);
      formed = digits;
      parts = sym (append-nil (take n text));
      value_is = is;
      small = omega (arith, small);
    }) free (no_e (get_or (take n text) (n - 1) 0) (figure_low _ last))

-- with u
pub unsigned_read : (text : List ℕ) (n value : ℕ) → n < length text → IsDigits 10 (take n text) → value ≡ base_value 10 0 (take n text) → value < 2147483648 → get_or text n 0 ≡ 117 → is_word (get_or text (n + 1) 0) ≡ false → number_at text ≡ answer (Number true value) (n + 1)
unsigned_read text n value lt digits is small mark free =
    let more : take (n + 1) text ≡ take n text ++ get_or text n 0 ∷ [] = take_more text n 0 lt in
    let last : get_or (take (n + 1) text) (n + 1 - 1) 0 ≡ 117 = ap (λ k. get_or (take (n + 1) text) k 0) (omega arith) ∙ get_or-take (n + 1) text n 0 (omega arith) ∙ mark in
    number_read text value true (n + 1) (omega (arith, lt)) (record {
      base = 10;
      sign = [];
      digits = take n text;
      based = inl (refl, refl);
      formed = digits;
      parts = more ∙ ap (λ b. take n text ++ b ∷ []) mark;
      value_is = is;
      small = omega (arith, small);
    }) free (ap is_e last)
