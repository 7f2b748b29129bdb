-- The place of a field among others.
use Rattle.std.proofs.Common.{◌≡◌, ℕ, zero, suc, ◌+◌, ◌<◌, Bool, true, false, cond, List, [], ◌∷◌, length, Some, None, slice_get, nat_lt, refl, sym, ap, ◌∙◌, arith}
use Rattle.std.specs.Prelude.{not, position}
use Rattle.std.specs.List.{position_or_len}
use Rattle.std.specs.Option.{option_map_or}
use Rattle.std.proofs.lemmas.Bool.Decides.{nat_tests}

module _ {A : Type 0} (p : A → Bool) where
  -- none of the first n passes
  abbrev pub NonePasses : List A → ℕ → Type 0
  NonePasses xs n = (i : ℕ) (y : A) → i < n → slice_get xs i ≡ Some y → p y ≡ false

  pub none_more : (xs : List A) (n : ℕ) (x : A) → slice_get xs n ≡ Some x → p x ≡ false → NonePasses xs n → NonePasses xs (n + 1)
  none_more xs n x at fails before = λ i y low there. by_place i y low there (nat_lt i n) refl
    where
      by_place : (i : ℕ) (y : A) → i < n + 1 → slice_get xs i ≡ Some y → (b : Bool) → nat_lt i n ≡ b → p y ≡ false
      by_place i y low there true is = before i y (grind (arith, nat_tests, is)) there
      by_place i y low there false is =
          let last : i ≡ n = grind (arith, nat_tests, is, low) in
          let same : Some x ≡ Some y = sym at ∙ ap (slice_get xs) (sym last) ∙ there in
          let equal : x ≡ y = cc in
          ap p (sym equal) ∙ fails

  first_passing : (xs : List A) (n : ℕ) (x : A) → slice_get xs n ≡ Some x → p x ≡ true → NonePasses xs n → (position_or_len p xs ≡ n) × (n < length xs)
  first_passing [] n x at passes before = absurd (cc)
  first_passing (y ∷ ys) zero x at passes before = let same : y ≡ x = cc in (ap (λ b. cond (not b) (1 + position_or_len p ys) 0) (ap p same ∙ passes), omega arith)
  first_passing (y ∷ ys) (suc n) x at passes before =
      let rest = first_passing ys n x at passes (λ i z low there. before (suc i) z (omega arith) there) in
      let next : 1 + position_or_len p ys ≡ suc n = omega (arith, rest.0) in
      (ap (λ b. cond (not b) (1 + position_or_len p ys) 0) (before 0 y (omega arith) refl) ∙ next, omega (arith, rest.1))

  none_passing : (xs : List A) → NonePasses xs (length xs) → position_or_len p xs ≡ length xs
  none_passing [] none = refl
  none_passing (y ∷ ys) none =
      let rest = none_passing ys (λ i z low there. none (suc i) z (omega arith) there) in
      let next : 1 + position_or_len p ys ≡ suc (length ys) = omega (arith, rest) in
      ap (λ b. cond (not b) (1 + position_or_len p ys) 0) (none 0 y (omega arith) refl) ∙ next

  -- the first that passes is at place n
  pub place_found : (xs : List A) (n : ℕ) (x : A) → slice_get xs n ≡ Some x → p x ≡ true → NonePasses xs n → n ≡ option_map_or (λ i. i) (position p xs) 0
  place_found xs n x at passes before =
      let h = first_passing xs n x at passes before in
      let low : nat_lt n (length xs) ≡ true = grind (arith, nat_tests, h.1) in
      sym (ap (λ i. option_map_or (λ i. i) (cond (nat_lt i (length xs)) (Some i) None) 0) h.0 ∙ ap (λ b. option_map_or (λ i. i) (cond b (Some n) None) 0) low)

  -- none passes
  pub place_missing : (xs : List A) → NonePasses xs (length xs) → 0 ≡ option_map_or (λ i. i) (position p xs) 0
  place_missing xs none =
      let past : nat_lt (length xs) (length xs) ≡ false = grind (arith, nat_tests) in
      sym (ap (λ i. option_map_or (λ i. i) (cond (nat_lt i (length xs)) (Some i) None) 0) (none_passing xs none) ∙ ap (λ b. option_map_or (λ i. i) (cond b (Some (length xs)) None) 0) past)
