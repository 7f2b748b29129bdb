use Rattle.std.proofs.Common.{◌≡◌, ℕ, ◌+◌, ◌-◌, ◌*◌, ◌^◌, ◌≤◌, min, get_or, true, take, arith, ◌∙◌, refl}
use Rattle.std.specs.Char.{digit_value, is_ascii_digit}
use Rattle.std.specs.Str.Parse.{digits_value}
use Rattle.std.proofs.lemmas.Bool.Decides.{nat_tests}
use Rattle.std.proofs.lemmas.Int.Digits.{digits_value_more}
use Rattle.std.proofs.lemmas.List.Folds.{list_all_more}
use Rattle.world_schedules.proofs.numbers.value_of.Goals as goal

-- a digit's value
digit_is : (d : ℕ) → 48 ≤ d → d ≤ 57 → digit_value d ≡ d - 48
digit_is d low high = grind (arith, nat_tests)

bounds : (d : ℕ) → is_ascii_digit d ≡ true → (48 ≤ d) × (d ≤ 57)
bounds d h = (grind (arith, nat_tests), grind (arith, nat_tests))

step : (v w d most : ℕ) → v ≡ min w most → min (min (v * 10) most + d) most ≡ min (w * 10 + d) most
step v w d most e = omega arith

pub loop-digit-preserved : goal.loop-digit-preserved
loop-digit-preserved c =
    let digits = c.args.digits.now in
    let i = c.loop-digit.digit-index in
    let d = get_or digits i 0 in
    let is : is_ascii_digit d ≡ true = cc in
    let b = bounds d is in
    record {
      digits = list_all_more is_ascii_digit digits i 0 c.loop-digit-test.true ∙ rw (c.loop-digit.invariant.digits, is) refl;
      value = rw (c.saturating_add-value.ensures, c.saturating_mul.ensures, c.from.ensures, digits_value_more 10 digits i c.loop-digit-test.true, digit_is d b.0 b.1)
          (step c.loop-digit.value (digits_value 10 (take i digits)) (d - 48) (2 ^ 64 - 1) c.loop-digit.invariant.value);
    }
