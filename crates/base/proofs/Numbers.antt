-- Tests of numbers.
use Rattle.std.proofs.Common.{◌≡◌, ℕ, zero, suc, ◌<◌, false, arith}
use Rattle.std.specs.Prelude.{◌==◌}

-- a number that isn't 0
pub positive : (n : ℕ) → (n == 0) ≡ false → 0 < n
positive zero h = absurd (cc)
positive (suc n) h = omega arith
