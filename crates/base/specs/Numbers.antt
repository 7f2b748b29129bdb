-- The ranges of numbers.
use Rattle.std.specs.Prelude.{ℕ, ◌^◌, Bool, true, false}

-- one more than the greatest number, without u and with it (a number has type jint or uint32_t)
abbrev pub number_limit : Bool → ℕ
number_limit false = 2 ^ 31
number_limit true = 2 ^ 32
