-- Numbers in decimal, without a leading zero.
use Rattle.std.specs.Prelude.{ℕ, ◌-◌, ◌^◌, ℤ, pos, negsuc, List, [], ◌∷◌, min, ◌==◌, Option, Some, None, if◌then◌else◌}
use Rattle.std.specs.Option.{option_map}
use Rattle.std.specs.List.{list_all}
use Rattle.std.specs.Char.{is_ascii_digit}
use Rattle.std.specs.Str.Parse.{digits_value}

-- the number that the digits stand for, if all are digits
abbrev pub digits_number : List ℕ → Option ℕ
digits_number digits = if list_all is_ascii_digit digits then Some (digits_value 10 digits) else None

-- the number that is spelled by at least one digit, of several the first not 0
abbrev pub natural_of : List ℕ → Option ℕ
natural_of [] = None
natural_of (d ∷ []) = digits_number (d ∷ [])
natural_of (d ∷ e ∷ digits) = if d == 48 then None else digits_number (d ∷ e ∷ digits)

-- a number below 0, where it isn't 0
abbrev pub negated : Option ℕ → Option ℤ
negated None = None
negated (Some n) = if n == 0 then None else Some (negsuc (min (n - 1) (2 ^ 63 - 1)))

-- the number that the bytes spell; one that passes 64 bits is as far out of all ranges as the last
abbrev pub number_named : List ℕ → Option ℤ
number_named [] = None
number_named (sign ∷ digits) =
    if sign == 45 then negated (natural_of digits) else option_map (λ n. pos (min n (2 ^ 63 - 1))) (natural_of (sign ∷ digits))
